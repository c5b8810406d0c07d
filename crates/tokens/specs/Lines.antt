-- What `line_length` answers for a text: the length of the first of the calculus' `pieces line_feed`.
-- Offers `first_of`, `line_length`.
use Rattle.std.specs.Prelude.{List, [], ◌∷◌, ℕ, length}
use Rattle.dqbf.specs.Text.{line_feed, pieces}

unfoldable pub first_of : List (List ℕ) → List ℕ
first_of [] = []
first_of (w ∷ ws) = w

-- the length of the first line of a text
unfoldable pub line_length : List ℕ → ℕ
line_length text = length (first_of (pieces line_feed text))
