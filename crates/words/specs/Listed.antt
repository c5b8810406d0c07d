-- Words as the code lists them on a line: a space behind each, then the closing 0 and the line feed (dqbf's specs/Spelling.antt parts words by spaces).
use Rattle.std.specs.Prelude.{List, [], ◌∷◌, ◌++◌, ℕ}
use Rattle.dqbf.specs.Bytes.{bytes}
use Rattle.dqbf.specs.Text.{space}

unfoldable pub listed : List (List ℕ) → List ℕ
listed [] = bytes "0\n"
listed (w ∷ ws) = w ++ (space ∷ listed ws)
