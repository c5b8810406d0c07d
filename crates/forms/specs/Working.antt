-- Working definitions: the calculus' definitions (dqbf, specs/Reading.antt) in the shape that the code has. Those of tokens are in `tokens`, of numbers in `numerals`.
-- One that is proved equal to an official definition says to which; the proofs are in proofs/Laws/Forms.antt.
-- Offers `keyword`, `Listing`.
use Rattle.std.specs.Prelude.{◌≡◌, cond, List, [], ◌∷◌, ℕ, ◌<◌, eqb, length, take, None, Some}
use Rattle.std.specs.Option.{unwrap_or}
use Rattle.std.specs.declared.option.Option as answer
use Rattle.std.proofs.Math.Option.{Option}
use Rattle.dqbf.specs.Text.{space}
use Rattle.numerals.specs.Working.{entries}

-- the first token of a line that no space leads, if it is one byte long.
-- `same_bytes w (bytes "a")` of the first token w tests it.
unfoldable pub keyword : List ℕ → answer.Option ℕ
keyword [] = None
keyword (b ∷ []) = Some b
keyword (b ∷ d ∷ ds) = cond (eqb d space) (Some b) None

-- a list that is missing or empty has no count
pub record Listing (o : Option (List ℕ)) (count : answer.Option ℕ) (numbers : List ℕ) : Type 0 where
  pub count-is : unwrap_or count 0 ≡ length (entries o)
  pub positive : (n : ℕ) → count ≡ Some n → 0 < n
  pub front : take (unwrap_or count 0) numbers ≡ entries o
