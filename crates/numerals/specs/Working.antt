-- Working definitions: the calculus' definitions (dqbf, specs/Text.antt) in the shape that the loops walk.
-- One that is proved equal to an official definition says to which; the proofs are in proofs/Laws/Numbers.antt and proofs/Laws/Official.antt.
-- Offers `digits_from`, `answered`, `each`, `rank_of`, `entry_of`, `is_digit`, `minus_of`, `digit_of`, `ranked`, `Led`, `Leading`, `entries`, `count_of`, `Gathered`.
use Rattle.std.specs.Prelude.{◌≡◌, Bool, cond, ◌&&◌, List, [], ◌∷◌, ℕ, ◌+◌, ◌-◌, ◌*◌, ◌≤◌, ◌<◌, eqb, leb, length, take, drop, get_or, None, Some}
use Rattle.std.specs.declared.option.Option as answer
use Rattle.std.proofs.Math.Option.{Option, none, some}
use Rattle.dqbf.specs.Literal.{rank}
use Rattle.dqbf.specs.Text.{space, minus, all_digits, value_from, variable_of, literal_of, prepend, closed}
use Rattle.tokens.specs.Working.{words_of}
use Rattle.numerals.specs.declared.list.Listed.{Listed}

-- ---- numbers

-- the number that digits make behind the number n: what `number_of` answers for one to five digits without a leading 0
unfoldable pub digits_from : ℕ → List ℕ → Option ℕ
digits_from n w = cond (all_digits w) (some (value_from n w)) none

-- what the calculus says of something that may be missing, as a function answers it
unfoldable pub answered : {A : Type 0} → Option A → answer.Option A
answered none = None
answered (some a) = Some a

unfoldable pub each : {A B : Type 0} → (A → B) → Option A → Option B
each f none = none
each f (some a) = some (f a)

unfoldable pub rank_of : List ℕ → Option ℕ
rank_of w = each rank (literal_of w)

-- what a token of a list stands for: a variable, or where signs may stand the rank of a literal.
-- `closed (entry_of false)` is `closed variable_of`, and `closed (entry_of true)` has the ranks of `closed literal_of`.
unfoldable pub entry_of : Bool → List ℕ → Option ℕ
entry_of signed w = cond signed (rank_of w) (variable_of w)

-- ---- the numbers of a list

unfoldable pub is_digit : ℕ → Bool
is_digit b = leb 48 b && leb b 57

-- the minus of a literal, counted
unfoldable pub minus_of : Bool → ℕ → ℕ
minus_of signed b = cond (signed && eqb b minus) 1 0

-- the digit at the front; 0 also where none is there
unfoldable pub digit_of : List ℕ → ℕ
digit_of [] = 0
digit_of (b ∷ bs) = cond (is_digit b) (b - 48) 0

-- the variable, or where signs may stand the rank of the literal; n is 1 behind a minus
unfoldable pub ranked : Bool → ℕ → ℕ → ℕ
ranked signed v n = cond signed (2 * v + n) v

-- A number stands at a place of a list, and a space behind it: the number is in front of the list behind that space.
pub record Led (signed : Bool) (line : List ℕ) (at : ℕ) (t : Listed) : Type 0 where
  pub positive : 0 < t.number
  pub low : at + 2 ≤ t.next
  pub high : t.next ≤ length line
  pub list : closed (entry_of signed) (words_of (drop at line)) ≡ prepend (some t.number) (closed (entry_of signed) (words_of (drop t.next line)))

-- What stands at a place of a list: such a number, or else a space, the closing 0, or no list.
pub record Leading (signed : Bool) (line : List ℕ) (at : ℕ) (o : answer.Option Listed) : Type 0 where
  pub found : (t : Listed) → o ≡ Some t → Led signed line at t
  pub missing : o ≡ None → (get_or line at 0 ≡ space → ⊥) → (get_or line at 0 ≡ 48 → at + 1 ≡ length line → ⊥)
      → closed (entry_of signed) (words_of (drop at line)) ≡ none

-- ---- answers

unfoldable pub entries : Option (List ℕ) → List ℕ
entries none = []
entries (some xs) = xs

unfoldable pub count_of : Option (List ℕ) → answer.Option ℕ
count_of none = None
count_of (some xs) = Some (length xs)

pub record Gathered (o : Option (List ℕ)) (count : answer.Option ℕ) (numbers : List ℕ) : Type 0 where
  pub count-is : count ≡ count_of o
  pub front : take (length (entries o)) numbers ≡ entries o
