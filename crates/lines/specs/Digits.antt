-- How far a number is written in decimal digits, the first one first: w, a power of ten, is the last digit's.
--     leading     the digits of a number to which more are added
--     begun_over   an output with the digits of n down to w over its front
--     Reached     what is told of n when these digits are written
--     Grown       digits down to v become digits down to w, and the output behind them stays
use Rattle.std.specs.Prelude.{◌≡◌, List, [], ◌++◌, ℕ, zero, suc, ◌/◌, ◌%◌, length, drop}
use Rattle.dqbf.specs.Line.{digits_of}
use Rattle.lines.specs.declared.digits.Begun.{Begun}

-- zero has none, so that no number leads with zero
unfoldable pub leading : ℕ → List ℕ
leading zero = []
leading (suc q) = digits_of (suc q)

unfoldable pub begun_over : (n w : ℕ) → List ℕ → List ℕ
begun_over n w out = leading (n / w) ++ drop (length (leading (n / w))) out

pub record Reached (n w : ℕ) (b : Begun) : Type 0 where
  pub place : b.at ≡ length (leading (n / w))
  pub left : b.rest ≡ n % w

abbrev pub Grown : (n v w : ℕ) (out out' : List ℕ) → Type 0
Grown n v w out out' = (out₀ : List ℕ) → out ≡ begun_over n v out₀ → out' ≡ begun_over n w out₀
