-- Tokens as numbers: one law for each answer of the functions of `number`.
use mathlib.Core.Path.{◌≡◌, refl, ◌∙◌}
use mathlib.Core.Bool.{Bool, true, false, cond, not, ◌&&◌, ◌||◌, and-false}
use mathlib.Core.List.{List, [], ◌∷◌}
use mathlib.Core.Option.{Option, none, some}
use Prim.Native.Nat.{ℕ, suc, ◌+◌, ◌-◌, ◌*◌, ◌^◌, ◌≤◌, ◌<◌}
use native.Mathlib.Nat.{not-suc-le-zero, le_of_suc-le-suc, pow-suc, pow-le-pow_right}
use native.Mathlib.Numerals.{add-one}
use native.Mathlib.Omega.{arith}
use lib.Dec.{leb, eqb, lit<}
use lib.ListN.{length, drop, get_or, drop_of_length-le}
use lib.Seq.{drop-cons}
use borrow.Author.Tests.{eq-eqb, ne_eqb, le-leb, lt-leb}
use Rattle.std.specs.Char.{is_ascii_digit}
use Rattle.dqbf.specs.Limits.{digit_limit}
use Rattle.dqbf.specs.Text.{is_empty, all_digits, value_from, number_of}
use Rattle.numerals.specs.Working.{digits_from}

-- ---- digits

pub digits-other : (v : ℕ) (w : List ℕ) (i : ℕ) → i < length w → is_ascii_digit (get_or w i 0) ≡ false → digits_from v (drop i w) ≡ none
unfolding digits_from all_digits
digits-other v w i h k = rw (drop-cons w i 0 h, k)

pub digits_more : (v : ℕ) (w : List ℕ) (i : ℕ) → i < length w → is_ascii_digit (get_or w i 0) ≡ true → digits_from v (drop i w) ≡ digits_from (v * 10 + (get_or w i 0 - 48)) (drop (i + 1) w)
unfolding digits_from all_digits value_from
digits_more v w i h k = rw (add-one, drop-cons w i 0 h, k)

pub digits-end : (v : ℕ) (w : List ℕ) (i : ℕ) → length w ≤ i → digits_from v (drop i w) ≡ some v
unfolding digits_from all_digits value_from
digits-end v w i h = rw (drop_of_length-le w h)

pub ten-more : (i v d : ℕ) → v < 10 ^ i → d ≤ 9 → v * 10 + d < 10 ^ (i + 1)
ten-more i v d h k = rw (add-one, pow-suc 10 i) (omega arith)

pub ten-le : (i j : ℕ) → i ≤ j → 10 ^ i ≤ 10 ^ j
ten-le i j h = pow-le-pow_right (lit< tt) h

-- one more digit stays within the limit
pub ten-fits : (v i n : ℕ) → v < 10 ^ i → i < n → n ≤ digit_limit → v * 10 + 9 < 10 ^ digit_limit
ten-fits v i n h k l = omega (arith, ten-more i v 9 h (omega arith), ten-le (i + 1) digit_limit (omega arith))

-- ---- a token as a number

number_is : (b : ℕ) (bs : List ℕ) → number_of (b ∷ bs) ≡ cond (leb (suc (length bs)) digit_limit && (not (eqb b 48) || is_empty bs)) (digits_from 0 (b ∷ bs)) none
unfolding number_of digits_from
number_is b bs = go (all_digits (b ∷ bs)) (leb (suc (length bs)) digit_limit) (not (eqb b 48) || is_empty bs) (value_from 0 (b ∷ bs))
  where
    go : (d x y : Bool) (v : ℕ) → cond {A = Option ℕ} (d && x && y) (some v) none ≡ cond (x && y) (cond d (some v) none) none
    go true x y v = refl
    go false true true v = refl
    go false true false v = refl
    go false false y v = refl

pub number-empty : (w : List ℕ) → length w < 1 → number_of w ≡ none
unfolding number_of
number-empty [] h = refl
number-empty (b ∷ bs) h = absurd (omega arith)

pub number-long : (w : List ℕ) → digit_limit < length w → number_of w ≡ none
unfolding number_of
number-long [] h = refl
number-long (b ∷ bs) h = number_is b bs ∙ rw (lt-leb (suc (length bs)) digit_limit h)

pub number-zeros : (w : List ℕ) → get_or w 0 0 ≡ 48 → 1 < length w → number_of w ≡ none
unfolding number_of is_empty
number-zeros [] k l = refl
number-zeros (b ∷ []) k l = absurd (not-suc-le-zero (le_of_suc-le-suc l))
number-zeros (b ∷ d ∷ ds) k l = number_is b (d ∷ ds) ∙ rw (eq-eqb b 48 k, and-false (leb (suc (length (d ∷ ds))) digit_limit))

-- no leading zero
pub number-digits : (w : List ℕ) → (length w < 1 → ⊥) → length w ≤ digit_limit → (get_or w 0 0 ≡ 48 → 1 < length w → ⊥) → number_of w ≡ digits_from 0 w
unfolding is_empty
number-digits [] n h k = absurd (n (omega arith))
number-digits (b ∷ []) n h k = number_is b [] ∙ rw (le-leb 1 digit_limit h) (go (eqb b 48))
  where
    go : (t : Bool) → cond (not t || true) (digits_from 0 (b ∷ [])) none ≡ digits_from 0 (b ∷ [])
    go true = refl
    go false = refl
number-digits (b ∷ d ∷ ds) n h k = number_is b (d ∷ ds) ∙ rw (le-leb (suc (length (d ∷ ds))) digit_limit h, ne_eqb b 48 (λ z. k z (omega arith)))
