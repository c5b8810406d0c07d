-- Decimal digits (specs/Line.antt): the digits of a number from its last one on, and how many there are.
use mathlib.Core.Path.{◌≡◌}
use mathlib.Core.Bool.{cond}
use mathlib.Core.List.{[], ◌∷◌, ◌++◌}
use Prim.Native.Nat.{ℕ, zero, suc, ◌+◌, ◌*◌, ◌/◌, ◌%◌, ◌^◌, ◌≤◌, ◌<◌}
use native.Mathlib.Decide.{dec_lt}
use native.Mathlib.Nat.{pow-suc}
use native.Mathlib.Omega.{arith}
use borrow.Author.Tests.{lt-ltb, le-ltb}
use lib.Dec.{ltb}
use lib.ListN.{length, length-append}
use Rattle.dqbf.specs.Line.{decimal, digits_of}

-- more counted-down digits than the number needs change nothing
decimal-enough : (d e n : ℕ) → n < d → n < e → decimal d n ≡ decimal e n
unfolding decimal
decimal-enough zero e n h k = absurd (omega arith)
decimal-enough (suc d) zero n h k = absurd (omega arith)
decimal-enough (suc d) (suc e) n h k = go (dec_lt n 10) (λ s. decimal-enough d e (n / 10) (omega arith) (omega arith))
  where
    go : Dec (n < 10) → (10 ≤ n → decimal d (n / 10) ≡ decimal e (n / 10)) → cond (ltb n 10) ((48 + n) ∷ []) (decimal d (n / 10) ++ ((48 + n % 10) ∷ [])) ≡ cond (ltb n 10) ((48 + n) ∷ []) (decimal e (n / 10) ++ ((48 + n % 10) ∷ []))
    go (yes s) r = rw (lt-ltb n 10 s)
    go (no s) r = let t : 10 ≤ n = omega arith in rw (le-ltb n 10 t, r t)

-- ---- the last digit

pub digits-one : (n : ℕ) → n < 10 → digits_of n ≡ (48 + n) ∷ []
unfolding digits_of decimal
digits-one n h = rw (lt-ltb n 10 h)

pub digits_more : (n : ℕ) → 10 ≤ n → digits_of n ≡ digits_of (n / 10) ++ ((48 + n % 10) ∷ [])
unfolding digits_of decimal
digits_more n h = rw (le-ltb n 10 h, decimal-enough n (suc (n / 10)) (n / 10) (omega arith) (omega arith))

pub length-one : (n : ℕ) → n < 10 → length (digits_of n) ≡ 1
length-one n h = rw (digits-one n h)

pub length_more : (n : ℕ) → 10 ≤ n → length (digits_of n) ≡ length (digits_of (n / 10)) + 1
length_more n h = rw (digits_more n h) (length-append (digits_of (n / 10)) ((48 + n % 10) ∷ []))

-- a number below 10 ^ k has at most k digits
pub digits-few : (k n : ℕ) → n < 10 ^ suc k → length (digits_of n) ≤ suc k
digits-few zero n h = omega (arith, length-one n (omega arith))
digits-few (suc k) n h = go (dec_lt n 10) (λ s. digits-few k (n / 10) s)
  where
    go : Dec (n < 10) → (n / 10 < 10 ^ suc k → length (digits_of (n / 10)) ≤ suc k) → length (digits_of n) ≤ suc (suc k)
    go (yes s) r = omega (arith, length-one n s)
    go (no s) r =
        let w : n < 10 ^ suc k * 10 = rw (pow-suc 10 (suc k)) at h in
        let q = r (omega arith) in
        omega (arith, length_more n (omega arith))

pub digits-ten : (n : ℕ) → n < 2 ^ 32 → length (digits_of n) ≤ 10
digits-ten n h = digits-few 9 n (omega arith)
