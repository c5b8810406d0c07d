-- Literals: `same` is equality; a literal and its complement have one variable; ranks stand side by side.
use mathlib.Core.Path.{◌≡◌, refl, ap}
use mathlib.Core.Logic.{◌⊎◌, inl, inr, ◌≢◌}
use mathlib.Core.Bool.{true, false, false≢true}
use Prim.Native.Nat.{ℕ, zero, suc, ◌+◌, ◌*◌, ◌≤◌, ◌<◌}
use lib.IntN.{ℤ, pos, negsuc, neg_ℤ, nat_abs}
use Rattle.dqbf.specs.Literal.{same, rank}
use native.Mathlib.Omega.{arith}
use Rattle.dqbf.proofs.Laws.Tests.{either, eqb_is, eqb_same}

pub same-is : (l p : ℤ) → same l p ≡ true → l ≡ p
unfolding same
same-is (pos a) (pos b) h = ap pos (eqb_is a b h)
same-is (pos a) (negsuc b) h = absurd (false≢true h)
same-is (negsuc a) (pos b) h = absurd (false≢true h)
same-is (negsuc a) (negsuc b) h = ap negsuc (eqb_is a b h)

pub same-same : (l : ℤ) → same l l ≡ true
unfolding same
same-same (pos a) = eqb_same a
same-same (negsuc a) = eqb_same a

pub same_not : (l k : ℤ) → l ≢ k → same l k ≡ false
same_not l k d = go (either (same l k))
  where
    go : (same l k ≡ true) ⊎ (same l k ≡ false) → same l k ≡ false
    go (inl h) = absurd (d (same-is l k h))
    go (inr h) = h

pub rank-low : (l : ℤ) → 2 * nat_abs l ≤ rank l
unfolding rank
rank-low (pos x) = omega arith
rank-low (negsuc k) = omega arith

pub rank-high : (l : ℤ) → rank l ≤ 2 * nat_abs l + 1
unfolding rank
rank-high (pos x) = omega arith
rank-high (negsuc k) = omega arith

pub neg-abs : (x : ℤ) → nat_abs (neg_ℤ x) ≡ nat_abs x
neg-abs (pos zero) = refl
neg-abs (pos (suc k)) = refl
neg-abs (negsuc k) = refl

pub self-neg : (x : ℤ) → x ≡ neg_ℤ x → nat_abs x ≡ 0
self-neg (pos zero) h = refl
self-neg (pos (suc k)) h = absurd (let z : ◌≡◌ {A = ℕ} 0 1 = cc in omega arith)
self-neg (negsuc k) h = absurd (let z : ◌≡◌ {A = ℕ} 0 1 = cc in omega arith)

-- two literals of one variable, in order, are complements
pub next-neg : (l k : ℤ) → nat_abs l ≡ nat_abs k → rank l < rank k → k ≡ neg_ℤ l
unfolding rank
next-neg (pos x) (pos y) e h = absurd (omega arith)
next-neg (pos zero) (negsuc y) e h = absurd (omega arith)
next-neg (pos (suc x)) (negsuc y) e h = ap negsuc (omega arith)
next-neg (negsuc x) (pos y) e h = absurd (omega arith)
next-neg (negsuc x) (negsuc y) e h = absurd (omega arith)
