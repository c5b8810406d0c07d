-- What an answer can be: a number of at most 16 bits, and no refusal but 31, above the limits.
use mathlib.Core.Path.{◌≡◌, refl, sym, ◌∙◌, ap}
use mathlib.Core.Bool.{Bool, true, false, cond}
use mathlib.Core.Option.{Option, none, some}
use Prim.Native.Nat.{ℕ, ◌^◌, ◌≤◌, ◌<◌}
use native.Mathlib.Decide.{dec_lt}
use native.Mathlib.Omega.{arith}
use borrow.Author.Tests.{ltb-false}
use lib.Dec.{ltb}
use lib.Pow.{pow-lt}
use Rattle.dqbf.specs.Limits.{small_universals, small_bits}
use Rattle.dqbf.specs.Refusal.{Refusal, refusal}
use Rattle.dqbf.specs.Model.{Model, universal_count}
use Rattle.dqbf.specs.Spelled.{formula_part}
use Rattle.dqbf.proofs.Laws.Tests.{or_right}
use Rattle.deciding.specs.Deciding.{total_bits, makes_true, first_family, above, decided, decide, Decision, true_by, no_family, undecided}
use Rattle.deciding.specs.Statements.{NumberSmall, RefusedOnly}
use Rattle.deciding.proofs.Laws.Least.{least-some}

-- an answer by its kind
kind : Decision → ℕ
kind (true_by f) = 0
kind no_family = 1
kind (undecided r) = 2

same_number : (f g : ℕ) → true_by f ≡ true_by g → f ≡ g
same_number f g e = cc

same-refusal : (r s : Refusal) → undecided r ≡ undecided s → r ≡ s
same-refusal r s e = cc

-- at most 65,536 families
pub few-families : (n : ℕ) → n ≤ small_bits → 2 ^ n ≤ 2 ^ small_bits
few-families n h = go (dec_lt n 16)
  where
    go : Dec (n < 16) → 2 ^ n ≤ 2 ^ 16
    go (yes l) = let p : 2 ^ n < 2 ^ 16 = pow-lt {i = n} {j = 16} l in omega arith
    go (no l) = let e : n ≡ 16 = omega arith in rw e (omega arith)

module _ (p : Model) where
  -- within the limits
  bits-few : above p ≡ false → total_bits p ≤ 16
  unfolding above
  bits-few h = go (ltb small_bits (total_bits p)) refl
    where
      go : (b : Bool) → ltb small_bits (total_bits p) ≡ b → total_bits p ≤ 16
      go true e = absurd (let z : ◌≡◌ {A = Bool} true false = sym (or_right (ltb small_universals (universal_count p)) (ltb small_bits (total_bits p)) e) ∙ h in let k : ◌≡◌ {A = ℕ} 0 1 = cc in omega arith)
      go false e = ltb-false 16 (total_bits p) e

  found-small : above p ≡ false → (o : Option ℕ) → first_family p ≡ o → (f : ℕ) → decided o ≡ true_by f → f < 2 ^ small_bits
  unfolding decided first_family
  found-small h none e f q = absurd (let k : ◌≡◌ {A = ℕ} 1 0 = unfold kind in ap kind q in omega arith)
  found-small h (some g) e f q =
      let l = least-some 0 (2 ^ total_bits p) (makes_true p) g e in
      let n = same_number g f q in
      omega (arith, l.high, few-families (total_bits p) (bits-few h))

  small : (b : Bool) → above p ≡ b → (f : ℕ) → cond b (undecided (refusal 31)) (decided (first_family p)) ≡ true_by f → f < 2 ^ small_bits
  small true e f q = absurd (let k : ◌≡◌ {A = ℕ} 2 0 = unfold kind in ap kind q in omega arith)
  small false e f q = found-small e (first_family p) refl f q

  decided-never : (o : Option ℕ) (r : Refusal) → decided o ≡ undecided r → ⊥
  unfolding decided
  decided-never none r q = let k : ◌≡◌ {A = ℕ} 1 2 = unfold kind in ap kind q in omega arith
  decided-never (some f) r q = let k : ◌≡◌ {A = ℕ} 0 2 = unfold kind in ap kind q in omega arith

  only : (b : Bool) → above p ≡ b → (r : Refusal) → cond b (undecided (refusal 31)) (decided (first_family p)) ≡ undecided r → (r ≡ refusal 31) × (above p ≡ true)
  only true e r q = (sym (same-refusal (refusal 31) r q), e)
  only false e r q = absurd (decided-never (first_family p) r q)

pub number_small : NumberSmall
unfolding decide
number_small m f q = small (formula_part m) (above (formula_part m)) refl f q

pub refused-only : RefusedOnly
unfolding decide
refused-only m r q = only (formula_part m) (above (formula_part m)) refl r q
