-- Masks: `pick` and `covers` (specs/Literal.antt) said by places.
use mathlib.Core.Path.{◌≡◌, refl, sym, ◌∙◌}
use mathlib.Core.Logic.{◌⊎◌, inl, inr, ◌↔◌}
use mathlib.Core.Bool.{Bool, true, false, cond, ◌||◌, true≢false}
use mathlib.Core.List.Memᴰ
use mathlib.Core.List.{[], ◌∷◌}
use Prim.Native.Nat.{ℕ, zero, suc, ◌/◌, ◌%◌, ◌<◌}
use native.Mathlib.Omega.{arith}
use lib.Dec.{eqb}
use lib.IntN.{ℤ, pos}
use lib.ListN.{length, get_or}
use Rattle.dqbf.specs.Literal.{Clause, ◌∈◌, pick, covers}
use Rattle.dqbf.specs.Set.{bit}
use Rattle.dqbf.specs.Published.{Picked}
use Rattle.dqbf.proofs.Laws.Tests.{and_left, and_right, both, eqb_is, never, or-either, or_left, or_right}
use Rattle.dqbf.proofs.Laws.Words.{bit-ext, bit-zero}

pub pick_to : (a : ℕ) (C : Clause) (x : ℤ) → x ∈ pick a C → Picked a C x
unfolding pick bit
pick_to a [] x q = absurd (Memᴰ.not-nil q)
pick_to a (l ∷ C) x q = go (eqb (a % 2) 1) refl q (λ k. pick_to (a / 2) C x k)
  where
    later : Picked (a / 2) C x → Picked a (l ∷ C) x
    later p = (suc p.0, omega (arith, p.1), p.2, p.3)

    go : (b : Bool) → eqb (a % 2) 1 ≡ b → x ∈ cond b (l ∷ pick (a / 2) C) (pick (a / 2) C) → (x ∈ pick (a / 2) C → Picked (a / 2) C x) → Picked a (l ∷ C) x
    go true e (Memᴰ.head h) ih = (0, omega arith, e, sym h)
    go true e (Memᴰ.tail h) ih = later (ih h)
    go false e h ih = later (ih h)

pub keep : {x : ℤ} {P : Clause} (l : ℤ) (c : Bool) → x ∈ P → x ∈ cond c (l ∷ P) P
keep l true m = Memᴰ.tail m
keep l false m = m

pub pick-from : (a : ℕ) (C : Clause) (x : ℤ) (i : ℕ) → i < length C → bit a i ≡ true → get_or C i (pos 0) ≡ x → x ∈ pick a C
unfolding pick bit
pick-from a [] x i h b e = absurd (omega arith)
pick-from a (l ∷ C) x zero h b e = rw b (Memᴰ.head (sym e))
pick-from a (l ∷ C) x (suc i) h b e = keep l (eqb (a % 2) 1) (pick-from (a / 2) C x i (omega arith) b e)

pub pick_is : (a : ℕ) (C : Clause) (x : ℤ) → (x ∈ pick a C) ↔ Picked a C x
pick_is a C x = (pick_to a C x, λ p. pick-from a C x p.0 p.1 p.2 p.3)

abbrev pub Covers : ℕ → ℕ → Clause → Type 0
Covers a b C = (i : ℕ) → (i < length C) ↔ ((bit a i ≡ true) ⊎ (bit b i ≡ true))

pub covers-to : (a b : ℕ) (C : Clause) → covers a b C ≡ true → Covers a b C
unfolding covers bit
covers-to a b [] h i = (λ l. absurd (omega arith), λ q. absurd (go q))
  where
    zero_a : a ≡ 0
    zero_a = eqb_is a 0 (and_left (eqb a 0) (eqb b 0) h)

    zero-b : b ≡ 0
    zero-b = eqb_is b 0 (and_right (eqb a 0) (eqb b 0) h)

    go : (bit a i ≡ true) ⊎ (bit b i ≡ true) → ⊥
    go (inl q) = true≢false (sym q ∙ rw zero_a (bit-zero i))
    go (inr q) = true≢false (sym q ∙ rw zero-b (bit-zero i))
covers-to a b (l ∷ C) h zero = (λ k. or-either (eqb (a % 2) 1) (eqb (b % 2) 1) (and_left (eqb (a % 2) 1 || eqb (b % 2) 1) (covers (a / 2) (b / 2) C) h), λ q. omega arith)
covers-to a b (l ∷ C) h (suc i) =
    let r = covers-to (a / 2) (b / 2) C (and_right (eqb (a % 2) 1 || eqb (b % 2) 1) (covers (a / 2) (b / 2) C) h) i in (λ k. r.0 (omega arith), λ q. let w = r.1 q in omega arith)

pub no_bits : (a : ℕ) → ((i : ℕ) → bit a i ≡ true → ⊥) → eqb a 0 ≡ true
no_bits a h = let e : a ≡ 0 = bit-ext a 0 (λ i. never (bit a i) (h i) ∙ sym (bit-zero i)) in rw e

pub covers-from : (a b : ℕ) (C : Clause) → Covers a b C → covers a b C ≡ true
unfolding covers bit
covers-from a b [] h =
    both (eqb a 0) (eqb b 0) (no_bits a (λ i q. let w = (h i).1 (inl q) in omega arith)) (no_bits b (λ i q. let w = (h i).1 (inr q) in omega arith))
covers-from a b (l ∷ C) h =
    both (eqb (a % 2) 1 || eqb (b % 2) 1) (covers (a / 2) (b / 2) C) (go ((h 0).0 (omega arith)))
    (covers-from (a / 2) (b / 2) C (λ i. (λ k. (h (suc i)).0 (omega arith), λ q. let w = (h (suc i)).1 q in omega arith)))
  where
    go : (eqb (a % 2) 1 ≡ true) ⊎ (eqb (b % 2) 1 ≡ true) → (eqb (a % 2) 1 || eqb (b % 2) 1) ≡ true
    go (inl q) = or_left (eqb (a % 2) 1) (eqb (b % 2) 1) q
    go (inr q) = or_right (eqb (a % 2) 1) (eqb (b % 2) 1) q
