-- Complementary literals of a clause in order (specs/Literal.antt): the variable that `lowest_clash` names is the lowest that the clause holds in both signs.
-- Offers `clash-lowest`, `held-clashes`.
use mathlib.Core.Path.{◌≡◌, refl, sym, ◌∙◌, ap}
use mathlib.Core.Logic.{◌⊎◌, inl, inr, ⊎_elim, ◌≢◌}
use mathlib.Core.Bool.{Bool, true, false, cond, ◌||◌, false≢true}
use mathlib.Core.List.Memᴰ
use mathlib.Core.List.{[], ◌∷◌}
use Prim.Native.Nat.{ℕ, zero, suc, ◌+◌, ◌*◌, ◌≤◌, ◌<◌}
use native.Mathlib.Omega.{arith}
use lib.Dec.{eqb}
use lib.IntN.{ℤ, pos, negsuc, neg_ℤ, nat_abs}
use Rattle.dqbf.specs.Literal.{Clause, ◌∈◌, rank, clashes, lowest_clash}
use Rattle.dqbf.specs.Valid.{InOrder, Ascending}
use Rattle.dqbf.specs.Statements.ClashingVariable.{InBothSigns, LowestInBothSigns, ClashLowest}
use Rattle.dqbf.proofs.Laws.Tests.{either, or_no, eqb_is, eqb_same}
use Rattle.dqbf.proofs.Laws.Literals.{rank-high, rank-low}
use Rattle.dqbf.proofs.Laws.Order.{in-order-ascending, ascending-pure}

-- two literals of one variable, in order, are the variable and its negation
signs-paired : (l k : ℤ) → nat_abs l ≡ nat_abs k → rank l < rank k → (nat_abs l ≢ 0) × (l ≡ pos (nat_abs l)) × (k ≡ neg_ℤ (pos (nat_abs l)))
unfolding rank
signs-paired (pos x) (pos y) e h = absurd (omega arith)
signs-paired (pos zero) (negsuc y) e h = absurd (omega arith)
signs-paired (pos (suc x)) (negsuc y) e h = (λ z. omega arith, refl, ap negsuc (omega arith))
signs-paired (negsuc x) (pos y) e h = absurd (omega arith)
signs-paired (negsuc x) (negsuc y) e h = absurd (omega arith)

neg-rank : (x : ℕ) → x ≢ 0 → rank (neg_ℤ (pos x)) ≡ 2 * x + 1
unfolding rank
neg-rank zero h = absurd (h refl)
neg-rank (suc x) h = refl

pos-rank : (x : ℕ) → rank (pos x) ≡ 2 * x
unfolding rank
pos-rank x = refl

found-lowest : (C : Clause) → InOrder C → clashes C ≡ true → LowestInBothSigns C (lowest_clash C)
unfolding InOrder clashes lowest_clash
found-lowest [] s h = absurd (false≢true h)
found-lowest (l ∷ []) s h = absurd (false≢true h)
found-lowest (l ∷ k ∷ C) s h = go (eqb (nat_abs l) (nat_abs k)) refl h (λ t. found-lowest (k ∷ C) s.1 t)
  where
    -- every literal stands at l or behind it
    behind : (z : ℤ) → z ∈ l ∷ k ∷ C → nat_abs l ≤ nat_abs z
    behind z (Memᴰ.head e) = rw e (omega arith)
    behind z (Memᴰ.tail q) = let u = s.0 z q in omega (arith, rank-low l, rank-high z)

    -- a variable that the clause holds in both signs is not that of l, if l and k have two variables
    later : nat_abs l ≢ nat_abs k → (y : ℕ) → InBothSigns (l ∷ k ∷ C) y → InBothSigns (k ∷ C) y
    later d y b = two (Memᴰ.cases_cons b.positive) (Memᴰ.cases_cons b.negative)
      where
        first : (z : ℤ) → z ∈ k ∷ C → rank k ≤ rank z
        first z (Memᴰ.head e) = rw e (omega arith)
        first z (Memᴰ.tail q) = let u = s.1.0 z q in omega arith

        two : (pos y ≡ l) ⊎ (pos y ∈ k ∷ C) → (neg_ℤ (pos y) ≡ l) ⊎ (neg_ℤ (pos y) ∈ k ∷ C) → InBothSigns (k ∷ C) y
        two (inr p) (inr q) = record { some = b.some; positive = p; negative = q }
        two (inl p) (inl q) = let e = ap rank (p ∙ sym q) in absurd (omega (arith, pos-rank y, neg-rank y b.some))
        two (inl p) (inr q) =
            let e = ap rank p in
            let u = first (neg_ℤ (pos y)) q in
            let w = s.0 k (Memᴰ.head refl) in
            absurd (d (omega (arith, pos-rank y, neg-rank y b.some, rank-low k, rank-high k, rank-low l, rank-high l)))
        two (inr p) (inl q) =
            let e = ap rank q in
            let u = s.0 (pos y) p in
            absurd (omega (arith, pos-rank y, neg-rank y b.some))

    go : (t : Bool) → eqb (nat_abs l) (nat_abs k) ≡ t → (t || clashes (k ∷ C)) ≡ true → (clashes (k ∷ C) ≡ true → LowestInBothSigns (k ∷ C) (lowest_clash (k ∷ C)))
        → LowestInBothSigns (l ∷ k ∷ C) (cond t (nat_abs l) (lowest_clash (k ∷ C)))
    go true e h rest =
        let p = signs-paired l k (eqb_is (nat_abs l) (nat_abs k) e) (s.0 k (Memᴰ.head refl)) in
        record {
          held = record { some = p.0; positive = Memᴰ.head (sym p.1); negative = Memᴰ.tail (Memᴰ.head (sym p.2)) };
          lowest = λ y b. behind (pos y) b.positive;
        }
    go false e h rest =
        let r = rest h in
        let b = r.held in
        record {
          held = record { some = b.some; positive = Memᴰ.tail b.positive; negative = Memᴰ.tail b.negative };
          lowest = λ y c. r.lowest y (later (λ q. differ q e) y c);
        }
      where
        differ : nat_abs l ≡ nat_abs k → eqb (nat_abs l) (nat_abs k) ≡ false → ⊥
        differ q f = let u : eqb (nat_abs l) (nat_abs k) ≡ true = rw q (eqb_same (nat_abs k)) in false≢true (sym f ∙ u)

-- where no two stand side by side, none is named, and none is held in both signs
found_none : (C : Clause) → clashes C ≡ false → lowest_clash C ≡ 0
unfolding clashes lowest_clash
found_none [] h = refl
found_none (l ∷ []) h = refl
found_none (l ∷ k ∷ C) h = let q = or_no (eqb (nat_abs l) (nat_abs k)) (clashes (k ∷ C)) h in rw (q.0, found_none (k ∷ C) q.1)

no_both : (C : Clause) → Ascending C → (x : ℕ) → InBothSigns C x → ⊥
no_both C s zero b = b.some refl
no_both C s (suc x) b = let e = ap rank (ascending-pure C s (pos (suc x)) (neg_ℤ (pos (suc x))) b.positive b.negative refl) in omega (arith, pos-rank (suc x), neg-rank (suc x) b.some)

pub clash-lowest : ClashLowest
clash-lowest C s = (found-lowest C s, λ h. (found_none C h, no_both C (in-order-ascending C s h)))

-- a variable held in both signs is found
pub held-clashes : (C : Clause) → InOrder C → (x : ℕ) → InBothSigns C x → clashes C ≡ true
held-clashes C o x h = ⊎_elim (λ e. e) (λ e. absurd (((clash-lowest C o).1 e).1 x h)) (either (clashes C))
