-- Clauses cut out of the literals at their ends, and laid one behind the other: each undoes the other.
--     stretch-..                         parts of a table
--     cut-length, cut-at, cut-flat       the clauses between their ends
--     flat-cut, flat_append, flat-length, ends-cut, ends-append, ends-length, ends-rise   and back
--     rise-le, rise-first, rise-at, entry-at       ends that never fall
use mathlib.Core.Path.{◌≡◌, refl, ap, ◌∙◌}
use mathlib.Core.Bool.{true}
use mathlib.Core.List.{List, [], ◌∷◌, ◌++◌, append_assoc}
use Prim.Native.Nat.{ℕ, zero, suc, ◌+◌, ◌-◌, ◌≤◌}
use native.Mathlib.Nat.{add-zero, sub_self, add_assoc}
use native.Mathlib.Omega.{arith}
use borrow.Author.Tests.{leb-true, eqb-true, le-leb, eq-eqb}
use lib.Dec.{leb}
use lib.IntN.{ℤ}
use lib.ListN.{length, take, drop, length-append, length-drop}
use lib.Seq.{take-add, drop-drop, take_at, drop_at, length-take-le}
use Rattle.dqbf.specs.Literal.{Clause, total}
use Rattle.dqbf.proofs.Laws.Tests.{and_left, and_right, both}
use Rattle.tables.specs.Tables.{stretch, cut}
use Rattle.tables.specs.Spread.{flat, ends_from}
use Rattle.tables.specs.WellFormed.{ends_rise}

-- ---- stretch

pub stretch-length : {A : Type 0} (from to : ℕ) (l : List A) → to ≤ length l → length (stretch from to l) ≡ to - from
stretch-length from to l h = length-take-le (to - from) (drop from l) (rw (length-drop from l) (omega arith))

pub stretch-join : {A : Type 0} (from mid to : ℕ) (l : List A) → from ≤ mid → mid ≤ to → stretch from mid l ++ stretch mid to l ≡ stretch from to l
stretch-join from mid to l h k =
    let a : to - from ≡ (mid - from) + (to - mid) = omega arith in
    let b : from + (mid - from) ≡ mid = omega arith in
    rw (a, take-add (mid - from) (to - mid) (drop from l), drop-drop (mid - from) from l, b)

-- ---- ends that never fall

pub rise-le : (from : ℕ) (ends : List ℕ) (n : ℕ) → ends_rise from ends n ≡ true → from ≤ n
unfolding ends_rise
rise-le from [] n r = omega (arith, eqb-true from n r)
rise-le from (e ∷ ends) n r =
    omega (arith, leb-true from e (and_left (leb from e) (ends_rise e ends n) r), rise-le e ends n (and_right (leb from e) (ends_rise e ends n) r))

-- ---- cut

pub cut-length : (from : ℕ) (ends : List ℕ) (l : List ℤ) → length (cut from ends l) ≡ length ends
unfolding cut
cut-length from [] l = refl
cut-length from (e ∷ ends) l = ap suc (cut-length e ends l)

pub flat-cut : (from : ℕ) (ends : List ℕ) (n : ℕ) (l : List ℤ) → ends_rise from ends n ≡ true → flat (cut from ends l) ≡ stretch from n l
unfolding ends_rise cut flat
flat-cut from [] n l r = rw (eqb-true from n r, sub_self)
flat-cut from (e ∷ ends) n l r =
    let k = and_right (leb from e) (ends_rise e ends n) r in
    rw (flat-cut e ends n l k) (stretch-join from e n l (leb-true from e (and_left (leb from e) (ends_rise e ends n) r)) (rise-le e ends n k))

pub ends-cut : (from : ℕ) (ends : List ℕ) (n : ℕ) (l : List ℤ) → ends_rise from ends n ≡ true → n ≤ length l → ends_from from (cut from ends l) ≡ ends
unfolding ends_rise cut ends_from
ends-cut from [] n l r h = refl
ends-cut from (e ∷ ends) n l r h =
    let k = and_right (leb from e) (ends_rise e ends n) r in
    let a = leb-true from e (and_left (leb from e) (ends_rise e ends n) r) in
    let b = rise-le e ends n k in
    let c : from + length (stretch from e l) ≡ e = omega (arith, stretch-length from e l (omega arith)) in
    rw c (ap {B = List ℕ} (λ r. e ∷ r) (ends-cut e ends n l k h))

-- ---- flat, ends_from

pub flat-length : (Cs : List Clause) → length (flat Cs) ≡ total Cs
unfolding flat total
flat-length [] = refl
flat-length (C ∷ Cs) = length-append C (flat Cs) ∙ ap (λ n. length C + n) (flat-length Cs)

pub flat_append : (Cs Ds : List Clause) → flat (Cs ++ Ds) ≡ flat Cs ++ flat Ds
unfolding flat
flat_append [] Ds = refl
flat_append (C ∷ Cs) Ds = rw (flat_append Cs Ds, append_assoc)

pub ends-append : (from : ℕ) (Cs Ds : List Clause) → ends_from from (Cs ++ Ds) ≡ ends_from from Cs ++ ends_from (from + total Cs) Ds
unfolding ends_from total
ends-append from [] Ds = rw add-zero
ends-append from (C ∷ Cs) Ds = rw (ends-append (from + length C) Cs Ds, add_assoc)

pub ends-length : (from : ℕ) (Cs : List Clause) → length (ends_from from Cs) ≡ length Cs
unfolding ends_from
ends-length from [] = refl
ends-length from (C ∷ Cs) = ap suc (ends-length (from + length C) Cs)

pub ends-rise : (from : ℕ) (Cs : List Clause) → ends_rise from (ends_from from Cs) (from + total Cs) ≡ true
unfolding ends_rise ends_from total
ends-rise from [] = eq-eqb from (from + 0) (omega arith)
ends-rise from (C ∷ Cs) =
    both _ _ (le-leb from (from + length C) (omega arith)) (rw (← add_assoc from (length C) (total Cs)) (ends-rise (from + length C) Cs))

-- the clauses that were laid are cut out again
pub cut-flat : (x : List ℤ) (Cs : List Clause) (y : List ℤ) (from : ℕ) → length x ≡ from → cut from (ends_from from Cs) (x ++ (flat Cs ++ y)) ≡ Cs
unfolding cut ends_from flat
cut-flat x [] y from e = refl
cut-flat x (C ∷ Cs) y from e =
    let a : stretch from (from + length C) (x ++ ((C ++ flat Cs) ++ y)) ≡ C =
    let d : from + length C - from ≡ length C = omega arith in
    rw (d, drop_at x ((C ++ flat Cs) ++ y) from e, append_assoc C (flat Cs) y, take_at C (flat Cs ++ y) (length C) refl) in
    let b : length (x ++ C) ≡ from + length C = omega (arith, length-append x C) in
    rw (a, append_assoc C (flat Cs) y, ← append_assoc x C (flat Cs ++ y)) (ap {B = List Clause} (λ r. C ∷ r) (cut-flat (x ++ C) Cs y (from + length C) b))

-- ---- the clause with a number: it starts where the one before it ends

pub take-cut : (k from : ℕ) (ends : List ℕ) (l : List ℤ) → take k (cut from ends l) ≡ cut from (take k ends) l
unfolding cut
take-cut zero from ends l = refl
take-cut (suc k) from [] l = refl
take-cut (suc k) from (end ∷ ends) l = ap (stretch from end l ∷◌) (take-cut k end ends l)
