-- Models: what an examined record adds, room, clauses by number, variables in use, a model with an addition (specs/Model.antt, specs/Rules.antt).
use mathlib.Core.Bool.{false, ◌||◌, true≢false}
use mathlib.Core.List.{List, [], ◌∷◌, ◌++◌, append_assoc}
use mathlib.Core.Logic.{◌≢◌}
use mathlib.Core.Option.{Option, none, some}
use mathlib.Core.Path.{◌≡◌, refl, sym, ◌∙◌, ap}
use Prim.Native.Nat.{ℕ, zero, suc, ◌+◌, ◌-◌, ◌≤◌, ◌<◌}
use native.Mathlib.Decide.{dec_lt}
use native.Mathlib.Omega.{arith}
use lib.Dec.{eqb, ltb, eqb-suc-zero}
use lib.IntN.{ℤ}
use lib.ListN.{length, get_or, replicate, length-append, get_or-eq_default}
use lib.Seq.{get_or-append-add}
use Rattle.dqbf.specs.Limits.{Room}
use Rattle.dqbf.specs.Literal.{Clause, ◌∈◌, total}
use Rattle.dqbf.specs.Model.{Model, clauses, used, kind_of}
use Rattle.dqbf.specs.Valid.{Valid, InOrder}
use Rattle.dqbf.specs.Published.{Fits, Numbered}
use Rattle.dqbf.specs.Rules.{Addition, add, clause_at, unknown, no_room, resolvent}
use Rattle.dqbf.specs.Run.{accepts, refuses, judged}
use Rattle.dqbf.specs.Refusal.{Refusal}
use Rattle.dqbf.proofs.Laws.Lists.{nth}
use Rattle.dqbf.proofs.Laws.Order.{resolvent-order}
use Rattle.dqbf.proofs.Laws.Tests.{ltb_no, ltb-not, no_or, or_no}
use Rattle.dqbf.proofs.Soundness.View.{length-kinds}

-- ---- what an examined record adds

pub judged-is : (o : Option Refusal) (a b : Addition) → judged o a ≡ accepts b → (o ≡ none) × (a ≡ b)
unfolding judged
judged-is none a b h = (refl, cc)
judged-is (some x) a b h = absurd (let z : ◌≡◌ {A = ℕ} 0 1 = cc in omega arith)

pub refused-first : (o : Option Refusal) (a : Addition) (x : Refusal) → judged o a ≡ refuses x → o ≡ some x
unfolding judged
refused-first none a x h = absurd (let z : ◌≡◌ {A = ℕ} 0 1 = cc in omega arith)
refused-first (some y) a x h = cc

pub refuses-is : (x y : Refusal) → refuses x ≡ refuses y → x ≡ y
refuses-is x y h = cc

-- ---- room

module _ (room : Room) (m : Model) (a : Addition) where
  pub fits_in : no_room room m a ≡ false → Fits room m a
  unfolding no_room
  fits_in h =
      let x = ltb room.clauses (length (clauses m) + length a.clauses) in
      let y = ltb room.literals (total (clauses m) + total a.clauses) in
      let z = ltb room.variables (used m + length a.forks) in
      let u = or_no (x || y) z h in
      let v = or_no x y u.0 in
      record { clauses-fit = ltb_no _ _ v.0; literals-fit = ltb_no _ _ v.1; variables-fit = ltb_no _ _ u.1 }

  pub in-fits : Fits room m a → no_room room m a ≡ false
  unfolding no_room
  in-fits f = no_or _ _ (no_or _ _ (ltb-not _ _ f.clauses-fit) (ltb-not _ _ f.literals-fit)) (ltb-not _ _ f.variables-fit)

-- ---- clauses by number

pub number_in : (m : Model) (c : ℕ) → unknown m c ≡ false → Numbered m c (clause_at m c)
unfolding unknown clause_at
number_in m zero h = absurd (true≢false h)
number_in m (suc i) h = (i, refl, ltb_no (length (clauses m)) (suc i) (or_no (eqb (suc i) 0) (ltb (length (clauses m)) (suc i)) h).1, refl)

pub in-number : (m : Model) (c : ℕ) (C : Clause) → Numbered m c C → (unknown m c ≡ false) × (clause_at m c ≡ C)
unfolding unknown clause_at
in-number m c C (i, e, h, q) = rw e (no_or (eqb (suc i) 0) (ltb (length (clauses m)) (suc i)) (eqb-suc-zero i) (ltb-not (length (clauses m)) (suc i) h), q)

-- a clause number that is not unknown
pub there : (m : Model) (c : ℕ) → unknown m c ≡ false → clause_at m c ∈ clauses m
unfolding unknown clause_at
there m zero h = absurd (true≢false h)
there m (suc i) h = nth (clauses m) i [] (ltb_no (length (clauses m)) (suc i) (or_no (eqb (suc i) 0) (ltb (length (clauses m)) (suc i)) h).1)

pub resolvent-in-order : (room : Room) (m : Model) → Valid room m → (c d : ℕ) (p : ℤ) → unknown m c ≡ false → unknown m d ≡ false
    → InOrder (resolvent (clause_at m c) (clause_at m d) p)
resolvent-in-order room m v c d p h k =
    resolvent-order (clause_at m c) (clause_at m d) p (v.kept (clause_at m c) (there m c h)).ascends (v.kept (clause_at m d) (there m d k)).ascends

-- ---- variables in use

-- a variable that is something is in use
pub in_use : (m : Model) (v : ℕ) → kind_of m v ≢ 0 → v ≤ used m
unfolding kind_of
in_use m zero h = omega arith
in_use m (suc i) h = go (dec_lt i (used m))
  where
    go : Dec (i < used m) → suc i ≤ used m
    go (yes k) = k
    go (no k) = absurd (h (get_or-eq_default (m.kinds ++ replicate (length m.forks) 3) 0 (omega (arith, length-kinds m [] 0))))

-- ---- a model with an addition

pub more-clauses : (m : Model) (a : Addition) → clauses (add m a) ≡ clauses m ++ a.clauses
unfolding clauses add
more-clauses m a = sym (append_assoc m.formula m.derived a.clauses)

pub total-append : (Cs Ds : List Clause) → total (Cs ++ Ds) ≡ total Cs + total Ds
unfolding total
total-append [] Ds = omega arith
total-append (C ∷ Cs) Ds = let h = total-append Cs Ds in omega arith

pub used-more : (m : Model) (a : Addition) → used (add m a) ≡ used m + length a.forks
unfolding used add
used-more m a = let h = length-append m.forks a.forks in omega arith

-- a universal is among the variables 1 to V: the numbers above are forks'
three-or-none : (f j : ℕ) → ◌≢◌ {A = ℕ} (get_or (replicate f 3) j 0) 1
three-or-none zero j e = omega arith
three-or-none (suc f) zero e = omega arith
three-or-none (suc f) (suc j) e = three-or-none f j e

pub universal-low : (m : Model) (x : ℕ) → kind_of m x ≡ 1 → x ≤ length m.kinds
unfolding kind_of
universal-low m zero e = omega arith
universal-low m (suc i) e = go (dec_lt i (length m.kinds))
  where
    go : Dec (i < length m.kinds) → suc i ≤ length m.kinds
    go (yes h) = h
    go (no h) =
        let q : length m.kinds + (i - length m.kinds) ≡ i = omega arith in
        absurd (three-or-none (length m.forks) (i - length m.kinds)
        (sym (get_or-append-add m.kinds (replicate (length m.forks) 3) (i - length m.kinds) 0) ∙ ap (λ (k : ℕ). get_or (m.kinds ++ replicate (length m.forks) 3) k 0) q ∙ e))
