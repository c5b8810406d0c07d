-- One turn of each loop that tests well-formedness: what is left of the test before an entry is told by the entry and what is left behind it.
--     literals_left, literals-..      of one clause
--     clauses_left, clauses-..        of the clauses between their ends
--     variables_left, variables-..    of the kinds and sets
use mathlib.Core.Path.{◌≡◌, refl, ap, sym, ◌∙◌}
use mathlib.Core.Bool.{Bool, true, false, cond, ◌&&◌, and-true, and-false, true≢false}
use mathlib.Core.List.{List, [], ◌∷◌}
use Prim.Native.Nat.{ℕ, zero, suc, ◌+◌, ◌-◌, ◌≤◌, ◌<◌}
use native.Mathlib.Nat.{add-zero, zero-add, sub-zero, zero-sub}
use native.Mathlib.Numerals.{add-one, sub-one}
use native.Mathlib.Omega.{arith}
use borrow.Author.Tests.{ltb-true, ltb-false, le-leb, lt-leb, lt-ltb, le-ltb, eq-eqb, ne_eqb}
use lib.Dec.{leb, ltb, eqb, eqb-suc-zero}
use lib.IntN.{ℤ, pos, nat_abs}
use lib.ListN.{length, get_or, drop, drop_of_length-le}
use lib.Seq.{drop-cons, take-nil}
use Rattle.dqbf.specs.Limits.{width_limit}
use Rattle.dqbf.specs.Literal.{Clause}
use Rattle.dqbf.specs.Set.{Set, union, inside}
use Rattle.dqbf.specs.Model.{empty_from, universals_in}
use Rattle.dqbf.proofs.Laws.Tests.{and_left, and_right, never}
use Rattle.tables.specs.Tables.{stretch, cut, entry}
use Rattle.tables.specs.Adding.{lowest_after}
use Rattle.tables.specs.WellFormed.{every, all_of, all_variables, ends_rise, ascending, narrow, over_kinds, clause_fits, clauses_fit, lowest, new_bit, universal_bits, other_inside, is_kind, bare_if_undeclared, kind_stands, forks_above, variable_fits, variables_fit}
use Rattle.tables.proofs.Laws.Tests.{every-at, every-from, every-fails, every-last}
use Rattle.tables.proofs.Laws.Cuts.{stretch-length, rise-le}
use Rattle.tables.proofs.Laws.Valid.{over-is, over-from}

-- what is left of n at a place below it
below_left : (i n : ℕ) → ltb i n ≡ ltb 0 (n - i)
below_left i n = go (ltb i n) refl
  where
    go : (b : Bool) → ltb i n ≡ b → b ≡ ltb 0 (n - i)
    go true q = sym (lt-ltb 0 (n - i) (omega (arith, ltb-true i n q)))
    go false q = sym (le-ltb 0 (n - i) (omega (arith, ltb-false i n q)))

-- ---- one clause

module _ (C : Clause) (kinds : List ℕ) (k : ℕ) where
  pub clause-wide : width_limit < length C → clause_fits k kinds C ≡ false
  unfolding clause_fits narrow
  clause-wide h = every-fails _ 1 (lt-leb _ _ h)

  -- the literals from place i on, all above the variable x
  pub literals_left : ℕ → ℕ → Bool
  literals_left x i = ascending x (drop i C) && over_kinds k kinds (drop i C)

  pub clause-start : length C ≤ width_limit → clause_fits k kinds C ≡ literals_left 0 0
  unfolding clause_fits narrow literals_left every
  clause-start h = rw (le-leb _ _ h, and-true (over_kinds k kinds C))

  pub literals_end : (x i : ℕ) → length C ≤ i → literals_left x i ≡ true
  unfolding literals_left ascending over_kinds all_of
  literals_end x i h = rw (drop_of_length-le C {i = i} h)

  module _ (x i y : ℕ) (h : i < length C) (e : y ≡ nat_abs (get_or C i (pos 0))) where
    pub literals-low : y ≤ x → literals_left x i ≡ false
    unfolding literals_left ascending
    literals-low g = rw (drop-cons C i (pos 0) h, ← e, le-ltb x y g)

    module _ (z : ℕ) (q : z ≡ entry kinds y) where
      kind-here : z ≡ entry kinds (nat_abs (get_or C i (pos 0)))
      kind-here = q ∙ ap (entry kinds) e

      pub literals-none : z ≡ 0 → literals_left x i ≡ false
      unfolding literals_left over_kinds all_of
      literals-none g = rw (drop-cons C i (pos 0) h, ← kind-here, g) (and-false (ascending x (get_or C i (pos 0) ∷ drop (suc i) C)))

      pub literals-high : k < z → literals_left x i ≡ false
      unfolding literals_left over_kinds all_of
      literals-high g = rw (drop-cons C i (pos 0) h, ← kind-here, lt-leb z k g, and-false (ltb 0 z)) (and-false (ascending x (get_or C i (pos 0) ∷ drop (suc i) C)))

      pub literals-pass : x < y → (z ≡ 0 → ⊥) → z ≤ k → literals_left x i ≡ literals_left y (i + 1)
      unfolding literals_left ascending over_kinds all_of
      literals-pass f n g = rw (add-one, drop-cons C i (pos 0) h, ← kind-here, ← e, lt-ltb x y f, lt-ltb 0 z (omega (arith, n)), le-leb z k g)

-- ---- the lowest empty clause beside one that was found before

lowest_from : ℕ → ℕ → List Clause → ℕ
lowest_from found number [] = found
lowest_from found number (C ∷ Cs) = lowest_from (lowest_after found number (length C)) (number + 1) Cs

lowest_step : (found number : ℕ) (C : Clause) (Cs : List Clause) → lowest_from found number (C ∷ Cs) ≡ lowest_from (lowest_after found number (length C)) (number + 1) Cs
unfolding lowest_from
lowest_step found number C Cs = refl

lowest-found : (j number : ℕ) (Cs : List Clause) → lowest_from (suc j) number Cs ≡ suc j
unfolding lowest_from lowest_after
lowest-found j number [] = refl
lowest-found j number (C ∷ Cs) = rw (eqb-suc-zero j) (lowest-found j (number + 1) Cs)

lowest-empty : (k : ℕ) (Cs : List Clause) → lowest_from 0 (suc k) Cs ≡ empty_from (suc k) Cs
unfolding lowest_from lowest_after empty_from
lowest-empty k [] = refl
lowest-empty k ([] ∷ Cs) = lowest-found k (suc k + 1) Cs
lowest-empty k ((l ∷ C) ∷ Cs) = rw (eqb-suc-zero (length C), add-one (suc k)) (lowest-empty (suc k) Cs)

-- ---- clauses_fit of one clause and those behind it

over-more : (kinds : List ℕ) (C : Clause) → over_kinds 2 kinds C ≡ true → over_kinds 3 kinds C ≡ true
over-more kinds C e = over-from 3 kinds C (λ l q. let r = over-is 2 kinds C e l q in (r.0, omega (arith, r.1)))

module _ (f : ℕ) (kinds : List ℕ) (C : Clause) (Cs : List Clause) where
  fit-pass : clause_fits (cond (ltb 0 f) 2 3) kinds C ≡ true → clauses_fit f kinds (C ∷ Cs) ≡ clauses_fit (f - 1) kinds Cs
  unfolding clause_fits clauses_fit all_of
  fit-pass e = go f e
    where
      go : (f : ℕ) → clause_fits (cond (ltb 0 f) 2 3) kinds C ≡ true → clauses_fit f kinds (C ∷ Cs) ≡ clauses_fit (f - 1) kinds Cs
      go zero e = rw (every-at _ e 0, every-at _ e 1, every-at _ e 2, zero-sub 1)
      go (suc f) e =
          let two : over_kinds 2 kinds C ≡ true = every-at _ (rw (lt-ltb 0 (suc f) (omega arith)) at e) 2 in
          rw (every-at _ e 0, every-at _ e 1, over-more kinds C two, two, sub-one (suc f))

  fit-fails : clause_fits (cond (ltb 0 f) 2 3) kinds C ≡ false → clauses_fit f kinds (C ∷ Cs) ≡ false
  unfolding clause_fits clauses_fit all_of
  fit-fails e = never (clauses_fit f kinds (C ∷ Cs)) (λ g. true≢false (sym (go f g) ∙ e))
    where
      go : (f : ℕ) → clauses_fit f kinds (C ∷ Cs) ≡ true → clause_fits (cond (ltb 0 f) 2 3) kinds C ≡ true
      go zero g = every-from _ (and_left (ascending 0 C) _ (every-at _ g 0), (and_left (narrow C) _ (every-at _ g 1), (and_left (over_kinds 3 kinds C) _ (every-at _ g 2), tt)))
      go (suc f) g =
          rw (lt-ltb 0 (suc f) (omega arith))
          (every-from _ (and_left (ascending 0 C) _ (every-at _ g 0), (and_left (narrow C) _ (every-at _ g 1), (and_left (over_kinds 2 kinds C) _ (every-at _ g 3), tt))))

-- ---- the clauses between the ends

module _ (l : List ℤ) (ends kinds : List ℕ) (formula n empty : ℕ) where
  -- from place i on, where the clause there starts, and the lowest empty clause before it
  pub clauses_left : ℕ → ℕ → ℕ → Bool
  clauses_left i start found =
      every (ends_rise start (drop i ends) n ∷ clauses_fit (formula - i) kinds (cut start (drop i ends) l) ∷ eqb empty (lowest_from found (i + 1) (cut start (drop i ends) l)) ∷ [])

  pub clauses-start : every (ends_rise 0 ends n ∷ clauses_fit formula kinds (cut 0 ends l) ∷ eqb empty (empty_from 1 (cut 0 ends l)) ∷ []) ≡ clauses_left 0 0 0
  unfolding clauses_left
  clauses-start = rw (sub-zero formula, lowest-empty 0 (cut 0 ends l))

  clauses-end : (i start found : ℕ) → length ends ≤ i → clauses_left i start found ≡ every (eqb start n ∷ true ∷ eqb empty found ∷ [])
  unfolding clauses_left ends_rise clauses_fit cut all_of lowest_from every
  clauses-end i start found h = rw (drop_of_length-le ends {i = i} h, take-nil (formula - i))

  pub clauses-short : (i start found : ℕ) → length ends ≤ i → (start ≡ n → ⊥) → clauses_left i start found ≡ false
  clauses-short i start found h e = clauses-end i start found h ∙ every-fails _ 0 (ne_eqb start n e)

  pub clauses-done : (i start found : ℕ) → length ends ≤ i → start ≡ n → eqb empty found ≡ clauses_left i start found
  clauses-done i start found h e = every-last (eqb start n ∷ true ∷ []) (eqb empty found) (eq-eqb start n e, (refl, tt)) ∙ sym (clauses-end i start found h)

  module _ (i start found : ℕ) (h : i < length ends) where
    abbrev end : ℕ
    end = get_or ends i 0

    pub clauses-falls : end < start → clauses_left i start found ≡ false
    unfolding clauses_left ends_rise
    clauses-falls g = every-fails _ 0 (rw (drop-cons ends i 0 h, lt-leb start end g))

    pub clauses-over : n < end → clauses_left i start found ≡ false
    unfolding clauses_left
    clauses-over g = every-fails _ 0 (never _ (λ r. absurd (omega (arith, reach (rw (drop-cons ends i 0 h) at r)))))
      where
        reach : ends_rise start (end ∷ drop (suc i) ends) n ≡ true → end ≤ n
        reach r = rise-le end (drop (suc i) ends) n (unfold ends_rise in and_right (leb start end) (ends_rise end (drop (suc i) ends) n) r)

    module _ (k : ℕ) (q : k ≡ cond (ltb i formula) 2 3) where
      fits-here : {b : Bool} → clause_fits k kinds (stretch start end l) ≡ b → clause_fits (cond (ltb 0 (formula - i)) 2 3) kinds (stretch start end l) ≡ b
      fits-here e = rw (← below_left i formula, ← q) e

      pub clauses-ill : clause_fits k kinds (stretch start end l) ≡ false → clauses_left i start found ≡ false
      unfolding clauses_left cut
      clauses-ill e = every-fails _ 1 (rw (drop-cons ends i 0 h) (fit-fails (formula - i) kinds (stretch start end l) (cut end (drop (suc i) ends) l) (fits-here e)))

      pub clauses-pass : clause_fits k kinds (stretch start end l) ≡ true → start ≤ end → end ≤ length l → (next : ℕ) → next ≡ lowest_after found (i + 1) (end - start)
          → clauses_left i start found ≡ clauses_left (i + 1) end next
      unfolding clauses_left ends_rise cut
      clauses-pass e g w next z =
          let Cs = cut end (drop (i + 1) ends) l in
          let behind : drop i ends ≡ end ∷ drop (i + 1) ends = rw add-one (drop-cons ends i 0 h) in
          let fewer : formula - i - 1 ≡ formula - (i + 1) = omega arith in
          let fits : clauses_fit (formula - i) kinds (stretch start end l ∷ Cs) ≡ clauses_fit (formula - (i + 1)) kinds Cs =
          fit-pass (formula - i) kinds (stretch start end l) Cs (fits-here e) ∙ ap (λ f. clauses_fit f kinds Cs) fewer in
          let found-next : lowest_from found (i + 1) (stretch start end l ∷ Cs) ≡ lowest_from (lowest_after found (i + 1) (end - start)) (i + 1 + 1) Cs =
          lowest_step found (i + 1) (stretch start end l) Cs ∙ ap (λ n. lowest_from (lowest_after found (i + 1) n) (i + 1 + 1) Cs) (stretch-length start end l w) in
          rw (z, behind, le-leb start end g, fits, found-next)

-- ---- one variable

module _ (declared : Bool) (places k s : ℕ) where
  pub variable-high : 3 < k → variable_fits declared places k s ≡ false
  unfolding variable_fits is_kind
  variable-high h = every-fails _ 1 (lt-leb _ _ h)

  pub variable-misplaced : kind_stands declared k ≡ false → variable_fits declared places k s ≡ false
  unfolding variable_fits
  variable-misplaced e = every-fails _ 3 e

  module _ (h : k ≤ 3) (e : kind_stands declared k ≡ true) where
    pub variable-undeclared : k ≡ 0 → eqb s 0 ≡ variable_fits declared places k s
    unfolding variable_fits other_inside is_kind bare_if_undeclared every
    variable-undeclared z = rw (e, z) (sym (and-true (eqb s 0)))

    pub variable-universal : (k ≡ 0 → ⊥) → k < 2 → variable_fits declared places k s ≡ true
    unfolding variable_fits other_inside is_kind bare_if_undeclared every
    variable-universal n l = let one : k ≡ 1 = omega (arith, n) in rw (e, one)

    pub variable-other : 2 ≤ k → inside s places ≡ variable_fits declared places k s
    unfolding variable_fits other_inside is_kind bare_if_undeclared every
    variable-other l = rw (e, le-leb 2 k l, le-leb k 3 h, ne_eqb k 0 (λ z. absurd (omega arith))) (sym (and-true (inside s places)))

-- ---- the kinds and sets

forks-step : (bound k : ℕ) (kinds : List ℕ) → forks_above bound (k ∷ kinds) ≡ (kind_stands (ltb 0 bound) k && forks_above (bound - 1) kinds)
unfolding forks_above kind_stands
forks-step zero k kinds = rw (zero-sub 1)
forks-step (suc bound) k kinds = rw (lt-ltb 0 (suc bound) (omega arith), sub-one (suc bound))

module _ (k : ℕ) (kinds : List ℕ) where
  universals-one : k ≡ 1 → universals_in (k ∷ kinds) ≡ 1 + universals_in kinds
  unfolding universals_in
  universals-one e = rw (eq-eqb k 1 e)

  universals-none : (k ≡ 1 → ⊥) → universals_in (k ∷ kinds) ≡ universals_in kinds
  unfolding universals_in
  universals-none n = rw (ne_eqb k 1 n, zero-add (universals_in kinds))

module _ (seen places k s : ℕ) (kinds sets : List ℕ) where
  bits-one : k ≡ 1 → universal_bits seen places (k ∷ kinds) (s ∷ sets) ≡ (new_bit seen s && universal_bits (union seen s) places kinds sets)
  unfolding universal_bits
  bits-one e = rw (eq-eqb k 1 e)

  bits_none : (k ≡ 1 → ⊥) → universal_bits seen places (k ∷ kinds) (s ∷ sets) ≡ universal_bits seen places kinds sets
  unfolding universal_bits
  bits_none n = rw (ne_eqb k 1 n)

module _ (kinds : List ℕ) (sets : List Set) (bound universals : ℕ) where
  -- from place i on, with the places of the universals before it and their number
  pub variables_left : ℕ → Set → ℕ → Bool
  variables_left i seen count =
      every (eqb (count + universals_in (drop i kinds)) universals ∷ universal_bits seen (lowest universals) (drop i kinds) (drop i sets) ∷ all_variables (other_inside (lowest universals)) (drop i kinds) (drop i sets)
      ∷ all_of is_kind (drop i kinds) ∷ all_variables bare_if_undeclared (drop i kinds) (drop i sets) ∷ forks_above (bound - i) (drop i kinds) ∷ [])

  pub variables-start : variables_fit bound universals kinds sets ≡ variables_left 0 0 0
  unfolding variables_fit variables_left
  variables-start = rw (sub-zero bound, zero-add (universals_in kinds))

  variables-end : (i seen count : ℕ) → length kinds ≤ i → variables_left i seen count ≡ every (eqb count universals ∷ eqb seen (lowest universals) ∷ [])
  unfolding variables_left universals_in universal_bits all_variables all_of forks_above every
  variables-end i seen count h = rw (drop_of_length-le kinds {i = i} h, add-zero count)

  pub variables-miscounted : (i seen count : ℕ) → length kinds ≤ i → (count ≡ universals → ⊥) → variables_left i seen count ≡ false
  variables-miscounted i seen count h n = variables-end i seen count h ∙ every-fails _ 0 (ne_eqb count universals n)

  pub variables-filled : (i seen count : ℕ) → length kinds ≤ i → count ≡ universals → (places : Set) → places ≡ lowest universals → eqb seen places ≡ variables_left i seen count
  variables-filled i seen count h e places p =
      rw p (every-last (eqb count universals ∷ []) (eqb seen (lowest universals)) (eq-eqb count universals e, tt) ∙ sym (variables-end i seen count h))

  module _ (i seen count : ℕ) (h : i < length kinds) (g : i < length sets) (places : Set) (p : places ≡ lowest universals) where
    abbrev k : ℕ
    k = get_or kinds i 0

    abbrev s : Set
    s = get_or sets i 0

    kinds-front : drop i kinds ≡ k ∷ drop (i + 1) kinds
    kinds-front = rw add-one (drop-cons kinds i 0 h)

    sets-front : drop i sets ≡ s ∷ drop (i + 1) sets
    sets-front = rw add-one (drop-cons sets i 0 g)

    module _ (f : variable_fits (ltb i bound) places k s ≡ true) where
      inside-pass : all_variables (other_inside places) (drop i kinds) (drop i sets) ≡ all_variables (other_inside places) (drop (i + 1) kinds) (drop (i + 1) sets)
      unfolding variable_fits all_variables
      inside-pass = rw (kinds-front, sets-front, every-at _ f 0)

      kind-pass : all_of is_kind (drop i kinds) ≡ all_of is_kind (drop (i + 1) kinds)
      unfolding variable_fits all_of
      kind-pass = rw (kinds-front, every-at _ f 1)

      bare-pass : all_variables bare_if_undeclared (drop i kinds) (drop i sets) ≡ all_variables bare_if_undeclared (drop (i + 1) kinds) (drop (i + 1) sets)
      unfolding variable_fits all_variables
      bare-pass = rw (kinds-front, sets-front, every-at _ f 2)

      forks-pass : forks_above (bound - i) (drop i kinds) ≡ forks_above (bound - (i + 1)) (drop (i + 1) kinds)
      unfolding variable_fits
      forks-pass =
          let next : bound - i - 1 ≡ bound - (i + 1) = omega arith in
          rw (kinds-front, forks-step (bound - i) k (drop (i + 1) kinds), ← below_left i bound, every-at _ f 3, next)

      pub variables-universal : k ≡ 1 → new_bit seen s ≡ true → variables_left i seen count ≡ variables_left (i + 1) (union seen s) (count + 1)
      unfolding variables_left
      variables-universal one new =
          let counted : count + universals_in (drop i kinds) ≡ count + 1 + universals_in (drop (i + 1) kinds) =
          rw (kinds-front, universals-one k (drop (i + 1) kinds) one) (omega arith) in
          let bits : universal_bits seen places (drop i kinds) (drop i sets) ≡ universal_bits (union seen s) places (drop (i + 1) kinds) (drop (i + 1) sets) =
          rw (kinds-front, sets-front, bits-one seen places k s (drop (i + 1) kinds) (drop (i + 1) sets) one, new) in
          rw (← p, counted, bits, inside-pass, kind-pass, bare-pass, forks-pass)

      pub variables-other : (k ≡ 1 → ⊥) → variables_left i seen count ≡ variables_left (i + 1) seen count
      unfolding variables_left
      variables-other n =
          let counted : universals_in (drop i kinds) ≡ universals_in (drop (i + 1) kinds) = rw (kinds-front, universals-none k (drop (i + 1) kinds) n) in
          let bits : universal_bits seen places (drop i kinds) (drop i sets) ≡ universal_bits seen places (drop (i + 1) kinds) (drop (i + 1) sets) =
          rw (kinds-front, sets-front, bits_none seen places k s (drop (i + 1) kinds) (drop (i + 1) sets) n) in
          rw (← p, counted, bits, inside-pass, kind-pass, bare-pass, forks-pass)

    pub variables-old : k ≡ 1 → new_bit seen s ≡ false → variables_left i seen count ≡ false
    unfolding variables_left
    variables-old one old = every-fails _ 1 (rw (← p, kinds-front, sets-front, bits-one seen places k s (drop (i + 1) kinds) (drop (i + 1) sets) one, old))

    pub variables-ill : variable_fits (ltb i bound) places k s ≡ false → variables_left i seen count ≡ false
    unfolding variables_left variable_fits all_variables all_of
    variables-ill e = never (variables_left i seen count) (λ a. true≢false (sym (fits a) ∙ e))
      where
        fits : variables_left i seen count ≡ true → variable_fits (ltb i bound) places k s ≡ true
        fits a =
            let stands = and_left (kind_stands (ltb 0 (bound - i)) k) _ (rw (kinds-front, forks-step (bound - i) k (drop (i + 1) kinds)) at (every-at _ a 5)) in
            every-from _ (
              and_left (other_inside places k s) _ (rw (← p, kinds-front, sets-front) at (every-at _ a 2)),
              (
                and_left (is_kind k) _ (rw kinds-front at (every-at _ a 3)),
                (and_left (bare_if_undeclared k s) _ (rw (kinds-front, sets-front) at (every-at _ a 4)), (rw (← below_left i bound) at stands, tt)),
              ),
            )
