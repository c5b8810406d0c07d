-- Clauses and variables added to tables that hold a model: what the tables then hold is the model with them.
--     add-literals, add-ends, add-sets, add-kinds     an addition of any size, table by table
--     One, Two                          an addition of one clause; of two clauses and a variable
--     one-clause, two-clauses           of well-formed tables, after a step's entries were stored; added-all, for an addition of any size
--     formula-clauses, formula-state, formula-tables     one more formula clause, for the reader, as long as there is no derived one
--     clause-count, literal-count, variable-count        the state's counts are the model's
--     room-is, room-told, room-one, room-two, step_room  whether there is room, and what the leaves require
use mathlib.Core.Path.{◌≡◌, refl, ap, sym, ◌∙◌}
use mathlib.Core.Bool.{true, false, ◌||◌}
use mathlib.Core.List.{List, [], ◌∷◌, ◌++◌, append_assoc, append-nil}
use Prim.Native.Nat.{ℕ, suc, ◌+◌, ◌-◌, ◌≤◌, ◌<◌}
use native.Mathlib.Nat.{zero-add, add-zero}
use native.Mathlib.Omega.{arith}
use borrow.Author.Tests.{ltb-false}
use lib.Dec.{ltb, eqb-suc-zero}
use lib.IntN.{ℤ, pos}
use lib.ListN.{length, set, replicate, length-append, length-replicate, length-set, replicate-append-replicate}
use Rattle.dqbf.specs.Limits.{clause_limit, literal_limit, variable_limit, tables}
use Rattle.dqbf.specs.Literal.{Clause, total}
use Rattle.dqbf.specs.Set.{Set}
use Rattle.dqbf.specs.Model.{Model, clauses, used, steps, universal_count, empty_from, lowest_empty}
use Rattle.dqbf.specs.Valid.{Valid}
use Rattle.dqbf.specs.Rules.{Addition, add, no_room}
use Rattle.dqbf.specs.Published.{Fits}
use Rattle.dqbf.proofs.Laws.Tests.{or_no}
use Rattle.dqbf.proofs.Laws.Models.{more-clauses, total-append}
use Rattle.tables.specs.declared.State.{State}
use Rattle.tables.specs.Tables.{Tables, rows_of, model_in}
use Rattle.tables.specs.Spread.{flat, ends_from, over, spread, state_of, kind_row, set_row}
use Rattle.tables.specs.WellFormed.{long, well_formed}
use Rattle.tables.specs.Adding.{stored, lowest_after, clause_ended, variable_added, step_counted, formula_counted, with_formula, full, RoomFor, Added}
use Rattle.tables.proofs.Laws.Cuts.{flat-length, flat_append, ends-length, ends-append}
use Rattle.tables.proofs.Laws.Rows.{over-size, over-stored, stored-none, stored_one, stored-stored}
use Rattle.tables.proofs.Laws.Valid.{kinds-used, sets-used}
use Rattle.tables.proofs.Laws.Formed.{long-is, formed-is}
use Rattle.tables.proofs.Laws.Spread.{model-held, state-held, valid-held}

-- ---- clauses behind clauses

module _ (Cs Ds : List Clause) where
  literals-more : (t : List ℤ) → total Cs + total Ds ≤ literal_limit
      → stored (over literal_limit (pos 0) (flat Cs) t) (total Cs) (flat Ds) ≡ over literal_limit (pos 0) (flat (Cs ++ Ds)) t
  literals-more t h =
      rw (← flat-length Cs, flat_append Cs Ds) (over-stored (pos 0) literal_limit (flat Cs) (flat Ds) t (omega (arith, flat-length Cs, flat-length Ds)))

  ends_more : (t : List ℕ) → length Cs + length Ds ≤ clause_limit
      → stored (over clause_limit 0 (ends_from 0 Cs) t) (length Cs) (ends_from (total Cs) Ds) ≡ over clause_limit 0 (ends_from 0 (Cs ++ Ds)) t
  ends_more t h =
      rw (← ends-length 0 Cs, ends-append 0 Cs Ds, zero-add (total Cs))
      (over-stored 0 clause_limit (ends_from 0 Cs) (ends_from (total Cs) Ds) t (omega (arith, ends-length 0 Cs, ends-length (total Cs) Ds)))

module _ (Cs : List Clause) (C : Clause) where
  literals-one : (t : List ℤ) → total Cs + length C ≤ literal_limit → stored (over literal_limit (pos 0) (flat Cs) t) (total Cs) C ≡ over literal_limit (pos 0) (flat (Cs ++ (C ∷ []))) t
  literals-one t h =
      let e : flat (C ∷ []) ≡ C = unfold flat in append-nil C in
      let n : total (C ∷ []) ≡ length C = unfold total in add-zero (length C) in
      rw e at (literals-more Cs (C ∷ []) t (omega arith))

  ends-one : (t : List ℕ) → length Cs < clause_limit → set (over clause_limit 0 (ends_from 0 Cs) t) (length Cs) (total Cs + length C) ≡ over clause_limit 0 (ends_from 0 (Cs ++ (C ∷ []))) t
  unfolding ends_from
  ends-one t h =
      stored_one (over clause_limit 0 (ends_from 0 Cs) t) (length Cs) (total Cs + length C)
      (omega (arith, over-size 0 clause_limit (ends_from 0 Cs) t (omega (arith, ends-length 0 Cs))))
      ∙ ends_more Cs (C ∷ []) t (omega arith)

empty-skip : (k : ℕ) (l : ℤ) (D : Clause) (Cs : List Clause) → empty_from k ((l ∷ D) ∷ Cs) ≡ empty_from (suc k) Cs
unfolding empty_from
empty-skip k l D Cs = refl

empty-one : (k : ℕ) (Cs : List Clause) (C : Clause) → empty_from (suc k) (Cs ++ (C ∷ [])) ≡ lowest_after (empty_from (suc k) Cs) (suc k + length Cs) (length C)
empty-one k [] [] = unfold empty_from lowest_after in sym (add-zero (suc k))
empty-one k [] (l ∷ C) = unfold empty_from lowest_after in rw (eqb-suc-zero (length C))
empty-one k ([] ∷ Cs) C = unfold empty_from lowest_after in rw (eqb-suc-zero k)
empty-one k ((l ∷ D) ∷ Cs) C =
    let e : suc k + suc (length Cs) ≡ suc (suc k) + length Cs = omega arith in
    rw (empty-skip (suc k) l D (Cs ++ (C ∷ [])), empty-skip (suc k) l D Cs, e) (empty-one (suc k) Cs C)

-- ---- an addition to a model

module _ (m : Model) (v : Valid tables m) (a : Addition) (fits : Fits tables m a) (t : Tables) where
  more-sets : set_row (add m a) ≡ set_row m ++ a.forks
  unfolding set_row add
  more-sets = sym (append_assoc m.sets m.forks a.forks)

  more-kinds : kind_row (add m a) ≡ kind_row m ++ replicate (length a.forks) 3
  unfolding kind_row add
  more-kinds =
      rw (length-append m.forks a.forks, ← replicate-append-replicate {A = ℕ} (length m.forks) (length a.forks) 3)
      (sym (append_assoc m.kinds (replicate (length m.forks) 3) (replicate (length a.forks) 3)))

  pub add-literals : stored (spread m t).literals (total (clauses m)) (flat a.clauses) ≡ (spread (add m a) t).literals
  unfolding spread
  add-literals = rw (more-clauses m a) (literals-more (clauses m) a.clauses t.literals fits.literals-fit)

  pub add-ends : stored (spread m t).ends (length (clauses m)) (ends_from (total (clauses m)) a.clauses) ≡ (spread (add m a) t).ends
  unfolding spread
  add-ends = rw (more-clauses m a) (ends_more (clauses m) a.clauses t.ends fits.clauses-fit)

  pub add-sets : stored (spread m t).sets (used m) a.forks ≡ (spread (add m a) t).sets
  unfolding spread
  add-sets = rw (more-sets, ← sets-used m v.even) (over-stored 0 variable_limit (set_row m) a.forks t.sets (omega (arith, sets-used m v.even, fits.variables-fit)))

  pub add-kinds : stored (spread m t).kinds (used m) (replicate (length a.forks) 3) ≡ (spread (add m a) t).kinds
  unfolding spread
  add-kinds =
      rw (more-kinds, ← kinds-used m)
      (over-stored 0 variable_limit (kind_row m) (replicate (length a.forks) 3) t.kinds
      (omega (arith, kinds-used m, fits.variables-fit, length-replicate {A = ℕ} (length a.forks) 3)))

-- ---- the state

empty-more : (Cs : List Clause) (C : Clause) → lowest_after (empty_from 1 Cs) (length Cs + 1) (length C) ≡ empty_from 1 (Cs ++ (C ∷ []))
empty-more Cs C = let e : length Cs + 1 ≡ 1 + length Cs = omega arith in rw e (sym (empty-one 0 Cs C))

total-one : (Cs : List Clause) (C : Clause) → total Cs + length C ≡ total (Cs ++ (C ∷ []))
total-one Cs C = let e : total (C ∷ []) ≡ length C = unfold total in add-zero (length C) in sym (total-append Cs (C ∷ []) ∙ ap (λ n. total Cs + n) e)

length-one : (Cs : List Clause) (C : Clause) → length Cs + 1 ≡ length (Cs ++ (C ∷ []))
length-one Cs C = sym (length-append Cs (C ∷ []))

abbrev pub One : Clause → Addition
One C = record { clauses = C ∷ []; forks = [] }

abbrev pub Two : Clause → Clause → Set → Addition
Two C D s = record { clauses = C ∷ D ∷ []; forks = s ∷ [] }

-- states are equal by their counts
by-counts : (s r : State) → s.bound.0 ≡ r.bound.0 → s.variables.0 ≡ r.variables.0 → s.universals ≡ r.universals → s.formula.0 ≡ r.formula.0
    → s.clauses.0 ≡ r.clauses.0 → s.literals ≡ r.literals → s.steps.0 ≡ r.steps.0 → s.empty.0 ≡ r.empty.0 → s ≡ r
by-counts s r a b c d e f g h = λ i. record {
  bound = record { 0 = a i };
  variables = record { 0 = b i };
  universals = c i;
  formula = record { 0 = d i };
  clauses = record { 0 = e i };
  literals = f i;
  steps = record { 0 = g i };
  empty = record { 0 = h i };
}

module _ (m : Model) (v : Valid tables m) where
  state-one : (C : Clause) → step_counted (clause_ended (state_of m) (length C)) ≡ state_of (add m (One C))
  unfolding step_counted clause_ended state_of lowest_empty add used steps universal_count
  state-one C =
      let variables : length m.kinds + length m.forks ≡ length m.kinds + length (m.forks ++ []) = omega (arith, length-append m.forks []) in
      let made : length m.derived - length m.forks + 1 ≡ length (m.derived ++ (C ∷ [])) - length (m.forks ++ []) =
      omega (arith, v.made, length-append m.derived (C ∷ []), length-append m.forks []) in
      rw (more-clauses m (One C))
      (by-counts _ _ refl variables refl refl (length-one (clauses m) C) (total-one (clauses m) C) made (empty-more (clauses m) C))

  state-two : (C D : Clause) (s : Set) → step_counted (variable_added (clause_ended (clause_ended (state_of m) (length C)) (length D))) ≡ state_of (add m (Two C D s))
  unfolding step_counted variable_added clause_ended state_of lowest_empty add used steps universal_count
  state-two C D s =
      let Cs = clauses m ++ (C ∷ []) in
      let variables : length m.kinds + length m.forks + 1 ≡ length m.kinds + length (m.forks ++ (s ∷ [])) = omega (arith, length-append m.forks (s ∷ [])) in
      let made : length m.derived - length m.forks + 1 ≡ length (m.derived ++ (C ∷ D ∷ [])) - length (m.forks ++ (s ∷ [])) =
      omega (arith, v.made, length-append m.derived (C ∷ D ∷ []), length-append m.forks (s ∷ [])) in
      rw (more-clauses m (Two C D s), ← append_assoc (clauses m) (C ∷ []) (D ∷ []), empty-more (clauses m) C, length-one (clauses m) C, total-one (clauses m) C)
      (by-counts _ _ refl variables refl refl (length-one Cs D) (total-one Cs D) made (empty-more Cs D))

-- ---- room, by the test and as facts

pub room-is : (s : State) (a b c : ℕ) → full s a b c ≡ false → RoomFor s a b c
unfolding full
room-is s a b c e =
    let x = ltb clause_limit (s.clauses.0 + a) in
    let y = ltb literal_limit (s.literals + b) in
    let z = ltb variable_limit (s.variables.0 + c) in
    let xy = or_no (x || y) z e in
    let both = or_no x y xy.0 in
    record { clauses-fit = ltb-false _ _ both.0; literals-fit = ltb-false _ _ both.1; variables-fit = ltb-false _ _ xy.1 }

-- ---- one more formula clause, as long as there is no derived one

module _ (m : Model) (C : Clause) (none : m.derived ≡ []) where
  pub formula-clauses : clauses (with_formula m C) ≡ clauses m ++ (C ∷ [])
  unfolding clauses with_formula
  formula-clauses = rw (none, append-nil (m.formula ++ (C ∷ [])), append-nil m.formula)

  pub formula-state : formula_counted (clause_ended (state_of m) (length C)) ≡ state_of (with_formula m C)
  unfolding formula_counted clause_ended state_of lowest_empty with_formula used steps universal_count
  formula-state =
      rw formula-clauses
      (by-counts _ _ refl refl refl (length-one m.formula C) (length-one (clauses m) C) (total-one (clauses m) C) refl (empty-more (clauses m) C))

  pub formula-tables : (t : Tables) → length (clauses m) < clause_limit → total (clauses m) + length C ≤ literal_limit
      → rows_of (stored (spread m t).literals (total (clauses m)) C) (set (spread m t).ends (length (clauses m)) (total (clauses m) + length C)) (spread m t).sets (spread m t).spare (spread m t).kinds
      ≡ spread (with_formula m C) t
  unfolding spread set_row kind_row with_formula
  formula-tables t h k = rw formula-clauses (λ i. record {
    literals = literals-one (clauses m) C t.literals k i;
    ends = ends-one (clauses m) C t.ends h i;
    sets = over variable_limit 0 (m.sets ++ m.forks) t.sets;
    spare = t.spare;
    kinds = over variable_limit 0 (m.kinds ++ replicate (length m.forks) 3) t.kinds;
  })

-- ---- the same of well-formed tables

-- an addition's entries stored behind the entries in use
abbrev pub stored_all : Tables → State → Addition → Tables
stored_all t s a =
    rows_of (stored t.literals s.literals (flat a.clauses)) (stored t.ends s.clauses.0 (ends_from s.literals a.clauses))
    (stored t.sets s.variables.0 a.forks) t.spare (stored t.kinds s.variables.0 (replicate (length a.forks) 3))

module _ (t : Tables) (s : State) (lent : long t ≡ true) (formed : well_formed t s ≡ true) where
  abbrev m : Model
  m = model_in t s

  abbrev v : Valid tables m
  v = valid-held t s lent formed

  spread-all : (a : Addition) → Fits tables m a → stored_all (spread m t) (state_of m) a ≡ spread (add m a) t
  unfolding state_of spread
  spread-all a fits = λ i. record { literals = add-literals m v a fits t i; ends = add-ends m v a fits t i; sets = add-sets m v a fits t i; spare = t.spare; kinds = add-kinds m v a fits t i }

  pub added-all : (a : Addition) → Fits tables m a → stored_all t s a ≡ spread (add m a) t
  added-all a fits =
      ap (λ (x : Tables). stored_all x s a) (sym (model-held t s lent formed)) ∙ ap (λ (r : State). stored_all (spread m t) r a) (sym (state-held t s lent formed)) ∙ spread-all a fits

  -- ---- the state's counts are the model's

  pub clause-count : length (clauses m) ≡ s.clauses.0
  unfolding state_of
  clause-count = ap (λ (r : State). r.clauses.0) (state-held t s lent formed)

  pub literal-count : total (clauses m) ≡ s.literals
  unfolding state_of
  literal-count = ap (λ (r : State). r.literals) (state-held t s lent formed)

  pub variable-count : used m ≡ s.variables.0
  unfolding state_of
  variable-count = ap (λ (r : State). r.variables.0) (state-held t s lent formed)

  pub room-told : (a : Addition) → no_room tables m a ≡ full s (length a.clauses) (total a.clauses) (length a.forks)
  unfolding no_room full
  room-told a = rw (clause-count, literal-count, variable-count)

  room_for : (a : Addition) → Fits tables m a → RoomFor s (length a.clauses) (total a.clauses) (length a.forks)
  room_for a fits = record {
    clauses-fit = omega (arith, fits.clauses-fit, clause-count);
    literals-fit = omega (arith, fits.literals-fit, literal-count);
    variables-fit = omega (arith, fits.variables-fit, variable-count);
  }

  pub room-one : (C : Clause) → Fits tables m (One C) → RoomFor s 1 (length C) 0
  unfolding total
  room-one C fits = rw (add-zero (length C)) at (room_for (One C) fits)

  pub room-two : (C D : Clause) (w : Set) → Fits tables m (Two C D w) → RoomFor s 2 (length C + length D) 1
  unfolding total
  room-two C D w fits = rw (add-zero (length D)) at (room_for (Two C D w) fits)

  pub step_room : (a : Addition) → Fits tables m a → 0 < length a.clauses → s.steps.0 < clause_limit
  step_room a fits h = omega (arith, (formed-is t s formed).counts.adds, fits.clauses-fit, clause-count)

  -- ---- one clause

  one_form : (C : Clause) → s.clauses.0 < length t.ends
      → rows_of (stored t.literals s.literals C) (set t.ends s.clauses.0 (s.literals + length C)) t.sets t.spare t.kinds ≡ stored_all t s (One C)
  unfolding flat ends_from
  one_form C h =
      rw (append-nil C, stored_one t.ends s.clauses.0 (s.literals + length C) h, stored-none t.sets s.variables.0, stored-none t.kinds s.variables.0)

  pub one-clause : (C : Clause) → Fits tables m (One C)
      → Added t s (One C) (rows_of (stored t.literals s.literals C) (set t.ends s.clauses.0 (s.literals + length C)) t.sets t.spare t.kinds) (step_counted (clause_ended s (length C)))
  one-clause C fits = record {
    tables = one_form C (omega (arith, (long-is t lent).ends, (room-one C fits).clauses-fit)) ∙ added-all (One C) fits;
    state = ap (λ (r : State). step_counted (clause_ended r (length C))) (sym (state-held t s lent formed)) ∙ state-one m v C;
  }

  -- ---- two clauses and a variable

  two-form : (C D : Clause) (w : Set) → RoomFor s 2 (length C + length D) 1
      → rows_of (stored (stored t.literals s.literals C) (s.literals + length C) D)
      (set (set t.ends s.clauses.0 (s.literals + length C)) (s.clauses.0 + 1) (s.literals + length C + length D))
      (set t.sets s.variables.0 w) t.spare (set t.kinds s.variables.0 3)
      ≡ stored_all t s (Two C D w)
  unfolding flat ends_from
  two-form C D w room =
      let L = long-is t lent in
      let c : s.clauses.0 + 1 < length t.ends = omega (arith, L.ends, room.clauses-fit) in
      let first = stored_one t.ends s.clauses.0 (s.literals + length C) (omega arith) in
      let second = stored_one (set t.ends s.clauses.0 (s.literals + length C)) (s.clauses.0 + 1) (s.literals + length C + length D) (simp length-set c) in
      rw (
        append-nil D,
        stored-stored t.literals s.literals C D (omega (arith, L.literals, room.literals-fit)),
        second,
        first,
        stored-stored t.ends s.clauses.0 ((s.literals + length C) ∷ []) ((s.literals + length C + length D) ∷ []) (omega arith),
        stored_one t.sets s.variables.0 w (omega (arith, L.sets, room.variables-fit)),
        stored_one t.kinds s.variables.0 3 (omega (arith, L.kinds, room.variables-fit)),
      )

  pub two-clauses : (C D : Clause) (w : Set) → Fits tables m (Two C D w)
      → Added t s (Two C D w) (rows_of (stored (stored t.literals s.literals C) (s.literals + length C) D)
      (set (set t.ends s.clauses.0 (s.literals + length C)) (s.clauses.0 + 1) (s.literals + length C + length D))
      (set t.sets s.variables.0 w) t.spare (set t.kinds s.variables.0 3))
      (step_counted (variable_added (clause_ended (clause_ended s (length C)) (length D))))
  two-clauses C D w fits = record {
    tables = two-form C D w (room-two C D w fits) ∙ added-all (Two C D w) fits;
    state = ap (λ (r : State). step_counted (variable_added (clause_ended (clause_ended r (length C)) (length D)))) (sym (state-held t s lent formed)) ∙ state-two m v C D w;
  }
