-- A valid model spread over tables: it is read back, the tables are well formed, and the last model spread counts. And well-formed tables hold a valid model.
--     model-back, formed-spread       the model is in the tables, and they are well formed
--     spread-again, long-spread, frame    for a list of calls: another model, the lengths, the entries past the stated sizes
--     blank-valid, blank-state            the model of zero tables
--     model-held, state-held, valid-held  of well-formed tables: they are their model's, the state is its state, it is valid
use mathlib.Core.Path.{◌≡◌, refl, ap, ◌∙◌}
use mathlib.Core.Bool.{Bool, true}
use mathlib.Core.List.{List, [], ◌++◌}
use Prim.Native.Nat.{ℕ, ◌-◌, ◌≤◌}
use native.Mathlib.Nat.{zero-add}
use native.Mathlib.Omega.{arith}
use borrow.Author.Tests.{eq-eqb}
use lib.IntN.{pos}
use lib.ListN.{length, take, drop, replicate}
use lib.Seq.{take_at, drop_at, take-append_seam, drop-append_seam}
use Rattle.dqbf.specs.Limits.{clause_limit, literal_limit, variable_limit, tables}
use Rattle.dqbf.specs.Literal.{total, same}
use Rattle.dqbf.specs.Model.{Model, clauses, used, steps, universals_in, universal_count, empty_from, lowest_empty}
use Rattle.dqbf.specs.Valid.{Valid}
use Rattle.tables.specs.declared.State.{State}
use Rattle.tables.specs.Tables.{Tables, stretch, cut, kinds_in, sets_in, ends_in, clauses_in, model_in}
use Rattle.tables.specs.Spread.{flat, ends_from, over, spread, state_of, kind_row, set_row, blank, zero_state}
use Rattle.tables.specs.WellFormed.{every, all_of, all_variables, is_zero, is_zero_literal, long, within_limits, bound_in_use, clauses_add_up, counts_fit, clauses_fit, lowest, universal_bits, forks_above, variables_fit, well_formed, valid}
use Rattle.tables.specs.Statements.{Framed}
use Rattle.tables.proofs.Laws.Tests.{every-at, every-from, all_replicate}
use Rattle.tables.proofs.Laws.Cuts.{flat-length, ends-length, ends-rise, cut-flat}
use Rattle.tables.proofs.Laws.Rows.{over-length, over-take, over-drop, over-over, over-rest}
use Rattle.tables.proofs.Laws.Formed.{Long, long-is, long-to, counts-is, counts-to, Formed, formed-is, formed-to}
use Rattle.tables.proofs.Laws.Held.{clauses-is, sets-is, kinds-is, even_is, held, state-is, count-kinds, count-formula, count-universals}
use Rattle.tables.proofs.Laws.Valid.{kinds-used, sets-used, valid-is, valid-from}

-- ---- well-formed tables hold a valid model

module _ (t : Tables) (s : State) (lent : long t ≡ true) (formed : well_formed t s ≡ true) where
  abbrev L : Long t
  L = long-is t lent

  abbrev F : Formed t s
  F = formed-is t s formed

  pub model-held : spread (model_in t s) t ≡ t
  model-held = held t s L F

  pub state-held : state_of (model_in t s) ≡ s
  state-held = state-is t s L F

  valid-test : valid (model_in t s) ≡ true
  unfolding valid
  valid-test =
      every-from _ (
        eq-eqb _ _ (even_is t s L F),
        (
          rw state-held (counts-to s F.counts),
          (
            rw (count-formula t s L F, kinds-is t s L F, clauses-is t s) F.clauses,
            (rw (count-kinds t s L F, count-universals t s L F, kinds-is t s L F, sets-is t s) F.variables, tt),
          ),
        ),
      )

  pub valid-held : Valid tables (model_in t s)
  valid-held = valid-is (model_in t s) valid-test

-- ---- a valid model over tables

zero_row : {A : Type 0} (z : A) (P : A → Bool) → P z ≡ true → (size : ℕ) (row t : List A) (n : ℕ) → length row ≡ n → all_of P (stretch n size (over size z row t)) ≡ true
zero_row z P e size row t n h = rw (← h, over-rest z size row t) (all_replicate P z e (size - length row))

module _ (m : Model) (v : Valid tables m) (t : Tables) where
  kinds-back : kinds_in (spread m t) (state_of m) ≡ kind_row m
  unfolding spread state_of
  kinds-back = rw (← kinds-used m) (over-take 0 variable_limit (kind_row m) t.kinds)

  sets-back : sets_in (spread m t) (state_of m) ≡ set_row m
  unfolding spread state_of
  sets-back = rw (← sets-used m v.even) (over-take 0 variable_limit (set_row m) t.sets)

  ends-back : ends_in (spread m t) (state_of m) ≡ ends_from 0 (clauses m)
  unfolding spread state_of
  ends-back = rw (← ends-length 0 (clauses m)) (over-take 0 clause_limit (ends_from 0 (clauses m)) t.ends)

  clauses-back : clauses_in (spread m t) (state_of m) ≡ clauses m
  clauses-back = rw ends-back cut-back
    where
      cut-back : cut 0 (ends_from 0 (clauses m)) (spread m t).literals ≡ clauses m
      cut-back = unfold spread over in cut-flat [] (clauses m) (replicate (literal_limit - length (flat (clauses m))) (pos 0) ++ drop literal_limit t.literals) 0 refl

  -- the model is in the tables
  pub model-back : model_in (spread m t) (state_of m) ≡ m
  unfolding model_in state_of kind_row set_row clauses
  model-back = λ i. record { kinds = kinds i; sets = sets i; formula = formula i; forks = forks i; derived = derived i }
    where
      kinds : take (length m.kinds) (kinds_in (spread m t) (state_of m)) ≡ m.kinds
      kinds = ap (take (length m.kinds)) kinds-back ∙ take-append_seam m.kinds (replicate (length m.forks) 3)

      sets : take (length m.kinds) (sets_in (spread m t) (state_of m)) ≡ m.sets
      sets = ap (take (length m.kinds)) sets-back ∙ take_at m.sets m.forks (length m.kinds) v.even

      forks : drop (length m.kinds) (sets_in (spread m t) (state_of m)) ≡ m.forks
      forks = ap (drop (length m.kinds)) sets-back ∙ drop_at m.sets m.forks (length m.kinds) v.even

      formula : take (length m.formula) (clauses_in (spread m t) (state_of m)) ≡ m.formula
      formula = ap (take (length m.formula)) clauses-back ∙ take-append_seam m.formula m.derived

      derived : drop (length m.formula) (clauses_in (spread m t) (state_of m)) ≡ m.derived
      derived = ap (drop (length m.formula)) clauses-back ∙ drop-append_seam m.formula m.derived

  tests : valid m ≡ true
  tests = valid-from m v

  formed-back : Formed (spread m t) (state_of m)
  unfolding valid is_zero is_zero_literal same
  formed-back = record {
    counts = counts-is (state_of m) (every-at _ tests 1);
    rise = rw ends-back (unfold state_of in rw (← zero-add (total (clauses m))) (ends-rise 0 (clauses m)));
    clauses = rw (kinds-back, clauses-back) (unfold state_of in every-at _ tests 2);
    variables = rw (kinds-back, sets-back) (unfold state_of in every-at _ tests 3);
    empty = rw clauses-back (unfold state_of lowest_empty in refl);
    zero-literals = unfold spread state_of in zero_row (pos 0) is_zero_literal refl literal_limit (flat (clauses m)) t.literals (total (clauses m)) (flat-length (clauses m));
    zero-ends = unfold spread state_of in zero_row 0 is_zero refl clause_limit (ends_from 0 (clauses m)) t.ends (length (clauses m)) (ends-length 0 (clauses m));
    zero-sets = unfold spread state_of in zero_row 0 is_zero refl variable_limit (set_row m) t.sets (used m) (sets-used m v.even);
    zero-kinds = unfold spread state_of in zero_row 0 is_zero refl variable_limit (kind_row m) t.kinds (used m) (kinds-used m);
  }

  pub formed-spread : well_formed (spread m t) (state_of m) ≡ true
  formed-spread = formed-to (spread m t) (state_of m) formed-back

  -- ---- rows fit their tables

  literals-fit : length (flat (clauses m)) ≤ literal_limit
  literals-fit = omega (arith, flat-length (clauses m), v.few-literals)

  ends-fit : length (ends_from 0 (clauses m)) ≤ clause_limit
  ends-fit = omega (arith, ends-length 0 (clauses m), v.few-clauses)

  sets-fit : length (set_row m) ≤ variable_limit
  sets-fit = omega (arith, sets-used m v.even, v.few-variables)

  kinds-fit : length (kind_row m) ≤ variable_limit
  kinds-fit = omega (arith, kinds-used m, v.few-variables)

  -- another model over these tables is that model over the first ones
  pub spread-again : (n : Model) → spread n (spread m t) ≡ spread n t
  unfolding spread
  spread-again n = λ i. record {
    literals = over-over (pos 0) literal_limit (flat (clauses n)) (flat (clauses m)) t.literals literals-fit i;
    ends = over-over 0 clause_limit (ends_from 0 (clauses n)) (ends_from 0 (clauses m)) t.ends ends-fit i;
    sets = over-over 0 variable_limit (set_row n) (set_row m) t.sets sets-fit i;
    spare = t.spare;
    kinds = over-over 0 variable_limit (kind_row n) (kind_row m) t.kinds kinds-fit i;
  }

  pub long-spread : long t ≡ true → long (spread m t) ≡ true
  unfolding spread
  long-spread lent =
      let l = long-is t lent in
      long-to (spread m t) (record {
        literals = omega (arith, over-length (pos 0) literal_limit (flat (clauses m)) t.literals literals-fit l.literals);
        ends = omega (arith, over-length 0 clause_limit (ends_from 0 (clauses m)) t.ends ends-fit l.ends);
        sets = omega (arith, over-length 0 variable_limit (set_row m) t.sets sets-fit l.sets);
        kinds = omega (arith, over-length 0 variable_limit (kind_row m) t.kinds kinds-fit l.kinds);
      })

  pub frame : Framed t (spread m t)
  unfolding spread
  frame = record {
    literals = over-drop (pos 0) literal_limit (flat (clauses m)) t.literals literals-fit;
    ends = over-drop 0 clause_limit (ends_from 0 (clauses m)) t.ends ends-fit;
    sets = over-drop 0 variable_limit (set_row m) t.sets sets-fit;
    spare = refl;
    kinds = over-drop 0 variable_limit (kind_row m) t.kinds kinds-fit;
  }

-- ---- the blank model

pub blank-valid : Valid tables blank
blank-valid = valid-is blank blank-test
  where
    blank-test : valid blank ≡ true
    blank-test = unfold valid every all_of all_variables counts_fit within_limits bound_in_use clauses_add_up state_of clauses used steps lowest_empty empty_from total universal_count universals_in clauses_fit kind_row set_row variables_fit universal_bits lowest forks_above in refl

pub blank-state : state_of blank ≡ zero_state
blank-state = unfold state_of clauses used steps lowest_empty empty_from total universal_count universals_in in refl
