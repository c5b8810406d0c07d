-- The conditions of well-formedness as facts, both ways.
--     Long, long-is, long-to           the tables' lengths
--     Counts, counts-is, counts-to     the counts
--     ends-in, kinds-in, sets-in       how many entries are in use
--     Formed, formed-is, formed-to     well-formed tables
--     ill-.., rest-decides             the same as the test goes
use mathlib.Core.Path.{◌≡◌, sym, ◌∙◌}
use mathlib.Core.Bool.{Bool, true, false, not, true≢false}
use mathlib.Core.List.{[], ◌∷◌}
use Prim.Native.Nat.{◌+◌, ◌-◌, ◌≤◌}
use native.Mathlib.Omega.{arith}
use borrow.Author.Tests.{leb-true, eqb-true, le-leb, eq-eqb, not-false}
use lib.Dec.{eqb}
use lib.ListN.{length}
use lib.Seq.{length-take-le}
use Rattle.dqbf.specs.Limits.{clause_limit, literal_limit, variable_limit, universal_limit}
use Rattle.dqbf.specs.Model.{empty_from}
use Rattle.dqbf.proofs.Laws.Tests.{never}
use Rattle.tables.specs.declared.State.{State}
use Rattle.tables.specs.Tables.{Tables, stretch, kinds_in, sets_in, ends_in, clauses_in}
use Rattle.tables.specs.WellFormed.{every, all_of, is_zero, is_zero_literal, ends_rise, long, within_limits, bound_in_use, clauses_add_up, counts_fit, clauses_fit, variables_fit, empty_told, rest_zero, well_formed}
use Rattle.tables.proofs.Laws.Tests.{every-at, every-from, every-fails, every-last}

-- ---- long

pub record Long (t : Tables) : Type 0 where
  pub literals : literal_limit ≤ length t.literals
  pub ends : clause_limit ≤ length t.ends
  pub sets : variable_limit ≤ length t.sets
  pub kinds : variable_limit ≤ length t.kinds

pub long-is : (t : Tables) → long t ≡ true → Long t
unfolding long
long-is t e = record {
  literals = leb-true _ _ (every-at _ e 0);
  ends = leb-true _ _ (every-at _ e 1);
  sets = leb-true _ _ (every-at _ e 2);
  kinds = leb-true _ _ (every-at _ e 3);
}

pub long-to : (t : Tables) → Long t → long t ≡ true
unfolding long
long-to t f = every-from _ (le-leb _ _ f.literals, (le-leb _ _ f.ends, (le-leb _ _ f.sets, (le-leb _ _ f.kinds, tt))))

-- ---- counts_fit

pub record Counts (s : State) : Type 0 where
  pub bound : s.bound.0 ≤ variable_limit
  pub variables : s.variables.0 ≤ variable_limit
  pub universals : s.universals ≤ universal_limit
  pub formula : s.formula.0 ≤ clause_limit
  pub clauses : s.clauses.0 ≤ clause_limit
  pub literals : s.literals ≤ literal_limit
  pub in_use : s.bound.0 ≤ s.variables.0
  pub adds : s.clauses.0 ≡ s.formula.0 + s.steps.0 + (s.variables.0 - s.bound.0)

pub counts-is : (s : State) → counts_fit s ≡ true → Counts s
unfolding counts_fit within_limits bound_in_use clauses_add_up
counts-is s e = record {
  bound = leb-true _ _ (every-at _ (every-at _ e 0) 0);
  variables = leb-true _ _ (every-at _ (every-at _ e 0) 1);
  universals = leb-true _ _ (every-at _ (every-at _ e 0) 2);
  formula = leb-true _ _ (every-at _ (every-at _ e 0) 3);
  clauses = leb-true _ _ (every-at _ (every-at _ e 0) 4);
  literals = leb-true _ _ (every-at _ (every-at _ e 0) 5);
  in_use = leb-true _ _ (every-at _ e 1);
  adds = eqb-true _ _ (every-at _ e 2);
}

pub counts-to : (s : State) → Counts s → counts_fit s ≡ true
unfolding counts_fit within_limits bound_in_use clauses_add_up
counts-to s f =
    every-from _ (
      every-from _
          (le-leb _ _ f.bound, (le-leb _ _ f.variables, (le-leb _ _ f.universals, (le-leb _ _ f.formula, (le-leb _ _ f.clauses, (le-leb _ _ f.literals, tt)))))),
      (le-leb _ _ f.in_use, (eq-eqb _ _ f.adds, tt)),
    )

-- the entries in use are as many as the counts say
module _ (t : Tables) (s : State) (L : Long t) (C : Counts s) where
  pub ends-in : length (ends_in t s) ≡ s.clauses.0
  ends-in = length-take-le s.clauses.0 t.ends (omega (arith, C.clauses, L.ends))

  pub kinds-in : length (kinds_in t s) ≡ s.variables.0
  kinds-in = length-take-le s.variables.0 t.kinds (omega (arith, C.variables, L.kinds))

  pub sets-in : length (sets_in t s) ≡ s.variables.0
  sets-in = length-take-le s.variables.0 t.sets (omega (arith, C.variables, L.sets))

-- ---- well_formed

pub record Formed (t : Tables) (s : State) : Type 0 where
  pub counts : Counts s
  pub rise : ends_rise 0 (ends_in t s) s.literals ≡ true
  pub clauses : clauses_fit s.formula.0 (kinds_in t s) (clauses_in t s) ≡ true
  pub variables : variables_fit s.bound.0 s.universals (kinds_in t s) (sets_in t s) ≡ true
  pub empty : s.empty.0 ≡ empty_from 1 (clauses_in t s)
  pub zero-literals : all_of is_zero_literal (stretch s.literals literal_limit t.literals) ≡ true
  pub zero-ends : all_of is_zero (stretch s.clauses.0 clause_limit t.ends) ≡ true
  pub zero-sets : all_of is_zero (stretch s.variables.0 variable_limit t.sets) ≡ true
  pub zero-kinds : all_of is_zero (stretch s.variables.0 variable_limit t.kinds) ≡ true

pub formed-is : (t : Tables) (s : State) → well_formed t s ≡ true → Formed t s
unfolding well_formed empty_told rest_zero
formed-is t s e = record {
  counts = counts-is s (every-at _ e 0);
  rise = every-at _ e 1;
  clauses = every-at _ e 2;
  variables = every-at _ e 3;
  empty = eqb-true _ _ (every-at _ e 4);
  zero-literals = every-at _ (every-at _ e 5) 0;
  zero-ends = every-at _ (every-at _ e 5) 1;
  zero-sets = every-at _ (every-at _ e 5) 2;
  zero-kinds = every-at _ (every-at _ e 5) 3;
}

pub formed-to : (t : Tables) (s : State) → Formed t s → well_formed t s ≡ true
unfolding well_formed empty_told rest_zero
formed-to t s f =
    every-from _ (
      counts-to s f.counts,
      (
        f.rise,
        (
          f.clauses,
          (
            f.variables,
            (
              eq-eqb _ _ f.empty,
              (every-from _ (f.zero-literals, (f.zero-ends, (f.zero-sets, (f.zero-kinds, tt)))), tt),
            ),
          ),
        ),
      ),
    )

-- ---- well_formed in the order of its test: the counts, the clauses, the variables, the rest

module _ (t : Tables) (s : State) where
  -- the conditions on the clauses
  abbrev pub clause_tests : Bool
  clause_tests = every (ends_rise 0 (ends_in t s) s.literals ∷ clauses_fit s.formula.0 (kinds_in t s) (clauses_in t s) ∷ eqb s.empty.0 (empty_from 1 (clauses_in t s)) ∷ [])

  pub ill-counts : counts_fit s ≡ false → well_formed t s ≡ false
  unfolding well_formed
  ill-counts e = every-fails _ 0 e

  pub ill-clauses : clause_tests ≡ false → well_formed t s ≡ false
  unfolding well_formed empty_told
  ill-clauses e = never (well_formed t s) (λ f. true≢false (sym (every-from _ (every-at _ f 1, (every-at _ f 2, (every-at _ f 4, tt)))) ∙ e))

  pub ill-variables : variables_fit s.bound.0 s.universals (kinds_in t s) (sets_in t s) ≡ false → well_formed t s ≡ false
  unfolding well_formed
  ill-variables e = every-fails _ 3 e

  -- each test told by an answer that was not false
  pub rest-decides : {a b c r : Bool} → a ≡ counts_fit s → not a ≡ false → b ≡ clause_tests → not b ≡ false
      → c ≡ variables_fit s.bound.0 s.universals (kinds_in t s) (sets_in t s) → not c ≡ false → r ≡ rest_zero t s → r ≡ well_formed t s
  unfolding well_formed empty_told
  rest-decides p a q b w c r =
      let clauses = sym q ∙ not-false _ b in
      r ∙ every-last (counts_fit s ∷ ends_rise 0 (ends_in t s) s.literals ∷ clauses_fit s.formula.0 (kinds_in t s) (clauses_in t s)
      ∷ variables_fit s.bound.0 s.universals (kinds_in t s) (sets_in t s) ∷ empty_told s (clauses_in t s) ∷ []) (rest_zero t s)
      (sym p ∙ not-false _ a, (every-at _ clauses 0, (every-at _ clauses 1, (sym w ∙ not-false _ c, (every-at _ clauses 2, tt)))))
