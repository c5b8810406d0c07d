-- What adding a clause, a variable or a step does to the tables and the state (document 01, "A new clause is written into the literals behind the last used one").
--     stored                    entries stored into a table
--     lowest_after               the lowest empty clause
--     clause_ended, variable_added, step_counted, formula_counted      the state
--     with_formula               a model with one more formula clause, for the reader
--     full, RoomFor             whether so many more fit
--     Added                     tables and state after an addition
use Rattle.std.specs.Prelude.{◌≡◌, Bool, cond, ◌&&◌, ◌||◌, List, [], ◌∷◌, ◌++◌, ℕ, ◌+◌, ◌≤◌, eqb, ltb, length, take, drop}
use Rattle.dqbf.specs.Limits.{clause_limit, literal_limit, variable_limit}
use Rattle.dqbf.specs.Literal.{Clause}
use Rattle.dqbf.specs.Model.{Model}
use Rattle.dqbf.specs.Rules.{Addition, add}
use Rattle.tables.specs.Tables.{Tables, model_in}
use Rattle.tables.specs.Spread.{spread, state_of}
use Rattle.tables.specs.declared.State.{State}

-- a table with entries stored from a place on
unfoldable pub stored : {A : Type 0} → List A → ℕ → List A → List A
stored t place entries = take place t ++ (entries ++ drop (length entries) (drop place t))

-- the lowest empty clause, after a clause with a number and a width was added
unfoldable pub lowest_after : ℕ → ℕ → ℕ → ℕ
lowest_after lowest number width = cond (eqb lowest 0 && eqb width 0) number lowest

-- one more clause of so many literals
unfoldable pub clause_ended : State → ℕ → State
clause_ended s width = record {
  bound = s.bound;
  variables = s.variables;
  universals = s.universals;
  formula = s.formula;
  clauses = record { 0 = s.clauses.0 + 1 };
  literals = s.literals + width;
  steps = s.steps;
  empty = record { 0 = lowest_after s.empty.0 (s.clauses.0 + 1) width };
}

-- one more variable in use
unfoldable pub variable_added : State → State
variable_added s = record {
  bound = s.bound;
  variables = record { 0 = s.variables.0 + 1 };
  universals = s.universals;
  formula = s.formula;
  clauses = s.clauses;
  literals = s.literals;
  steps = s.steps;
  empty = s.empty;
}

-- one more accepted step
unfoldable pub step_counted : State → State
step_counted s = record {
  bound = s.bound;
  variables = s.variables;
  universals = s.universals;
  formula = s.formula;
  clauses = s.clauses;
  literals = s.literals;
  steps = record { 0 = s.steps.0 + 1 };
  empty = s.empty;
}

-- one more clause is a formula clause
unfoldable pub formula_counted : State → State
formula_counted s = record {
  bound = s.bound;
  variables = s.variables;
  universals = s.universals;
  formula = record { 0 = s.formula.0 + 1 };
  clauses = s.clauses;
  literals = s.literals;
  steps = s.steps;
  empty = s.empty;
}

unfoldable pub with_formula : Model → Clause → Model
with_formula m C = record { kinds = m.kinds; sets = m.sets; formula = m.formula ++ (C ∷ []); forks = m.forks; derived = m.derived }

-- ---- number 25: so many clauses, literals and variables more would not fit

unfoldable pub full : State → (clauses literals variables : ℕ) → Bool
full s clauses literals variables =
    ltb clause_limit (s.clauses.0 + clauses) || ltb literal_limit (s.literals + literals) || ltb variable_limit (s.variables.0 + variables)

pub record RoomFor (s : State) (clauses literals variables : ℕ) : Type 0 where
  pub clauses-fit : s.clauses.0 + clauses ≤ clause_limit
  pub literals-fit : s.literals + literals ≤ literal_limit
  pub variables-fit : s.variables.0 + variables ≤ variable_limit

-- tables and state after an addition to those that hold a model
pub record Added (t : Tables) (s : State) (a : Addition) (t' : Tables) (s' : State) : Type 0 where
  pub tables : t' ≡ spread (add (model_in t s) a) t
  pub state : s' ≡ state_of (add (model_in t s) a)
