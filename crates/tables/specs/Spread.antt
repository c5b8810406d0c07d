-- A model written into tables, and its state (document 01, "The four lent tables").
--     flat, ends_from        the clauses one behind the other, and their ends
--     kind_row, set_row       the entries of the variables in use
--     over                  a row at the front of a table
--     spread, state_of       tables and state of a model
--     blank, zero_state      the model and the state of a refused formula's tables, which are all 0
use Rattle.std.specs.Prelude.{List, [], ◌∷◌, ◌++◌, ℕ, ◌+◌, ◌-◌, ℤ, pos, length, drop, replicate}
use Rattle.dqbf.specs.Limits.{clause_limit, literal_limit, variable_limit}
use Rattle.dqbf.specs.Literal.{Clause, total}
use Rattle.dqbf.specs.Set.{Set}
use Rattle.dqbf.specs.Model.{Model, clauses, used, steps, universal_count, lowest_empty}
use Rattle.tables.specs.Tables.{Tables}
use Rattle.tables.specs.declared.State.{State}

-- the clauses, one behind the other
unfoldable pub flat : List Clause → List ℤ
flat [] = []
flat (C ∷ Cs) = C ++ flat Cs

-- the end of each clause, where the first starts at a place
unfoldable pub ends_from : ℕ → List Clause → List ℕ
ends_from from [] = []
ends_from from (C ∷ Cs) = (from + length C) ∷ ends_from (from + length C) Cs

unfoldable pub kind_row : Model → List ℕ
kind_row m = m.kinds ++ replicate (length m.forks) 3

unfoldable pub set_row : Model → List Set
set_row m = m.sets ++ m.forks

-- a row at the front of a table, zeros up to the table's size, and the entries past the size as they were
unfoldable pub over : {A : Type 0} → ℕ → A → List A → List A → List A
over size z row t = row ++ (replicate (size - length row) z ++ drop size t)

unfoldable pub spread : Model → Tables → Tables
spread m t = record {
  literals = over literal_limit (pos 0) (flat (clauses m)) t.literals;
  ends = over clause_limit 0 (ends_from 0 (clauses m)) t.ends;
  sets = over variable_limit 0 (set_row m) t.sets;
  spare = t.spare;
  kinds = over variable_limit 0 (kind_row m) t.kinds;
}

unfoldable pub state_of : Model → State
state_of m = record {
  bound = record { 0 = length m.kinds };
  variables = record { 0 = used m };
  universals = universal_count m;
  formula = record { 0 = length m.formula };
  clauses = record { 0 = length (clauses m) };
  literals = total (clauses m);
  steps = record { 0 = steps m };
  empty = record { 0 = lowest_empty m };
}

abbrev pub blank : Model
blank = record { kinds = []; sets = []; formula = []; forks = []; derived = [] }

abbrev pub zero_state : State
zero_state = record {
  bound = record { 0 = 0 };
  variables = record { 0 = 0 };
  universals = 0;
  formula = record { 0 = 0 };
  clauses = record { 0 = 0 };
  literals = 0;
  steps = record { 0 = 0 };
  empty = record { 0 = 0 };
}
