-- The state in bytes (document 01, "The four lent tables": "the state is its counts in the order above, 16 bits each").
-- Offers `counts`, `state_with` (of a list of counts), `state_in` and `state_bytes`.
use Rattle.std.specs.Prelude.{List, [], ◌∷◌, ℕ, get_or}
use Rattle.tables.specs.declared.State.{State}
use Rattle.codec.specs.Bytes.{entries, bytes_of}

-- V, variables in use, universals, formula clauses, clauses, literals, accepted steps, the lowest empty clause
unfoldable pub counts : State → List ℕ
counts s =
    s.bound.0 ∷ s.variables.0 ∷ s.universals ∷ s.formula.0 ∷ s.clauses.0 ∷ s.literals ∷ s.steps.0 ∷ s.empty.0 ∷ []

unfoldable pub state_with : List ℕ → State
state_with l = record {
  bound = record { 0 = get_or l 0 0 };
  variables = record { 0 = get_or l 1 0 };
  universals = get_or l 2 0;
  formula = record { 0 = get_or l 3 0 };
  clauses = record { 0 = get_or l 4 0 };
  literals = get_or l 5 0;
  steps = record { 0 = get_or l 6 0 };
  empty = record { 0 = get_or l 7 0 };
}

unfoldable pub state_in : List ℕ → State
state_in bytes = state_with (entries 2 8 bytes)

unfoldable pub state_bytes : State → List ℕ
state_bytes s = bytes_of 2 (counts s)
