-- Sets of literals and clauses over the list of the variables' sets, as the table's words hold them.
-- The model's own (dqbf's specs/Model.antt) are these over `m.sets ++ m.forks` (proofs/Laws/Sets.antt).
-- Offers `set_in`, `clause_set_in`, `InUse`, `PartOf`.
use Rattle.std.specs.Prelude.{◌≡◌, List, [], ◌∷◌, ℕ, zero, suc, ◌<◌, ◌≤◌, ℤ, nat_abs, length, get_or}
use Rattle.dqbf.specs.Literal.{Clause, ◌∈◌}
use Rattle.dqbf.specs.Set.{Set, empty_set, union}
use Rattle.sets.specs.Words.{as_set}
use Rattle.clause_sets.specs.declared.Part.{Part}

-- the set of a variable
unfoldable pub set_in : List Set → ℕ → Set
set_in sets zero = empty_set
set_in sets (suc i) = get_or sets i empty_set

-- the set of a clause: the union over its literals
unfoldable pub clause_set_in : List Set → Clause → Set
clause_set_in sets [] = empty_set
clause_set_in sets (l ∷ C) = union (set_in sets (nat_abs l)) (clause_set_in sets C)

-- each literal's variable has a set
abbrev pub InUse : List Set → Clause → Type 0
InUse sets C = (l : ℤ) → l ∈ C → (0 < nat_abs l) × (nat_abs l ≤ length sets)

-- r has the number of literals of C and its set
pub record PartOf (sets : List Set) (C : Clause) (r : Part) : Type 0 where
  pub count : r.count ≡ length C
  pub set : as_set r.set ≡ clause_set_in sets C
