-- The declared variables and the clauses of a formula (dqbf's specs/Spelled.antt) as the code goes through them: the universals are listed once, and their sets
-- are looked up by their numbers.
--     declarations             the model that has the declared variables and no clause
--     universal_names           the universals, ascending
--     is_in, members_in          whether the set of one of some universals is inside a set; those of them for which it is
--     is_with, universal_with    whether a universal has a set; the one of some universals that has it, 0 if none has
--     declared_from             n of them, by place
--     Rises                    ends that never fall, from a place up to a length
use Rattle.std.specs.Prelude.{Bool, List, [], ◌∷◌, ℕ, zero, suc, ◌≤◌, eqb}
use Rattle.dqbf.specs.Set.{Set, single, inside}
use Rattle.dqbf.specs.Model.{Model}
use Rattle.dqbf.specs.Spelled.{formula_in, select, first_of, variables, is_universal}
use Rattle.tables.specs.Tables.{entry}

-- ---- the declared variables

unfoldable pub declarations : List ℕ → List Set → Model
declarations kinds sets = formula_in kinds sets []

unfoldable pub universal_names : List ℕ → List ℕ
universal_names kinds = let m = declarations kinds [] in select (is_universal m) (variables m)

unfoldable pub is_in : List Set → Set → ℕ → Bool
is_in sets s x = inside (entry sets x) s

unfoldable pub members_in : List ℕ → List Set → Set → List ℕ
members_in names sets s = select (is_in sets s) names

unfoldable pub is_with : List Set → Set → ℕ → Bool
is_with sets s x = eqb (entry sets x) s

unfoldable pub universal_with : List ℕ → List Set → Set → ℕ
universal_with names sets s = first_of (is_with sets s) names

unfoldable pub declared_from : List ℕ → List Set → ℕ → ℕ → List ℕ
declared_from names sets i zero = []
declared_from names sets i (suc n) = universal_with names sets (single i) ∷ declared_from names sets (suc i) n

-- ---- the clauses

unfoldable pub Rises : ℕ → List ℕ → ℕ → Type 0
Rises from [] n = from ≤ n
Rises from (end ∷ ends) n = (from ≤ end) × Rises end ends n
