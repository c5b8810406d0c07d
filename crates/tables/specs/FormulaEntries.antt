-- The entries of a formula in tables, as code that reads the formula part alone is given them: `kinds` and `sets` of the variables 1 to V, `ends` of the formula
-- clauses. What steps added stands behind them.
--     declarations     the model that has the declared variables and no clause
--     Rises            ends that never fall, from a place up to a length
--     Entries          what well-formed tables give
use Rattle.std.specs.Prelude.{◌≡◌, List, [], ◌∷◌, ℕ, ◌≤◌, ℤ, length}
use Rattle.dqbf.specs.Limits.{clause_limit, variable_limit, universal_limit}
use Rattle.dqbf.specs.Set.{Set}
use Rattle.dqbf.specs.Model.{Model, universals_in}
use Rattle.dqbf.specs.Spelled.{formula_in}

unfoldable pub declarations : List ℕ → List Set → Model
declarations kinds sets = formula_in kinds sets []

unfoldable pub Rises : ℕ → List ℕ → ℕ → Type 0
Rises from [] n = from ≤ n
Rises from (end ∷ ends) n = (from ≤ end) × Rises end ends n

pub record Entries (literals : List ℤ) (ends : List ℕ) (sets : List Set) (kinds : List ℕ) : Type 0 where
  pub rise : Rises 0 ends (length literals)
  pub few-clauses : length ends ≤ clause_limit
  pub even : length sets ≡ length kinds
  pub few-variables : length kinds ≤ variable_limit
  pub few-universals : universals_in kinds ≤ universal_limit
