-- Clauses by number (document 01, "Numbers of refusal": 21).
-- Offers `is_unknown`, `Ranged` (a clause's range lies in the literals).
use Rattle.std.specs.Prelude.{Bool, ◌||◌, List, ℕ, ◌-◌, ◌≤◌, ◌<◌, eqb, ltb, ℤ, length}
use Rattle.dqbf.specs.Limits.{width_limit}
use Rattle.tables.specs.Tables.{entry}
use Rattle.tables.specs.declared.State.{State}

-- 21: a clause number is 0 or above the count
unfoldable pub is_unknown : State → ℕ → Bool
is_unknown s c = eqb c 0 || ltb s.clauses.0 c

-- a clause's range in the literals
pub record Ranged (literals : List ℤ) (ends : List ℕ) (c : ℕ) : Type 0 where
  pub some : 0 < c
  pub in-ends : c ≤ length ends
  pub rises : entry ends (c - 1) ≤ entry ends c
  pub in-literals : entry ends c ≤ length literals
  pub narrow : entry ends c - entry ends (c - 1) ≤ width_limit
