-- How the code lays function tables out (deciding's specs/Deciding.antt: `table_bits`, `offset`, `total_bits`), over at most 4 universals.
--     AllSmall      sets over the lowest 4 places
--     SmallSets     such a set for each kind
--     LaidOut       where the variables' tables start
use Rattle.std.specs.Prelude.{◌≡◌, List, ℕ, suc, ◌^◌, ◌≤◌, ◌<◌, length, get_or}
use Rattle.dqbf.specs.Limits.{variable_limit, small_universals}
use Rattle.dqbf.specs.Set.{Set}
use Rattle.dqbf.specs.Model.{Model}
use Rattle.deciding.specs.Deciding.{offset}

abbrev pub AllSmall : List Set → Type 0
AllSmall sets = (i : ℕ) → get_or sets i 0 < 2 ^ small_universals

pub record SmallSets (kinds : List ℕ) (sets : List Set) : Type 0 where
  pub even : length sets ≡ length kinds
  pub few : length kinds ≤ variable_limit
  pub small : AllSmall sets

pub record LaidOut (m : Model) (offsets : List ℕ) : Type 0 where
  pub room : length m.kinds ≤ length offsets
  pub at : (i : ℕ) → i < length m.kinds → get_or offsets i 0 ≡ offset m (suc i)
