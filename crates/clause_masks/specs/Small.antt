-- Offers `SmallBits`: declared variables within the limits, and where their function tables start.
use Rattle.std.specs.Prelude.{◌≡◌, List, ℕ, ◌≤◌, length}
use Rattle.dqbf.specs.Limits.{small_universals, small_bits}
use Rattle.dqbf.specs.Set.{Set}
use Rattle.dqbf.specs.Model.{universal_count}
use Rattle.deciding.specs.Deciding.{total_bits}
use Rattle.tables.specs.FormulaEntries.{declarations}
use Rattle.function_tables.specs.Layout.{LaidOut}

pub record SmallBits (kinds : List ℕ) (sets : List Set) (offsets : List ℕ) (universals : ℕ) : Type 0 where
  pub even : length sets ≡ length kinds
  pub laid : LaidOut (declarations kinds sets) offsets
  pub few_bits : total_bits (declarations kinds sets) ≤ small_bits
  pub counted : universals ≡ universal_count (declarations kinds sets)
  pub few : universals ≤ small_universals
