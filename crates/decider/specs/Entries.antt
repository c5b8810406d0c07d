-- The entries of a formula of at most 4 universals, as the code is given them.
use Rattle.std.specs.Prelude.{◌≡◌, List, [], ◌∷◌, ℕ, ◌≤◌, ℤ, length}
use Rattle.std.specs.Coded.{×_prop, le_prop}
use denote.Struct.Props.{props}
use Rattle.dqbf.specs.Limits.{small_universals}
use Rattle.dqbf.specs.Set.{Set}
use Rattle.dqbf.specs.Model.{universal_count}
use Rattle.tables.specs.Tables.{cut}
use Rattle.tables.specs.FormulaEntries.{declarations, Rises}
use Rattle.function_tables.specs.Layout.{SmallSets}
use Rattle.clause_masks.specs.Masking.{OverAll}

pub record SmallFormula (literals : List ℤ) (ends : List ℕ) (sets : List Set) (kinds : List ℕ) (universals : ℕ) : Type 0 where
  pub small : SmallSets kinds sets
  pub counted : universals ≡ universal_count (declarations kinds sets)
  pub few : universals ≤ small_universals
  pub rises : Rises 0 ends (length literals)
  pub over : OverAll (declarations kinds sets) (cut 0 ends literals)

-- It has one proof at most, so it may be a ghost field.
rises_prop : (from : ℕ) (ends : List ℕ) (n : ℕ) → IsProp (Rises from ends n)
unfolding Rises
rises_prop from [] n = le_prop
rises_prop from (end ∷ ends) n = ×_prop le_prop (rises_prop end ends n)

pub small_formula_prop : (literals : List ℤ) (ends : List ℕ) (sets : List Set) (kinds : List ℕ) (universals : ℕ) → IsProp (SmallFormula literals ends sets kinds universals)
small_formula_prop literals ends sets kinds universals = Prim.hlevel (rises_prop, props)
