-- The refusals that every call on tables gives first (document 01, "Numbers of refusal": "1 before all").
use Rattle.std.specs.Prelude.{not, List, [], ◌∷◌}
use Rattle.std.proofs.Math.Option.{Option, none, some}
use Rattle.dqbf.specs.Refusal.{Refusal, refusal, Test, ◌when◌, first}
use Rattle.tables.specs.declared.State.{State}
use Rattle.tables.specs.Tables.{Tables}
use Rattle.tables.specs.WellFormed.{long, well_formed}

-- 1: a table is lent too short; 2: tables not well formed
unfoldable pub table_tests : Tables → State → List Test
table_tests t s = (refusal 1 when not (long t)) ∷ (refusal 2 when not (well_formed t s)) ∷ []

unfoldable pub unusable : Tables → State → Option Refusal
unusable t s = first (table_tests t s)

-- an answer, unless a refusal comes first
unfoldable pub unless_refused : {A : Type 0} → Option Refusal → (Refusal → A) → A → A
unless_refused none refused a = a
unless_refused (some r) refused a = refused r
