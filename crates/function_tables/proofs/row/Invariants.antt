use mathlib.Core.Path.{◌≡◌}
use Prim.Native.Nat.{◌-◌, ◌^◌, ◌<◌}
use Rattle.function_tables.proofs.Laws.Layout.{row_above}
use Rattle.function_tables.proofs.row.Given as goal

abbrev pub invariant-loop-place : goal.invariant-loop-place
invariant-loop-place l = (l.row ≡ row_above l.places l.set l.setting l.place) × (l.row < 2 ^ (l.places - l.place))
