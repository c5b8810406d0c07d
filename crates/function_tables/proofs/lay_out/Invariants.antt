use mathlib.Core.Path.{◌≡◌}
use Prim.Native.Nat.{suc, ◌*◌, ◌≤◌}
use Rattle.deciding.specs.Deciding.{offset}
use Rattle.tables.specs.FormulaEntries.{declarations}
use Rattle.function_tables.proofs.Laws.Layout.{Placed}
use Rattle.function_tables.proofs.lay_out.Given as goal

abbrev pub invariant-loop-i : goal.invariant-loop-i
invariant-loop-i l = (l.total ≤ 16 * l.i) × (l.total ≡ offset (declarations l.kinds l.sets) (suc l.i)) × Placed l.kinds l.sets l.offsets l.i
