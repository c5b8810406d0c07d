use mathlib.Core.Path.{◌≡◌}
use lib.ListN.{length}
use Rattle.formula_lines.proofs.Laws.Universals.{Listing}
use Rattle.formula_lines.proofs.universals.list_universals.Given as goal

abbrev pub invariant-loop-i : goal.invariant-loop-i
invariant-loop-i l = (length l.names ≡ length l.initial.names) × Listing l.kinds l.names l.count l.i
