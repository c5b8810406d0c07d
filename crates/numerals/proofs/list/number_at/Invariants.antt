use mathlib.Core.Path.{◌≡◌}
use Prim.Native.Nat.{◌<◌}
use lib.ListN.{drop}
use Rattle.numerals.proofs.Laws.Bytewise.{list_from}
use Rattle.numerals.proofs.Laws.Listed.{list_at}
use Rattle.numerals.proofs.list.number_at.Given as goal

abbrev pub invariant-loop-i : goal.invariant-loop-i
invariant-loop-i l = (0 < l.value) × (l.value < 100000) × (list_at l.signed l.line l.at ≡ list_from l.signed l.value l.minus (drop l.i l.line))
