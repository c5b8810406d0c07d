use mathlib.Core.Path.{◌≡◌}
use Prim.Native.Nat.{◌-◌, ◌*◌, ◌≤◌}
use lib.ListN.{length, take}
use Rattle.numerals.proofs.Laws.Listed.{list_at}
use Rattle.numerals.proofs.Laws.Gathering.{behind}
use Rattle.numerals.proofs.list.gather.Given as goal

abbrev pub invariant-loop-at : goal.invariant-loop-at
invariant-loop-at l = (l.at ≤ length l.line) × (2 * l.n ≤ l.at) × (length l.numbers ≡ length l.initial.numbers) × (list_at l.signed l.line l.i ≡ behind (take l.n l.numbers) (list_at l.signed l.line l.at))

abbrev pub decreases-loop-at : goal.decreases-loop-at
decreases-loop-at l = length l.line - l.at
