use Prim.Native.Nat.{◌/◌}
use Rattle.family_bits.proofs.Laws.Left.{Passed}
use Rattle.family_bits.proofs.keep.Given as goal

abbrev pub invariant-loop-place : goal.invariant-loop-place
invariant-loop-place l = Passed (l.ones / 64) (l.zeros / 64) l.low l.initial.left l.left l.place
