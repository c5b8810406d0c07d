use mathlib.Core.Path.{◌≡◌}
use Prim.Native.Nat.{◌-◌, ◌^◌}
use Rattle.deciding.specs.Deciding.{least_from}
use Rattle.family_bits.specs.Left.{is_left}
use Rattle.decider.proofs.first_left.Given as goal

abbrev pub invariant-loop-family : goal.invariant-loop-family
invariant-loop-family l = least_from l.family (2 ^ l.bits - l.family) (is_left l.left) ≡ least_from 0 (2 ^ l.bits) (is_left l.left)
