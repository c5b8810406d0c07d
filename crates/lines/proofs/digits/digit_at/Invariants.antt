use mathlib.Core.Path.{◌≡◌}
use Prim.Native.Nat.{◌+◌, ◌-◌, ◌*◌, ◌≤◌}
use Rattle.lines.proofs.digits.digit_at.Given as goal

abbrev pub invariant-loop-digit : goal.invariant-loop-digit
invariant-loop-digit l = (l.n ≡ l.digit * l.power + l.rest) × (l.digit ≤ 9)

abbrev pub decreases-loop-digit : goal.decreases-loop-digit
decreases-loop-digit l = 9 - l.digit
