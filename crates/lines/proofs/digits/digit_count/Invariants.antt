use Prim.Native.Nat.{◌≤◌}
use lib.ListN.{length}
use Rattle.dqbf.specs.Line.{digits_of}
use Rattle.lines.proofs.digits.digit_count.Given as goal

abbrev pub invariant-loop-count : goal.invariant-loop-count
invariant-loop-count l = l.count ≤ length (digits_of l.n)
