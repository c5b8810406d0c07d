-- `read_string`: what is read stays inside its buffer.
use Rattle.std.proofs.Common.{length, ◌≤◌}
use Rattle.packed.proofs.read_string.Given as goal

abbrev pub invariant-loop : goal.invariant-loop
invariant-loop g l = l.done ≤ length l.bytes
