-- `append_times`: what is appended so far stays inside its buffer.
use Rattle.std.proofs.Common.{length, ◌≤◌}
use Rattle.packed.proofs.append_times.Given as goal

abbrev pub invariant-loop : goal.invariant-loop
invariant-loop l = l.end ≤ length l.bytes
