-- `each_case`: what is read stays inside its buffer.
use Rattle.std.proofs.Common.{length, ◌≤◌}
use Rattle.packed.proofs.each_case.Given as goal

abbrev pub invariant-loop : goal.invariant-loop
invariant-loop g l = goal.F-IsAlwaysCallable g l.visit × (l.text_length ≤ length l.text) × (l.records_length ≤ length l.records)
