use mathlib.Core.Logic.{◌≢◌}
use Rattle.std.specs.List.{AllWithin}
use Rattle.clauses.proofs.tests.place_of.Given as goal

abbrev pub invariant-loop-i : goal.invariant-loop-i
invariant-loop-i l = AllWithin (λ x. x ≢ l.literal) l.clause 0 l.i
