use mathlib.Core.Path.{◌≡◌}
use Prim.Native.Nat.{◌≤◌}
use lib.Count.{count_trailing_zeros}
use lib.ListN.{length}
use Rattle.dqbf.specs.Literal.{pick}
use Rattle.sets.specs.Words.{words_each, as_set, as_sets}
use Rattle.clause_sets.proofs.Laws.Sets.{Measuring}
use Rattle.clause_sets.proofs.measure_part.Given as goal

abbrev pub invariant-loop-at : goal.invariant-loop-at
invariant-loop-at l = (l.at ≡ count_trailing_zeros 32 l.rest) × (length (pick l.mask l.clause) ≤ length l.clause) × Measuring (as_sets words_each l.sets) (pick l.mask l.clause) l.count (as_set l.set) (pick l.rest l.clause)

abbrev pub decreases-loop-at : goal.decreases-loop-at
decreases-loop-at l = l.rest
