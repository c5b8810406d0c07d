use mathlib.Core.Path.{◌≡◌}
use mathlib.Core.List.{[], ◌∷◌, ◌++◌}
use lib.Count.{count_trailing_zeros}
use Rattle.dqbf.specs.Literal.{pick}
use Rattle.clauses.proofs.Laws.Writing.{Writing}
use Rattle.clauses.proofs.writing.write_part.Given as goal

abbrev pub invariant-loop-at : goal.invariant-loop-at
invariant-loop-at l = (l.at ≡ count_trailing_zeros 32 l.rest) × Writing (pick l.mask l.clause ++ (l.new ∷ [])) l.initial.tail l.tail l.width (pick l.rest l.clause ++ (l.new ∷ []))

abbrev pub decreases-loop-at : goal.decreases-loop-at
decreases-loop-at l = l.rest
