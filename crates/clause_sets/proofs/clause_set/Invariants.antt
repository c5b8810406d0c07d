use mathlib.Core.Path.{◌≡◌}
use lib.ListN.{drop}
use Rattle.dqbf.specs.Set.{union}
use Rattle.sets.specs.Words.{words_each, as_set, as_sets}
use Rattle.clause_sets.specs.Sets.{clause_set_in}
use Rattle.clause_sets.proofs.clause_set.Given as goal

abbrev pub invariant-loop-l : goal.invariant-loop-l
invariant-loop-l l = clause_set_in (as_sets words_each l.sets) l.clause ≡ union (as_set l.set) (clause_set_in (as_sets words_each l.sets) (drop l.l-index l.clause))
