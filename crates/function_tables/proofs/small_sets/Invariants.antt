use Rattle.sets.specs.Words.{words_each, as_sets}
use Rattle.function_tables.proofs.Laws.Layout.{Copied}
use Rattle.function_tables.proofs.small_sets.Given as goal

abbrev pub invariant-loop-i : goal.invariant-loop-i
invariant-loop-i l = Copied (as_sets words_each l.sets) l.out l.i
