use Rattle.sets.specs.Words.{words_each, as_set, as_sets}
use Rattle.prefix_lines.proofs.Laws.Rows.{Members}
use Rattle.prefix_lines.proofs.declarations.members_of.Given as goal

abbrev pub invariant-loop-variable : goal.invariant-loop-variable
invariant-loop-variable l = Members (as_sets words_each l.sets) l.kinds l.variables l.variable-index (as_set l.union)
