use Rattle.ranks.proofs.Laws.Ranks.{literal-plain, literal-minus-fits, literal-minus}
use Rattle.ranks.proofs.literals.literal_of.Goals as goal

pub returns-then-rank-eq0 : goal.returns-then-rank-eq0
returns-then-rank-eq0 c = literal-plain c.args.rank c.requires c.if-rank-eq0.true

pub overflow_sub-result : goal.overflow_sub-result
overflow_sub-result c = literal-minus-fits c.args.rank c.requires

pub returns-else-rank-eq0 : goal.returns-else-rank-eq0
returns-else-rank-eq0 c = literal-minus c.args.rank c.requires c.if-rank-eq0.false
