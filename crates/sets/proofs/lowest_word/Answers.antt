use Rattle.sets.proofs.Laws.Four.{low-none, low-all, low-some}
use Rattle.sets.proofs.lowest_word.Goals as goal

pub returns-then-count-from : goal.returns-then-count-from
returns-then-count-from c = low-none c.args.count c.args.from c.if-count-from.true

pub returns-then-left-ge64 : goal.returns-then-left-ge64
returns-then-left-ge64 c = low-all c.args.count c.args.from c.if-left-ge64.true

pub overflow_sub-result : goal.overflow_sub-result
overflow_sub-result c = (low-some c.args.count c.args.from c.if-left-ge64.false).0

pub returns : goal.returns
returns c = (low-some c.args.count c.args.from c.if-left-ge64.false).1
