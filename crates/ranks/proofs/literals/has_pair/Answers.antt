use Rattle.ranks.proofs.Laws.Ranks.{pair-more, pair-done}
use Rattle.ranks.proofs.literals.has_pair.Goals as goal

pub loop-i-preserved : goal.loop-i-preserved
loop-i-preserved c = let l = c.loop-i in pair-more c.args.ranks.now l.i l.found l.auto.i l.invariant c.loop-i-test.true

pub returns : goal.returns
returns c = let l = c.loop-i in pair-done c.args.ranks.now l.i l.found l.auto.i l.invariant c.loop-i-test.false
