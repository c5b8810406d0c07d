-- `decider::words_for` meets its contract.
use Rattle.decider.proofs.Laws.Search.{enough-words}
use Rattle.decider.proofs.words_for.Goals as goal

pub returns : goal.returns
returns c = rw c.saturating_sub.ensures (enough-words c.args.bits c.requires)
