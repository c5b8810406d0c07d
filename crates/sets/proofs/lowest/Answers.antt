use Rattle.sets.proofs.Laws.Four.{lowest-four}
use Rattle.sets.proofs.lowest.Goals as goal

pub returns : goal.returns
returns c =
    lowest-four c.args.count c.requires c.lowest_word-first.ensures c.lowest_word-second.ensures c.lowest_word-third.ensures c.lowest_word-fourth.ensures
