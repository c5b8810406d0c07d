use Rattle.sets.proofs.Laws.Four.{single-four}
use Rattle.sets.proofs.single.Goals as goal

pub returns : goal.returns
returns c = single-four c.args.place c.requires
