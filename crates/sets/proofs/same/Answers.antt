use Rattle.sets.proofs.Laws.Four.{array-words, same-four}
use Rattle.sets.proofs.same.Goals as goal

pub returns : goal.returns
returns c = same-four c.args.s c.args.t (array-words c.args.s _ c.well_formed.0) (array-words c.args.t _ c.well_formed.1.0)
