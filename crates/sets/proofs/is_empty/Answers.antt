use mathlib.Core.Path.{◌∙◌}
use Rattle.sets.proofs.Laws.Four.{array-words, none-four}
use Rattle.sets.proofs.is_empty.Goals as goal

pub returns : goal.returns
returns c = c.eq.ensures ∙ none-four c.args.s (array-words c.args.s _ c.well_formed.0)
