-- Offers `model_of`: the declarations that are laid out.
use Rattle.dqbf.specs.Model.{Model}
use Rattle.tables.specs.FormulaEntries.{declarations}
use Rattle.clause_masks.specs.declared.layout.Layout.{Layout}

abbrev pub model_of : Layout → Model
model_of l = declarations l.kinds.now l.sets.now
