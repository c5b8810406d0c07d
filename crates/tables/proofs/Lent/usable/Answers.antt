-- `Lent::usable` meets its contract.
use mathlib.Core.Path.{sym, ◌∙◌}
use Rattle.tables.proofs.Laws.Unusable.{unusable-short, unusable-ill, usable}
use Rattle.tables.proofs.Lent.usable.Goals as goal

pub returns-then-not-is_long : goal.returns-then-not-is_long
returns-then-not-is_long c = sym (unusable-short _ _ (sym c.is_long.ensures ∙ c.if-not-is_long.true))

pub is_well_formed-requires : goal.is_well_formed-requires
is_well_formed-requires c = sym c.is_long.ensures ∙ c.if-not-is_long.false

pub returns-then-not-is_well_formed : goal.returns-then-not-is_well_formed
returns-then-not-is_well_formed c = sym (unusable-ill _ _ (sym c.is_long.ensures ∙ c.if-not-is_long.false) (sym c.is_well_formed.ensures ∙ c.if-not-is_well_formed.true))

pub returns : goal.returns
returns c = sym (usable _ _ (sym c.is_long.ensures ∙ c.if-not-is_long.false) (sym c.is_well_formed.ensures ∙ c.if-not-is_well_formed.false))
