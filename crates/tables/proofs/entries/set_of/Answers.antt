-- `tables::entries::set_of` meets its contract.
use Rattle.tables.proofs.Laws.Lent.{set-none, set-some, set_past, set-place}
use Rattle.tables.proofs.entries.set_of.Goals as goal

pub returns-then-number-eq0 : goal.returns-then-number-eq0
returns-then-number-eq0 c = set-none _ c.if-number-eq0.true

pub get-requires : goal.get-requires
get-requires c = set-place _ _ c.if-place-sets.true

pub returns-then-place-sets : goal.returns-then-place-sets
returns-then-place-sets c = set-some _ _ c.if-number-eq0.false c.get.ensures

pub returns : goal.returns
returns c = set_past _ _ c.if-number-eq0.false c.if-place-sets.false
