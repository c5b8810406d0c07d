-- `tables::entries::kind_of` meets its contract.
use Rattle.tables.proofs.Laws.Entries.{entry-none, entry-some, entry_past}
use Rattle.tables.proofs.entries.kind_of.Goals as goal

pub returns-then-number-eq0 : goal.returns-then-number-eq0
returns-then-number-eq0 c = entry-none _ c.if-number-eq0.true

pub returns-then-place-kinds : goal.returns-then-place-kinds
returns-then-place-kinds c = entry-some _ _ c.if-number-eq0.false

pub returns-else-place-kinds : goal.returns-else-place-kinds
returns-else-place-kinds c = entry_past _ _ c.if-number-eq0.false c.if-place-kinds.false
