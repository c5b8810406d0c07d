-- `tables::entries::clause_end` meets its contract.
use Rattle.tables.proofs.Laws.Entries.{entry-none, entry-some}
use Rattle.tables.proofs.entries.clause_end.Goals as goal

pub returns-then-number-eq0 : goal.returns-then-number-eq0
returns-then-number-eq0 c = entry-none _ c.if-number-eq0.true

pub returns : goal.returns
returns c = entry-some _ _ c.if-number-eq0.false
