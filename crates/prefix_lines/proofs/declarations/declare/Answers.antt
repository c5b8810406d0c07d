use Rattle.prefix_lines.proofs.Laws.Rows.{declared-above, declared-twice, declared-new}
use Rattle.prefix_lines.proofs.declarations.declare.Goals as goal

pub returns-then-variable-tables-clause-declared : goal.returns-then-variable-tables-clause-declared
returns-then-variable-tables-clause-declared c = declared-above _ _ _ _ _ _ c.if-variable-tables.true

pub returns-then-tables-place-ne-UNDECLARED-clause-declared : goal.returns-then-tables-place-ne-UNDECLARED-clause-declared
returns-then-tables-place-ne-UNDECLARED-clause-declared c = declared-twice _ _ _ _ _ _ c.if-tables-place-ne-UNDECLARED.true

pub returns-clause-declared : goal.returns-clause-declared
returns-clause-declared c = declared-new _ _ _ _ _ _ c.if-variable-tables.false c.if-tables-place-ne-UNDECLARED.false c.put.ensures.0
