-- `tables::formed::is_new_bit` meets its contract.
use mathlib.Core.Path.{sym}
use Rattle.tables.proofs.Laws.Lent.{new-bit-wide, new-bit-told}
use Rattle.tables.proofs.formed.is_new_bit.Goals as goal

pub returns-then-size-ne1 : goal.returns-then-size-ne1
returns-then-size-ne1 c = sym (new-bit-wide _ _ _ c.size.ensures.0 c.if-size-ne1.true)

pub returns : goal.returns
returns c = new-bit-told _ _ _ c.size.ensures.0 c.if-size-ne1.false c.common.ensures c.is_empty.ensures
