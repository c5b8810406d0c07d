-- `tables_test::growth::one_clause` meets its contract.
use mathlib.Core.Path.{sym, ◌∙◌}
use Rattle.tables.proofs.Laws.Adding.{room-is}
use Rattle.tables_test.proofs.growth.one_clause.Goals as goal

pub add_clause-requires : goal.add_clause-requires
add_clause-requires c =
    let full = rw c.from.ensures at c.is_full.ensures in
    (room-is _ _ _ _ (sym full ∙ c.if-is_full.false), c.if-tables-lt2048.false, c.if-tables-ge2048.false)
