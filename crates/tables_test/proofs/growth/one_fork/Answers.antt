-- `tables_test::growth::one_fork` meets its contract.
use mathlib.Core.Path.{sym, ◌∙◌}
use Rattle.tables.proofs.Laws.Adding.{room-is}
use Rattle.tables.proofs.Laws.Lent.{words_long}
use Rattle.tables_test.proofs.growth.one_fork.Goals as goal

pub add_fork-requires : goal.add_fork-requires
add_fork-requires c =
    let full = rw (c.from.ensures, c.from-2.ensures) at c.is_full.ensures in
    (room-is _ _ _ _ (sym full ∙ c.if-is_full.false), c.if-tables-lt2048.false, words_long _ c.if-tables-lt2048-2.false, c.if-tables-lt512.false, c.if-tables-ge2048.false)
