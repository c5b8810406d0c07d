-- `buffers::read_tables` meets its contract.
use Rattle.std.proofs.Common.{◌∙◌}
use Rattle.codec.proofs.Laws.Tables.{entries-are, literals-are}
use Rattle.buffers.proofs.read_tables.Goals as goal

pub returns : goal.returns
returns c =
    (c.read_table.ensures ∙ literals-are _ _, c.read_table-2.ensures ∙ entries-are 2 _ _, c.read_table-3.ensures ∙ entries-are 8 _ _)
