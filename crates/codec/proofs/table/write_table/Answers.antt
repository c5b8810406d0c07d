-- `codec::table::write_table` meets its contract.
use Rattle.std.proofs.Common.{◌∙◌}
use Rattle.codec.proofs.Laws.Tables.{write-start, write-more, write-end}
use Rattle.codec.proofs.table.write_table.Goals as goal

pub loop-i-init : goal.loop-i-init
loop-i-init g c = write-start g.T.Entry.encode g.row.N g.met.T.Entry.exact c.args.bytes.now c.args.table.now

pub loop-i-preserved : goal.loop-i-preserved
loop-i-preserved g c =
    write-more g.T.Entry.encode g.row.N g.met.T.Entry.exact c.loop-i.bytes c.args.bytes.now c.args.table.now c.loop-i.i c.index-table-i.result c.loop-i-test.true c.index-table-i.is c.loop-i.invariant (c.copy_from_slice.ensures.after ∙ c.to_bytes.ensures)

pub returns : goal.returns
returns g c = write-end g.T.Entry.encode g.row.N g.met.T.Entry.exact c.loop-i.bytes c.args.bytes.now c.args.table.now c.loop-i.i c.loop-i-test.false c.loop-i.invariant
