-- `codec::table::read_table` meets its contract.
use Rattle.std.proofs.Common.{refl, ◌<◌, ◌/◌, length}
use Rattle.codec.proofs.Laws.Tables.{in-chunks, read-more, read-end}
use Rattle.codec.proofs.table.read_table.Goals as goal

pub loop-i-init : goal.loop-i-init
loop-i-init g c = refl

pub loop-i-preserved : goal.loop-i-preserved
loop-i-preserved g c =
    let l = c.loop-i in
    let n = length c.args.bytes.now / g.row.N in
    let inside : l.i < n = in-chunks g.T.Entry.decode g.row.N l.i (length c.args.table.now) (length c.args.bytes.now) g.met.T.Entry.wide.0 c.loop-i-test.true c.requires in
    read-more g.T.Entry.decode g.row.N l.table c.args.table.now c.args.bytes.now n l.i {chunk = c.index-chunks-i.result} {x = c.from_bytes.result} c.loop-i-test.true inside l.invariant (rw c.as_chunks.ensures.front at c.index-chunks-i.is) c.from_bytes.ensures

pub returns : goal.returns
returns g c = read-end g.T.Entry.decode g.row.N c.loop-i.table c.args.table.now c.args.bytes.now c.loop-i.i c.loop-i.auto.i-end c.loop-i-test.false c.loop-i.invariant
