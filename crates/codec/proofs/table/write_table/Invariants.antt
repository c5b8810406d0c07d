use Rattle.std.proofs.Common.{◌≡◌, take}
use Rattle.codec.specs.Bytes.{over}
use Rattle.codec.specs.Tables.{table_bytes}
use Rattle.codec.proofs.table.write_table.Given as goal

abbrev pub invariant-loop-i : goal.invariant-loop-i
invariant-loop-i g l = l.bytes ≡ over (table_bytes g.T.Entry.encode (take l.i l.table)) l.initial.bytes
