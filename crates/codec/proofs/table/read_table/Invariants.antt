use Rattle.std.proofs.Common.{◌≡◌, ◌++◌, length, take, drop}
use Rattle.codec.specs.Tables.{table_in}
use Rattle.codec.proofs.table.read_table.Given as goal

abbrev pub invariant-loop-i : goal.invariant-loop-i
invariant-loop-i g l = l.table ≡ take l.i (table_in g.T.Entry.decode g.row.N (length l.initial.table) l.bytes) ++ drop l.i l.initial.table
