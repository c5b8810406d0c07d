-- `codec::table::I16Entry2::to_bytes` meets its contract.
use Rattle.codec.proofs.Laws.Tables.{bit_digits-of}
use Rattle.codec.proofs.table.I16Entry2.to_bytes.Goals as goal

pub returns : goal.returns
returns c = bit_digits-of c.args.self c.ranges.self c.to_le_bytes.ensures
