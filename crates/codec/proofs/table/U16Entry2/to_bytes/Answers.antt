-- `codec::table::U16Entry2::to_bytes` meets its contract.
use Rattle.std.proofs.Common.{◌∙◌}
use Rattle.codec.proofs.Laws.Tables.{digits-of_2}
use Rattle.codec.proofs.table.U16Entry2.to_bytes.Goals as goal

pub returns : goal.returns
returns c = c.to_le_bytes.ensures ∙ digits-of_2 c.args.self
