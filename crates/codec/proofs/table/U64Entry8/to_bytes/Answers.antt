-- `codec::table::U64Entry8::to_bytes` meets its contract.
use Rattle.std.proofs.Common.{◌∙◌}
use Rattle.codec.proofs.Laws.Tables.{digits-of_8}
use Rattle.codec.proofs.table.U64Entry8.to_bytes.Goals as goal

pub returns : goal.returns
returns c = c.to_le_bytes.ensures ∙ digits-of_8 c.args.self
