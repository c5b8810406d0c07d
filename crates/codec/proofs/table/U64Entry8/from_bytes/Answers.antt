-- `codec::table::U64Entry8::from_bytes` meets its contract.
use Rattle.std.proofs.Common.{rules, ◌∙◌}
use Rattle.codec.proofs.Laws.Tables.{number-of_8}
use Rattle.codec.proofs.table.U64Entry8.from_bytes.Goals as goal

pub returns : goal.returns
returns c = c.from_le_bytes.ensures ∙ number-of_8 c.args.bytes (search rules)
