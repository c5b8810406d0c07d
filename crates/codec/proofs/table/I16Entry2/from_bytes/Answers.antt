-- `codec::table::I16Entry2::from_bytes` meets its contract.
use Rattle.std.proofs.Common.{rules, ◌∙◌}
use Rattle.codec.proofs.Laws.Tables.{number-of_2, signed_number-made}
use Rattle.codec.proofs.table.I16Entry2.from_bytes.Goals as goal

pub returns : goal.returns
returns c = signed_number-made c.args.bytes (search rules) c.signed_of.ensures (c.from_le_bytes.ensures ∙ number-of_2 c.args.bytes (search rules))
