-- `buffers::write_tables` meets its contract.
use Rattle.std.proofs.Common.{◌∙◌, ap}
use Rattle.codec.specs.Bytes.{over}
use Rattle.codec.proofs.Laws.Tables.{literal_bytes-are, bytes-are_2, bytes-are_8}
use Rattle.buffers.proofs.Laws.{words-of-sets}
use Rattle.buffers.proofs.write_tables.Goals as goal

pub returns : goal.returns
returns c =
    let a = c.args in
    let words = words-of-sets a.sets.now c.requires.3 (λ i. (c.type_inv.sets i).fits) in (
      c.write_table.ensures ∙ ap (λ l. over l a.literal_bytes.now) (literal_bytes-are a.literals.now),
      c.write_table-2.ensures ∙ ap (λ l. over l a.end_bytes.now) (bytes-are_2 a.ends.now),
      rw (← words) (c.write_table-3.ensures ∙ ap (λ l. over l a.set_bytes.now) (bytes-are_8 a.sets.now)),
    )
