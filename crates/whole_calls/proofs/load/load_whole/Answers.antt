-- `whole_calls::load::load_whole` meets its contract.
use Rattle.std.proofs.Common.{refl, rules}
use Rattle.buffers.specs.Buffers.{buffers_of}
use Rattle.whole_calls.proofs.Laws.Told.{load-told}
use Rattle.whole_calls.proofs.load.load_whole.Goals as goal

pub returns : goal.returns
returns c =
    let a = c.args in
    let b = buffers_of a.literals.now a.ends.now a.sets.now a.kinds.now a.state.now in
    load-told b a.text.now c.requires.3 _ _ _ refl refl refl c.load-answer.ensures.after _ (search rules) c.write_tables.ensures.0 c.write_tables.ensures.1 c.write_tables.ensures.2
    c.write_state.ensures c.of_load.ensures
