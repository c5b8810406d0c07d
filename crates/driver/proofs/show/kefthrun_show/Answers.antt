-- `driver::show::kefthrun_show` meets its contract.
use Rattle.std.proofs.Common.{rules, sym, ◌∙◌}
use Rattle.buffers.specs.Buffers.{buffers_of}
use Rattle.driver.proofs.Laws.Outcomes.{show-told}
use Rattle.driver.proofs.show.kefthrun_show.Goals as goal

pub returns : goal.returns
returns c =
    let a = c.args in
    let told = c.with_tables.ensures in
    show-told (buffers_of a.literals.now a.ends.now a.sets.now a.kinds.now a.state.now) a.clause (sym c.is_whole.ensures ∙ c.if-not-is_whole.false) told.1 told.2 (search rules)
