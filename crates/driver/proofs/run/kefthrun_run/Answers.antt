-- `driver::run::kefthrun_run` meets its contract.
use Rattle.std.proofs.Common.{rules, sym, ◌∙◌}
use Rattle.exports.specs.Calls.{run_bytes}
use Rattle.buffers.specs.Buffers.{buffers_of}
use Rattle.refusals.proofs.Buffers.{run-bytes-same}
use Rattle.driver.proofs.run.kefthrun_run.Goals as goal

pub returns : goal.returns
unfolding run_bytes
returns c =
    let a = c.args in
    let b = buffers_of a.literals.now a.ends.now a.sets.now a.kinds.now a.state.now in
    run-bytes-same b a.records.now (record { literals = search rules; ends = search rules; sets = search rules; kinds = search rules; state = search rules }) (rw (sym c.is_whole.ensures ∙ c.if-not-is_whole.false) c.run_whole.ensures)
