-- `run::run` meets its contract.
use Rattle.std.proofs.lemmas.Result.{err_from_is_err_and}
use Rattle.steps.proofs.Laws.Calls.{run-unusable, holding, run_long, run_on}
use Rattle.steps.proofs.run.run.Goals as goal

pub returns-in_err-usable-clause-after : goal.returns-in_err-usable-clause-after
returns-in_err-usable-clause-after c =
    let p = err_from_is_err_and c.from_residual.result c.from_residual.ensures.1 in
    let refused = rw (c.view-lent.ensures.tables, c.view-lent.ensures.state) at c.in_err-usable.ensures in
    rw (p.1, p.2) (run-unusable _ _ _ refused)

pub returns-then-bytes-gt-RECORDS_LIMIT-clause-after : goal.returns-then-bytes-gt-RECORDS_LIMIT-clause-after
returns-then-bytes-gt-RECORDS_LIMIT-clause-after c =
    let usable = rw (c.view-lent.ensures.tables, c.view-lent.ensures.state) at c.in_ok-usable.ensures in
    rw c.into.ensures (run_long _ _ _ usable c.if-bytes-gt-RECORDS_LIMIT.true)

pub run_records-requires : goal.run_records-requires
run_records-requires c =
    let usable = rw (c.view-lent.ensures.tables, c.view-lent.ensures.state) at c.in_ok-usable.ensures in
    (holding _ _ c.args.bytes.now usable, c.if-bytes-gt-RECORDS_LIMIT.false)

pub returns-clause-after : goal.returns-clause-after
returns-clause-after c =
    let usable = rw (c.view-lent.ensures.tables, c.view-lent.ensures.state) at c.in_ok-usable.ensures in
    run_on _ _ _ usable c.if-bytes-gt-RECORDS_LIMIT.false c.run_records.ensures.after
