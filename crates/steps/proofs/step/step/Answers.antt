-- `step::step` meets its contract.
use Rattle.steps.proofs.Laws.Calls.{step-unusable, holding, step-examined}
use Rattle.steps.proofs.Laws.Decoded.{bytes-malformed, bytes-examined}
use Rattle.steps.proofs.step.step.Goals as goal

pub returns-in-Err-clause-after : goal.returns-in-Err-clause-after
returns-in-Err-clause-after c =
    let told = rw (c.view-lent.ensures.tables, c.view-lent.ensures.state, c.in-Err.is) at c.usable.ensures in
    step-unusable _ _ _ told

pub returns-in_default-decode-clause-after : goal.returns-in_default-decode-clause-after
returns-in_default-decode-clause-after c =
    let usable = rw (c.view-lent.ensures.tables, c.view-lent.ensures.state, c.in_default.is) at c.usable.ensures in
    step-examined _ _ c.args.bytes.now usable (bytes-malformed _ _ (holding _ _ c.args.bytes.now usable) _ c.decode.ensures c.in_default-decode.is)

pub examine-requires : goal.examine-requires
examine-requires c =
    let usable = rw (c.view-lent.ensures.tables, c.view-lent.ensures.state, c.in_default.is) at c.usable.ensures in
    holding _ _ c.args.bytes.now usable

pub returns-clause-after : goal.returns-clause-after
returns-clause-after c =
    let usable = rw (c.view-lent.ensures.tables, c.view-lent.ensures.state, c.in_default.is) at c.usable.ensures in
    step-examined _ _ c.args.bytes.now usable (bytes-examined _ _ (holding _ _ c.args.bytes.now usable) _ c.decode.ensures _ c.in-Some.is c.examine.ensures.after)
