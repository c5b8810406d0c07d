-- `decider::decide` meets its contract.
use Rattle.std.proofs.lemmas.Result.{err_from_is_err_and}
use Rattle.decider.proofs.Laws.Outcomes.{decide-refused, formed-asks, decide-told}
use Rattle.decider.proofs.decide.Goals as goal

pub returns-in_err-usable : goal.returns-in_err-usable
returns-in_err-usable c =
    let p = err_from_is_err_and c.from_residual.result c.from_residual.ensures.1 in
    rw (p.1, p.2) (decide-refused _ _ c.in_err-usable.ensures)

pub decide_formed-requires : goal.decide_formed-requires
decide_formed-requires c = formed-asks _ _ c.in_ok-usable.ensures

pub returns : goal.returns
returns c = decide-told _ _ c.in_ok-usable.ensures c.decide_formed.ensures
