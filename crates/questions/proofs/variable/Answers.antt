-- `questions::variable` meets its contract.
use Rattle.std.proofs.lemmas.Result.{err_from_is_err_and}
use Rattle.questions.proofs.Laws.Outcomes.{variable-refused, variable-zero, variable-past, variable-told}
use Rattle.questions.proofs.variable.Goals as goal

pub returns-in_err-usable : goal.returns-in_err-usable
returns-in_err-usable c =
    let p = err_from_is_err_and c.from_residual.result c.from_residual.ensures.1 in
    rw (p.1, p.2) (variable-refused _ _ _ c.in_err-usable.ensures)

pub returns-then-number-eq0 : goal.returns-then-number-eq0
returns-then-number-eq0 c = variable-zero _ _ _ c.in_ok-usable.ensures c.if-number-eq0.true

pub returns-then-number-tables : goal.returns-then-number-tables
returns-then-number-tables c = variable-past _ _ _ c.in_ok-usable.ensures c.if-number-tables.true

pub returns : goal.returns
returns c = variable-told _ _ _ c.in_ok-usable.ensures c.if-number-eq0.false c.if-number-tables.false _ _ _ c.kind_of-kind.ensures c.set_of-set.ensures c.size-universals.ensures.0
