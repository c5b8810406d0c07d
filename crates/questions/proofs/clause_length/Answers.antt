-- `questions::clause_length` meets its contract.
use native.Mathlib.Omega.{arith}
use Rattle.std.proofs.lemmas.Result.{err_from_is_err_and}
use Rattle.questions.proofs.Laws.Outcomes.{length-refused, clause-zero, clause-past, length-unknown, range-asks, range-ordered, range-short, length-told}
use Rattle.questions.proofs.clause_length.Goals as goal

pub returns-in_err-usable : goal.returns-in_err-usable
returns-in_err-usable c =
    let p = err_from_is_err_and c.from_residual.result c.from_residual.ensures.1 in
    rw (p.1, p.2) (length-refused _ _ _ c.in_err-usable.ensures)

pub returns-then-clause-eq0 : goal.returns-then-clause-eq0
returns-then-clause-eq0 c = length-unknown _ _ _ c.in_ok-usable.ensures (clause-zero _ _ _ c.in_ok-usable.ensures c.if-clause-eq0.true)

pub returns-then-clause-tables : goal.returns-then-clause-tables
returns-then-clause-tables c = length-unknown _ _ _ c.in_ok-usable.ensures (clause-past _ _ _ c.in_ok-usable.ensures c.if-clause-tables.true)

pub clause_range-range-requires : goal.clause_range-range-requires
clause_range-range-requires c = range-asks _ _ _ c.in_ok-usable.ensures c.if-clause-eq0.false c.if-clause-tables.false

pub overflow_sub-result : goal.overflow_sub-result
overflow_sub-result c = range-ordered _ _ _ c.in_ok-usable.ensures c.if-clause-eq0.false c.if-clause-tables.false _ _ c.clause_range-range.ensures.0 c.clause_range-range.ensures.1

pub overflow_cast-result : goal.overflow_cast-result
overflow_cast-result c = omega (arith, range-short _ _ _ c.in_ok-usable.ensures c.if-clause-eq0.false c.if-clause-tables.false _ _ c.clause_range-range.ensures.0 c.clause_range-range.ensures.1)

pub returns : goal.returns
returns c = length-told _ _ _ c.in_ok-usable.ensures c.if-clause-eq0.false c.if-clause-tables.false _ _ c.clause_range-range.ensures.0 c.clause_range-range.ensures.1
