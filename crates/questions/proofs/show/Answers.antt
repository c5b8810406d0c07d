-- `questions::show` meets its contract.
use mathlib.Core.Path.{refl}
use native.Mathlib.Omega.{arith}
use Rattle.questions.proofs.Laws.Outcomes.{shown-refused, clause-zero, clause-past, shown-unknown, range-asks, range-ordered, range_inside, shown-told}
use Rattle.questions.proofs.show.Goals as goal

pub returns-in_default : goal.returns-in_default
returns-in_default c = shown-refused _ _ _ c.in_default.ensures _ _ refl refl

pub returns-then-clause-eq0 : goal.returns-then-clause-eq0
returns-then-clause-eq0 c = shown-unknown _ _ _ c.in-Ok.ensures (clause-zero _ _ _ c.in-Ok.ensures c.if-clause-eq0.true) _ _ refl refl

pub returns-then-tables-clause : goal.returns-then-tables-clause
returns-then-tables-clause c = shown-unknown _ _ _ c.in-Ok.ensures (clause-past _ _ _ c.in-Ok.ensures c.if-tables-clause.true) _ _ refl refl

pub clause_range-range-requires : goal.clause_range-range-requires
clause_range-range-requires c = range-asks _ _ _ c.in-Ok.ensures c.if-clause-eq0.false c.if-tables-clause.false

pub offset_bounds-tables-range : goal.offset_bounds-tables-range
offset_bounds-tables-range c =
    let ordered = range-ordered _ _ _ c.in-Ok.ensures c.if-clause-eq0.false c.if-tables-clause.false _ _ c.clause_range-range.ensures.0 c.clause_range-range.ensures.1 in
    omega (arith, ordered, range_inside _ _ _ c.in-Ok.ensures c.if-clause-eq0.false c.if-tables-clause.false _ _ c.clause_range-range.ensures.0 c.clause_range-range.ensures.1, c.well_formed.0)

pub slice_bounds-result-count : goal.slice_bounds-result-count
slice_bounds-result-count c = range-ordered _ _ _ c.in-Ok.ensures c.if-clause-eq0.false c.if-tables-clause.false _ _ c.clause_range-range.ensures.0 c.clause_range-range.ensures.1

pub slice_bounds-result-start : goal.slice_bounds-result-start
slice_bounds-result-start c = range-ordered _ _ _ c.in-Ok.ensures c.if-clause-eq0.false c.if-tables-clause.false _ _ c.clause_range-range.ensures.0 c.clause_range-range.ensures.1

pub slice_bounds-result-end : goal.slice_bounds-result-end
slice_bounds-result-end c = range_inside _ _ _ c.in-Ok.ensures c.if-clause-eq0.false c.if-tables-clause.false _ _ c.clause_range-range.ensures.0 c.clause_range-range.ensures.1

pub returns : goal.returns
returns c = shown-told _ _ _ c.in-Ok.ensures c.if-clause-eq0.false c.if-tables-clause.false _ _ c.clause_range-range.ensures.0 c.clause_range-range.ensures.1 _ _ refl refl
