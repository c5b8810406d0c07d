-- `formula_lines::clauses::write_clauses` meets its contract.
use mathlib.Core.Path.{refl, ◌∙◌}
use native.Mathlib.Omega.{arith}
use Rattle.formula_lines.proofs.Laws.Clauses.{end-rises, end-between, clauses-fit, clauses-next, clauses-done}
use Rattle.words.proofs.Laws.Laid.{writing_start}
use Rattle.formula_lines.proofs.clauses.write_clauses.Goals as goal

pub loop-end-init : goal.loop-end-init
loop-end-init c = record { rises = c.requires.1; loan = refl; writing = writing_start _ _ _ }

pub overflow_cast-end : goal.overflow_cast-end
overflow_cast-end c = omega (arith, c.type_inv.ends c.loop-end.end-index)

pub offset_bounds-literals-start : goal.offset_bounds-literals-start
offset_bounds-literals-start c =
    let r = end-between c.args.literals.now _ _ _ c.loop-end-test.true c.loop-end.invariant.rises in
    omega (arith, r.0, r.1)

pub slice_bounds-write_clause-count : goal.slice_bounds-write_clause-count
slice_bounds-write_clause-count c =
    let r = end-between c.args.literals.now _ _ _ c.loop-end-test.true c.loop-end.invariant.rises in
    omega (arith, r.0, r.1)

pub slice_bounds-write_clause-start : goal.slice_bounds-write_clause-start
slice_bounds-write_clause-start c =
    let r = end-between c.args.literals.now _ _ _ c.loop-end-test.true c.loop-end.invariant.rises in
    omega (arith, r.0, r.1)

pub slice_bounds-write_clause-end : goal.slice_bounds-write_clause-end
slice_bounds-write_clause-end c =
    let r = end-between c.args.literals.now _ _ _ c.loop-end-test.true c.loop-end.invariant.rises in
    omega (arith, r.0, r.1)

pub write_clause-requires : goal.write_clause-requires
write_clause-requires c =
    clauses-fit _ _ _ _ c.loop-end.invariant.writing c.loop-end-test.true c.requires.0

pub loop-end-preserved : goal.loop-end-preserved
loop-end-preserved c =
    let inside = c.loop-end-test.true in
    record {
      rises = (end-rises c.args.literals.now _ _ _ inside c.loop-end.invariant.rises).1;
      loan = c.write_clause.ensures.loan ∙ c.loop-end.invariant.loan;
      writing = clauses-next _ _ _ _ c.loop-end.invariant.writing inside c.write_clause.ensures.wrote;
    }

pub returns-clause-wrote : goal.returns-clause-wrote
returns-clause-wrote c = clauses-done _ _ _ _ c.loop-end.invariant.writing c.loop-end-test.false
