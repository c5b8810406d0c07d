-- `clause_masks::keep_clauses` meets its contract.
use mathlib.Core.Path.{refl}
use native.Mathlib.Omega.{arith}
use Rattle.tables.proofs.Laws.FormulaEntries.{end-rises, end-between}
use Rattle.clause_masks.specs.Laid.{model_of}
use Rattle.clause_masks.proofs.Laws.Clauses.{over_first, over-rest, remains-start, remains-next, remains-done}
use Rattle.clause_masks.proofs.keep_clauses.Goals as goal

pub loop-last-init : goal.loop-last-init
loop-last-init c = (c.requires.0, c.requires.1, remains-start (model_of c.args.layout) c.args.literals.now c.args.ends.now _ c.args.left.now refl)

pub offset_bounds-literals-start : goal.offset_bounds-literals-start
offset_bounds-literals-start c =
    let between = end-between c.args.literals.now c.args.ends.now c.loop-last.start c.loop-last.last-index c.loop-last-test.true c.loop-last.invariant.0 in
    omega (arith, between.0, between.1, c.from-end.ensures)

pub slice_bounds-keep_clause-count : goal.slice_bounds-keep_clause-count
slice_bounds-keep_clause-count c =
    let between = end-between c.args.literals.now c.args.ends.now c.loop-last.start c.loop-last.last-index c.loop-last-test.true c.loop-last.invariant.0 in
    omega (arith, between.0, between.1, c.from-end.ensures)

pub slice_bounds-keep_clause-start : goal.slice_bounds-keep_clause-start
slice_bounds-keep_clause-start c =
    let between = end-between c.args.literals.now c.args.ends.now c.loop-last.start c.loop-last.last-index c.loop-last-test.true c.loop-last.invariant.0 in
    omega (arith, between.0, between.1, c.from-end.ensures)

pub slice_bounds-keep_clause-end : goal.slice_bounds-keep_clause-end
slice_bounds-keep_clause-end c =
    let between = end-between c.args.literals.now c.args.ends.now c.loop-last.start c.loop-last.last-index c.loop-last-test.true c.loop-last.invariant.0 in
    omega (arith, between.0, between.1, c.from-end.ensures)

pub keep_clause-requires : goal.keep_clause-requires
keep_clause-requires c =
    rw c.from-end.ensures (over_first c.args.literals.now c.args.ends.now c.loop-last.start c.loop-last.last-index (model_of c.args.layout) c.loop-last-test.true c.loop-last.invariant.1)

pub loop-last-preserved : goal.loop-last-preserved
loop-last-preserved c =
    let more = c.loop-last-test.true in
    let m = model_of c.args.layout in
    let literals = c.args.literals.now in
    let ends = c.args.ends.now in
    let from = c.loop-last.start in
    let i = c.loop-last.last-index in
    let kept = rw c.from-end.ensures at c.keep_clause.ensures in
    rw c.from-end.ensures (
      (end-rises literals ends from i more c.loop-last.invariant.0).1,
      over-rest literals ends from i m more c.loop-last.invariant.1,
      remains-next m literals ends _ c.args.left.now from i c.loop-last.left _ more c.loop-last.invariant.2 kept,
    )

pub returns : goal.returns
returns c =
    remains-done (model_of c.args.layout) c.args.literals.now c.args.ends.now _ c.args.left.now c.loop-last.start c.loop-last.last-index c.loop-last.left (omega arith) c.loop-last.invariant.2
