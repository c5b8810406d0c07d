-- `clause_masks::keep_clause` meets its contract.
use native.Mathlib.Omega.{arith}
use Rattle.function_tables.proofs.Laws.Layout.{shifted}
use Rattle.clause_masks.specs.Laid.{model_of}
use Rattle.clause_masks.proofs.Laws.Clauses.{below-start, below-always, below-met, below-done}
use Rattle.clause_masks.proofs.keep_clause.Goals as goal
use Rattle.clause_masks.proofs.keep_clause.Goals.{in-Some, in_default}

pub loop-setting-init : goal.loop-setting-init
loop-setting-init c = below-start (model_of c.args.layout) c.args.clause.now c.args.left.now

pub loop-setting-preserved : goal.loop-setting-preserved
loop-setting-preserved c =
    let m = model_of c.args.layout in
    elim c.match-masks_of.branch [
      | in-Some w ↦ rw w.left-is (below-met m c.args.clause.now c.loop-setting.setting c.loop-setting.invariant w.in-Some.masks w.in-Some.ensures w.keep.ensures)
      | in_default w ↦ rw w.left-is (below-always m c.args.clause.now c.loop-setting.setting c.loop-setting.invariant w.in_default.ensures)
    ]

pub returns : goal.returns
returns c =
    let small = c.args.layout.small in
    let settings = shifted c.args.layout.universals small.few in
    below-done (model_of c.args.layout) c.args.clause.now c.loop-setting.setting c.args.layout.universals c.loop-setting.invariant (omega arith) small.counted
