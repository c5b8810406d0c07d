use mathlib.Core.Path.{refl, ◌∙◌}
use Prim.Native.Nat.{◌+◌}
use native.Mathlib.Omega.{arith}
use Rattle.tokens.proofs.Laws.Pieces.{line-at-inside}
use Rattle.forms_test.proofs.Laws.{counted}
use Rattle.dqbf.proofs.Laws.Parts.{part_length}
use Rattle.forms_test.proofs.write_lines.Goals as goal

pub loop-at-init : goal.loop-at-init
loop-at-init g c = (omega arith, refl)

pub overflow_add-end : goal.overflow_add-end
overflow_add-end g c = omega (arith, line-at-inside c.args.text.now c.loop-at.at c.line_length.result (omega arith) c.line_length.ensures)

pub slice_bounds-form-end : goal.slice_bounds-form-end
slice_bounds-form-end g c = omega (arith, line-at-inside c.args.text.now c.loop-at.at c.line_length.result (omega arith) c.line_length.ensures)

pub form-requires : goal.form-requires
form-requires g c =
    let h = line-at-inside c.args.text.now c.loop-at.at c.line_length.result (omega arith) c.line_length.ensures in
    let p = part_length c.args.text.now c.loop-at.at (c.loop-at.at + c.line_length.result) (omega arith) h in
    omega arith

pub write_shape-requires : goal.write_shape-requires
write_shape-requires g c = counted _ c.in-Some.shape _ c.in-Some.ensures

pub overflow_add-at : goal.overflow_add-at
overflow_add-at g c = omega (arith, line-at-inside c.args.text.now c.loop-at.at c.line_length.result (omega arith) c.line_length.ensures)

pub loop-at-preserved : goal.loop-at-preserved
loop-at-preserved g c = (omega (arith, line-at-inside c.args.text.now c.loop-at.at c.line_length.result (omega arith) c.line_length.ensures), c.form.auto.numbers ∙ c.loop-at.invariant.1)
