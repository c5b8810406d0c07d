-- `family_bits::low_word` meets its contract.
use mathlib.Core.Path.{◌∙◌, ap}
use native.Mathlib.Omega.{arith}
use mir.Val.{bool_byte}
use Rattle.family_bits.specs.Left.{met}
use Rattle.family_bits.proofs.Laws.Left.{bit_small, packed_start, packed_more, packed-fits, packed-done}
use Rattle.family_bits.proofs.low_word.Goals as goal

pub loop-number-init : goal.loop-number-init
loop-number-init c = packed_start (met c.args.ones c.args.zeros)

pub overflow_mul-word : goal.overflow_mul-word
overflow_mul-word c = omega (arith, packed-fits c.loop-number.number (met c.args.ones c.args.zeros) (omega arith))

pub overflow_add-word : goal.overflow_add-word
overflow_add-word c = omega (arith, bit_small c.met.result, packed-fits c.loop-number.number (met c.args.ones c.args.zeros) (omega arith))

pub loop-number-preserved : goal.loop-number-preserved
loop-number-preserved c =
    let more = packed_more c.loop-number.number (met c.args.ones c.args.zeros) (omega arith) (omega arith) in
    let bit = c.from.ensures ∙ ap bool_byte c.met.ensures in
    omega arith

pub returns : goal.returns
returns c = packed-done c.loop-number.number (met c.args.ones c.args.zeros) (omega arith) c.loop-number.invariant
