use Rattle.sets.proofs.Laws.Four.{array-words, size-four, size_word}
use native.Mathlib.Omega.{arith}
use Rattle.sets.proofs.size.Goals as goal

pub overflow_add-result : goal.overflow_add-result
overflow_add-result c = let w = size_word c.args.s (array-words c.args.s _ c.well_formed.0) in omega (arith, w.0, w.1, w.2, w.3)

pub overflow_add-result-2 : goal.overflow_add-result-2
overflow_add-result-2 c = let w = size_word c.args.s (array-words c.args.s _ c.well_formed.0) in omega (arith, w.0, w.1, w.2, w.3)

pub overflow_add-result-3 : goal.overflow_add-result-3
overflow_add-result-3 c = let w = size_word c.args.s (array-words c.args.s _ c.well_formed.0) in omega (arith, w.0, w.1, w.2, w.3)

pub returns : goal.returns
returns c =
    let w = size_word c.args.s (array-words c.args.s _ c.well_formed.0) in
    (size-four c.args.s (array-words c.args.s _ c.well_formed.0), omega (arith, w.0, w.1, w.2, w.3))
