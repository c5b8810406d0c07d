use mathlib.Core.Path.{refl, sym, ◌∙◌}
use native.Mathlib.Omega.{arith}
use borrow.Author.Tests.{ltb-true, ltb-false}
use Rattle.tokens.proofs.Laws.Pieces.{before-block, before-pass}
use Rattle.tokens.proofs.text.half_with.Goals as goal

pub returns-then-block_has : goal.returns-then-block_has
returns-then-block_has c =
    let e = before-block c.args.b c.args.bytes.now c.args.i c.args.n c.requires.0 in
    let less = ltb-true _ _ (sym e ∙ sym c.block_has.ensures ∙ c.if-block_has.true) in (omega arith, refl, less)

pub returns-else-block_has : goal.returns-else-block_has
returns-else-block_has c =
    let b = before-block c.args.b c.args.bytes.now c.args.i c.args.n c.requires.0 in
    let e = before-pass c.args.b c.args.bytes.now c.args.i c.args.n (ltb-false _ _ (sym b ∙ sym c.block_has.ensures ∙ c.if-block_has.false)) in (omega arith, omega arith, omega arith)
