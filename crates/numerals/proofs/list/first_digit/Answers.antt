use mathlib.Core.Path.{sym}
use borrow.Author.Tests.{ltb-true, ltb-false}
use Rattle.numerals.proofs.Laws.Listed.{digit-beyond, digit-here, digit-other}
use Rattle.numerals.proofs.list.first_digit.Goals as goal

pub returns-in_err-b : goal.returns-in_err-b
returns-in_err-b c = rw c.from_residual.ensures (digit-beyond c.args.line.now c.args.i (ltb-false _ _ (sym c.in_err-b.ensures.lookup.0)), tt)

pub returns-then-b : goal.returns-then-b
returns-then-b c =
    let byte = c.in_ok-b.ensures.lookup in
    let e = digit-here c.args.line.now c.args.i c.in_ok-b.field-0.now (ltb-true _ _ (sym byte.0)) byte.1 c.if-b.true in
    rw c.from.ensures e

pub returns-else-b : goal.returns-else-b
returns-else-b c =
    let byte = c.in_ok-b.ensures.lookup in
    (digit-other c.args.line.now c.args.i c.in_ok-b.field-0.now (ltb-true _ _ (sym byte.0)) byte.1 c.if-b.false, tt)
