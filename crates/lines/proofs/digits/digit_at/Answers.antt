-- `digits::digit_at`: the digit counts the subtractions.
use native.Mathlib.Omega.{arith}
use Rattle.lines.proofs.Laws.Digits.{digit-more, digit-nine}
use Rattle.lines.proofs.digits.digit_at.Goals as goal

pub loop-digit-init : goal.loop-digit-init
loop-digit-init c = (omega arith, omega arith)

pub loop-digit-preserved : goal.loop-digit-preserved
loop-digit-preserved c =
    let l = c.loop-digit in
    let a = c.args in
    (digit-more l.digit a.power l.rest a.n c.if-power-rest.true l.invariant.0, omega (arith, c.loop-digit-test.true))

pub returns-else-power-rest : goal.returns-else-power-rest
returns-else-power-rest c = let l = c.loop-digit in (l.invariant.0, c.if-power-rest.false, l.invariant.1)

pub returns-after-loop-digit : goal.returns-after-loop-digit
returns-after-loop-digit c =
    let l = c.loop-digit in
    (l.invariant.0, digit-nine l.digit c.args.power l.rest c.args.n (omega (arith, c.loop-digit-test.false)) l.invariant.1 l.invariant.0 c.requires, l.invariant.1)
