-- `digits::digit_count`: one digit, and one more for each power of ten that is at most the number.
use native.Mathlib.Nat.{le_antisymm}
use native.Mathlib.Omega.{arith}
use Rattle.dqbf.proofs.Laws.Digits.{digits-ten}
use Rattle.lines.proofs.Laws.Digits.{digits-some, digits-many, digits-most}
use Rattle.lines.proofs.digits.digit_count.Goals as goal

pub loop-count-init : goal.loop-count-init
loop-count-init c = omega (arith, digits-some c.args.n)

pub returns-then-n-power_of_ten : goal.returns-then-n-power_of_ten
returns-then-n-power_of_ten c =
    let p = c.power_of_ten in
    let l = c.loop-count in
    let n = c.args.n in
    le_antisymm l.invariant (digits-most l.count n (omega arith) (omega (arith, p.ensures, c.if-n-power_of_ten.true)))

pub loop-count-preserved : goal.loop-count-preserved
loop-count-preserved c =
    let p = c.power_of_ten in
    let l = c.loop-count in
    let n = c.args.n in
    omega (arith, digits-many l.count n (omega (arith, p.ensures, c.if-n-power_of_ten.false)))

pub returns : goal.returns
returns c = le_antisymm (omega (arith, c.loop-count.invariant, c.loop-count-test.false)) (digits-ten c.args.n c.ranges.n.fits)
