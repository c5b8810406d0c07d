-- `digits::write_digit`: the digit is the quotient of what is left and the power.
use Prim.Native.Nat.{◌*◌}
use native.Mathlib.Omega.{arith}
use Rattle.dqbf.proofs.Laws.Digits.{digits-ten}
use Rattle.lines.proofs.Laws.Digits.{digit-done, reached-skip, grown-skip, reached-below, reached-room, reached-next, grown-next}
use Rattle.lines.proofs.digits.write_digit.Goals as goal

pub returns-then-n-power : goal.returns-then-n-power
returns-then-n-power c =
    let n = c.args.n in
    let p = c.args.power in
    (reached-skip n (10 * p) p (omega arith) c.if-n-power.true c.requires.2, grown-skip n (10 * p) p (omega arith) c.if-n-power.true)

pub digit_at-next-requires : goal.digit_at-next-requires
digit_at-next-requires c = reached-below c.args.n c.args.power c.requires.0 c.requires.2

pub overflow_add-out : goal.overflow_add-out
overflow_add-out c = omega (arith, c.digit_at-next.ensures.2)

pub bounds-out-begun : goal.bounds-out-begun
bounds-out-begun c =
    omega (arith, reached-room c.args.n c.args.power c.requires.0 c.requires.2, c.requires.1)

pub overflow_add-result : goal.overflow_add-result
overflow_add-result c =
    omega (arith, reached-room c.args.n c.args.power c.requires.0 c.requires.2, digits-ten c.args.n c.ranges.n.fits)

pub returns : goal.returns
returns c =
    let d = c.digit_at-next in
    let n = c.args.n in
    let p = c.args.power in
    let done = digit-done d.result.digit p d.result.rest c.args.begun.rest d.ensures.0 d.ensures.1 in (
      reached-next n p d.result.rest c.requires.0 c.if-n-power.false c.requires.2 done.1,
      grown-next n p d.result.digit c.requires.0 c.if-n-power.false c.requires.1 c.requires.2 done.0,
    )
