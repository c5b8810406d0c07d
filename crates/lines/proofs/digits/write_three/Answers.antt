-- `digits::write_three`: one digit behind the other.
use Prim.Native.Nat.{◌*◌}
use native.Mathlib.Omega.{arith}
use Rattle.lines.proofs.Laws.Digits.{reached-skip, grown-skip, grown-then}
use Rattle.lines.proofs.digits.write_three.Goals as goal

pub returns-then-n-low : goal.returns-then-n-low
returns-then-n-low c =
    let n = c.args.n in
    let high = c.args.high in
    let low = c.args.low in
    (reached-skip n (10 * high) low (omega arith) c.if-n-low.true c.requires.4, grown-skip n (10 * high) low (omega arith) c.if-n-low.true)

pub write_digit-second-requires : goal.write_digit-second-requires
write_digit-second-requires c =
    let w = c.write_digit-first in
    (omega arith, omega (arith, w.auto.out, c.requires.3), rw c.requires.2 at w.ensures.0)

pub write_digit-requires : goal.write_digit-requires
write_digit-requires c =
    let w = c.write_digit-second in
    (c.requires.0, omega (arith, w.auto.out, c.write_digit-first.auto.out, c.requires.3), rw c.requires.1 at w.ensures.0)

pub returns : goal.returns
returns c =
    let n = c.args.n in
    let high = c.args.high in
    let middle = c.args.middle in
    let low = c.args.low in (
      c.write_digit.ensures.0,
      grown-then n (10 * high) middle (10 * low) low c.requires.1
          (grown-then n (10 * high) high (10 * middle) middle c.requires.2 c.write_digit-first.ensures.1 c.write_digit-second.ensures.1)
          c.write_digit.ensures.1,
    )
