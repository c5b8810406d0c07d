-- `digits::write_digits`: every digit but the last; what is left is the last one.
use mathlib.Core.Path.{refl}
use native.Mathlib.Omega.{arith}
use Rattle.dqbf.proofs.Laws.Digits.{digits-ten}
use Rattle.lines.proofs.Laws.Digits.{reached-start, begun-start, reached-room, reached-done}
use Rattle.lines.proofs.digits.write_digits.Goals as goal

pub write_three-high-requires : goal.write_three-high-requires
write_three-high-requires c =
    (omega arith, refl, refl, c.requires, reached-start c.args.n 10000000000 (omega (arith, c.ranges.n.fits)))

pub bounds-out-low : goal.bounds-out-low
bounds-out-low c =
    let room = reached-room c.args.n 1 (omega arith) c.write_three-low.ensures.0 in
    omega (arith, room, c.write_three-low.auto.out, c.write_three-middle.auto.out, c.write_three-high.auto.out, c.requires)

pub overflow_add-result : goal.overflow_add-result
overflow_add-result c =
    omega (arith, reached-room c.args.n 1 (omega arith) c.write_three-low.ensures.0, digits-ten c.args.n c.ranges.n.fits)

pub returns : goal.returns
returns c =
    let n = c.args.n in
    let out = c.args.out.now in
    let start = begun-start n 10000000000 out (omega (arith, c.ranges.n.fits)) in
    let grown = c.write_three-low.ensures.1 out (c.write_three-middle.ensures.1 out (c.write_three-high.ensures.1 out start)) in
    reached-done n out c.requires c.write_three-low.ensures.0 grown
