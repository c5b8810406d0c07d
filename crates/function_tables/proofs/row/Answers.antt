-- `function_tables::row` meets its contract.
use mathlib.Core.Path.{◌≡◌}
use Prim.Native.Nat.{◌-◌}
use native.Mathlib.Omega.{arith}
use lib.Pow.{pow_pos}
use Rattle.function_tables.proofs.Laws.Layout.{small_power, above-start, above-out, above_in, above-done, above-small, whole}
use Rattle.function_tables.proofs.row.Goals as goal

pub loop-place-init : goal.loop-place-init
loop-place-init c = (above-start c.args.places c.args.set c.args.setting, pow_pos (c.args.places - c.args.places))

pub overflow_mul-row : goal.overflow_mul-row
overflow_mul-row c = omega (arith, c.loop-place.invariant.1, small_power (c.args.places - c.loop-place.place) (omega (arith, c.requires)))

pub overflow_add-row : goal.overflow_add-row
overflow_add-row c = omega (arith, c.loop-place.invariant.1, small_power (c.args.places - c.loop-place.place) (omega (arith, c.requires)))

pub loop-place-preserved-then-set-place-eq1 : goal.loop-place-preserved-then-set-place-eq1
loop-place-preserved-then-set-place-eq1 c =
    let small = above-small c.args.places c.loop-place.place c.loop-place.row (omega arith) (omega arith) c.loop-place.invariant.1 in
    (above_in c.args.places c.args.set c.args.setting c.loop-place.place (omega arith) (omega arith) c.loop-place.row c.loop-place.invariant.0 c.if-set-place-eq1.true, small.1 _ (omega arith))

pub loop-place-preserved : goal.loop-place-preserved
loop-place-preserved c =
    let small = above-small c.args.places c.loop-place.place c.loop-place.row (omega arith) (omega arith) c.loop-place.invariant.1 in
    (above-out c.args.places c.args.set c.args.setting c.loop-place.place (omega arith) (omega arith) c.loop-place.row c.loop-place.invariant.0 c.if-set-place-eq1.false, small.0)

pub returns : goal.returns
returns c =
    let none : c.loop-place.place ≡ 0 = omega arith in
    (above-done c.args.places c.args.set c.args.setting c.loop-place.place c.loop-place.row none c.loop-place.invariant.0, whole c.args.places c.loop-place.place c.loop-place.row none c.loop-place.invariant.1)
