-- `line::write_number`: a space, and the digits in the part behind it.
use mathlib.Core.Path.{refl}
use mathlib.Core.List.{[], ◌∷◌}
use native.Mathlib.Omega.{arith}
use lib.ListN.{set, length-set, length-take, length-drop}
use Rattle.dqbf.specs.Text.{space}
use Rattle.dqbf.specs.Line.{digits_of}
use Rattle.dqbf.proofs.Laws.Parts.{front-set, front-part}
use Rattle.dqbf.proofs.Laws.Digits.{digits-ten}
use Rattle.lines.proofs.line.write_number.Goals as goal

pub slice_bounds-write_digits-count : goal.slice_bounds-write_digits-count
slice_bounds-write_digits-count c = omega (arith, c.requires, length-set c.args.out.now 0 32)

pub slice_bounds-write_digits-start : goal.slice_bounds-write_digits-start
slice_bounds-write_digits-start c = omega (arith, c.requires, length-set c.args.out.now 0 32)

pub write_digits-requires : goal.write_digits-requires
write_digits-requires c =
    let out = set c.args.out.now 0 32 in
    let s = length-set c.args.out.now 0 32 in
    simp (length-take, length-drop) (omega (arith, s, c.requires, digits-ten c.args.n c.ranges.n.fits))

pub overflow_add-result : goal.overflow_add-result
overflow_add-result c = let w = c.write_digits in omega (arith, w.ensures.0, digits-ten c.args.n c.ranges.n.fits)

pub returns : goal.returns
returns c =
    let w = c.write_digits in
    let out = c.args.out.now in
    let one = front-set out out [] 0 32 refl (omega (arith, c.requires)) refl in (
      omega (arith, w.ensures.0),
      front-part (set out 0 32) out (space ∷ []) (digits_of c.args.n) w.new.out 1 refl (omega (arith, c.requires)) one w.ensures.1,
    )
