use mathlib.Core.Path.{refl, ap}
use lib.IntN.{ℤ}
use mathlib.Core.List.{[], ◌∷◌, ◌++◌}
use Prim.Native.Nat.{◌-◌}
use native.Mathlib.Omega.{arith}
use borrow.Author.Rules.{rules}
use lib.Bits.{bit_and, and_le_r}
use lib.Count.{trailing_le}
use lib.ListN.{length-append}
use mir.Syntax.{w16}
use mir.Val.{to_z, of_z}
use mir.Facts.{to_z-of_z}
use Rattle.dqbf.specs.Literal.{pick}
use Rattle.clauses.proofs.Laws.Clauses.{lowest-there, lowest-before, last-left}
use Rattle.clauses.proofs.Laws.Writing.{writing_start, writing_more, writing-room, writing-done, written_as}
use Rattle.clauses.proofs.writing.write_part.Goals as goal

pub overflow_cast-at : goal.overflow_cast-at
overflow_cast-at c = omega (arith, trailing_le 32 c.args.mask)

pub loop-at-init : goal.loop-at-init
loop-at-init c = (refl, writing_start _ _)

pub offset_bounds-tail-width : goal.offset_bounds-tail-width
offset_bounds-tail-width c = let room = writing-room c.loop-at.invariant.1 (omega (arith, length-append (pick c.args.mask c.args.clause.now) (to_z w16 (of_z w16 c.args.new) ∷ []))) (lowest-before c.args.clause.now c.loop-at.rest c.loop-at.at c.requires.0 c.loop-at.invariant.0 (to_z w16 (of_z w16 c.args.new)) (omega arith)) in search rules

pub bounds-tail-width : goal.bounds-tail-width
bounds-tail-width c = writing-room c.loop-at.invariant.1 (omega (arith, length-append (pick c.args.mask c.args.clause.now) (to_z w16 (of_z w16 c.args.new) ∷ []))) (lowest-before c.args.clause.now c.loop-at.rest c.loop-at.at c.requires.0 c.loop-at.invariant.0 (to_z w16 (of_z w16 c.args.new)) (omega arith))

pub overflow_add-width : goal.overflow_add-width
overflow_add-width c = let room = writing-room c.loop-at.invariant.1 (omega (arith, length-append (pick c.args.mask c.args.clause.now) (to_z w16 (of_z w16 c.args.new) ∷ []))) (lowest-before c.args.clause.now c.loop-at.rest c.loop-at.at c.requires.0 c.loop-at.invariant.0 (to_z w16 (of_z w16 c.args.new)) (omega arith)) in search rules

pub overflow_sub-rest : goal.overflow_sub-rest
overflow_sub-rest c = let some = lowest-there c.args.clause.now c.loop-at.rest c.loop-at.at c.requires.0 c.loop-at.invariant.0 (omega arith) in search rules

pub overflow_cast-at-in-loop-at : goal.overflow_cast-at-in-loop-at
overflow_cast-at-in-loop-at c = omega (arith, trailing_le 32 (bit_and c.loop-at.rest (c.loop-at.rest - 1)))

pub loop-at-smaller : goal.loop-at-smaller
loop-at-smaller c = let some = lowest-there c.args.clause.now c.loop-at.rest c.loop-at.at c.requires.0 c.loop-at.invariant.0 (omega arith) in omega (arith, and_le_r c.loop-at.rest (c.loop-at.rest - 1))

pub loop-at-preserved : goal.loop-at-preserved
loop-at-preserved c = let next = lowest-before c.args.clause.now c.loop-at.rest c.loop-at.at c.requires.0 c.loop-at.invariant.0 (to_z w16 (of_z w16 c.args.new)) (omega arith) in let room = writing-room c.loop-at.invariant.1 (omega (arith, length-append (pick c.args.mask c.args.clause.now) (to_z w16 (of_z w16 c.args.new) ∷ []))) next in (refl, writing_more c.loop-at.invariant.1 room next (to_z-of_z {w = w16} (search rules)))

pub offset_bounds-tail-width-2 : goal.offset_bounds-tail-width-2
offset_bounds-tail-width-2 c = let room = writing-room c.loop-at.invariant.1 (omega (arith, length-append (pick c.args.mask c.args.clause.now) (to_z w16 (of_z w16 c.args.new) ∷ []))) (last-left c.args.clause.now c.loop-at.rest c.loop-at.at c.requires.0 c.loop-at.invariant.0 (to_z w16 (of_z w16 c.args.new)) (omega arith)) in search rules

pub bounds-tail-width-2 : goal.bounds-tail-width-2
bounds-tail-width-2 c = writing-room c.loop-at.invariant.1 (omega (arith, length-append (pick c.args.mask c.args.clause.now) (to_z w16 (of_z w16 c.args.new) ∷ []))) (last-left c.args.clause.now c.loop-at.rest c.loop-at.at c.requires.0 c.loop-at.invariant.0 (to_z w16 (of_z w16 c.args.new)) (omega arith))

pub overflow_add-result : goal.overflow_add-result
overflow_add-result c = let room = writing-room c.loop-at.invariant.1 (omega (arith, length-append (pick c.args.mask c.args.clause.now) (to_z w16 (of_z w16 c.args.new) ∷ []))) (last-left c.args.clause.now c.loop-at.rest c.loop-at.at c.requires.0 c.loop-at.invariant.0 (to_z w16 (of_z w16 c.args.new)) (omega arith)) in search rules

pub returns : goal.returns
returns c = let last = last-left c.args.clause.now c.loop-at.rest c.loop-at.at c.requires.0 c.loop-at.invariant.0 (to_z w16 (of_z w16 c.args.new)) (omega arith) in let room = writing-room c.loop-at.invariant.1 (omega (arith, length-append (pick c.args.mask c.args.clause.now) (to_z w16 (of_z w16 c.args.new) ∷ []))) last in written_as (writing-done (writing_more c.loop-at.invariant.1 room last refl) refl) (ap (λ (l : ℤ). pick c.args.mask c.args.clause.now ++ (l ∷ [])) (to_z-of_z c.ranges.new))
