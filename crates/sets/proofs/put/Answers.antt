use native.Mathlib.Omega.{arith}
use lib.ListN.{length-set}
use Rattle.sets.proofs.Laws.Four.{array-words, room-four, put_four}
use Rattle.sets.proofs.put.Goals as goal

pub overflow_mul-at : goal.overflow_mul-at
overflow_mul-at c = omega (arith, room-four c.args.sets.now c.args.place c.requires, c.well_formed.0.0, c.well_formed.0.1)

pub offset_bounds-sets-at : goal.offset_bounds-sets-at
offset_bounds-sets-at c = omega (arith, room-four c.args.sets.now c.args.place c.requires, c.well_formed.0.0, c.well_formed.0.1)

pub bounds-sets-at : goal.bounds-sets-at
bounds-sets-at c = omega (arith, room-four c.args.sets.now c.args.place c.requires, c.well_formed.0.0, c.well_formed.0.1)

pub overflow_add-sets : goal.overflow_add-sets
overflow_add-sets c = omega (arith, room-four c.args.sets.now c.args.place c.requires, c.well_formed.0.0, c.well_formed.0.1)

pub offset_bounds-sets-at-2 : goal.offset_bounds-sets-at-2
offset_bounds-sets-at-2 c = omega (arith, room-four c.args.sets.now c.args.place c.requires, c.well_formed.0.0, c.well_formed.0.1)

pub bounds-sets-at-2 : goal.bounds-sets-at-2
bounds-sets-at-2 c = simp length-set (omega (arith, room-four c.args.sets.now c.args.place c.requires, c.well_formed.0.0, c.well_formed.0.1))

pub overflow_add-sets-2 : goal.overflow_add-sets-2
overflow_add-sets-2 c = omega (arith, room-four c.args.sets.now c.args.place c.requires, c.well_formed.0.0, c.well_formed.0.1)

pub offset_bounds-sets-at-3 : goal.offset_bounds-sets-at-3
offset_bounds-sets-at-3 c = omega (arith, room-four c.args.sets.now c.args.place c.requires, c.well_formed.0.0, c.well_formed.0.1)

pub bounds-sets-at-3 : goal.bounds-sets-at-3
bounds-sets-at-3 c = simp length-set (omega (arith, room-four c.args.sets.now c.args.place c.requires, c.well_formed.0.0, c.well_formed.0.1))

pub overflow_add-sets-3 : goal.overflow_add-sets-3
overflow_add-sets-3 c = omega (arith, room-four c.args.sets.now c.args.place c.requires, c.well_formed.0.0, c.well_formed.0.1)

pub offset_bounds-sets-at-4 : goal.offset_bounds-sets-at-4
offset_bounds-sets-at-4 c = omega (arith, room-four c.args.sets.now c.args.place c.requires, c.well_formed.0.0, c.well_formed.0.1)

pub bounds-sets-at-4 : goal.bounds-sets-at-4
bounds-sets-at-4 c = simp length-set (omega (arith, room-four c.args.sets.now c.args.place c.requires, c.well_formed.0.0, c.well_formed.0.1))

pub returns : goal.returns
returns c = put_four c.args.sets.now c.args.place c.args.set c.requires (array-words c.args.set _ c.well_formed.1.1.0)
