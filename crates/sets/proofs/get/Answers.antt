use native.Mathlib.Omega.{arith}
use Rattle.sets.proofs.Laws.Four.{room-four, get-four}
use Rattle.sets.proofs.get.Goals as goal

pub overflow_mul-at : goal.overflow_mul-at
overflow_mul-at c = omega (arith, room-four c.args.sets.now c.args.place c.requires, c.well_formed.0.0, c.well_formed.0.1)

pub offset_bounds-sets-at : goal.offset_bounds-sets-at
offset_bounds-sets-at c = omega (arith, room-four c.args.sets.now c.args.place c.requires, c.well_formed.0.0, c.well_formed.0.1)

pub bounds-sets-at : goal.bounds-sets-at
bounds-sets-at c = omega (arith, room-four c.args.sets.now c.args.place c.requires, c.well_formed.0.0, c.well_formed.0.1)

pub overflow_add-result : goal.overflow_add-result
overflow_add-result c = omega (arith, room-four c.args.sets.now c.args.place c.requires, c.well_formed.0.0, c.well_formed.0.1)

pub offset_bounds-sets-at-2 : goal.offset_bounds-sets-at-2
offset_bounds-sets-at-2 c = omega (arith, room-four c.args.sets.now c.args.place c.requires, c.well_formed.0.0, c.well_formed.0.1)

pub bounds-sets-at-2 : goal.bounds-sets-at-2
bounds-sets-at-2 c =
    omega (arith, room-four c.args.sets.now c.args.place c.requires, c.well_formed.0.0, c.well_formed.0.1)

pub overflow_add-result-2 : goal.overflow_add-result-2
overflow_add-result-2 c =
    omega (arith, room-four c.args.sets.now c.args.place c.requires, c.well_formed.0.0, c.well_formed.0.1)

pub offset_bounds-sets-at-3 : goal.offset_bounds-sets-at-3
offset_bounds-sets-at-3 c =
    omega (arith, room-four c.args.sets.now c.args.place c.requires, c.well_formed.0.0, c.well_formed.0.1)

pub bounds-sets-at-3 : goal.bounds-sets-at-3
bounds-sets-at-3 c =
    omega (arith, room-four c.args.sets.now c.args.place c.requires, c.well_formed.0.0, c.well_formed.0.1)

pub overflow_add-result-3 : goal.overflow_add-result-3
overflow_add-result-3 c =
    omega (arith, room-four c.args.sets.now c.args.place c.requires, c.well_formed.0.0, c.well_formed.0.1)

pub offset_bounds-sets-at-4 : goal.offset_bounds-sets-at-4
offset_bounds-sets-at-4 c =
    omega (arith, room-four c.args.sets.now c.args.place c.requires, c.well_formed.0.0, c.well_formed.0.1)

pub bounds-sets-at-4 : goal.bounds-sets-at-4
bounds-sets-at-4 c =
    omega (arith, room-four c.args.sets.now c.args.place c.requires, c.well_formed.0.0, c.well_formed.0.1)

pub returns : goal.returns
returns c = get-four c.args.sets.now c.args.place c.requires
