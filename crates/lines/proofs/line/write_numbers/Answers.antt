-- `line::write_numbers`: a number goes behind those that are written, the line feed behind the last.
use native.Mathlib.Omega.{arith}
use lib.ListN.{length-take, length-drop}
use Rattle.lines.proofs.Laws.Lines.{numbered-start, numbered-room, numbered_next, numbered-end}
use Rattle.lines.proofs.line.write_numbers.Goals as goal

pub loop-number-init : goal.loop-number-init
loop-number-init c = numbered-start _ _

pub slice_bounds-write_number-count : goal.slice_bounds-write_number-count
slice_bounds-write_number-count c = omega (arith, numbered-room c.loop-number.invariant c.requires c.loop-number-test.true)

pub slice_bounds-write_number-start : goal.slice_bounds-write_number-start
slice_bounds-write_number-start c = omega (arith, numbered-room c.loop-number.invariant c.requires c.loop-number-test.true)

pub write_number-at-requires : goal.write_number-at-requires
write_number-at-requires c =
    let room = numbered-room c.loop-number.invariant c.requires c.loop-number-test.true in
    simp (length-take, length-drop) (omega (arith, room))

pub overflow_add-at : goal.overflow_add-at
overflow_add-at c =
    let w = c.write_number-at in
    let loop = c.loop-number in
    let room = numbered-room loop.invariant c.requires c.loop-number-test.true in
    omega (arith, w.ensures.0, loop.invariant.size, room)

pub loop-number-preserved : goal.loop-number-preserved
loop-number-preserved c =
    let w = c.write_number-at in
    let loop = c.loop-number in
    numbered_next loop.invariant c.requires c.loop-number-test.true w.ensures.0 w.auto.out w.ensures.1

pub bounds-out-at : goal.bounds-out-at
bounds-out-at c = (numbered-end c.loop-number.invariant c.requires c.loop-number-test.false).0

pub returns : goal.returns
returns c = let end = numbered-end c.loop-number.invariant c.requires c.loop-number-test.false in (end.1, end.2)
