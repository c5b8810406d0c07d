use mathlib.Core.Path.{◌≡◌, refl, ◌∙◌}
use Prim.Native.Nat.{◌+◌}
use native.Mathlib.Omega.{arith}
use lib.ListN.{length, get_or, length-set}
use Rattle.numerals.proofs.Laws.Listed.{list_at}
use Rattle.numerals.proofs.Laws.Gathering.{gather_none, gather-end, gather-number, gather-bad, gather-space, gather-done}
use Rattle.numerals.proofs.list.gather.Goals as goal
use Rattle.numerals.proofs.list.gather.Goals.{else-line-at-eq48-via-then-line-at-eq48+else-at-line, else-line-at-eq48-via-else-line-at-eq48}

pub loop-at-init : goal.loop-at-init
loop-at-init c = (omega arith, omega arith, refl, gather_none c.args.numbers.now (list_at c.args.signed c.args.line.now c.args.i))

pub offset_bounds-numbers-n : goal.offset_bounds-numbers-n
offset_bounds-numbers-n c = let led = c.number_at.ensures.found _ c.in-Some.is in omega arith

pub bounds-numbers-n : goal.bounds-numbers-n
bounds-numbers-n c = let led = c.number_at.ensures.found _ c.in-Some.is in omega arith

pub overflow_add-n : goal.overflow_add-n
overflow_add-n c = let led = c.number_at.ensures.found _ c.in-Some.is in omega arith

pub loop-at-smaller-in-Some : goal.loop-at-smaller-in-Some
loop-at-smaller-in-Some c = let led = c.number_at.ensures.found _ c.in-Some.is in omega arith

pub loop-at-preserved-in-Some : goal.loop-at-preserved-in-Some
loop-at-preserved-in-Some c =
    let l = c.loop-at in
    let led = c.number_at.ensures.found _ c.in-Some.is in (
      led.high,
      omega arith,
      length-set l.numbers l.n c.in-Some.t.number ∙ l.invariant.2,
      gather-number c.args.signed c.args.line.now l.numbers l.n l.at _ (omega arith) l.invariant.3 c.in-Some.t led (omega arith),
    )

pub loop-at-preserved : goal.loop-at-preserved
loop-at-preserved c =
    let l = c.loop-at in (
      omega arith,
      omega arith,
      l.invariant.2,
      gather-space c.args.signed c.args.line.now l.numbers l.n l.at _ (omega arith) l.invariant.3 c.loop-at-test.true c.if-line-at-eq32.true,
    )

pub returns-then-at-line : goal.returns-then-at-line
returns-then-at-line c =
    let l = c.loop-at in
    gather-done c.args.signed c.args.line.now l.numbers l.n l.at _ (omega arith) l.invariant.3 c.loop-at-test.true c.if-line-at-eq48.true c.if-at-line.true

pub returns-else-line-at-eq48 : goal.returns-else-line-at-eq48
returns-else-line-at-eq48 c =
    let l = c.loop-at in
    let other : (get_or c.args.line.now l.at 0 ≡ 48 → l.at + 1 ≡ length c.args.line.now → ⊥) =
    λ zero last. elim c.else-line-at-eq48.branch [
      | else-line-at-eq48-via-then-line-at-eq48+else-at-line w ↦ w.if-at-line.false last
      | else-line-at-eq48-via-else-line-at-eq48 w ↦ w.if-line-at-eq48.false zero
    ] in
    gather-bad c.args.signed c.args.line.now l.numbers l.n l.at _ (omega arith) l.invariant.3 c.in_default.ensures c.if-line-at-eq32.false other

pub returns : goal.returns
returns c =
    let l = c.loop-at in
    gather-end c.args.signed c.args.line.now l.numbers l.n l.at _ (omega arith) l.invariant.3 (omega arith)
