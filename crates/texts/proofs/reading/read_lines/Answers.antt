use mathlib.Core.Path.{refl, ◌∙◌}
use native.Mathlib.Omega.{arith}
use lib.ListN.{length-take, length-drop}
use Rattle.tokens.proofs.Laws.Pieces.{line-at-inside}
use Rattle.tables.proofs.Laws.Lent.{loans-then}
use Rattle.prefix_lines.proofs.Laws.Reading.{long-now, same-room, room-then}
use Rattle.clause_lines.proofs.Laws.ClauseLines.{within}
use Rattle.texts.proofs.Laws.Texts.{default-zero, progress-start, reached-start, reached-last, reached-refused, reached-next, reached-end}
use Rattle.texts.proofs.reading.read_lines.Goals as goal

pub loop-at-init : goal.loop-at-init
loop-at-init c =
    record {
      inside = omega arith;
      counted = omega arith;
      loans = record { literals = refl; ends = refl; sets = refl; kinds = refl };
      room = same-room _;
      numbers = refl;
      known = refl;
      reached = reached-start _ _ _ c.requires.1 c.requires.2 (progress-start (default-zero {s = c.default-tables.result} c.default-tables.ensures));
    }

pub overflow_add-end : goal.overflow_add-end
overflow_add-end c = omega (arith, line-at-inside c.args.text.now c.loop-at.at _ c.loop-at.invariant.inside c.line_length.ensures)

pub returns-then-end-text-clause-read : goal.returns-then-end-text-clause-read
returns-then-end-text-clause-read c = reached-last c.loop-at.invariant.reached c.loop-at-test.true _ c.line_length.ensures c.if-end-text.true

pub slice_bounds-bytes-end : goal.slice_bounds-bytes-end
slice_bounds-bytes-end c = omega (arith, line-at-inside c.args.text.now c.loop-at.at _ c.loop-at.invariant.inside c.line_length.ensures)

pub read_line-requires : goal.read_line-requires
read_line-requires c =
    let i = c.loop-at.invariant in
    let l = long-now i.reached.read in
    (simp (length-take, length-drop) (omega (arith, i.numbers, c.requires.0)), within i.reached.read, omega (arith, i.known), l.literals, l.ends, l.sets, l.kinds)

pub returns-in-Err-clause-read : goal.returns-in-Err-clause-read
returns-in-Err-clause-read c = reached-refused c.loop-at.invariant.reached c.loop-at-test.true _ c.line_length.ensures c.if-end-text.false c.read_line.new.known c.read_line.ensures.read c.in-Err.refusal (rw c.in-Err.is)

pub loop-at-preserved : goal.loop-at-preserved
loop-at-preserved c =
    let i = c.loop-at.invariant in
    record {
      inside = omega (arith, c.if-end-text.false, line-at-inside c.args.text.now c.loop-at.at _ i.inside c.line_length.ensures);
      counted = omega (arith, i.counted);
      loans = loans-then i.loans c.read_line.ensures.loans;
      room = room-then i.room c.read_line.ensures.room;
      numbers = c.read_line.auto.numbers ∙ i.numbers;
      known = c.read_line.auto.known ∙ i.known;
      reached = reached-next i.reached c.loop-at-test.true _ c.line_length.ensures c.if-end-text.false c.read_line.new.known c.read_line.ensures.read (rw c.in_default.is);
    }

pub returns-clause-read : goal.returns-clause-read
returns-clause-read c = reached-end c.loop-at.invariant.reached c.loop-at-test.false c.end_of_text.ensures
