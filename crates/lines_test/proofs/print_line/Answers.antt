-- `print_line`: the line ends inside its output.
use mathlib.Core.Path.{sym}
use lib.Seq.{length-take-le}
use Rattle.lines.proofs.Laws.Lines.{written-inside}
use Rattle.lines_test.proofs.print_line.Goals as goal

pub slice_bounds-out-end : goal.slice_bounds-out-end
slice_bounds-out-end g c =
    let w = c.write_line in
    written-inside _ _ _ w.ensures.0 w.ensures.1 c.in-Some.is

pub slice_bounds-write_all-end : goal.slice_bounds-write_all-end
slice_bounds-write_all-end g c =
    let w = c.write_line in
    sym (length-take-le _ _ (written-inside _ _ _ w.ensures.0 w.ensures.1 c.in-Some.is))
