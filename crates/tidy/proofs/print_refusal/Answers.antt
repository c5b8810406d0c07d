-- `print_refusal`: the line ends inside its output.
use mathlib.Core.Path.{sym}
use lib.Seq.{length-take-le}
use Rattle.lines.proofs.Laws.Lines.{written-inside}
use Rattle.tidy.proofs.print_refusal.Goals as goal

pub slice_bounds-out-end : goal.slice_bounds-out-end
slice_bounds-out-end g c = written-inside _ _ _ c.write_line.ensures.0 c.write_line.ensures.1 c.in-Some.is

pub slice_bounds-write_all-end : goal.slice_bounds-write_all-end
slice_bounds-write_all-end g c = sym (length-take-le _ _ (written-inside _ _ _ c.write_line.ensures.0 c.write_line.ensures.1 c.in-Some.is))
