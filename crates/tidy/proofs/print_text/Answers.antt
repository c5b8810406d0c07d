-- `print_text`: the text ends inside its output.
use mathlib.Core.Path.{sym}
use lib.Seq.{length-take-le}
use Rattle.formula_text.proofs.Laws.Written.{text-inside}
use Rattle.tidy.proofs.print_text.Goals as goal

pub slice_bounds-out-end : goal.slice_bounds-out-end
slice_bounds-out-end g c = text-inside _ _ _ _ c.write_formula.ensures c.in-Ok.is

pub slice_bounds-write_all-end : goal.slice_bounds-write_all-end
slice_bounds-write_all-end g c = sym (length-take-le _ _ (text-inside _ _ _ _ c.write_formula.ensures c.in-Ok.is))
