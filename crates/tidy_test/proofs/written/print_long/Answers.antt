-- `print_long`: the text ends inside its output.
use mathlib.Core.Path.{sym}
use lib.Seq.{length-take-le}
use native.Mathlib.Omega.{arith}
use Rattle.formula_text.proofs.Laws.Written.{text-inside}
use Rattle.tidy_test.proofs.written.print_long.Goals as goal

pub slice_bounds-write_all-end : goal.slice_bounds-write_all-end
slice_bounds-write_all-end g c = text-inside _ _ _ _ c.write_formula.ensures c.in-Ok.is

pub slice_bounds-write_all-end-in-Ok : goal.slice_bounds-write_all-end-in-Ok
slice_bounds-write_all-end-in-Ok g c = sym (length-take-le _ _ (text-inside _ _ _ _ c.write_formula.ensures c.in-Ok.is))

pub returns-in_ok-number-in-Ok : goal.returns-in_ok-number-in-Ok
returns-in_ok-number-in-Ok g c =
    omega (arith, text-inside _ _ _ _ c.write_formula.ensures c.in-Ok.is, c.requires)
