-- `formula_text::write_entries` meets its contract.
use mathlib.Core.Path.{sym}
use lib.Seq.{length-take-le}
use Rattle.formula_text.proofs.write_entries.Goals as goal

pub list_universals-count-requires : goal.list_universals-count-requires
list_universals-count-requires c = let e = c.requires.1 in (e.few-universals, e.few-variables)

pub slice_bounds-write_lines-end : goal.slice_bounds-write_lines-end
slice_bounds-write_lines-end c = sym (length-take-le _ _ c.list_universals-count.ensures.0)

pub write_lines-requires : goal.write_lines-requires
write_lines-requires c =
    (c.requires.0, c.requires.1, c.list_universals-count.ensures.1)
