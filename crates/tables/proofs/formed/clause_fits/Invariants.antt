use mathlib.Core.Path.{◌≡◌}
use Rattle.tables.specs.WellFormed.{clause_fits}
use Rattle.tables.proofs.Laws.Turns.{literals_left}
use Rattle.tables.proofs.formed.clause_fits.Given as goal

abbrev pub invariant-loop-literal : goal.invariant-loop-literal
invariant-loop-literal l = (clause_fits l.highest l.kinds l.clause ≡ literals_left l.clause l.kinds l.highest l.previous l.literal-index)
