use mathlib.Core.List.{[], ◌∷◌}
use mathlib.Core.Path.{◌≡◌}
use Prim.Native.Nat.{◌≤◌}
use lib.Dec.{eqb}
use Rattle.dqbf.specs.Model.{empty_from}
use Rattle.tables.specs.Tables.{cut}
use Rattle.tables.specs.WellFormed.{every, ends_rise, clauses_fit}
use Rattle.tables.proofs.Laws.Turns.{clauses_left}
use Rattle.tables.proofs.formed.clauses_fit.Given as goal

abbrev pub invariant-loop-i : goal.invariant-loop-i
invariant-loop-i l = (l.start ≤ l.total) × (every (ends_rise 0 l.ends l.total ∷ clauses_fit l.formula l.kinds (cut 0 l.ends l.literals) ∷ eqb l.empty (empty_from 1 (cut 0 l.ends l.literals)) ∷ []) ≡ clauses_left l.literals l.ends l.kinds l.formula l.total l.empty l.i l.start l.lowest)
