use mathlib.Core.Path.{◌≡◌}
use Prim.Native.Nat.{◌≤◌}
use Rattle.sets.specs.Words.{words_each, as_set, as_sets}
use Rattle.tables.specs.WellFormed.{variables_fit}
use Rattle.tables.proofs.Laws.Turns.{variables_left}
use Rattle.tables.proofs.formed.variables_fit.Given as goal

abbrev pub invariant-loop-i : goal.invariant-loop-i
invariant-loop-i l = (l.count ≤ l.i) × (variables_fit l.bound l.universals l.kinds (as_sets words_each l.sets) ≡ variables_left l.kinds (as_sets words_each l.sets) l.bound l.universals l.i (as_set l.seen) l.count)
