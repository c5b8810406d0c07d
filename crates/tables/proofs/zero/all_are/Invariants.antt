use mathlib.Core.Path.{◌≡◌}
use mathlib.Core.Bool.{◌&&◌}
use lib.ListN.{drop}
use Rattle.tables.specs.WellFormed.{all_of}
use Rattle.tables.proofs.zero.all_are.Given as goal

abbrev pub invariant-loop-entry : goal.invariant-loop-entry
invariant-loop-entry g l = all_of (λ e. g.T.PartialEq.eq e l.value) l.entries ≡ (l.same && all_of (λ e. g.T.PartialEq.eq e l.value) (drop l.entry-index l.entries))
