use mathlib.Core.Path.{◌≡◌}
use mathlib.Core.Bool.{◌||◌}
use Prim.Native.Nat.{◌-◌}
use lib.ListN.{drop}
use Rattle.ranks.specs.Ranks.{side_by_side}
use Rattle.ranks.proofs.literals.has_pair.Given as goal

abbrev pub invariant-loop-i : goal.invariant-loop-i
invariant-loop-i l = side_by_side l.ranks ≡ (l.found || side_by_side (drop (l.i - 1) l.ranks))
