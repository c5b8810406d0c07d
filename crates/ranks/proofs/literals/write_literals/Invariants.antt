use mathlib.Core.Path.{◌≡◌}
use mathlib.Core.List.{◌++◌, map}
use lib.ListN.{take, drop}
use Rattle.ranks.specs.Ranks.{literal_of_rank}
use Rattle.ranks.proofs.literals.write_literals.Given as goal

abbrev pub invariant-loop-i : goal.invariant-loop-i
invariant-loop-i l = l.tail ≡ map literal_of_rank (take l.i l.ranks) ++ drop l.i l.initial.tail
