use mathlib.Core.Path.{◌≡◌}
use Rattle.family_bits.specs.Left.{met}
use Rattle.family_bits.proofs.Laws.Left.{packed_from}
use Rattle.family_bits.proofs.low_word.Given as goal

abbrev pub invariant-loop-number : goal.invariant-loop-number
invariant-loop-number l = l.word ≡ packed_from l.number (met l.ones l.zeros)
