use Rattle.lines.proofs.Laws.Lines.{Numbered}
use Rattle.lines.proofs.line.write_numbers.Given as goal

abbrev pub invariant-loop-number : goal.invariant-loop-number
invariant-loop-number l = Numbered l.numbers l.initial.out l.out l.at l.number-index
