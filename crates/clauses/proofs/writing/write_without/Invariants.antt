use lib.ListN.{drop}
use Rattle.clauses.specs.Places.{but_at}
use Rattle.clauses.proofs.Laws.Writing.{Writing}
use Rattle.clauses.proofs.writing.write_without.Given as goal

abbrev pub invariant-loop-i : goal.invariant-loop-i
invariant-loop-i l = Writing (but_at l.place l.clause) l.initial.tail l.tail l.i (drop l.i (but_at l.place l.clause))
