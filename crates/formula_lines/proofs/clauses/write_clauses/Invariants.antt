use lib.ListN.{length, drop}
use Rattle.formula_lines.specs.Working.{Rises}
use Rattle.formula_lines.proofs.Laws.Clauses.{clause_texts}
use Rattle.words.specs.Output.{SameOutput}
use Rattle.words.proofs.Laws.Laid.{Writing}
use Rattle.formula_lines.proofs.clauses.write_clauses.Given as goal

abbrev pub invariant-loop-end : goal.invariant-loop-end
invariant-loop-end l = record {
  rises : Rises l.start (drop l.end-index l.ends) (length l.literals);
  loan : SameOutput l.initial.writer l.writer;
  writing : Writing (clause_texts 0 l.ends l.literals) l.initial.writer.at l.initial.writer.out.now (clause_texts l.start (drop l.end-index l.ends) l.literals) l.writer.at l.writer.out.now;
}
