use mathlib.Core.List.{map}
use lib.ListN.{drop}
use Rattle.dqbf.specs.Reading.{clause_line}
use Rattle.dqbf.specs.Spelling.{literal_word, line_text}
use Rattle.words.specs.Listed.{listed}
use Rattle.words.specs.Output.{SameOutput}
use Rattle.words.proofs.Laws.Laid.{Writing}
use Rattle.formula_lines.proofs.clauses.write_clause.Given as goal

abbrev pub invariant-loop-literal : goal.invariant-loop-literal
invariant-loop-literal l = record {
  loan : SameOutput l.initial.writer l.writer;
  writing : Writing (line_text (clause_line l.clause)) l.initial.writer.at l.initial.writer.out.now (listed (map literal_word (drop l.literal-index l.clause))) l.writer.at l.writer.out.now;
}
