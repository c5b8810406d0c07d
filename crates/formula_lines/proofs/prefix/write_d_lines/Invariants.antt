use Rattle.dqbf.specs.Spelled.{existentials}
use Rattle.sets.specs.Words.{words_each, as_sets}
use Rattle.formula_lines.specs.Working.{declarations}
use Rattle.formula_lines.proofs.Laws.Prefix.{d_texts, left_lines}
use Rattle.words.specs.Output.{SameOutput}
use Rattle.words.proofs.Laws.Laid.{Writing}
use Rattle.formula_lines.proofs.prefix.write_d_lines.Given as goal

abbrev pub invariant-loop-i : goal.invariant-loop-i
invariant-loop-i l = record {
  loan : SameOutput l.initial.writer l.writer;
  writing : Writing (d_texts (declarations l.kinds (as_sets words_each l.sets)) (existentials (declarations l.kinds (as_sets words_each l.sets)))) l.initial.writer.at l.initial.writer.out.now (left_lines l.kinds (as_sets words_each l.sets) l.i) l.writer.at l.writer.out.now;
}
