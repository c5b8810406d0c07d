use lib.ListN.{drop}
use Rattle.dqbf.specs.Spelled.{select}
use Rattle.sets.specs.Words.{words_each, as_set, as_sets}
use Rattle.formula_lines.specs.Working.{is_in, members_in}
use Rattle.formula_lines.proofs.Laws.Prefix.{number_texts}
use Rattle.words.specs.Output.{SameOutput}
use Rattle.words.proofs.Laws.Laid.{Writing}
use Rattle.formula_lines.proofs.prefix.write_members.Given as goal

abbrev pub invariant-loop-variable : goal.invariant-loop-variable
invariant-loop-variable l = record {
  loan : SameOutput l.initial.writer l.writer;
  writing : Writing (number_texts (members_in l.names (as_sets words_each l.sets) (as_set l.set))) l.initial.writer.at l.initial.writer.out.now (number_texts (select (is_in (as_sets words_each l.sets) (as_set l.set)) (drop l.variable-index l.names))) l.writer.at l.writer.out.now;
}
