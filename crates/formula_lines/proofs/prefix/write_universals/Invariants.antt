use Prim.Native.Nat.{◌-◌}
use lib.ListN.{length}
use Rattle.sets.specs.Words.{words_each, as_sets}
use Rattle.formula_lines.specs.Working.{declared_from}
use Rattle.formula_lines.proofs.Laws.Prefix.{number_texts}
use Rattle.words.specs.Output.{SameOutput}
use Rattle.words.proofs.Laws.Laid.{Writing}
use Rattle.formula_lines.proofs.prefix.write_universals.Given as goal

abbrev pub invariant-loop-i : goal.invariant-loop-i
invariant-loop-i l = record {
  loan : SameOutput l.initial.writer l.writer;
  writing : Writing (number_texts (declared_from l.names (as_sets words_each l.sets) 0 (length l.names))) l.initial.writer.at l.initial.writer.out.now (number_texts (declared_from l.names (as_sets words_each l.sets) l.i (length l.names - l.i))) l.writer.at l.writer.out.now;
}
