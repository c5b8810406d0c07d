use lib.ListN.{drop}
use Rattle.words.specs.Output.{SameOutput}
use Rattle.words.proofs.Laws.Laid.{Writing}
use Rattle.words.proofs.Writer.word.Given as goal

abbrev pub invariant-loop-byte : goal.invariant-loop-byte
invariant-loop-byte l = record {
  loan : SameOutput l.initial.self l.self;
  writing : Writing l.word l.initial.self.at l.initial.self.out.now (drop l.byte-index l.word) l.self.at l.self.out.now;
}
