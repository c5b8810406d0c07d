-- `Writer::word` meets its contract.
use mathlib.Core.Path.{refl, ◌∙◌}
use native.Mathlib.Omega.{arith}
use Rattle.words.proofs.Laws.Laid.{writing_start, word_fits, word_next, word-done, past_end}
use Rattle.words.proofs.Writer.word.Goals as goal

pub overflow_add-self : goal.overflow_add-self
overflow_add-self c = let f = c.requires in omega (arith, f.ends)

pub returns-then-self-clause-wrote : goal.returns-then-self-clause-wrote
returns-then-self-clause-wrote c = past_end _ _ refl c.if-self.true

pub loop-byte-init : goal.loop-byte-init
loop-byte-init c = record { loan = refl; writing = writing_start _ _ _ }

pub byte-requires : goal.byte-requires
byte-requires c = word_fits c.loop-byte-test.true c.loop-byte.invariant.writing c.requires

pub loop-byte-preserved : goal.loop-byte-preserved
loop-byte-preserved c = record {
  loan = c.byte.ensures.loan ∙ c.loop-byte.invariant.loan;
  writing = word_next c.loop-byte-test.true c.loop-byte.invariant.writing c.byte.ensures.wrote;
}

pub returns-clause-wrote : goal.returns-clause-wrote
returns-clause-wrote c = word-done c.loop-byte-test.false c.loop-byte.invariant.writing
