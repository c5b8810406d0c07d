-- `Writer::closing` meets its contract.
use Rattle.dqbf.specs.Bytes.{bytes}
use Rattle.words.specs.Listed.{listed}
use Rattle.words.proofs.Writer.closing.Goals as goal

pub word-requires : goal.word-requires
unfolding listed bytes
word-requires c = c.requires

pub returns-clause-wrote : goal.returns-clause-wrote
unfolding listed bytes
returns-clause-wrote c = c.word.ensures.wrote
