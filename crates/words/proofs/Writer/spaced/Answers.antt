-- `Writer::spaced` meets its contract.
use Rattle.words.proofs.Laws.Laid.{wrote-both}
use Rattle.words.proofs.Writer.spaced.Goals as goal

pub returns-clause-wrote : goal.returns-clause-wrote
returns-clause-wrote c = wrote-both c.number.ensures.wrote c.byte.ensures.wrote
