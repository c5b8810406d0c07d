-- `Writer::byte` meets its contract.
use Rattle.words.proofs.Laws.Laid.{byte-stored, byte_past}
use Rattle.words.proofs.Writer.byte.Goals.{then-self, else-self}
use Rattle.words.proofs.Writer.byte.Goals as goal

pub returns-clause-wrote : goal.returns-clause-wrote
returns-clause-wrote c =
    elim c.if-self.branch [
      | then-self w ↦ rw w.self-is (byte-stored _ _ _)
      | else-self w ↦ rw w.self-is (byte_past _ _ _ w.if-self.false)
    ]
