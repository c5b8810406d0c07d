use Rattle.numerals.specs.Working.{ranked}
use Rattle.numerals.proofs.list.entry.Goals as goal

pub returns-then-signed : goal.returns-then-signed
unfolding ranked
returns-then-signed c = rw c.if-signed.true

pub returns-else-signed : goal.returns-else-signed
unfolding ranked
returns-else-signed c = rw c.if-signed.false
