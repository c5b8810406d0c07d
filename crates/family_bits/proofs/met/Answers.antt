-- `family_bits::met` meets its contract.
use borrow.Author.Tests.{eq-eqb, ne_eqb}
use Rattle.family_bits.specs.Left.{met}
use Rattle.family_bits.proofs.met.Goals as goal

pub returns-then-ones-number-ne0 : goal.returns-then-ones-number-ne0
unfolding met
returns-then-ones-number-ne0 c = rw (ne_eqb _ 0 c.if-ones-number-ne0.true)

pub returns-else-ones-number-ne0 : goal.returns-else-ones-number-ne0
unfolding met
returns-else-ones-number-ne0 c = rw (eq-eqb _ 0 c.if-ones-number-ne0.false)
