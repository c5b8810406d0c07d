-- `clause_masks::add_bit` meets its contract.
use mathlib.Core.Path.{ap}
use lib.Bits.{bit_or}
use Rattle.sets.proofs.Laws.Four.{shifted}
use Rattle.clause_masks.proofs.Laws.Masks.{literal-one, literal-zero}
use Rattle.clause_masks.proofs.add_bit.Goals as goal

pub returns-then-negated : goal.returns-then-negated
returns-then-negated c = literal-zero c.args.masks c.args.negated c.args.place c.if-negated.true (ap (bit_or c.args.masks.zeros) (shifted c.args.place c.requires))

pub returns : goal.returns
returns c = literal-one c.args.masks c.args.negated c.args.place c.if-negated.false (ap (bit_or c.args.masks.ones) (shifted c.args.place c.requires))
