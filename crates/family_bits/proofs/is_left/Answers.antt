-- `family_bits::is_left` meets its contract.
use Rattle.family_bits.proofs.Laws.Left.{left-shift}
use Rattle.family_bits.proofs.is_left.Goals as goal

pub returns : goal.returns
returns c = left-shift c.args.left.now c.args.family
