-- `digits::power_of_ten`: the entries are the powers.
use Rattle.lines.proofs.Laws.Digits.{ten-power}
use Rattle.lines.proofs.digits.power_of_ten.Goals as goal

pub returns : goal.returns
returns c = ten-power c.args.exponent c.requires
