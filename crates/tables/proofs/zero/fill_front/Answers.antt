-- `zero::fill_front` meets its contract.
use native.Mathlib.Nat.{sub-zero}
use lib.Seq.{length-take-le}
use Rattle.tables.specs.Spread.{over}
use Rattle.tables.proofs.zero.fill_front.Goals as goal

pub returns : goal.returns
unfolding over
returns g c = rw (c.fill.ensures.after c.requires.same, length-take-le c.args.size c.args.entries.now c.requires.room, sub-zero c.args.size)
