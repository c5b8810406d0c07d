use borrow.Author.Rules.{rules}
use Rattle.records.specs.Record.{step_in}
use mir.Facts.{to_z-of_z}
use mir.Syntax.{w32}
use Rattle.rules.proofs.examine.examine.Goals as goal

pub returns-in-Resolution-clause-after : goal.returns-in-Resolution-clause-after
unfolding step_in
returns-in-Resolution-clause-after c = rw c.in-Resolution.is (rw (to_z-of_z {w = w32} {z = c.in-Resolution.pivot} (search rules)) at c.resolve.ensures.after)

pub returns-in-Reduction-clause-after : goal.returns-in-Reduction-clause-after
unfolding step_in
returns-in-Reduction-clause-after c = rw c.in-Reduction.is (rw (to_z-of_z {w = w32} {z = c.in-Reduction.literal} (search rules)) at c.reduce.ensures.after)

pub returns-in-Fork-clause-after : goal.returns-in-Fork-clause-after
unfolding step_in
returns-in-Fork-clause-after c = rw c.in-Fork.is c.fork.ensures.after
