-- `run::outcome_of` meets its contract.
use Rattle.steps.proofs.Laws.Runs.{verdict-open, verdict-refuted}
use Rattle.steps.proofs.run.outcome_of.Goals as goal

pub returns-then-state-eq0 : goal.returns-then-state-eq0
returns-then-state-eq0 c = verdict-open c.args.state c.if-state-eq0.true

pub returns-else-state-eq0 : goal.returns-else-state-eq0
returns-else-state-eq0 c = verdict-refuted c.args.state c.if-state-eq0.false
