-- `judge::judge`: the line of the verdict is written.
use Rattle.verdict.proofs.Laws.Judging.{line-written}
use Rattle.verdict.proofs.judge.judge.Goals as goal

pub returns-clause-after : goal.returns-clause-after
returns-clause-after c = line-written _ _ _ c.load_and_run-verdict.ensures.after c.write_line.ensures
