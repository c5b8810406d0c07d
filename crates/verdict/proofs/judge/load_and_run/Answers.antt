-- `judge::load_and_run`: a refused text is told at once; else the run is told.
use Rattle.verdict.proofs.Laws.Judging.{judged-refused, judged-ran, ran-told}
use Rattle.verdict.proofs.judge.load_and_run.Goals as goal

pub returns-in-Err-clause-after : goal.returns-in-Err-clause-after
returns-in-Err-clause-after c = rw c.number.ensures (judged-refused _ _ _ _ _ _ c.load.ensures.after (rw c.in-Err.is))

pub returns-clause-after : goal.returns-clause-after
returns-clause-after c = ran-told _ _ (judged-ran _ _ _ c.load.ensures.after (rw c.in_default.is) c.run.ensures.after) c.told_by.ensures
