use Rattle.rules.proofs.clause.clause_at.Goals as goal

pub returns : goal.returns
returns c = rw (c.clause_range-range.ensures.0, c.clause_range-range.ensures.1)
