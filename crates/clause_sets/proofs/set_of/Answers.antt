use mathlib.Core.Path.{sym, ◌∙◌}
use native.Mathlib.Omega.{arith}
use Rattle.clause_sets.proofs.Laws.Sets.{variable-read, set_at}
use Rattle.clause_sets.proofs.set_of.Goals as goal

pub returns : goal.returns
returns c =
    let read = c.from.ensures ∙ variable-read c.ranges.literal c.unsigned_abs.ensures.value in
    rw (← read) (c.get.ensures ∙ sym (set_at _ _ (λ e. absurd (omega (arith, read, e)))))
