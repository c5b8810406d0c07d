use Rattle.std.specs.Prelude.{Some}
use Rattle.clause_masks.specs.Laid.{model_of}
use Rattle.clause_masks.proofs.Laws.Masks.{Collected}
use Rattle.clause_masks.proofs.masks_of.Given as goal

abbrev pub invariant-loop-l : goal.invariant-loop-l
invariant-loop-l l = Collected (model_of l.layout) l.setting l.clause (Some l.masks) l.l-index
