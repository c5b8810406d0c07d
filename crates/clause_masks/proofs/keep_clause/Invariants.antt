use Rattle.family_bits.specs.Left.{Narrowed}
use Rattle.clause_masks.specs.Laid.{model_of}
use Rattle.clause_masks.proofs.Laws.Clauses.{true_below}
use Rattle.clause_masks.proofs.keep_clause.Given as goal

abbrev pub invariant-loop-setting : goal.invariant-loop-setting
invariant-loop-setting l = Narrowed l.initial.left l.left (true_below (model_of l.layout) l.clause l.setting)
