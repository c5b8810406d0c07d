-- `clause_masks::add_value` meets its contract.
use Rattle.clause_masks.proofs.Laws.Masks.{literal-false, literal-true}
use Rattle.clause_masks.proofs.add_value.Goals as goal

pub returns-then-value-negated : goal.returns-then-value-negated
returns-then-value-negated c = literal-false _ c.args.negated c.args.value c.if-value-negated.true

pub returns-else-value-negated : goal.returns-else-value-negated
returns-else-value-negated c = literal-true _ c.args.negated c.args.value c.if-value-negated.false
