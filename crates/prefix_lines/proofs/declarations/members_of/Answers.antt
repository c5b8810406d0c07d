use native.Mathlib.Omega.{arith}
use Rattle.sets.specs.Words.{as_set}
use Rattle.prefix_lines.proofs.Laws.Rows.{members-start, members-stop, members-next, members-all}
use Rattle.prefix_lines.proofs.declarations.members_of.Goals as goal

pub loop-variable-init : goal.loop-variable-init
loop-variable-init c = unfold as_set in members-start _ c.args.kinds.now c.args.variables.now

pub returns-then-kind_of-ne-UNIVERSAL : goal.returns-then-kind_of-ne-UNIVERSAL
returns-then-kind_of-ne-UNIVERSAL c = members-stop _ _ _ _ c.loop-variable-test.true c.loop-variable.invariant c.kind_of.ensures c.if-kind_of-ne-UNIVERSAL.true

pub loop-variable-preserved : goal.loop-variable-preserved
loop-variable-preserved c = members-next _ _ _ _ c.loop-variable-test.true c.loop-variable.invariant c.kind_of.ensures c.if-kind_of-ne-UNIVERSAL.false c.set_of-set.ensures c.union-united.ensures

pub returns : goal.returns
returns c = members-all _ _ _ c.loop-variable.variable-index (omega (arith, c.loop-variable-test.false)) c.loop-variable.invariant
