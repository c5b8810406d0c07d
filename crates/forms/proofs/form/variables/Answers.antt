use native.Mathlib.Omega.{arith}
use Rattle.forms.proofs.Laws.Forms.{variables-end, variables-open, variables-none, variables-some}
use Rattle.forms.proofs.form.variables.Goals as goal

pub returns-then-i-line : goal.returns-then-i-line
returns-then-i-line c = variables-end c.args.line.now c.args.i _ c.if-i-line.true

pub returns-in_err-n : goal.returns-in_err-n
returns-in_err-n c = rw c.from_residual.ensures (variables-open c.args.line.now c.args.i _ (omega arith) c.in_err-n.ensures)

pub returns-then-n-eq0 : goal.returns-then-n-eq0
returns-then-n-eq0 c = variables-none c.args.line.now c.args.i _ (omega arith) c.in_ok-n.n c.in_ok-n.ensures c.if-n-eq0.true

pub returns-else-n-eq0 : goal.returns-else-n-eq0
returns-else-n-eq0 c = variables-some c.args.line.now c.args.i _ (omega arith) c.in_ok-n.n c.in_ok-n.ensures c.if-n-eq0.false
