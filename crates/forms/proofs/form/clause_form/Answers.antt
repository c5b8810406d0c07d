use Rattle.forms.proofs.Laws.Forms.{clause-open, clause-count}
use Rattle.forms.proofs.form.clause_form.Goals as goal

pub returns-in_err-n : goal.returns-in_err-n
returns-in_err-n c = rw c.from_residual.ensures (clause-open c.args.line.now _ c.in_err-n.ensures)

pub returns : goal.returns
returns c = clause-count c.args.line.now _ c.in_ok-n.n c.in_ok-n.ensures
