use Rattle.forms.proofs.Laws.Forms.{header-bare, header-one, header-two, header-many, header-other, header-no-v, header-no-c, header_is}
use Rattle.forms.proofs.form.header_form.Goals as goal

pub returns-in_err-format : goal.returns-in_err-format
returns-in_err-format c = rw c.from_residual.ensures (header-bare c.args.line.now c.args.i c.in_err-format.ensures)

pub returns-in_err-variables : goal.returns-in_err-variables
returns-in_err-variables c = rw c.from_residual-in_err-variables.ensures (header-one c.args.line.now c.args.i c.in_ok-format.format c.in_ok-format.ensures c.in_err-variables.ensures)

pub returns-in_err-clauses : goal.returns-in_err-clauses
returns-in_err-clauses c = rw c.from_residual-in_err-clauses.ensures (header-two c.args.line.now c.args.i c.in_ok-format.format c.in_ok-format.ensures c.in_ok-variables.variables c.in_ok-variables.ensures c.in_err-clauses.ensures)

pub returns-then-clauses-line : goal.returns-then-clauses-line
returns-then-clauses-line c = header-many c.args.line.now c.args.i c.in_ok-format.format c.in_ok-format.ensures c.in_ok-variables.variables c.in_ok-variables.ensures c.in_ok-clauses.clauses c.in_ok-clauses.ensures c.if-clauses-line.true

pub returns-then-ne : goal.returns-then-ne
returns-then-ne c = header-other c.args.line.now c.args.i c.in_ok-format.format c.in_ok-format.ensures c.in_ok-variables.variables c.in_ok-variables.ensures c.in_ok-clauses.clauses c.in_ok-clauses.ensures c.if-clauses-line.false c.as_slice.result.now c.as_slice.ensures c.if-ne.ensures

pub returns-in_err-v : goal.returns-in_err-v
returns-in_err-v c = rw c.from_residual-in_err-v.ensures (header-no-v c.args.line.now c.args.i c.in_ok-format.format c.in_ok-format.ensures c.in_ok-variables.variables c.in_ok-variables.ensures c.in_ok-clauses.clauses c.in_ok-clauses.ensures c.if-clauses-line.false c.as_slice.result.now c.as_slice.ensures c.if-ne.ensures c.in_err-v.ensures.0)

pub returns-in_err-c : goal.returns-in_err-c
returns-in_err-c c = rw c.from_residual-in_err-c.ensures (header-no-c c.args.line.now c.args.i c.in_ok-format.format c.in_ok-format.ensures c.in_ok-variables.variables c.in_ok-variables.ensures c.in_ok-clauses.clauses c.in_ok-clauses.ensures c.if-clauses-line.false c.as_slice.result.now c.as_slice.ensures c.if-ne.ensures c.in_ok-v.v c.in_ok-v.ensures.0 c.in_err-c.ensures.0)

pub returns : goal.returns
returns c = header_is c.args.line.now c.args.i c.in_ok-format.format c.in_ok-format.ensures c.in_ok-variables.variables c.in_ok-variables.ensures c.in_ok-clauses.clauses c.in_ok-clauses.ensures c.if-clauses-line.false c.as_slice.result.now c.as_slice.ensures c.if-ne.ensures c.in_ok-v.v c.in_ok-v.ensures.0 c.in_ok-c.c c.in_ok-c.ensures.0
