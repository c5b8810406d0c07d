use native.Mathlib.Omega.{arith}
use Rattle.forms.proofs.Laws.Forms.{first_none, first-some, formed-empty, formed-comment, formed-space, formed-tokens}
use Rattle.forms.proofs.form.form.Goals as goal

pub returns-in_err-first : goal.returns-in_err-first
returns-in_err-first c = rw c.from_residual.ensures (formed-empty c.args.line.now _ (first_none c.args.line.now c.in_err-first.ensures.value))

pub returns-in-99 : goal.returns-in-99
returns-in-99 c =
    let first = first-some c.args.line.now c.in_ok-first.field-0.now c.in_ok-first.ensures.value in
    let e = first.1 in
    formed-comment c.args.line.now _ first.0 (omega arith)

pub returns-in-32 : goal.returns-in-32
returns-in-32 c =
    let first = first-some c.args.line.now c.in_ok-first.field-0.now c.in_ok-first.ensures.value in
    let e = first.1 in
    formed-space c.args.line.now _ first.0 (λ z. omega arith) (omega arith)

pub returns-in_default : goal.returns-in_default
returns-in_default c =
    let first = first-some c.args.line.now c.in_ok-first.field-0.now c.in_ok-first.ensures.value in
    let e = first.1 in
    formed-tokens c.args.line.now _ first.0 (λ z. omega arith) (λ z. omega arith) c.tokens_form.result c.tokens_form.ensures
