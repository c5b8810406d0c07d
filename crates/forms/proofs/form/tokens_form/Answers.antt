use mathlib.Core.Path.{◌≡◌, ap, ◌∙◌}
use Prim.Native.Nat.{ℕ}
use Rattle.std.specs.Prelude.{Some}
use Rattle.forms.proofs.Laws.Forms.{p-line, a-none, a-some, e-none, e-some, d-none, d-some, clause-line}
use Rattle.forms.proofs.form.tokens_form.Goals as goal
use Rattle.forms.proofs.form.tokens_form.Goals.{in_default-via-in-Some+in_default, in_default-via-in_default}

pub returns-in-Some-eq112 : goal.returns-in-Some-eq112
returns-in-Some-eq112 c = p-line c.args.line.now c.requires.1 c.requires.2 c.keyword_byte.result c.keyword_byte.ensures (c.in-Some-eq112.is ∙ ap (λ (b : ℕ). Some b) c.in-Some-eq112.field-0-test) c.header_form.result _ c.header_form.ensures

pub returns-in_err-variables-in-Some-eq97 : goal.returns-in_err-variables-in-Some-eq97
returns-in_err-variables-in-Some-eq97 c = rw c.from_residual.ensures (a-none c.args.line.now c.requires.1 c.requires.2 c.keyword_byte.result c.keyword_byte.ensures _ c.in_err-variables-in-Some-eq97.ensures (c.in-Some-eq97.is ∙ ap (λ (b : ℕ). Some b) c.in-Some-eq97.field-0-test))

pub returns-in_ok-variables-in-Some-eq97 : goal.returns-in_ok-variables-in-Some-eq97
returns-in_ok-variables-in-Some-eq97 c = a-some c.args.line.now c.requires.1 c.requires.2 c.keyword_byte.result c.keyword_byte.ensures c.in_ok-variables-in-Some-eq97.field-0 _ c.in_ok-variables-in-Some-eq97.ensures (c.in-Some-eq97.is ∙ ap (λ (b : ℕ). Some b) c.in-Some-eq97.field-0-test)

pub returns-in_err-variables-in-Some-eq101 : goal.returns-in_err-variables-in-Some-eq101
returns-in_err-variables-in-Some-eq101 c = rw c.from_residual-in_err-variables-in-Some-eq101.ensures (e-none c.args.line.now c.requires.1 c.requires.2 c.keyword_byte.result c.keyword_byte.ensures _ c.in_err-variables-in-Some-eq101.ensures (c.in-Some-eq101.is ∙ ap (λ (b : ℕ). Some b) c.in-Some-eq101.field-0-test))

pub returns-in_ok-variables-in-Some-eq101 : goal.returns-in_ok-variables-in-Some-eq101
returns-in_ok-variables-in-Some-eq101 c = e-some c.args.line.now c.requires.1 c.requires.2 c.keyword_byte.result c.keyword_byte.ensures c.in_ok-variables-in-Some-eq101.field-0 _ c.in_ok-variables-in-Some-eq101.ensures (c.in-Some-eq101.is ∙ ap (λ (b : ℕ). Some b) c.in-Some-eq101.field-0-test)

pub returns-in_err-variables-in-Some-eq100 : goal.returns-in_err-variables-in-Some-eq100
returns-in_err-variables-in-Some-eq100 c = rw c.from_residual-in_err-variables-in-Some-eq100.ensures (d-none c.args.line.now c.requires.1 c.requires.2 c.keyword_byte.result c.keyword_byte.ensures _ c.in_err-variables-in-Some-eq100.ensures (c.in-Some-eq100.is ∙ ap (λ (b : ℕ). Some b) c.in-Some-eq100.field-0-test))

pub returns-in_ok-variables-in-Some-eq100 : goal.returns-in_ok-variables-in-Some-eq100
returns-in_ok-variables-in-Some-eq100 c = d-some c.args.line.now c.requires.1 c.requires.2 c.keyword_byte.result c.keyword_byte.ensures c.in_ok-variables-in-Some-eq100.field-0 _ c.in_ok-variables-in-Some-eq100.ensures (c.in-Some-eq100.is ∙ ap (λ (b : ℕ). Some b) c.in-Some-eq100.field-0-test)

pub returns-in_default : goal.returns-in_default
returns-in_default c =
    let not-p : (c.keyword_byte.result ≡ Some 112 → ⊥) =
    λ z. elim c.in_default.branch [
      | in_default-via-in-Some+in_default w ↦ w.in_default.field-0-test.0.0.0.1 (cc (w.in_default.ensures, c.keyword_byte.ensures, z))
      | in_default-via-in_default w ↦ (cc)
    ] in
    let not_a : (c.keyword_byte.result ≡ Some 97 → ⊥) =
    λ z. elim c.in_default.branch [
      | in_default-via-in-Some+in_default w ↦ w.in_default.field-0-test.0.0.1 (cc (w.in_default.ensures, c.keyword_byte.ensures, z))
      | in_default-via-in_default w ↦ (cc)
    ] in
    let not-e : (c.keyword_byte.result ≡ Some 101 → ⊥) =
    λ z. elim c.in_default.branch [
      | in_default-via-in-Some+in_default w ↦ w.in_default.field-0-test.0.1 (cc (w.in_default.ensures, c.keyword_byte.ensures, z))
      | in_default-via-in_default w ↦ (cc)
    ] in
    let not_d : (c.keyword_byte.result ≡ Some 100 → ⊥) =
    λ z. elim c.in_default.branch [
      | in_default-via-in-Some+in_default w ↦ w.in_default.field-0-test.1 (cc (w.in_default.ensures, c.keyword_byte.ensures, z))
      | in_default-via-in_default w ↦ (cc)
    ] in
    clause-line c.args.line.now c.requires.1 c.requires.2 c.keyword_byte.result c.keyword_byte.ensures not-p not_a not-e not_d c.clause_form.result _ c.clause_form.ensures
