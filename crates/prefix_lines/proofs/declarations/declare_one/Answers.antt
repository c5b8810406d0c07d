use Rattle.std.proofs.lemmas.Result.{err_from_is_err_and}
use mathlib.Core.Path.{refl}
use native.Mathlib.Omega.{arith}
use Rattle.prefix_lines.specs.Lines.{universal_added}
use Rattle.prefix_lines.proofs.Laws.Declaring.{one-refused, one-universal, existential-read, passed-told, refused-told}
use Rattle.prefix_lines.proofs.declarations.declare_one.Goals as goal

pub returns-then-not-universal-clause-read : goal.returns-then-not-universal-clause-read
returns-then-not-universal-clause-read c =
    let d = c.declare.ensures in
    λ t r p h inside. rw (c.if-not-universal.true, d.rest.0, d.rest.1, d.rest.2) (existential-read h inside c.args.variable (omega arith) c.lowest-earlier.ensures d.spare d.declared)

pub returns-in_err-declare-clause-read : goal.returns-in_err-declare-clause-read
returns-in_err-declare-clause-read c =
    let p = err_from_is_err_and c.from_residual.result c.from_residual.ensures.1 in
    let d = c.in_err-declare.ensures in
    let told = refused-told _ d.declared.told in
    λ t r q h inside. rw (p.1, p.2, told.1, d.rest.0, d.rest.1, d.rest.2) (one-refused h inside c.args.variable (omega arith) c.args.universal 1 _ told.0 d.declared.sets-are d.spare d.declared.kinds-are)

pub returns-clause-read : goal.returns-clause-read
returns-clause-read c =
    let d = c.in_ok-declare.ensures in
    let few = c.requires.3 c.if-not-universal.false in
    λ t r p h inside. rw (c.if-not-universal.false, d.rest.0, d.rest.1, d.rest.2) (one-universal h inside c.args.variable (omega arith) (passed-told _ d.declared.told) few c.single.ensures d.declared.sets-are d.spare d.declared.kinds-are (unfold universal_added in refl))
