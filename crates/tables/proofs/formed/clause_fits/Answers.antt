-- `tables::formed::clause_fits` meets its contract.
use mathlib.Core.Path.{◌≡◌, sym, ◌∙◌}
use lib.IntN.{pos, nat_abs}
use lib.ListN.{get_or}
use Rattle.dqbf.proofs.Laws.Signed.{var-kept}
use Rattle.tables.proofs.Laws.Turns.{clause-wide, clause-start, literals_end, literals-low, literals-none, literals-high, literals-pass}
use Rattle.tables.proofs.formed.clause_fits.Goals as goal

pub returns-then-clause-gt-WIDTH_LIMIT : goal.returns-then-clause-gt-WIDTH_LIMIT
returns-then-clause-gt-WIDTH_LIMIT c = sym (clause-wide _ _ _ c.if-clause-gt-WIDTH_LIMIT.true)

pub loop-literal-init : goal.loop-literal-init
loop-literal-init c = clause-start _ _ _ c.if-clause-gt-WIDTH_LIMIT.false

pub returns-then-variable-previous : goal.returns-then-variable-previous
returns-then-variable-previous c =
    let is-variable : c.variable_of-variable.result ≡ nat_abs (get_or c.args.clause.now c.loop-literal.literal-index (pos 0)) = (c.variable_of-variable.ensures ∙ var-kept (get_or c.args.clause.now c.loop-literal.literal-index (pos 0)) c.variable_of-arg-1.given) in
    sym (c.loop-literal.invariant ∙ literals-low _ _ _ _ _ _ c.loop-literal-test.true (is-variable) c.if-variable-previous.true)

pub returns-then-kind-eq-UNDECLARED : goal.returns-then-kind-eq-UNDECLARED
returns-then-kind-eq-UNDECLARED c =
    let is-variable : c.variable_of-variable.result ≡ nat_abs (get_or c.args.clause.now c.loop-literal.literal-index (pos 0)) = (c.variable_of-variable.ensures ∙ var-kept (get_or c.args.clause.now c.loop-literal.literal-index (pos 0)) c.variable_of-arg-1.given) in
    sym (c.loop-literal.invariant ∙ literals-none _ _ _ _ _ _ c.loop-literal-test.true (is-variable) _ c.kind_of-kind.ensures c.if-kind-eq-UNDECLARED.true)

pub returns-then-kind-highest : goal.returns-then-kind-highest
returns-then-kind-highest c =
    let is-variable : c.variable_of-variable.result ≡ nat_abs (get_or c.args.clause.now c.loop-literal.literal-index (pos 0)) = (c.variable_of-variable.ensures ∙ var-kept (get_or c.args.clause.now c.loop-literal.literal-index (pos 0)) c.variable_of-arg-1.given) in
    sym (c.loop-literal.invariant ∙ literals-high _ _ _ _ _ _ c.loop-literal-test.true (is-variable) _ c.kind_of-kind.ensures c.if-kind-highest.true)

pub loop-literal-preserved : goal.loop-literal-preserved
loop-literal-preserved c =
    let is-variable : c.variable_of-variable.result ≡ nat_abs (get_or c.args.clause.now c.loop-literal.literal-index (pos 0)) = (c.variable_of-variable.ensures ∙ var-kept (get_or c.args.clause.now c.loop-literal.literal-index (pos 0)) c.variable_of-arg-1.given) in
    c.loop-literal.invariant ∙ literals-pass _ _ _ _ _ _ c.loop-literal-test.true (is-variable) _ c.kind_of-kind.ensures c.if-variable-previous.false c.if-kind-eq-UNDECLARED.false c.if-kind-highest.false

pub returns : goal.returns
returns c = sym (c.loop-literal.invariant ∙ literals_end _ _ _ _ _ c.loop-literal-test.false)
