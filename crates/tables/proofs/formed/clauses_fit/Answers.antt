-- `tables::formed::clauses_fit` meets its contract.
use mathlib.Core.Path.{sym, ◌∙◌}
use native.Mathlib.Omega.{arith}
use borrow.Author.Rules.{rules}
use Rattle.tables.proofs.Laws.Turns.{clauses-start, clauses-short, clauses-done, clauses-falls, clauses-over, clauses-ill, clauses-pass}
use Rattle.tables.proofs.formed.clauses_fit.Goals as goal

pub loop-i-init : goal.loop-i-init
loop-i-init c = (search rules, clauses-start _ _ _ _ _ _)

pub returns-then-end-start : goal.returns-then-end-start
returns-then-end-start c = sym (c.loop-i.invariant.1 ∙ clauses-falls _ _ _ _ _ _ _ _ _ c.loop-i-test.true c.if-end-start.true)

pub returns-then-end-total : goal.returns-then-end-total
returns-then-end-total c = sym (c.loop-i.invariant.1 ∙ clauses-over _ _ _ _ _ _ _ _ _ c.loop-i-test.true c.if-end-total.true)

pub returns-then-not-clause_fits : goal.returns-then-not-clause_fits
returns-then-not-clause_fits c =
    sym (c.loop-i.invariant.1 ∙ clauses-ill _ _ _ _ _ _ _ _ _ c.loop-i-test.true _ c.highest_kind-highest.ensures (sym c.clause_fits.ensures ∙ c.if-not-clause_fits.true))

pub loop-i-preserved : goal.loop-i-preserved
loop-i-preserved c =
    let fits = sym c.clause_fits.ensures ∙ c.if-not-clause_fits.false in (
      c.if-end-total.false,
      c.loop-i.invariant.1 ∙ clauses-pass _ _ _ _ _ _ _ _ _ c.loop-i-test.true _ c.highest_kind-highest.ensures fits c.if-end-start.false (omega (arith, c.if-end-total.false, c.requires.0)) _ c.lowest_after-lowest.ensures,
    )

pub returns-then-start-total : goal.returns-then-start-total
returns-then-start-total c = sym (c.loop-i.invariant.1 ∙ clauses-short _ _ _ _ _ _ _ _ _ c.loop-i-test.false c.if-start-total.true)

pub returns : goal.returns
returns c = clauses-done _ _ _ _ _ _ _ _ _ c.loop-i-test.false c.if-start-total.false ∙ sym c.loop-i.invariant.1
