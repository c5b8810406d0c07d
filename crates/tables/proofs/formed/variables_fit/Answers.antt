-- `tables::formed::variables_fit` meets its contract.
use mathlib.Core.Path.{sym, ◌∙◌}
use native.Mathlib.Omega.{arith}
use Rattle.sets.specs.Words.{words_each, as_set, as_sets}
use Rattle.tables.proofs.Laws.Lent.{lowest-is}
use Rattle.tables.proofs.Laws.Turns.{variables-start, variables-miscounted, variables-filled, variables-universal, variables-other, variables-old, variables-ill}
use borrow.Author.Rules.{rules}
use Rattle.tables.proofs.formed.variables_fit.Goals as goal

pub loop-i-init : goal.loop-i-init
loop-i-init c = (search rules, unfold as_set in variables-start _ _ _ _)

pub returns-then-not-variable_fits : goal.returns-then-not-variable_fits
returns-then-not-variable_fits c =
    let places = lowest-is _ c.lowest-places.ensures in
    let fits = rw c.get-set.ensures at c.variable_fits.ensures in
    sym (c.loop-i.invariant.1 ∙ variables-ill _ _ _ _ _ _ _ c.loop-i-test.true (omega (arith, c.requires.1)) _ places (sym fits ∙ c.if-not-variable_fits.true))

pub returns-then-not-is_new_bit : goal.returns-then-not-is_new_bit
returns-then-not-is_new_bit c =
    let places = lowest-is _ c.lowest-places.ensures in
    let new = rw c.get-set.ensures at c.is_new_bit.ensures in
    sym (c.loop-i.invariant.1 ∙ variables-old _ _ _ _ _ _ _ c.loop-i-test.true (omega (arith, c.requires.1)) _ places c.if-kind-ne-UNIVERSAL.false (sym new ∙ c.if-not-is_new_bit.true))

pub loop-i-preserved : goal.loop-i-preserved
loop-i-preserved c =
    let places = lowest-is _ c.lowest-places.ensures in
    let fits = rw c.get-set.ensures at c.variable_fits.ensures in
    let new = rw c.get-set.ensures at c.is_new_bit.ensures in
    let united = rw c.get-set.ensures at c.union-united.ensures in
    let passed = variables-universal c.args.kinds.now (as_sets words_each c.args.sets.now) c.args.bound c.args.universals c.loop-i.i (as_set c.loop-i.seen) c.loop-i.count c.loop-i-test.true (omega (arith, c.requires.1)) _ places (sym fits ∙ c.if-not-variable_fits.false) c.if-kind-ne-UNIVERSAL.false (sym new ∙ c.if-not-is_new_bit.false) in
    (omega (arith, c.loop-i.invariant.0), c.loop-i.invariant.1 ∙ rw (← united) at passed)

pub loop-i-preserved-then-kind-ne-UNIVERSAL : goal.loop-i-preserved-then-kind-ne-UNIVERSAL
loop-i-preserved-then-kind-ne-UNIVERSAL c =
    let places = lowest-is _ c.lowest-places.ensures in
    let fits = rw c.get-set.ensures at c.variable_fits.ensures in
    (omega (arith, c.loop-i.invariant.0), c.loop-i.invariant.1 ∙ variables-other _ _ _ _ _ _ _ c.loop-i-test.true (omega (arith, c.requires.1)) _ places (sym fits ∙ c.if-not-variable_fits.false) c.if-kind-ne-UNIVERSAL.true)

pub returns-then-count-universals : goal.returns-then-count-universals
returns-then-count-universals c = sym (c.loop-i.invariant.1 ∙ variables-miscounted _ _ _ _ _ _ _ c.loop-i-test.false c.if-count-universals.true)

pub returns : goal.returns
returns c = c.same.ensures ∙ variables-filled _ _ _ _ _ _ _ c.loop-i-test.false c.if-count-universals.false _ (lowest-is _ c.lowest-places.ensures) ∙ sym c.loop-i.invariant.1
