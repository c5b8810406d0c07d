-- `formula_lines::universals::list_universals` meets its contract.
use mathlib.Core.Path.{◌∙◌}
use Prim.Native.Nat.{◌+◌}
use native.Mathlib.Omega.{arith}
use borrow.Author.Rules.{rules}
use borrow.Author.Tests.{eq-eqb, ne_eqb}
use lib.ListN.{length-set}
use Rattle.formula_lines.proofs.Laws.Universals.{listing_start, listing-passed, listing-room, listing-next, listing-done}
use Rattle.formula_lines.proofs.universals.list_universals.Goals.{then-kind-eq-UNIVERSAL, else-kind-eq-UNIVERSAL}
use Rattle.formula_lines.proofs.universals.list_universals.Goals as goal

pub loop-i-init : goal.loop-i-init
loop-i-init c = (search rules, listing_start _ _)

pub offset_bounds-names-count : goal.offset_bounds-names-count
offset_bounds-names-count c =
    let few = c.requires.0 in
    let room = listing-room _ c.loop-i.invariant.1 c.loop-i-test.true (eq-eqb _ _ c.if-kind-eq-UNIVERSAL.true) (omega (arith, c.loop-i.invariant.0)) in
    search rules

pub bounds-names-count : goal.bounds-names-count
bounds-names-count c =
    let few = c.requires.0 in
    listing-room _ c.loop-i.invariant.1 c.loop-i-test.true (eq-eqb _ _ c.if-kind-eq-UNIVERSAL.true) (omega (arith, c.loop-i.invariant.0))

pub overflow_add-count : goal.overflow_add-count
overflow_add-count c =
    let few = c.requires.0 in
    let room = listing-room _ c.loop-i.invariant.1 c.loop-i-test.true (eq-eqb _ _ c.if-kind-eq-UNIVERSAL.true) (omega (arith, c.loop-i.invariant.0)) in
    search rules

pub loop-i-preserved : goal.loop-i-preserved
loop-i-preserved c =
    let few = c.requires.0 in
    let l = c.loop-i in
    elim c.if-kind-eq-UNIVERSAL.branch [
      | then-kind-eq-UNIVERSAL w ↦ rw (w.names-is, w.count-is) (
        length-set l.names l.count (l.i + 1) ∙ l.invariant.0,
        listing-next _ l.invariant.1 c.loop-i-test.true (eq-eqb _ _ w.if-kind-eq-UNIVERSAL.true) (omega (arith, l.invariant.0)),
      )
      | else-kind-eq-UNIVERSAL w ↦ rw (w.names-is, w.count-is) (
        l.invariant.0,
        listing-passed _ l.invariant.1 c.loop-i-test.true (ne_eqb _ _ w.if-kind-eq-UNIVERSAL.false),
      )
    ]

pub returns : goal.returns
returns c = let l = c.loop-i.invariant.1 in (l.inside, listing-done _ l c.loop-i-test.false)
