use mathlib.Core.Path.{refl}
use Prim.Native.Nat.{◌-◌}
use native.Mathlib.Omega.{arith}
use borrow.Author.Rules.{rules}
use lib.Bits.{bit_and, and_le_r}
use lib.Count.{trailing_le}
use Rattle.clauses.proofs.Laws.Clauses.{pick-few, lowest-there, lowest-picked, none-picked}
use Rattle.sets.specs.Words.{words_each, as_set, as_sets}
use Rattle.clause_sets.proofs.Laws.Sets.{measuring-start, measuring-more, measuring-done, set_there}
use Rattle.clause_sets.proofs.measure_part.Goals as goal

pub overflow_cast-at : goal.overflow_cast-at
overflow_cast-at c = omega (arith, trailing_le 32 c.args.mask)

pub loop-at-init : goal.loop-at-init
loop-at-init c = (refl, pick-few c.args.mask c.args.clause.now, unfold as_set in measuring-start _ _)

pub set_of-requires : goal.set_of-requires
set_of-requires c =
    set_there (as_sets words_each c.args.sets.now) c.requires.0 c.loop-at.at (omega arith) (search rules)

pub overflow_add-count : goal.overflow_add-count
overflow_add-count c = omega (arith, c.loop-at.invariant.2.width)

pub overflow_sub-rest : goal.overflow_sub-rest
overflow_sub-rest c =
    let some = lowest-there c.args.clause.now c.loop-at.rest c.loop-at.at c.requires.1 c.loop-at.invariant.0 (omega arith) in search rules

pub overflow_cast-at-in-loop-at : goal.overflow_cast-at-in-loop-at
overflow_cast-at-in-loop-at c = omega (arith, trailing_le 32 (bit_and c.loop-at.rest (c.loop-at.rest - 1)))

pub loop-at-smaller : goal.loop-at-smaller
loop-at-smaller c =
    let some = lowest-there c.args.clause.now c.loop-at.rest c.loop-at.at c.requires.1 c.loop-at.invariant.0 (omega arith) in omega (arith, and_le_r c.loop-at.rest (c.loop-at.rest - 1))

pub loop-at-preserved : goal.loop-at-preserved
loop-at-preserved c =
    (refl, c.loop-at.invariant.1, measuring-more _ c.loop-at.invariant.2 (lowest-picked c.args.clause.now c.loop-at.rest c.loop-at.at c.requires.1 c.loop-at.invariant.0 (omega arith)) (search rules) c.set_of.ensures c.union-more.ensures)

pub returns : goal.returns
returns c =
    measuring-done _ c.loop-at.invariant.2 (none-picked c.args.clause.now c.loop-at.rest c.loop-at.at c.requires.1 c.loop-at.invariant.0 (omega arith)) c.loop-at.set refl
