-- `formula_lines::prefix::write_universals` meets its contract.
use mathlib.Core.Path.{refl, ◌∙◌}
use native.Mathlib.Omega.{arith}
use lib.ListN.{length}
use Rattle.sets.specs.Words.{words_each, as_sets}
use Rattle.formula_lines.proofs.Laws.Walks.{closing-fits, closing-done}
use Rattle.formula_lines.proofs.Laws.Universals.{found-with}
use Rattle.formula_lines.proofs.Laws.Prefix.{declared-start, declared-fits, declared-next, declared-end}
use Rattle.formula_lines.proofs.prefix.write_universals.Goals as goal

pub loop-i-init : goal.loop-i-init
loop-i-init c = record { loan = refl; writing = declared-start _ _ _ _ _ }

pub overflow_cast-i : goal.overflow_cast-i
overflow_cast-i c = let few = c.requires.1 in omega (arith, c.loop-i-test.true)

pub single-set-requires : goal.single-set-requires
single-set-requires c = let few = c.requires.1 in omega (arith, c.loop-i-test.true)

pub spaced-requires : goal.spaced-requires
spaced-requires c =
    let a = c.args in
    declared-fits a.names.now (as_sets words_each a.sets.now) (length a.names.now) c.loop-i.i c.loop-i.invariant.writing (found-with a.names.now (as_sets words_each a.sets.now) _ c.unwrap_or-variable.ensures c.universal_with.ensures) c.single-set.ensures c.loop-i-test.true c.requires.0

pub loop-i-preserved : goal.loop-i-preserved
loop-i-preserved c =
    let a = c.args in record {
      loan = c.spaced.ensures.loan ∙ c.loop-i.invariant.loan;
      writing = declared-next a.names.now (as_sets words_each a.sets.now) (length a.names.now) c.loop-i.i c.loop-i.invariant.writing (found-with a.names.now (as_sets words_each a.sets.now) _ c.unwrap_or-variable.ensures c.universal_with.ensures) c.single-set.ensures c.loop-i-test.true c.spaced.ensures.wrote;
    }

pub closing-requires : goal.closing-requires
closing-requires c =
    let a = c.args in
    closing-fits (declared-end a.names.now (as_sets words_each a.sets.now) (length a.names.now) c.loop-i.i c.loop-i.invariant.writing c.loop-i-test.false) c.requires.0

pub returns-clause-wrote : goal.returns-clause-wrote
returns-clause-wrote c =
    let a = c.args in
    closing-done (declared-end a.names.now (as_sets words_each a.sets.now) (length a.names.now) c.loop-i.i c.loop-i.invariant.writing c.loop-i-test.false) c.closing.ensures.wrote
