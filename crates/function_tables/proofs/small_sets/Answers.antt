-- `function_tables::small_sets` meets its contract.
use native.Mathlib.Omega.{arith}
use lib.ListN.{get_or}
use Rattle.sets.specs.Words.{words_each, as_sets}
use Rattle.function_tables.proofs.Laws.Layout.{lowest-word, copied_next, copied-done}
use Rattle.function_tables.proofs.small_sets.Goals as goal

pub loop-i-init : goal.loop-i-init
loop-i-init c = λ j h. absurd (omega arith)

pub get-words-requires : goal.get-words-requires
get-words-requires c = omega (arith, c.requires.0)

pub overflow_cast-small : goal.overflow_cast-small
overflow_cast-small c =
    let i = c.loop-i.i in
    let small = c.requires.1 i in
    let is = lowest-word c.get-words.result (get_or (as_sets words_each c.args.sets.now) i 0) c.get-words.ensures small in
    record { fits = omega arith }

pub loop-i-preserved : goal.loop-i-preserved
loop-i-preserved c =
    let i = c.loop-i.i in
    let sets = as_sets words_each c.args.sets.now in
    let is = lowest-word c.get-words.result (get_or sets i 0) c.get-words.ensures (c.requires.1 i) in
    copied_next sets c.loop-i.out i (get_or c.get-words.result 0 0) (omega arith) is c.loop-i.invariant

pub returns : goal.returns
returns c =
    copied-done (as_sets words_each c.args.sets.now) c.loop-i.out c.loop-i.i (omega (arith, c.requires.0)) (omega arith) c.loop-i.invariant
