use native.Mathlib.Omega.{arith}
use Rattle.ranks.proofs.Laws.Ranks.{written-more, written-done}
use Rattle.ranks.proofs.literals.write_literals.Goals as goal

pub literal_of-requires : goal.literal_of-requires
literal_of-requires c = c.requires.by_index c.loop-i.i c.loop-i-test.true

pub loop-i-preserved : goal.loop-i-preserved
loop-i-preserved c =
    let l = c.loop-i in
    written-more c.args.ranks.now l.tail c.args.tail.now l.i c.requires.in_bounds (omega arith) l.invariant c.loop-i-test.true c.literal_of.result c.literal_of.type_inv c.literal_of.ensures

pub returns : goal.returns
returns c =
    let l = c.loop-i in
    written-done c.args.ranks.now l.tail c.args.tail.now l.i c.requires.in_bounds (omega arith) l.invariant c.loop-i-test.false
