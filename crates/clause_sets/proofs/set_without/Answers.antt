use mathlib.Core.Path.{sym}
use Prim.Native.Nat.{◌+◌}
use native.Mathlib.Omega.{arith}
use lib.ListN.{take, drop}
use lib.Seq.{length-take-le}
use Rattle.dqbf.proofs.Laws.Parts.{tail-lent}
use Rattle.sets.specs.Words.{words_each, as_sets}
use Rattle.clause_sets.proofs.Laws.Sets.{set-parts, front-in-use, back-in-use}
use Rattle.clause_sets.proofs.set_without.Goals as goal

pub slice_bounds-clause_set-end : goal.slice_bounds-clause_set-end
slice_bounds-clause_set-end c = sym (length-take-le c.args.place c.args.clause.now (omega arith))

pub clause_set-front-requires : goal.clause_set-front-requires
clause_set-front-requires c = front-in-use (as_sets words_each c.args.sets.now) c.requires.0 c.args.place

pub clause_set-requires : goal.clause_set-requires
clause_set-requires c =
    rw (tail-lent c.args.clause.now (c.args.place + 1)) (back-in-use (as_sets words_each c.args.sets.now) c.requires.0 (c.args.place + 1))

pub returns : goal.returns
returns c =
    let back = rw (tail-lent c.args.clause.now (c.args.place + 1)) at c.clause_set.ensures in
    rw (set-parts (as_sets words_each c.args.sets.now) (take c.args.place c.args.clause.now) (drop (c.args.place + 1) c.args.clause.now), ← c.clause_set-front.ensures, ← back) c.union.ensures
