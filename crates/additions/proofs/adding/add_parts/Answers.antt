-- `adding::add_parts` meets its contract.
use native.Mathlib.Omega.{arith}
use lib.ListN.{length-take, length-drop}
use Rattle.dqbf.specs.Literal.{pick}
use Rattle.sets.specs.Words.{as_set}
use Rattle.additions.proofs.Laws.Adding.{fork-full, fork-room, fork-variable, fork-asked, fork-added, new-fits, new-small}
use Rattle.additions.proofs.adding.add_parts.Goals as goal

pub returns-then-is_full-clause-after : goal.returns-then-is_full-clause-after
returns-then-is_full-clause-after c =
    fork-full _ _ c.requires.0 (pick c.args.split.left c.args.clause.now) (pick c.args.split.right c.args.clause.now) (as_set c.args.split.set) c.requires.1.first c.requires.1.second c.is_full.ensures c.if-is_full.true

pub overflow_add-variable : goal.overflow_add-variable
overflow_add-variable c =
    omega (arith, fork-variable _ _ c.requires.0 (pick c.args.split.left c.args.clause.now) (pick c.args.split.right c.args.clause.now) (as_set c.args.split.set) c.requires.1.first c.requires.1.second c.is_full.ensures c.if-is_full.false)

pub overflow_cast-variable : goal.overflow_cast-variable
overflow_cast-variable c =
    new-fits _ (fork-variable _ _ c.requires.0 (pick c.args.split.left c.args.clause.now) (pick c.args.split.right c.args.clause.now) (as_set c.args.split.set) c.requires.1.first c.requires.1.second c.is_full.ensures c.if-is_full.false)

pub slice_bounds-write_fork-count : goal.slice_bounds-write_fork-count
slice_bounds-write_fork-count c =
    omega (arith, fork-room _ _ c.requires.0 (pick c.args.split.left c.args.clause.now) (pick c.args.split.right c.args.clause.now) (as_set c.args.split.set) c.requires.1.first c.requires.1.second c.is_full.ensures c.if-is_full.false)

pub slice_bounds-write_fork-start : goal.slice_bounds-write_fork-start
slice_bounds-write_fork-start c =
    omega (arith, fork-room _ _ c.requires.0 (pick c.args.split.left c.args.clause.now) (pick c.args.split.right c.args.clause.now) (as_set c.args.split.set) c.requires.1.first c.requires.1.second c.is_full.ensures c.if-is_full.false)

pub write_fork-requires : goal.write_fork-requires
write_fork-requires c =
    (c.requires.1.narrow, simp (length-take, length-drop) (omega (arith, fork-room _ _ c.requires.0 (pick c.args.split.left c.args.clause.now) (pick c.args.split.right c.args.clause.now) (as_set c.args.split.set) c.requires.1.first c.requires.1.second c.is_full.ensures c.if-is_full.false)), new-small _ (fork-variable _ _ c.requires.0 (pick c.args.split.left c.args.clause.now) (pick c.args.split.right c.args.clause.now) (as_set c.args.split.set) c.requires.1.first c.requires.1.second c.is_full.ensures c.if-is_full.false))

pub add_fork-requires : goal.add_fork-requires
add_fork-requires c =
    fork-asked _ _ c.requires.0 (pick c.args.split.left c.args.clause.now) (pick c.args.split.right c.args.clause.now) (as_set c.args.split.set) c.requires.1.first c.requires.1.second c.is_full.ensures c.if-is_full.false

pub returns-clause-after : goal.returns-clause-after
returns-clause-after c =
    let added = c.add_fork.ensures in
    fork-added _ _ c.requires.0 (pick c.args.split.left c.args.clause.now) (pick c.args.split.right c.args.clause.now) (as_set c.args.split.set) c.requires.1.first c.requires.1.second c.is_full.ensures c.if-is_full.false c.write_fork.ensures.left added.literals added.ends added.sets added.spare added.kinds added.state
