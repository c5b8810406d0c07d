-- `adding::add_reduced` meets its contract.
use mathlib.Core.Path.{refl, sym, ◌∙◌}
use native.Mathlib.Omega.{arith}
use lib.ListN.{length-take, length-drop}
use Rattle.clauses.specs.Places.{but_at}
use Rattle.clauses.proofs.Laws.Places.{but-length}
use Rattle.additions.proofs.Laws.Adding.{one-full, one-room, one-asked, one-added, tail-stored}
use Rattle.additions.proofs.adding.add_reduced.Goals as goal

pub returns-then-is_full-clause-after : goal.returns-then-is_full-clause-after
returns-then-is_full-clause-after c =
    let width = sym (but-length c.args.clause.now c.args.place c.requires.1) in
    one-full _ _ c.requires.0 _ (but_at c.args.place c.args.clause.now) refl width c.is_full.ensures c.if-is_full.true

pub slice_bounds-write_without-count : goal.slice_bounds-write_without-count
slice_bounds-write_without-count c =
    let width = sym (but-length c.args.clause.now c.args.place c.requires.1) in
    omega (arith, one-room _ _ c.requires.0 _ (but_at c.args.place c.args.clause.now) refl width c.is_full.ensures c.if-is_full.false)

pub slice_bounds-write_without-start : goal.slice_bounds-write_without-start
slice_bounds-write_without-start c =
    let width = sym (but-length c.args.clause.now c.args.place c.requires.1) in
    omega (arith, one-room _ _ c.requires.0 _ (but_at c.args.place c.args.clause.now) refl width c.is_full.ensures c.if-is_full.false)

pub write_without-count-requires : goal.write_without-count-requires
write_without-count-requires c =
    let width = sym (but-length c.args.clause.now c.args.place c.requires.1) in
    let room = one-room _ _ c.requires.0 _ (but_at c.args.place c.args.clause.now) refl width c.is_full.ensures c.if-is_full.false in
    (c.requires.1, simp (length-take, length-drop) (omega (arith, room, width)))

pub add_clause-requires : goal.add_clause-requires
add_clause-requires c =
    let width = sym (but-length c.args.clause.now c.args.place c.requires.1) in
    one-asked _ _ c.requires.0 _ (but_at c.args.place c.args.clause.now) refl width c.is_full.ensures c.if-is_full.false c.write_without-count.ensures.count

pub returns-clause-after : goal.returns-clause-after
returns-clause-after c =
    let width = sym (but-length c.args.clause.now c.args.place c.requires.1) in
    let added = c.add_clause.ensures in
    let literals = added.rest.0 ∙ tail-stored _ _ _ _ c.write_without-count.ensures.left in
    rw (added.rest.1, added.rest.2) (one-added _ _ c.requires.0 _ (but_at c.args.place c.args.clause.now) refl width c.is_full.ensures c.if-is_full.false c.write_without-count.ensures.count literals added.ends added.state)
