use mathlib.Core.Path.{refl, sym, ap, ◌∙◌}
use mathlib.Core.Bool.{not}
use native.Mathlib.Omega.{arith}
use lib.Seq.{length-take-le}
use Rattle.tables.proofs.Laws.Lent.{long-words}
use Rattle.tables.proofs.Laws.Formed.{formed-is, long-is}
use Rattle.rules.proofs.Laws.Rules.{sets-taken, ranged, ranged-narrow, clause-in-use, part-narrow, fork-unknown, fork-masks, fork-inside, fork-around, fork-fitted}
use Rattle.rules.proofs.rules.fork.Goals as goal

pub returns-then-is_unknown-clause-after : goal.returns-then-is_unknown-clause-after
returns-then-is_unknown-clause-after c =
    let h = rw (← c.view-lent.ensures.tables, ← c.view-lent.ensures.state) at c.requires in
    rw (← c.view-lent.ensures.tables, ← c.view-lent.ensures.state) (
    fork-unknown _ _ h _ _ _ c.is_unknown.ensures c.if-is_unknown.true)

pub clause_at-x-requires : goal.clause_at-x-requires
clause_at-x-requires c =
    let h = rw (← c.view-lent.ensures.tables, ← c.view-lent.ensures.state) at c.requires in
    ranged _ _ h _ c.is_unknown.ensures c.if-is_unknown.false

pub covers-requires : goal.covers-requires
covers-requires c =
    let h = rw (← c.view-lent.ensures.tables, ← c.view-lent.ensures.state) at c.requires in
    ranged-narrow _ _ h _ c.is_unknown.ensures c.if-is_unknown.false c.clause_at-x.ensures

pub returns-then-not-covers-clause-after : goal.returns-then-not-covers-clause-after
returns-then-not-covers-clause-after c =
    let h = rw (← c.view-lent.ensures.tables, ← c.view-lent.ensures.state) at c.requires in
    rw (← c.view-lent.ensures.tables, ← c.view-lent.ensures.state) (
    fork-masks _ _ h _ _ _ c.is_unknown.ensures c.if-is_unknown.false c.clause_at-x.ensures c.covers.ensures (ap not c.if-not-covers.true))

pub slice_bounds-measure_part-end : goal.slice_bounds-measure_part-end
slice_bounds-measure_part-end c =
    let h = rw (← c.view-lent.ensures.tables, ← c.view-lent.ensures.state) at c.requires in
    sym (length-take-le _ c.view-lent.result.sets.now (omega (arith, (formed-is _ _ h.formed).counts.variables, long-words _ (long-is _ h.lent).sets)))

pub slice_bounds-measure_part-end-2 : goal.slice_bounds-measure_part-end-2
slice_bounds-measure_part-end-2 c =
    let h = rw (← c.view-lent.ensures.tables, ← c.view-lent.ensures.state) at c.requires in
    sym (length-take-le _ c.view-lent.result.sets.now (omega (arith, (formed-is _ _ h.formed).counts.variables, long-words _ (long-is _ h.lent).sets)))

pub measure_part-first-requires : goal.measure_part-first-requires
measure_part-first-requires c =
    let h = rw (← c.view-lent.ensures.tables, ← c.view-lent.ensures.state) at c.requires in
    (rw (sets-taken _ _ c.view-lent.result.sets.now _ _ h) (clause-in-use _ _ h _ c.is_unknown.ensures c.if-is_unknown.false c.clause_at-x.ensures refl), ranged-narrow _ _ h _ c.is_unknown.ensures c.if-is_unknown.false c.clause_at-x.ensures)

pub measure_part-second-requires : goal.measure_part-second-requires
measure_part-second-requires c =
    let h = rw (← c.view-lent.ensures.tables, ← c.view-lent.ensures.state) at c.requires in
    (rw (sets-taken _ _ c.view-lent.result.sets.now _ _ h) (clause-in-use _ _ h _ c.is_unknown.ensures c.if-is_unknown.false c.clause_at-x.ensures refl), ranged-narrow _ _ h _ c.is_unknown.ensures c.if-is_unknown.false c.clause_at-x.ensures)

pub returns-then-inside-clause-after : goal.returns-then-inside-clause-after
returns-then-inside-clause-after c =
    let h = rw (← c.view-lent.ensures.tables, ← c.view-lent.ensures.state) at c.requires in
    rw (← c.view-lent.ensures.tables, ← c.view-lent.ensures.state) (
    fork-inside _ _ h _ _ _ c.is_unknown.ensures c.if-is_unknown.false c.clause_at-x.ensures c.covers.ensures (ap not c.if-not-covers.false) refl (rw (sets-taken _ _ c.view-lent.result.sets.now _ _ h) at c.measure_part-first.ensures.set) (rw (sets-taken _ _ c.view-lent.result.sets.now _ _ h) at c.measure_part-second.ensures.set) c.inside.ensures refl c.if-inside.true)

pub returns-then-inside-2-clause-after : goal.returns-then-inside-2-clause-after
returns-then-inside-2-clause-after c =
    let h = rw (← c.view-lent.ensures.tables, ← c.view-lent.ensures.state) at c.requires in
    rw (← c.view-lent.ensures.tables, ← c.view-lent.ensures.state) (
    fork-around _ _ h _ _ _ c.is_unknown.ensures c.if-is_unknown.false c.clause_at-x.ensures c.covers.ensures (ap not c.if-not-covers.false) refl (rw (sets-taken _ _ c.view-lent.result.sets.now _ _ h) at c.measure_part-first.ensures.set) (rw (sets-taken _ _ c.view-lent.result.sets.now _ _ h) at c.measure_part-second.ensures.set) c.inside.ensures c.inside-2.ensures c.if-inside-2.true)

pub hold-held-requires : goal.hold-held-requires
hold-held-requires c =
    let h = rw (← c.view-lent.ensures.tables, ← c.view-lent.ensures.state) at c.requires in
    ranged-narrow _ _ h _ c.is_unknown.ensures c.if-is_unknown.false c.clause_at-x.ensures

pub add_parts-requires : goal.add_parts-requires
add_parts-requires c =
    let h = rw (← c.view-lent.ensures.tables, ← c.view-lent.ensures.state) at c.requires in
    let narrow = part-narrow _ _ h _ c.args.left c.args.right c.is_unknown.ensures c.if-is_unknown.false c.clause_at-x.ensures c.covers.ensures in (
      c.requires,
      rw (c.as_slice.ensures ∙ c.hold-held.ensures) (record {
        narrow = ranged-narrow _ _ h _ c.is_unknown.ensures c.if-is_unknown.false c.clause_at-x.ensures;
        first = c.measure_part-first.ensures.count;
        second = c.measure_part-second.ensures.count;
        first-narrow = omega (arith, c.measure_part-first.ensures.count, narrow c.args.left);
        second-narrow = omega (arith, c.measure_part-second.ensures.count, narrow c.args.right);
      }),
    )

pub returns-clause-after : goal.returns-clause-after
returns-clause-after c =
    let h = rw (← c.view-lent.ensures.tables, ← c.view-lent.ensures.state) at c.requires in
    let is = fork-fitted _ _ h _ _ _ c.is_unknown.ensures c.if-is_unknown.false c.clause_at-x.ensures c.covers.ensures (ap not c.if-not-covers.false) refl (rw (sets-taken _ _ c.view-lent.result.sets.now _ _ h) at c.measure_part-first.ensures.set) (rw (sets-taken _ _ c.view-lent.result.sets.now _ _ h) at c.measure_part-second.ensures.set) c.inside.ensures c.inside-2.ensures c.if-inside.false c.if-inside-2.false c.common-set.ensures in
    let asked = rw (c.view-lent.ensures.tables, c.view-lent.ensures.state) at is in
    rw asked (rw (c.as_slice.ensures ∙ c.hold-held.ensures) at c.add_parts.ensures.after)
