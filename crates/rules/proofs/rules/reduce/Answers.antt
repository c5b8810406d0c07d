use mathlib.Core.Path.{refl, sym, ◌∙◌}
use native.Mathlib.Omega.{arith}
use lib.Seq.{length-take-le}
use mir.Facts.{to_z-of_z}
use Rattle.dqbf.proofs.Laws.Signed.{kept16}
use Rattle.tables.proofs.Laws.Lent.{long-words}
use Rattle.tables.proofs.Laws.Formed.{formed-is, long-is}
use Rattle.rules.proofs.Laws.Rules.{sets-taken, ranged, ranged-narrow, place-absent, place-present, clause-without, clause-in-use, reduce-unknown, reduce-absent, reduce-other, reduce-read, reduce-fitted}
use Rattle.rules.proofs.rules.reduce.Goals as goal

pub returns-then-is_unknown-clause-after : goal.returns-then-is_unknown-clause-after
returns-then-is_unknown-clause-after c =
    let h = rw (← c.view-lent.ensures.tables, ← c.view-lent.ensures.state) at c.requires in
    rw (← c.view-lent.ensures.tables, ← c.view-lent.ensures.state) (
    reduce-unknown _ _ h _ _ c.is_unknown.ensures c.if-is_unknown.true)

pub clause_at-x-requires : goal.clause_at-x-requires
clause_at-x-requires c =
    let h = rw (← c.view-lent.ensures.tables, ← c.view-lent.ensures.state) at c.requires in
    ranged _ _ h _ c.is_unknown.ensures c.if-is_unknown.false

pub returns-in_default-clause-after : goal.returns-in_default-clause-after
returns-in_default-clause-after c =
    let h = rw (← c.view-lent.ensures.tables, ← c.view-lent.ensures.state) at c.requires in
    rw (← c.view-lent.ensures.tables, ← c.view-lent.ensures.state) (
    let p = rw (to_z-of_z c.ranges.value) at c.narrowed-reduced.ensures in
    let i = rw (kept16 {z = c.narrowed-reduced.result} c.narrowed-reduced.type_inv) at c.in_default.ensures in
    reduce-absent _ _ h _ _ c.is_unknown.ensures c.if-is_unknown.false c.clause_at-x.ensures p refl (place-absent _ _ i))

pub returns-then-kind_of-ne-UNIVERSAL-clause-after : goal.returns-then-kind_of-ne-UNIVERSAL-clause-after
returns-then-kind_of-ne-UNIVERSAL-clause-after c =
    let h = rw (← c.view-lent.ensures.tables, ← c.view-lent.ensures.state) at c.requires in
    rw (← c.view-lent.ensures.tables, ← c.view-lent.ensures.state) (
    let p = rw (to_z-of_z c.ranges.value) at c.narrowed-reduced.ensures in
    let i = rw (kept16 {z = c.narrowed-reduced.result} c.narrowed-reduced.type_inv) at c.in-Some.ensures in
    let k = rw (c.variable_of.ensures, kept16 {z = c.narrowed-reduced.result} c.narrowed-reduced.type_inv) at c.kind_of.ensures in
    reduce-other _ _ h _ _ c.is_unknown.ensures c.if-is_unknown.false c.clause_at-x.ensures p refl (place-present _ _ i) k c.if-kind_of-ne-UNIVERSAL.true)

pub slice_bounds-set_without-end : goal.slice_bounds-set_without-end
slice_bounds-set_without-end c =
    let h = rw (← c.view-lent.ensures.tables, ← c.view-lent.ensures.state) at c.requires in
    sym (length-take-le _ c.view-lent.result.sets.now (omega (arith, (formed-is _ _ h.formed).counts.variables, long-words _ (long-is _ h.lent).sets)))

pub set_without-read-requires : goal.set_without-read-requires
set_without-read-requires c =
    let h = rw (← c.view-lent.ensures.tables, ← c.view-lent.ensures.state) at c.requires in
    (rw (sets-taken _ _ c.view-lent.result.sets.now _ _ h) (clause-in-use _ _ h _ c.is_unknown.ensures c.if-is_unknown.false c.clause_at-x.ensures refl), c.in-Some.ensures.1)

pub returns-then-inside-clause-after : goal.returns-then-inside-clause-after
returns-then-inside-clause-after c =
    let h = rw (← c.view-lent.ensures.tables, ← c.view-lent.ensures.state) at c.requires in
    rw (← c.view-lent.ensures.tables, ← c.view-lent.ensures.state) (
    let p = rw (to_z-of_z c.ranges.value) at c.narrowed-reduced.ensures in
    let i = rw (kept16 {z = c.narrowed-reduced.result} c.narrowed-reduced.type_inv) at c.in-Some.ensures in
    let k = rw (c.variable_of.ensures, kept16 {z = c.narrowed-reduced.result} c.narrowed-reduced.type_inv) at c.kind_of.ensures in
    let w = rw (c.variable_of.ensures, kept16 {z = c.narrowed-reduced.result} c.narrowed-reduced.type_inv) at c.set_of-set.ensures in
    let e = clause-without _ _ h _ c.is_unknown.ensures c.if-is_unknown.false c.clause_at-x.ensures _ i.0 i.1 in
    reduce-read _ _ h _ _ c.is_unknown.ensures c.if-is_unknown.false c.clause_at-x.ensures p refl (place-present _ _ i) k c.if-kind_of-ne-UNIVERSAL.false w refl (rw (e, sets-taken _ _ c.view-lent.result.sets.now _ _ h) at c.set_without-read.ensures) c.inside.ensures c.if-inside.true)

pub hold-held-requires : goal.hold-held-requires
hold-held-requires c =
    let h = rw (← c.view-lent.ensures.tables, ← c.view-lent.ensures.state) at c.requires in
    ranged-narrow _ _ h _ c.is_unknown.ensures c.if-is_unknown.false c.clause_at-x.ensures

pub add_reduced-requires : goal.add_reduced-requires
add_reduced-requires c =
    let h = rw (← c.view-lent.ensures.tables, ← c.view-lent.ensures.state) at c.requires in
    rw (c.as_slice.ensures ∙ c.hold-held.ensures) (c.requires, c.in-Some.ensures.1, ranged-narrow _ _ h _ c.is_unknown.ensures c.if-is_unknown.false c.clause_at-x.ensures)

pub returns-clause-after : goal.returns-clause-after
returns-clause-after c =
    let h = rw (← c.view-lent.ensures.tables, ← c.view-lent.ensures.state) at c.requires in
    let p = rw (to_z-of_z c.ranges.value) at c.narrowed-reduced.ensures in
    let i = rw (kept16 {z = c.narrowed-reduced.result} c.narrowed-reduced.type_inv) at c.in-Some.ensures in
    let k = rw (c.variable_of.ensures, kept16 {z = c.narrowed-reduced.result} c.narrowed-reduced.type_inv) at c.kind_of.ensures in
    let w = rw (c.variable_of.ensures, kept16 {z = c.narrowed-reduced.result} c.narrowed-reduced.type_inv) at c.set_of-set.ensures in
    let e = clause-without _ _ h _ c.is_unknown.ensures c.if-is_unknown.false c.clause_at-x.ensures _ i.0 i.1 in
    let is = reduce-fitted _ _ h _ _ c.is_unknown.ensures c.if-is_unknown.false c.clause_at-x.ensures p refl (place-present _ _ i) k c.if-kind_of-ne-UNIVERSAL.false w refl (rw (e, sets-taken _ _ c.view-lent.result.sets.now _ _ h) at c.set_without-read.ensures) c.inside.ensures c.if-inside.false in
    let asked = rw (c.view-lent.ensures.tables, c.view-lent.ensures.state) at is in
    rw asked (rw ((c.as_slice.ensures ∙ c.hold-held.ensures), e) at c.add_reduced.ensures.after)
