use mathlib.Core.Path.{refl, ◌∙◌}
use native.Mathlib.Omega.{arith}
use mir.Facts.{to_z-of_z}
use Rattle.dqbf.specs.Literal.{join}
use Rattle.dqbf.proofs.Laws.Signed.{kept16}
use Rattle.rules.proofs.Laws.Pivots.{literal-small}
use Rattle.rules.proofs.Laws.Rules.{ranged, ranged-narrow, place-absent, place-present, clause-without, resolve-first, resolve-second, resolve-pivot, resolve-complement, resolve-tested}
use Rattle.rules.proofs.rules.resolve.Goals as goal

pub returns-then-is_unknown-clause-after : goal.returns-then-is_unknown-clause-after
returns-then-is_unknown-clause-after c =
    let h = rw (← c.view-lent.ensures.tables, ← c.view-lent.ensures.state) at c.requires in
    rw (← c.view-lent.ensures.tables, ← c.view-lent.ensures.state) (
    resolve-first _ _ h _ _ _ c.is_unknown.ensures refl c.if-is_unknown.true)

pub returns-then-is_unknown-2-clause-after : goal.returns-then-is_unknown-2-clause-after
returns-then-is_unknown-2-clause-after c =
    let h = rw (← c.view-lent.ensures.tables, ← c.view-lent.ensures.state) at c.requires in
    rw (← c.view-lent.ensures.tables, ← c.view-lent.ensures.state) (
    resolve-second _ _ h _ _ _ c.is_unknown.ensures c.is_unknown-2.ensures c.if-is_unknown.false c.if-is_unknown-2.true)

pub negated-negative-requires : goal.negated-negative-requires
negated-negative-requires c =
    let h = rw (← c.view-lent.ensures.tables, ← c.view-lent.ensures.state) at c.requires in
    let p = rw (to_z-of_z c.ranges.pivot) at c.narrowed-positive.ensures in
    rw (kept16 {z = c.narrowed-positive.result} c.narrowed-positive.type_inv, p) (let b = literal-small c.args.pivot in omega arith)

pub clause_at-x-requires : goal.clause_at-x-requires
clause_at-x-requires c =
    let h = rw (← c.view-lent.ensures.tables, ← c.view-lent.ensures.state) at c.requires in
    ranged _ _ h _ c.is_unknown.ensures c.if-is_unknown.false

pub clause_at-y-requires : goal.clause_at-y-requires
clause_at-y-requires c =
    let h = rw (← c.view-lent.ensures.tables, ← c.view-lent.ensures.state) at c.requires in
    ranged _ _ h _ c.is_unknown-2.ensures c.if-is_unknown-2.false

pub returns-in_default-clause-after : goal.returns-in_default-clause-after
returns-in_default-clause-after c =
    let h = rw (← c.view-lent.ensures.tables, ← c.view-lent.ensures.state) at c.requires in
    rw (← c.view-lent.ensures.tables, ← c.view-lent.ensures.state) (
    let p = rw (to_z-of_z c.ranges.pivot) at c.narrowed-positive.ensures in
    let q = rw (kept16 {z = c.narrowed-positive.result} c.narrowed-positive.type_inv) at c.negated-negative.ensures in
    let i = rw (kept16 {z = c.narrowed-positive.result} c.narrowed-positive.type_inv) at c.in_default.ensures in
    resolve-pivot _ _ h _ _ _ c.is_unknown.ensures c.is_unknown-2.ensures c.if-is_unknown.false c.if-is_unknown-2.false c.clause_at-x.ensures c.clause_at-y.ensures p q refl (place-absent _ _ i))

pub returns-in_default-place_of-clause-after : goal.returns-in_default-place_of-clause-after
returns-in_default-place_of-clause-after c =
    let h = rw (← c.view-lent.ensures.tables, ← c.view-lent.ensures.state) at c.requires in
    rw (← c.view-lent.ensures.tables, ← c.view-lent.ensures.state) (
    let p = rw (to_z-of_z c.ranges.pivot) at c.narrowed-positive.ensures in
    let q = rw (kept16 {z = c.narrowed-positive.result} c.narrowed-positive.type_inv) at c.negated-negative.ensures in
    let i = rw (kept16 {z = c.narrowed-positive.result} c.narrowed-positive.type_inv) at c.in-Some.ensures in
    let j = rw (kept16 {z = c.negated-negative.result} c.negated-negative.type_inv) at c.in_default-place_of.ensures in
    resolve-complement _ _ h _ _ _ c.is_unknown.ensures c.is_unknown-2.ensures c.if-is_unknown.false c.if-is_unknown-2.false c.clause_at-x.ensures c.clause_at-y.ensures p q refl (place-present _ _ i) refl (place-absent _ _ j))

pub hold_without-left-requires : goal.hold_without-left-requires
hold_without-left-requires c =
    let h = rw (← c.view-lent.ensures.tables, ← c.view-lent.ensures.state) at c.requires in
    (ranged-narrow _ _ h _ c.is_unknown.ensures c.if-is_unknown.false c.clause_at-x.ensures, c.in-Some.ensures.1)

pub hold_without-right-requires : goal.hold_without-right-requires
hold_without-right-requires c =
    let h = rw (← c.view-lent.ensures.tables, ← c.view-lent.ensures.state) at c.requires in
    (ranged-narrow _ _ h _ c.is_unknown-2.ensures c.if-is_unknown-2.false c.clause_at-y.ensures, c.in-Some-place_of.ensures.1)

pub returns-clause-after : goal.returns-clause-after
returns-clause-after c =
    let h = rw (← c.view-lent.ensures.tables, ← c.view-lent.ensures.state) at c.requires in
    let p = rw (to_z-of_z c.ranges.pivot) at c.narrowed-positive.ensures in
    let q = rw (kept16 {z = c.narrowed-positive.result} c.narrowed-positive.type_inv) at c.negated-negative.ensures in
    let i = rw (kept16 {z = c.narrowed-positive.result} c.narrowed-positive.type_inv) at c.in-Some.ensures in
    let j = rw (kept16 {z = c.negated-negative.result} c.negated-negative.type_inv) at c.in-Some-place_of.ensures in
    let x = c.as_slice.ensures ∙ c.hold_without-left.ensures ∙ clause-without _ _ h _ c.is_unknown.ensures c.if-is_unknown.false c.clause_at-x.ensures _ i.0 i.1 in
    let y = c.as_slice-2.ensures ∙ c.hold_without-right.ensures ∙ clause-without _ _ h _ c.is_unknown-2.ensures c.if-is_unknown-2.false c.clause_at-y.ensures _ j.0 j.1 in
    let is = resolve-tested _ _ h _ _ _ c.is_unknown.ensures c.is_unknown-2.ensures c.if-is_unknown.false c.if-is_unknown-2.false c.clause_at-x.ensures c.clause_at-y.ensures p q refl (place-present _ _ i) refl (place-present _ _ j) (λ k. join (x k) (y k)) in
    let asked = rw (c.view-lent.ensures.tables, c.view-lent.ensures.state) at is in
    rw asked c.add_resolvent.ensures.after
