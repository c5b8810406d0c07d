-- `clause_masks::add_literal` meets its contract.
use mathlib.Core.Path.{◌≡◌, ◌∙◌, ap, ap₂}
use Prim.Native.Nat.{ℕ, ◌+◌}
use native.Mathlib.Omega.{arith}
use lib.IntN.{pos, nat_abs}
use lib.Signed.{lt_z}
use mir.Facts.{to_z-of_z}
use Rattle.function_tables.proofs.Laws.Layout.{small_power}
use Rattle.std.specs.Prelude.{Some}
use Rattle.dqbf.specs.Set.{inside}
use Rattle.deciding.specs.Deciding.{row}
use Rattle.clause_masks.proofs.Laws.Masks.{negative-is, place-first, place-kinds, place-sets, start_small, asks-universal, asks-existential}
use Rattle.clause_masks.proofs.add_literal.Goals as goal

pub overflow_sub-place : goal.overflow_sub-place
overflow_sub-place c =
    let is : c.from-place.result ≡ nat_abs c.args.l = c.from-place.ensures ∙ c.unsigned_abs.ensures.value ∙ ap nat_abs (to_z-of_z c.ranges.l) in
    place-first c.args.layout.small c.args.l c.requires c.from-place.result is

pub bounds-layout-place : goal.bounds-layout-place
bounds-layout-place c =
    let is : c.from-place.result ≡ nat_abs c.args.l = c.from-place.ensures ∙ c.unsigned_abs.ensures.value ∙ ap nat_abs (to_z-of_z c.ranges.l) in
    place-sets c.args.layout.small c.args.l c.requires c.from-place.result is

pub bounds-layout-place-2 : goal.bounds-layout-place-2
bounds-layout-place-2 c =
    let is : c.from-place.result ≡ nat_abs c.args.l = c.from-place.ensures ∙ c.unsigned_abs.ensures.value ∙ ap nat_abs (to_z-of_z c.ranges.l) in
    place-kinds c.args.layout.small c.args.l c.requires c.from-place.result is

pub returns-then-layout-place-eq-UNIVERSAL : goal.returns-then-layout-place-eq-UNIVERSAL
returns-then-layout-place-eq-UNIVERSAL c =
    let is : c.from-place.result ≡ nat_abs c.args.l = c.from-place.ensures ∙ c.unsigned_abs.ensures.value ∙ ap nat_abs (to_z-of_z c.ranges.l) in
    let negated = c.is_negative-negated.ensures ∙ ap (λ z. lt_z z (pos 0)) (to_z-of_z c.ranges.l) ∙ negative-is c.args.l in
    asks-universal c.args.layout.small c.args.l c.requires c.from-place.result is c.args.setting c.add_value.result (Some c.args.masks) c.is_negative-negated.result negated _
    (ap (λ (x : ℕ). inside x c.args.setting) c.from-set.ensures) c.if-layout-place-eq-UNIVERSAL.true c.add_value.ensures

pub add_bit-bit-requires : goal.add_bit-bit-requires
add_bit-bit-requires c =
    let is : c.from-place.result ≡ nat_abs c.args.l = c.from-place.ensures ∙ c.unsigned_abs.ensures.value ∙ ap nat_abs (to_z-of_z c.ranges.l) in
    omega (arith, c.from.ensures, c.row-row.ensures.1, small_power c.args.layout.universals c.args.layout.small.few, start_small c.args.layout.small c.args.l c.requires c.from-place.result is)

pub returns : goal.returns
returns c =
    let is : c.from-place.result ≡ nat_abs c.args.l = c.from-place.ensures ∙ c.unsigned_abs.ensures.value ∙ ap nat_abs (to_z-of_z c.ranges.l) in
    let negated = c.is_negative-negated.ensures ∙ ap (λ z. lt_z z (pos 0)) (to_z-of_z c.ranges.l) ∙ negative-is c.args.l in
    asks-existential c.args.layout.small c.args.l c.requires c.from-place.result is c.args.setting (Some c.add_bit-bit.result) (Some c.args.masks) c.is_negative-negated.result negated
    (c.from.result + c.row-row.result) (ap₂ ◌+◌ c.from.ensures (c.row-row.ensures.0 ∙ ap (λ (x : ℕ). row c.args.layout.universals x c.args.setting) c.from-set.ensures))
    c.if-layout-place-eq-UNIVERSAL.false c.add_bit-bit.ensures
