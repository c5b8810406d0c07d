-- `decode` meets its contract.
use mathlib.Core.Path.{◌∙◌}
use native.Mathlib.Omega.{arith}
use mir.Syntax.{w32}
use mir.Facts.{to_z-of_z}
use borrow.Author.Rules.{sfits_of}
use Rattle.records.proofs.Laws.Records.{signed-is, is-short, not-zero, Read, is-resolution, is-reduction, no-reduction, is-fork, no_kind}
use Rattle.records.proofs.decode.Goals as goal

pub returns-in_default : goal.returns-in_default
returns-in_default c = is-short c.args.bytes.now c.in_default.len_below

pub returns-in_default-2 : goal.returns-in_default-2
returns-in_default-2 c = not-zero c.args.bytes.now c.in_default.len_at_least (omega arith)

pub returns-in_default-3 : goal.returns-in_default-3
returns-in_default-3 c = not-zero c.args.bytes.now c.in_default.len_at_least (omega arith)

pub returns-in_default-4 : goal.returns-in_default-4
returns-in_default-4 c = not-zero c.args.bytes.now c.in_default.len_at_least (omega arith)

pub returns-in-1 : goal.returns-in-1
returns-in-1 c =
    let r : Read c.args.bytes.now c.from_le_bytes-clause.result c.from_le_bytes-second.result c.from_le_bytes-third.result =
    record { long = c.in-0.len_at_least; behind = (omega arith, omega arith, omega arith); first = c.from_le_bytes-clause.ensures; second = c.from_le_bytes-second.ensures; third = c.from_le_bytes-third.ensures } in
    is-resolution r c.in-1.is (to_z-of_z {w = w32} (sfits_of c.cast_signed.type_inv) ∙ c.cast_signed.ensures ∙ signed-is c.from_le_bytes-third.result (omega arith))

pub returns-in-2 : goal.returns-in-2
returns-in-2 c =
    let r : Read c.args.bytes.now c.from_le_bytes-clause.result c.from_le_bytes-second.result c.from_le_bytes-third.result =
    record { long = c.in-0.len_at_least; behind = (omega arith, omega arith, omega arith); first = c.from_le_bytes-clause.ensures; second = c.from_le_bytes-second.ensures; third = c.from_le_bytes-third.ensures } in
    is-reduction r c.in-2.is c.if-second-eq0.true (to_z-of_z {w = w32} (sfits_of c.cast_signed-in-2.type_inv) ∙ c.cast_signed-in-2.ensures ∙ signed-is c.from_le_bytes-third.result (omega arith))

pub returns-in-3 : goal.returns-in-3
returns-in-3 c =
    let r : Read c.args.bytes.now c.from_le_bytes-clause.result c.from_le_bytes-second.result c.from_le_bytes-third.result =
    record { long = c.in-0.len_at_least; behind = (omega arith, omega arith, omega arith); first = c.from_le_bytes-clause.ensures; second = c.from_le_bytes-second.ensures; third = c.from_le_bytes-third.ensures } in
    is-fork r c.in-3.is

pub returns-in_default-kind : goal.returns-in_default-kind
returns-in_default-kind c =
    let r : Read c.args.bytes.now c.from_le_bytes-clause.result c.from_le_bytes-second.result c.from_le_bytes-third.result =
    record { long = c.in-0.len_at_least; behind = (omega arith, omega arith, omega arith); first = c.from_le_bytes-clause.ensures; second = c.from_le_bytes-second.ensures; third = c.from_le_bytes-third.ensures } in
    no-reduction r c.in-2.is c.if-second-eq0.false

pub returns-in_default-kind-2 : goal.returns-in_default-kind-2
returns-in_default-kind-2 c =
    let r : Read c.args.bytes.now c.from_le_bytes-clause.result c.from_le_bytes-second.result c.from_le_bytes-third.result =
    record { long = c.in-0.len_at_least; behind = (omega arith, omega arith, omega arith); first = c.from_le_bytes-clause.ensures; second = c.from_le_bytes-second.ensures; third = c.from_le_bytes-third.ensures } in
    no_kind r (omega arith) (omega arith) (omega arith)
