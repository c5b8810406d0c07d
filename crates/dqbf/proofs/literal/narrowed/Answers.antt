-- `literal::narrowed` meets its contract.
use borrow.Author.Tests.{le-leb, lt-leb}
use lib.IntN.{nat_abs}
use mir.Facts.{to_z-of_z}
use Prim.Native.Nat.{◌≤◌, ◌<◌}
use Rattle.dqbf.specs.Literal.{literal_in}
use Rattle.dqbf.proofs.Laws.Signed.{range-fits}
use Rattle.dqbf.proofs.literal.narrowed.Goals as goal

pub returns-then-unsigned_abs-le32767 : goal.returns-then-unsigned_abs-le32767
unfolding literal_in
returns-then-unsigned_abs-le32767 c =
    let f = c.ranges.x in
    let e = rw (to_z-of_z f) at c.unsigned_abs.ensures.value in
    let within : nat_abs c.args.x ≤ 32767 = rw e at c.if-unsigned_abs-le32767.true in
    rw (to_z-of_z f, to_z-of_z (range-fits c.args.x within), le-leb (nat_abs c.args.x) 32767 within)

pub returns-else-unsigned_abs-le32767 : goal.returns-else-unsigned_abs-le32767
unfolding literal_in
returns-else-unsigned_abs-le32767 c =
    let f = c.ranges.x in
    let e = rw (to_z-of_z f) at c.unsigned_abs.ensures.value in
    let beyond : 32767 < nat_abs c.args.x = rw e at c.if-unsigned_abs-le32767.false in
    rw (lt-leb (nat_abs c.args.x) 32767 beyond)
