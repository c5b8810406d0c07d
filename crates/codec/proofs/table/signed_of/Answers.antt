-- `codec::table::signed_of` meets its contract.
use Prim.Native.Nat.{◌-◌}
use native.Mathlib.Omega.{arith}
use Rattle.codec.proofs.Laws.Signed.{low_half, high_fits, high_half}
use Rattle.codec.proofs.table.signed_of.Goals as goal

pub returns-then-number-lt32768 : goal.returns-then-number-lt32768
returns-then-number-lt32768 c = low_half c.args.number c.if-number-lt32768.true

pub overflow_sub-result-2 : goal.overflow_sub-result-2
overflow_sub-result-2 c = high_fits (65535 - c.args.number) (omega arith)

pub returns : goal.returns
returns c = high_half c.args.number c.if-number-lt32768.false c.ranges.number.fits
