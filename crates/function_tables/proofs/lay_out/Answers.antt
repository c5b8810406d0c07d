-- `function_tables::lay_out` meets its contract.
use mathlib.Core.Path.{◌≡◌, sym, ◌∙◌, ap}
use Prim.Native.Nat.{suc, ◌+◌}
use native.Mathlib.Omega.{arith}
use lib.ListN.{length}
use Rattle.deciding.specs.Deciding.{offset}
use Rattle.tables.specs.FormulaEntries.{declarations}
use Rattle.function_tables.proofs.Laws.Layout.{offset-first, offset-next, total-is, placed-next}
use Rattle.function_tables.proofs.lay_out.Goals as goal

pub loop-i-init : goal.loop-i-init
loop-i-init c = (omega arith, sym (offset-first c.args.kinds.now c.args.sets.now), λ j h. absurd (omega arith))

pub table_bits-total-requires : goal.table_bits-total-requires
table_bits-total-requires c = c.requires.0.small c.loop-i.i

pub overflow_add-total : goal.overflow_add-total
overflow_add-total c = omega (arith, c.table_bits-total.ensures.1, c.loop-i.invariant.0, c.requires.0.few)

pub loop-i-preserved : goal.loop-i-preserved
loop-i-preserved c = (
  omega (arith, c.table_bits-total.ensures.1, c.loop-i.invariant.0),
  ap (◌+ c.table_bits-total.result) c.loop-i.invariant.1 ∙ offset-next c.args.kinds.now c.args.sets.now c.loop-i.i c.table_bits-total.result c.table_bits-total.ensures.0,
  placed-next c.args.kinds.now c.args.sets.now c.loop-i.offsets c.loop-i.i c.loop-i.total (omega (arith, c.requires.1)) c.loop-i.invariant.1 c.loop-i.invariant.2,
)

pub returns : goal.returns
unfolding declarations
returns c =
    let all : c.loop-i.i ≡ length c.args.kinds.now = omega arith in (
      c.loop-i.invariant.1 ∙ ap (λ i. offset (declarations c.args.kinds.now c.args.sets.now) (suc i)) all ∙ sym (total-is c.args.kinds.now c.args.sets.now),
      record { room = omega (arith, c.requires.1); at = λ i h. c.loop-i.invariant.2 i (omega arith) },
    )
