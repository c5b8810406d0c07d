-- `family_bits::keep` meets its contract.
use mathlib.Core.Path.{sym, ◌∙◌}
use native.Mathlib.Omega.{arith}
use Rattle.std.proofs.lemmas.List.{set-get_or}
use Rattle.family_bits.proofs.Laws.Left.{passed_start, passed-kept, passed-stored, passed-done}
use Rattle.family_bits.proofs.keep.Goals as goal
use Rattle.family_bits.proofs.keep.Goals.{then-not-met, else-not-met}

pub loop-place-init : goal.loop-place-init
loop-place-init c = passed_start _ _ _ _

pub loop-place-preserved : goal.loop-place-preserved
loop-place-preserved c =
    elim c.if-not-met.branch [
      | then-not-met w ↦ rw w.left-is (passed-stored c.loop-place.invariant (sym c.met.ensures ∙ w.if-not-met.true) (omega arith))
      | else-not-met w ↦ rw (w.left-is, set-get_or c.loop-place.left c.loop-place.place 0) (passed-kept c.loop-place.invariant (sym c.met.ensures ∙ w.if-not-met.false))
    ]

pub returns : goal.returns
returns c = passed-done c.args.ones c.args.zeros c.low_word-low.result c.args.left.now c.loop-place.left c.loop-place.place c.low_word-low.ensures (omega arith) c.loop-place.invariant
