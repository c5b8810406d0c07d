-- `decider::first_left` meets its contract.
use mathlib.Core.Path.{sym, ◌∙◌, ap}
use native.Mathlib.Omega.{arith}
use Rattle.deciding.specs.Deciding.{decided}
use Rattle.sets.proofs.Laws.Four.{shifted}
use Rattle.family_bits.specs.Left.{is_left}
use Rattle.decider.proofs.Laws.Search.{search-next, search-found, search-none}
use Rattle.decider.proofs.first_left.Goals as goal

pub returns-then-is_left : goal.returns-then-is_left
unfolding decided
returns-then-is_left c =
    let exact = shifted c.args.bits (omega (arith, c.requires.0)) in
    ap decided (search-found (is_left c.args.left.now) _ c.loop-family.family c.loop-family.invariant (omega arith) (sym c.is_left.ensures ∙ c.if-is_left.true))

pub loop-family-preserved : goal.loop-family-preserved
loop-family-preserved c =
    let exact = shifted c.args.bits (omega (arith, c.requires.0)) in
    search-next (is_left c.args.left.now) _ c.loop-family.family c.loop-family.invariant (omega arith) (sym c.is_left.ensures ∙ c.if-is_left.false)

pub returns : goal.returns
unfolding decided
returns c =
    let exact = shifted c.args.bits (omega (arith, c.requires.0)) in
    ap decided (search-none (is_left c.args.left.now) _ c.loop-family.family c.loop-family.invariant (omega arith))
