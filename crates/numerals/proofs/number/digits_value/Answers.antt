use mathlib.Core.Path.{◌≡◌, sym, ap, ◌∙◌}
use Prim.Native.Nat.{◌-◌}
use native.Mathlib.Omega.{arith}
use lib.ListN.{length, get_or}
use Rattle.dqbf.specs.Limits.{digit_limit}
use Rattle.numerals.specs.Working.{answered}
use Rattle.numerals.proofs.Laws.Bytewise.{digit-is, digit_low, digit-high}
use Rattle.numerals.proofs.Laws.Numbers.{digits-other, digits_more, digits-end, ten-more, ten-le, ten-fits}
use Rattle.numerals.proofs.number.digits_value.Goals as goal

pub returns-then-not-is_ascii_digit : goal.returns-then-not-is_ascii_digit
unfolding answered
returns-then-not-is_ascii_digit c =
    let l = c.loop-b in
    (sym (ap answered (l.invariant.1 ∙ digits-other l.value c.args.token.now l.b-index c.loop-b-test.true (sym c.if-not-is_ascii_digit.ensures.value))), tt)

pub overflow_sub-b : goal.overflow_sub-b
overflow_sub-b c = digit_low _ (digit-is _ (sym c.if-not-is_ascii_digit.ensures.value))

pub overflow_mul-value : goal.overflow_mul-value
overflow_mul-value c = omega (arith, ten-fits c.loop-b.value c.loop-b.b-index (length c.args.token.now) c.loop-b.invariant.0 c.loop-b-test.true c.requires)

pub overflow_add-value : goal.overflow_add-value
overflow_add-value c =
    let l = c.loop-b in
    let high = digit-high (get_or c.args.token.now l.b-index 0) (digit-is _ (sym c.if-not-is_ascii_digit.ensures.value)) in
    let d = c.from.ensures in
    omega (arith, ten-fits l.value l.b-index (length c.args.token.now) l.invariant.0 c.loop-b-test.true c.requires)

pub loop-b-preserved : goal.loop-b-preserved
loop-b-preserved c =
    let w = c.args.token.now in
    let l = c.loop-b in
    let digit = sym c.if-not-is_ascii_digit.ensures.value in
    let high = digit-high (get_or w l.b-index 0) (digit-is _ digit) in
    let e : c.from.result ≡ get_or w l.b-index 0 - 48 = c.from.ensures in
    (ten-more l.b-index l.value c.from.result l.invariant.0 (omega arith), l.invariant.1 ∙ digits_more l.value w l.b-index c.loop-b-test.true digit ∙ rw e)

pub returns : goal.returns
unfolding answered
returns c =
    let l = c.loop-b in
    (sym (ap answered (l.invariant.1 ∙ digits-end l.value c.args.token.now l.b-index c.loop-b-test.false)), omega (arith, ten-le l.b-index digit_limit (omega arith)))
