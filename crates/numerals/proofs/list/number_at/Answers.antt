use mathlib.Core.Path.{refl, sym}
use Prim.Native.Nat.{◌+◌}
use native.Mathlib.Omega.{arith}
use lib.ListN.{get_or}
use Rattle.numerals.proofs.Laws.Bytewise.{digit-is, digit-not, digit_low, digit-high}
use Rattle.numerals.proofs.Laws.Listed.{digit-less, minus-is, minus-le, number-begins, leading-missing, leading_end, leading-found, leading-bad, leading-long, leading-digit}
use Rattle.numerals.proofs.list.number_at.Goals as goal

pub returns-in_err-value : goal.returns-in_err-value
returns-in_err-value c =
    let m = c.from-minus in
    let minus = minus-is c.args.signed (get_or c.args.line.now c.args.at 0) m.result m.ensures in
    rw c.from_residual.ensures (leading-missing c.args.signed c.args.line.now c.args.at m.result (omega arith) minus _ 0 refl c.in_err-value.ensures.0 refl)

pub loop-i-init : goal.loop-i-init
loop-i-init c =
    let m = c.from-minus in
    let minus = minus-is c.args.signed (get_or c.args.line.now c.args.at 0) m.result m.ensures in
    let digit = c.in_ok-value.ensures in
    let less = digit-less c.args.line.now (c.args.at + m.result) c.in_ok-value.value digit.0 digit.1 in (
      digit.1,
      omega arith,
      number-begins c.args.signed c.args.line.now c.args.at m.result (omega arith) minus _ c.in_ok-value.value refl digit.0 digit.1,
    )

pub entry-number-requires : goal.entry-number-requires
entry-number-requires c =
    let m = c.from-minus in
    let minus = minus-is c.args.signed (get_or c.args.line.now c.args.at 0) m.result m.ensures in
    let one = minus-le c.args.signed c.args.line.now c.args.at m.result (omega arith) minus in (omega arith, omega arith)

pub returns-then-b-eq32 : goal.returns-then-b-eq32
returns-then-b-eq32 c =
    let l = c.loop-i in
    leading-found c.args.signed c.args.line.now c.args.at l.i l.value c.from-minus.result l.invariant.2 c.loop-i-test.true l.invariant.0 (omega arith) c.if-b-eq32.true _ c.entry-number.ensures

pub returns-then-not-is_ascii_digit : goal.returns-then-not-is_ascii_digit
returns-then-not-is_ascii_digit c =
    let l = c.loop-i in
    leading-bad c.args.signed c.args.line.now c.args.at l.i l.value c.from-minus.result l.invariant.2 c.loop-i-test.true l.invariant.0 (digit-not _ (sym c.if-not-is_ascii_digit.ensures.value)) c.if-b-eq32.false

pub overflow_sub-b : goal.overflow_sub-b
overflow_sub-b c = digit_low _ (digit-is _ (sym c.if-not-is_ascii_digit.ensures.value))

pub overflow_add-value : goal.overflow_add-value
overflow_add-value c =
    let high = digit-high (get_or c.args.line.now c.loop-i.i 0) (digit-is _ (sym c.if-not-is_ascii_digit.ensures.value)) in
    let d = c.from.ensures in omega arith

pub returns-then-value-ge100000 : goal.returns-then-value-ge100000
returns-then-value-ge100000 c =
    let l = c.loop-i in
    let digit = digit-is _ (sym c.if-not-is_ascii_digit.ensures.value) in
    leading-long c.args.signed c.args.line.now c.args.at l.i l.value c.from-minus.result l.invariant.2 c.loop-i-test.true l.invariant.0 c.from.result c.from.ensures digit c.if-value-ge100000.true

pub loop-i-preserved : goal.loop-i-preserved
loop-i-preserved c =
    let l = c.loop-i in
    let digit = digit-is _ (sym c.if-not-is_ascii_digit.ensures.value) in (
      omega arith,
      omega arith,
      leading-digit c.args.signed c.args.line.now c.args.at l.i l.value c.from-minus.result l.invariant.2 c.loop-i-test.true l.invariant.0 c.from.result c.from.ensures digit (omega arith),
    )

pub returns : goal.returns
returns c =
    let l = c.loop-i in
    leading_end c.args.signed c.args.line.now c.args.at l.i l.value c.from-minus.result l.invariant.2 (omega arith)
