use mathlib.Core.Path.{◌≡◌, sym, ap, ◌∙◌}
use mathlib.Core.Option.{none}
use Prim.Native.Nat.{◌<◌}
use native.Mathlib.Omega.{arith}
use lib.ListN.{length, get_or}
use borrow.Author.Tests.{eqb-true, eqb-false, ltb-true}
use Rattle.dqbf.specs.Text.{number_of}
use Rattle.numerals.specs.Working.{answered}
use Rattle.numerals.proofs.Laws.Numbers.{number-empty, number-long, number-zeros, number-digits}
use Rattle.numerals.proofs.number.number.Goals as goal
use Rattle.numerals.proofs.number.number.Goals.{then-is_empty-via-then-is_empty, then-is_empty-via-else-is_empty+then-token-gt-DIGITS, in_default-via-then-token-lt2, in_default-via-else-token-lt2+in_default-1}

pub returns-then-is_empty : goal.returns-then-is_empty
unfolding answered
returns-then-is_empty c =
    let w = c.args.token.now in
    let missing : number_of w ≡ none =
    elim c.then-is_empty.branch [
      | then-is_empty-via-then-is_empty b ↦ (let z = eqb-true (length w) 0 (sym c.is_empty.ensures ∙ b.if-is_empty.true) in number-empty w (omega arith))
      | then-is_empty-via-else-is_empty+then-token-gt-DIGITS b ↦ number-long w b.if-token-gt-DIGITS.true
    ] in
    (sym (ap answered missing), tt)

pub returns-in-48 : goal.returns-in-48
unfolding answered
returns-in-48 c =
    let zero : get_or c.args.token.now 0 0 ≡ 48 = omega arith in
    (sym (ap answered (number-zeros c.args.token.now zero c.in-48.len_at_least)), tt)

pub returns-in_default : goal.returns-in_default
returns-in_default c =
    let w = c.args.token.now in
    let some_byte = eqb-false (length w) 0 (sym c.is_empty.ensures ∙ c.if-is_empty.false) in
    let plain : (get_or w 0 0 ≡ 48 → 1 < length w → ⊥) =
    λ zero more. elim c.in_default.branch [
      | in_default-via-then-token-lt2 b ↦ absurd (omega (arith, ltb-true))
      | in_default-via-else-token-lt2+in_default-1 b ↦ absurd (omega arith)
    ] in
    (c.digits_value.ensures.0 ∙ sym (ap answered (number-digits w (λ h. some_byte (omega arith)) (omega arith) plain)), c.digits_value.ensures.1)
