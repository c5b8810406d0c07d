-- The claims of specs/Statements.antt about a written formula.
use mathlib.Core.Path.{◌≡◌, refl}
use mathlib.Core.List.{List}
use Prim.Native.Nat.{ℕ, ◌+◌, ◌*◌, ◌≤◌}
use native.Mathlib.Omega.{arith}
use lib.ListN.{length, drop, length-append, length-drop}
use lib.Seq.{drop-append_seam}
use Rattle.dqbf.specs.Spelled.{spelled}
use Rattle.tables.specs.Tables.{model_in}
use Rattle.formula_text.specs.Writing.{text_length, no_text, in_front}
use Rattle.results.specs.Results.{field}
use Rattle.results.proofs.Laws.{two_fields}
use Rattle.exports.specs.Calls.{write_short, write_bytes}
use Rattle.formula_text.proofs.Laws.Written.{written-by}
use Rattle.exports.proofs.Laws.Written.{bytes-written-by, never-told, never-refused}
use Rattle.refusals.specs.Statements.{WriteSame, PastSame, WriteRest, WriteBytesShort, WriteBytesSame, WriteBytesRest}

past_same : (text out : List ℕ) → length text ≤ length out → PastSame (length text) out (in_front text out)
unfolding in_front
past_same text out h = record {
  inside = h;
  rest = drop-append_seam text (drop (length text) out);
  size = omega (arith, length-append text (drop (length text) out), length-drop (length text) out);
}

pub write_same : WriteSame
write_same t s out r =
    written-by t s out (λ x. x.answer ≡ no_text r → x.output ≡ out) (λ n h short e. refl)
    (λ lent formed fits e. absurd (let z : ◌≡◌ {A = ℕ} 0 1 = cc in omega arith))

pub write-rest : WriteRest
write-rest t s out n =
    written-by t s out (λ x. x.answer ≡ text_length n → PastSame n out x.output) (λ k h short e. absurd (let z : ◌≡◌ {A = ℕ} 0 1 = cc in omega arith))
    (λ lent formed fits e. let is : length (spelled (model_in t s)) ≡ n = cc in rw (← is) (past_same (spelled (model_in t s)) out fits))

pub write-bytes-short : WriteBytesShort
unfolding write_bytes write_short
write-bytes-short b out h = rw h

pub write-bytes-same : WriteBytesSame
write-bytes-same b out =
    bytes-written-by b out (λ x. field 0 x.result ≡ 2 → x.output ≡ out) (λ n h e. refl) (λ short fits e. absurd (never-refused _ e))

pub write-bytes-rest : WriteBytesRest
write-bytes-rest b out =
    bytes-written-by b out (λ x. field 0 x.result ≡ 1 → PastSame (field 1 x.result + 65536 * field 2 x.result) out x.output)
    (λ n h e. absurd (never-told n e)) (λ short fits e. rw (two_fields _ short) (past_same _ out fits))
