-- The outcomes of a written formula over buffers, taken apart (formula_text's proofs/Laws/Written.antt takes those over tables apart).
--     bytes-written-by                 what holds of each refusal and of the text holds of the outcome
--     text-short                       a text fits the two fields of a result
--     never-told, never-refused        a refusal's result tells no text, a text's result no refusal
use mathlib.Core.Path.{◌≡◌}
use mathlib.Core.Bool.{Bool, true, false, cond}
use mathlib.Core.List.{List}
use Prim.Native.Nat.{ℕ, ◌/◌, ◌<◌, ◌≤◌}
use native.Mathlib.Omega.{arith}
use lib.ListN.{length}
use Rattle.dqbf.specs.Refusal.{refusal}
use Rattle.dqbf.specs.Spelled.{spelled}
use Rattle.tables.specs.Tables.{Tables, model_in}
use Rattle.tables.specs.WellFormed.{long, well_formed}
use Rattle.tables.specs.declared.State.{State}
use Rattle.tables.proofs.Laws.Spread.{valid-held}
use Rattle.formula_text.specs.Writing.{text_length, no_text, in_front}
use Rattle.formula_text.proofs.Laws.Lengths.{spelled-fits}
use Rattle.formula_text.proofs.Laws.Written.{written-by}
use Rattle.buffers.specs.Buffers.{Buffers, whole, tables_in, state_in}
use Rattle.results.specs.Results.{field, write_result}
use Rattle.results.proofs.Laws.{case-is}
use Rattle.exports.specs.Calls.{AfterWriteBytes, wrote, write_short, write_whole, write_bytes}

-- the text of well-formed tables is short enough for two fields
pub text-short : (t : Tables) (s : State) → long t ≡ true → well_formed t s ≡ true → length (spelled (model_in t s)) < 4294967296
text-short t s h k = omega (arith, (spelled-fits (model_in t s) (valid-held t s h k)).ends)

module _ (b : Buffers) (out : List ℕ) (P : AfterWriteBytes → Type 0)
    (refused : (n : ℕ) → n < 65536 → P (record { output = out; result = write_result (no_text (refusal n)) }))
    (told : let text = spelled (model_in (tables_in b) (state_in b)) in
    length text < 4294967296 → length text ≤ length out → P (record { output = in_front text out; result = write_result (text_length (length text)) })) where
  pub bytes-written-by : P (write_bytes b out)
  unfolding write_bytes wrote write_short
  bytes-written-by = go (whole b)
    where
      go : (w : Bool) → P (cond w (write_whole b out) (write_short out))
      go true = written-by (tables_in b) (state_in b) out (λ x. P (wrote x)) (λ n h short. refused n h) (λ lent formed fits. told (text-short (tables_in b) (state_in b) lent formed) fits)
      go false = refused 1 (omega arith)

pub never-told : (n : ℕ) → field 0 (write_result (no_text (refusal n))) ≡ 1 → ⊥
unfolding write_result
never-told n e = omega (arith, case-is 2 n 0 0 (omega arith), e)

pub never-refused : (n : ℕ) → field 0 (write_result (text_length n)) ≡ 2 → ⊥
unfolding write_result
never-refused n e = omega (arith, case-is 1 n (n / 65536) 0 (omega arith), e)
