-- What a shown clause comes to, from the call at the tables in the buffers.
use mathlib.Core.Path.{◌≡◌, ◌∙◌}
use mathlib.Core.Bool.{true}
use Prim.Native.Nat.{ℕ, ◌-◌}
use Rattle.tables.specs.Tables.{Tables, entry}
use Rattle.tables.specs.declared.State.{State}
use Rattle.questions.specs.Answers.{length_answer}
use Rattle.buffers.specs.Buffers.{Buffers, whole, tables_in, state_in}
use Rattle.results.specs.Results.{stretch_result}
use Rattle.results.proofs.Laws.{stretch-shown}
use Rattle.exports.specs.Calls.{show_bytes}

pub show-told : (b : Buffers) (n : ℕ) → whole b ≡ true → {t : Tables} {s : State} → t ≡ tables_in b → s ≡ state_in b → {r : ℕ}
    → r ≡ stretch_result (entry t.ends (n - 1)) (length_answer t s n) → r ≡ show_bytes b n
unfolding show_bytes
show-told b n w {t} {s} p q e = rw w (e ∙ rw (p, q) (stretch-shown (tables_in b) (state_in b) n))
