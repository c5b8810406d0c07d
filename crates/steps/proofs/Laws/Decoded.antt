-- The record at the front of the bytes (dqbf, specs/Run.antt): one law for each outcome of its decoding.
-- Offers `bytes-malformed`, `bytes-examined`.
use mathlib.Core.Path.{◌≡◌, sym, ◌∙◌, ap}
use mathlib.Core.List.{List}
use Prim.Native.Nat.{ℕ}
use Rattle.dqbf.specs.Limits.{tables}
use Rattle.dqbf.specs.Refusal.{Refusal, refusal}
use Rattle.dqbf.specs.Model.{Model}
use Rattle.dqbf.specs.Record.{record_of}
use Rattle.dqbf.specs.Run.{refuses, examine, examine_or20_by, examine_bytes, examine_bytes_by}
use Rattle.std.specs.Prelude.{Option, Some, None}
use Rattle.records.specs.Record.{step_in, decoded_in}
use Rattle.records.specs.declared.Step.{Step}
use Rattle.tables.specs.Tables.{Tables, model_in}
use Rattle.tables.specs.declared.State.{State}
use Rattle.additions.specs.Examined.{examined}
use Rattle.additions.specs.Adding.{Holding, After}
use mathlib.Core.Option as Told
use mathlib.Core.Option.{some}
use Rattle.additions.proofs.Laws.Adding.{after-refused}

-- a decoded record is the calculus'
decoded-step : (m : Model) (bytes : List ℕ) {d : Option Step} (s : Step) → decoded_in d ≡ record_of bytes → d ≡ Some s → examine_bytes tables m bytes ≡ examine tables m (step_in s)
unfolding examine_bytes_by examine_or20_by decoded_in
decoded-step m bytes s e q = rw (← e, q)

decoded-malformed : (m : Model) (bytes : List ℕ) {d : Option Step} → decoded_in d ≡ record_of bytes → d ≡ None → examine_bytes tables m bytes ≡ refuses (refusal 20)
unfolding examine_bytes_by examine_or20_by decoded_in
decoded-malformed m bytes e q = rw (← e, q)

module _ (t : Tables) (s : State) (h : Holding t s) (bytes : List ℕ) {d : Option Step} (read : decoded_in d ≡ record_of bytes) where
  pub bytes-malformed : d ≡ None → After t s (examine_bytes tables (model_in t s) bytes) t s (some (refusal 20))
  bytes-malformed q = after-refused t s h (examine_bytes tables (model_in t s) bytes) (refusal 20) (decoded-malformed (model_in t s) bytes read q)

  pub bytes-examined : (x : Step) {t' : Tables} {s' : State} {r : Told.Option Refusal} → d ≡ Some x → After t s (examine tables (model_in t s) (step_in x)) t' s' r
      → After t s (examine_bytes tables (model_in t s) bytes) t' s' r
  bytes-examined x q e = e ∙ ap (examined t (model_in t s)) (sym (decoded-step (model_in t s) bytes x read q))
