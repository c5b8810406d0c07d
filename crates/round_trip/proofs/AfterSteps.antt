-- The claims of specs/AfterSteps.antt: a step and a run keep the formula part, and the text is its spelling.
use mathlib.Core.Path.{◌≡◌, refl, ◌∙◌, ap}
use mathlib.Core.Bool.{Bool, true, false, cond}
use mathlib.Core.List.{List, [], ◌∷◌}
use Prim.Native.Nat.{ℕ, suc, ◌≤◌}
use lib.Dec.{ltb}
use lib.ListN.{length}
use Rattle.dqbf.specs.Limits.{Room, records_limit, text_limit, tables}
use Rattle.dqbf.specs.Refusal.{refusal, first}
use Rattle.dqbf.specs.Model.{Model, model_of}
use Rattle.dqbf.specs.Valid.{Valid}
use Rattle.dqbf.specs.Record.{stretches}
use Rattle.dqbf.specs.Rules.{add}
use Rattle.dqbf.specs.Run.{Examined, accepts, refuses, examine_bytes, after, bad, go_on, run_from, run_from_by, run, run_by}
use Rattle.dqbf.specs.Run as Run
use Rattle.dqbf.specs.Spelled.{formula_part, lines_of, spelled}
use Rattle.dqbf.specs.Spelling.{text}
use Rattle.dqbf.proofs.LoadValid.{load-valid}
use Rattle.dqbf.proofs.StepsKeepValid.{call-keeps}
use Rattle.tables.specs.declared.State.{State}
use Rattle.tables.specs.Tables.{Tables, model_in}
use Rattle.tables.specs.Spread.{spread, state_of}
use Rattle.tables.specs.Unusable.{table_tests, unless_refused}
use Rattle.tables.specs.WellFormed.{long, well_formed}
use Rattle.tables.proofs.Laws.Spread.{valid-held, model-back, formed-spread, spread-again, long-spread}
use Rattle.dqdimacs.specs.Loading.{load_of}
use Rattle.dqdimacs.specs.Loading.{Accepted}
use Rattle.dqdimacs.proofs.LoadFormed.{accepted-exactly}
use Rattle.steps.specs.Steps.{examined, step_refused, step_of, ran_on, run_refused, run_of}
use Rattle.formula_text.specs.Writing.{write_tests, write_of}
use Rattle.round_trip.specs.Statements.{WroteText, text_of, loaded}
use Rattle.round_trip.specs.AfterSteps.{StepUnwritten, RunUnwritten, RestoredAfterRun}
use Rattle.round_trip.proofs.ReadAgain.{on-accepted, part-formula, read_again}

-- ---- the formula part stays

after-part : (m : Model) (e : Examined) → formula_part (after m e) ≡ formula_part m
unfolding formula_part after add
after-part m (accepts a) = refl
after-part m (refuses x) = refl

module _ (room : Room) where
  records-part : (rs : List (List ℕ)) (n : ℕ) (m : Model) → formula_part (run_from room rs n m).model ≡ formula_part m
  unfolding run_from_by go_on after
  records-part [] n m = refl
  records-part (bs ∷ rs) n m = go (examine_bytes room m bs) (λ m'. records-part rs (suc n) m')
    where
      go : (e : Examined) → ((m' : Model) → formula_part (run_from room rs (suc n) m').model ≡ formula_part m')
          → formula_part (go_on e m (suc n) (λ m'. run_from room rs (suc n) m')).model ≡ formula_part m
      go (accepts a) rest = rest (add m a) ∙ after-part m (accepts a)
      go (refuses x) rest = refl

  run-part : (m : Model) (bs : List ℕ) → formula_part (run room m bs).model ≡ formula_part m
  unfolding run_by
  run-part m bs = go (ltb records_limit (length bs))
    where
      go : (b : Bool) → formula_part (cond b (record { model = m; verdict = bad 0 (refusal 11) }) (run_from room (stretches (length bs) bs) 0 m)).model ≡ formula_part m
      go true = refl
      go false = records-part (stretches (length bs) bs) 0 m

spelled-part : (m m' : Model) → formula_part m ≡ formula_part m' → spelled m ≡ spelled m'
unfolding spelled
spelled-part m m' e = ap (λ (p : Model). text (lines_of p)) e

-- ---- and so does the outcome of a write

write_same : (t t' : Tables) (s s' : State) (out : List ℕ) → long t ≡ true → well_formed t s ≡ true → long t' ≡ true → well_formed t' s' ≡ true
    → spelled (model_in t s) ≡ spelled (model_in t' s') → write_of t s out ≡ write_of t' s' out
unfolding write_of write_tests table_tests first unless_refused
write_same t t' s s' out lent formed lent' formed' e = rw (lent, formed, lent', formed', e)

module _ (t : Tables) (s : State) (out : List ℕ) (lent : long t ≡ true) (formed : well_formed t s ≡ true) where
  -- a model with the same formula part, over these tables
  spread-unwritten : (m : Model) → Valid tables m → formula_part m ≡ formula_part (model_in t s) → write_of (spread m t) (state_of m) out ≡ write_of t s out
  spread-unwritten m v e =
      write_same (spread m t) t (state_of m) s out (long-spread m v t lent) (formed-spread m v t) lent formed
      (ap spelled (model-back m v t) ∙ spelled-part m (model_in t s) e)

-- ---- steps and runs

module _ (t : Tables) (s : State) (lent : long t ≡ true) (formed : well_formed t s ≡ true) where
  abbrev m : Model
  m = model_in t s

  step-valid : (bytes : List ℕ) → Valid tables (after m (examine_bytes tables m bytes))
  unfolding Run.next_by
  step-valid bytes = call-keeps tables m (valid-held t s lent formed) (Run.step_call bytes)

  run-valid : (records : List ℕ) → Valid tables (run tables m records).model
  unfolding Run.next_by
  run-valid records = call-keeps tables m (valid-held t s lent formed) (Run.run_call records)

  run_is : (records : List ℕ) → run_of t s records ≡ ran_on t (run tables m records)
  unfolding run_of
  run_is records = rw (lent, formed)

pub step-unwritten : StepUnwritten
unfolding step_of step_refused examined
step-unwritten t s bytes out = go (long t) refl (well_formed t s) refl
  where
    go : (a : Bool) → long t ≡ a → (b : Bool) → well_formed t s ≡ b → write_of (step_of t s bytes).tables (step_of t s bytes).state out ≡ write_of t s out
    go false e b f = rw e
    go true e false f = rw (e, f)
    go true e true f =
        let x = examine_bytes tables (model_in t s) bytes in
        rw (e, f) (spread-unwritten t s out e f (after (model_in t s) x) (step-valid t s e f bytes) (after-part (model_in t s) x))

pub run-unwritten : RunUnwritten
unfolding run_of run_refused ran_on
run-unwritten t s records out = go (long t) refl (well_formed t s) refl
  where
    go : (a : Bool) → long t ≡ a → (b : Bool) → well_formed t s ≡ b → write_of (run_of t s records).tables (run_of t s records).state out ≡ write_of t s out
    go false e b f = rw e
    go true e false f = rw (e, f)
    go true e true f =
        rw (e, f) (spread-unwritten t s out e f (run tables (model_in t s) records).model (run-valid t s e f records) (run-part tables (model_in t s) records))

-- ---- the text behind a load and a run

-- over tables that hold the formula m, the model m' with what steps added
restored : (t : Tables) (m m' : Model) → Valid tables m → Valid tables m' → formula_part m' ≡ m → long t ≡ true → (out : List ℕ) (n : ℕ)
    → WroteText (spread m' (spread m t)) (state_of m') out n → n ≤ text_limit
    → load_of (spread m' (spread m t)) (text_of (spread m' (spread m t)) (state_of m') out n) ≡ loaded m t
restored t m m' v v' e lent out n h short =
    let u = spread m t in
    read_again (spread m' u) (state_of m') out n h short (spread m' u) (long-spread m' v' u (long-spread m v t lent))
    ∙ ap (λ (p : Model). loaded p (spread m' u)) (ap formula_part (model-back m' v' u) ∙ e)
    ∙ ap (λ (w : Tables). record { tables = w; state = state_of m; answer = Accepted }) (spread-again m' v' u m ∙ spread-again m v t m)

pub restored-after-run : RestoredAfterRun
unfolding ran_on
restored-after-run t text records out n a h short =
    let q = (accepted-exactly t text).0 a in
    let m = model_of q.1.0 in
    let v = load-valid text q.1.0 q.1.1 in
    let lent = long-spread m v t q.0 in
    let formed = formed-spread m v t in
    let back = model-back m v t in
    let e = on-accepted t text q.1.0 q.0 q.1.1 in
    let i = run_is (spread m t) (state_of m) lent formed records in
    let m' = (run tables (model_in (spread m t) (state_of m)) records).model in
    let part : formula_part m' ≡ m = run-part tables (model_in (spread m t) (state_of m)) records ∙ ap formula_part back ∙ part-formula q.1.0 in
    rw (e, i) (restored t m m' v (run-valid (spread m t) (state_of m) lent formed records) part q.0 out n (rw (e, i) at h) short)
