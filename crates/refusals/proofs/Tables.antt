-- The claims of specs/Statements.antt about lent tables.
use mathlib.Core.Path.{◌≡◌, refl, sym, ap, ap₂, subst, ◌∙◌}
use mathlib.Core.Logic.{◌⊎◌, inl, inr}
use mathlib.Core.Bool.{Bool, true, false, cond, not}
use mathlib.Core.List.{List, [], ◌∷◌, ◌++◌, append_assoc}
use mathlib.Core.Option.{some}
use Prim.Native.Nat.{ℕ, zero, suc, ◌+◌, ◌*◌, ◌≤◌}
use lib.Dec.{ltb}
use lib.ListN.{length, take, drop, get_or, replicate, length-take, length-drop}
use lib.Seq.{take-nil, drop-nil, take-take, drop-drop}
use native.Mathlib.Omega.{arith}
use borrow.Author.Tests.{ltb-false, le-ltb, lt-ltb}
use Rattle.dqbf.specs.Limits.{Room, tables, variable_limit, records_limit, record_size}
use Rattle.dqbf.specs.Refusal.{Refusal, refusal}
use Rattle.dqbf.specs.Set.{Set}
use Rattle.dqbf.specs.Record.{stretches}
use Rattle.dqbf.specs.Model.{Model, clauses}
use Rattle.dqbf.specs.Run.{Examined, accepts, refuses, after, refusal_of, examine_bytes, examine_bytes_by, bad, verdict_of, run_from, run_from_by, run, run_by}
use Rattle.dqbf.specs.Run as Calculus
use Rattle.dqbf.specs.Valid.{Valid}
use Rattle.dqbf.specs.Reading.{Loaded, accepted, refused, load}
use Rattle.dqbf.proofs.LoadValid.{load-valid}
use Rattle.dqbf.proofs.Laws.Stopping.{stopped-at}
use Rattle.dqbf.proofs.StepsKeepValid.{call-keeps}
use Rattle.records.proofs.Laws.Records.{record-front}
use Rattle.sets.specs.Words.{words_each, table_words, as_sets, spare_in, table_of}
use Rattle.sets.proofs.Laws.Tables.{table-append, table-zeros}
use Rattle.tables.specs.Tables.{Tables, tables_of, model_in}
use Rattle.tables.specs.Spread.{flat, ends_from, kind_row, set_row, over, spread, state_of}
use Rattle.tables.specs.WellFormed.{long, well_formed}
use Rattle.tables.specs.declared.State.{State}
use Rattle.tables.specs.Statements.{Framed}
use Rattle.tables.proofs.Refinement.{rest-stays, words-follow, rest-words, rest-in-words}
use Rattle.tables.proofs.Laws.Formed.{long-is}
use Rattle.tables.proofs.Laws.Lent.{long-words}
use Rattle.tables.proofs.Laws.Spread.{model-held, state-held, valid-held, model-back, formed-spread, long-spread, blank-valid, blank-state}
use Rattle.dqdimacs.specs.Loading.{loaded_model, loaded_on, load_short, load_of}
use Rattle.dqdimacs.proofs.LoadFormed.{refused-zeroed}
use Rattle.steps.specs.Steps.{AfterStep, examined, step_refused, step_of, AfterRun, ran_on, run_refused, run_of}
use Rattle.steps.specs.Runs.{records_in, verdict_in}
use Rattle.steps.proofs.Laws.Runs.{stretches-enough}
use Rattle.lines.specs.Lines.{output_size, written, with_line}
use Rattle.verdict.proofs.Laws.Judging.{judged-refused, judged-ran}
use Rattle.refusals.specs.Statements.{ShortSame, FormlessSame, StepSame, RunSame, RunStopped, LoadZeroed, RestSame, WordsZeroed, WordsRest, JudgeLeaves, JudgeShort}

-- ---- 1 and 2

pub short-same : ShortSame
unfolding load_of load_short step_of step_refused run_of run_refused
short-same t s bytes h = (rw (h, blank-state), rw h, rw h)

pub formless-same : FormlessSame
unfolding step_of step_refused run_of run_refused
formless-same t s bytes h k = (rw (h, k), rw (h, k))

-- ---- a refused step

module _ (t : Tables) (s : State) (r : Refusal) where
  abbrev same : AfterStep
  same = record { tables = t; state = s; answer = some r }

  same-examined : long t ≡ true → well_formed t s ≡ true → (e : Examined) → (examined t (model_in t s) e).answer ≡ some r → examined t (model_in t s) e ≡ same
  unfolding examined refusal_of after
  same-examined h k (accepts a) e = absurd (let z : ◌≡◌ {A = ℕ} 0 1 = cc in omega arith)
  same-examined h k (refuses x) e = λ i. record { tables = model-held t s h k i; state = state-held t s h k i; answer = e i }

  step_by : (a b : Bool) → a ≡ long t → b ≡ well_formed t s → (e : Examined)
      → (cond (not a) (step_refused t s 1) (cond (not b) (step_refused t s 2) (examined t (model_in t s) e))).answer ≡ some r
      → cond (not a) (step_refused t s 1) (cond (not b) (step_refused t s 2) (examined t (model_in t s) e)) ≡ same
  unfolding step_refused
  step_by false b h k e q = λ i. record { tables = t; state = s; answer = q i }
  step_by true false h k e q = λ i. record { tables = t; state = s; answer = q i }
  step_by true true h k e q = same-examined (sym h) (sym k) e q

pub step_same : StepSame
unfolding step_of
step_same t s bytes r q = step_by t s r (long t) (well_formed t s) refl refl (examine_bytes tables (model_in t s) bytes) q

-- ---- the bytes of the records before a step

drop-front : (n m k : ℕ) (l : List ℕ) → k ≡ n + m → drop n (take k l) ≡ take m (drop n l)
drop-front zero m k l e = let h : k ≡ m = omega arith in ap (λ (j : ℕ). take j l) h
drop-front (suc n) m zero l e = absurd (omega arith)
drop-front (suc n) m (suc k) [] e = sym (take-nil m)
drop-front (suc n) m (suc k) (x ∷ xs) e = drop-front n m k xs (omega arith)

stretches-take : (n k : ℕ) (bs : List ℕ) → stretches n (take (record_size * k) bs) ≡ take k (stretches n bs)
unfolding stretches
stretches-take zero k bs = sym (take-nil k)
stretches-take (suc n) k [] = rw (take-nil {A = ℕ} (record_size * k)) (sym (take-nil k))
stretches-take (suc n) zero (b ∷ bs) = refl
stretches-take (suc n) (suc k) (b ∷ bs) =
    let j = 15 + record_size * k in
    let size : record_size * suc k ≡ suc j = omega arith in
    let first : take record_size (take (suc j) (b ∷ bs)) ≡ take record_size (b ∷ bs) = take-take record_size (suc j) (b ∷ bs) (omega arith) in
    let rest : drop record_size (take (suc j) (b ∷ bs)) ≡ take (record_size * k) (drop record_size (b ∷ bs)) = drop-front record_size (record_size * k) (suc j) (b ∷ bs) (omega arith) in
    rw (size, first, rest, stretches-take n k (drop record_size (b ∷ bs)))

records-take : (k : ℕ) (bs : List ℕ) → records_in (take (record_size * k) bs) ≡ take k (records_in bs)
records-take k bs =
    let shorter = length-take (record_size * k) bs in
    stretches-enough (length (take (record_size * k) bs)) (length bs) (take (record_size * k) bs) (omega arith) (omega (arith, shorter)) ∙ stretches-take (length bs) k bs

stretches-at : (n k : ℕ) (bs : List ℕ) → length bs ≤ n → get_or (stretches n bs) k [] ≡ take record_size (drop (record_size * k) bs)
unfolding stretches
stretches-at zero k [] h = rw (drop-nil {A = ℕ} (record_size * k))
stretches-at zero k (b ∷ bs) h = absurd (omega arith)
stretches-at (suc n) k [] h = rw (drop-nil {A = ℕ} (record_size * k))
stretches-at (suc n) zero (b ∷ bs) h = refl
stretches-at (suc n) (suc k) (b ∷ bs) h =
    let size : record_size * suc k ≡ record_size + record_size * k = omega arith in
    stretches-at n k (drop record_size (b ∷ bs)) (omega (arith, length-drop record_size (b ∷ bs)))
    ∙ ap (λ (l : List ℕ). take record_size l) (drop-drop (record_size * k) record_size (b ∷ bs) ∙ ap (λ (i : ℕ). drop i (b ∷ bs)) (sym size))

-- ---- a run of the calculus over bytes

front-examined : (room : Room) (m : Model) (bs : List ℕ) → examine_bytes room m (take record_size bs) ≡ examine_bytes room m bs
unfolding examine_bytes_by
front-examined room m bs = rw (record-front bs)

module _ (m : Model) (bytes : List ℕ) (x : Refusal) where
  abbrev ran_by : Bool → Calculus.Ran
  ran_by c = cond c (record { model = m; verdict = bad 0 (refusal 11) }) (run_from tables (records_in bytes) 0 m)

  -- refused as a whole, or at the first record
  run-whole : (k : ℕ) → k ≤ 1 → (run tables m bytes).verdict ≡ bad k x → (run tables m bytes).model ≡ m
  unfolding run_by run_from_by
  run-whole k h e = by (ltb records_limit (length bytes)) e
    where
      none_before : (z : Model) (i : ℕ) → i ≡ 0 → run_from tables (take i (records_in bytes)) 0 m ≡ record { model = z; verdict = verdict_of z } → z ≡ m
      none_before z i o f = sym (ap (λ (r : Calculus.Ran). r.model) (rw o at f))

      by : (c : Bool) → (ran_by c).verdict ≡ bad k x → (ran_by c).model ≡ m
      by true e = refl
      by false e =
          let s = stopped-at tables (records_in bytes) 0 m k x e in
          none_before (run_from tables (records_in bytes) 0 m).model s.before (omega (arith, s.step)) s.front

  module _ (k : ℕ) where
    abbrev Before : Model → Type 0
    Before z =
        (run tables m (take (record_size * k) bytes) ≡ record { model = z; verdict = verdict_of z })
        × (examine_bytes tables z (drop (record_size * k) bytes) ≡ refuses x)

    run-front : (run tables m bytes).verdict ≡ bad (suc k) x → Before (run tables m bytes).model
    unfolding run_by
    run-front e = by (ltb records_limit (length bytes)) refl e
      where
        by : (c : Bool) → ltb records_limit (length bytes) ≡ c → (ran_by c).verdict ≡ bad (suc k) x → Before (ran_by c).model
        by true h e = absurd (let z : ◌≡◌ {A = ℕ} 0 (suc k) = cc in omega (arith, z))
        by false h e =
            let s = stopped-at tables (records_in bytes) 0 m (suc k) x e in
            let at : s.before ≡ k = omega (arith, s.step) in
            let few : length (take (record_size * k) bytes) ≤ records_limit = omega (arith, length-take (record_size * k) bytes, ltb-false records_limit (length bytes) h) in
            let z = (run_from tables (records_in bytes) 0 m).model in (
              rw (le-ltb records_limit (length (take (record_size * k) bytes)) few, records-take k bytes) (rw at at s.front),
              sym (front-examined tables z (drop (record_size * k) bytes))
                  ∙ ap (examine_bytes tables z) (sym (stretches-at (length bytes) k bytes (omega arith))) ∙ (rw at at s.refused),
            )

-- ---- a refused run

-- the verdict of a state
verdict-told : (m : Model) → verdict_of m ≡ verdict_in (state_of m)
unfolding verdict_of verdict_in state_of
verdict-told m = refl

run-valid : (m : Model) (bytes : List ℕ) → Valid tables m → Valid tables (run tables m bytes).model
unfolding Calculus.next_by
run-valid m bytes v = call-keeps tables m v (Calculus.run_call bytes)

module _ (t : Tables) (s : State) (bytes : List ℕ) (r : Refusal) where
  abbrev outcome_for : Bool → Bool → AfterRun
  outcome_for a b = cond (not a) (run_refused t s 1) (cond (not b) (run_refused t s 2) (ran_on t (run tables (model_in t s) bytes)))

  whole_by : (step : ℕ) → step ≤ 1 → (a b : Bool) → a ≡ long t → b ≡ well_formed t s → (outcome_for a b).answer ≡ bad step r
      → outcome_for a b ≡ record { tables = t; state = s; answer = bad step r }
  unfolding run_refused ran_on
  whole_by step f false b h k e = λ i. record { tables = t; state = s; answer = e i }
  whole_by step f true false h k e = λ i. record { tables = t; state = s; answer = e i }
  whole_by step f true true h k e =
      let kept = run-whole (model_in t s) bytes r step f e in
      λ i. record {
        tables = (ap (λ (m : Model). spread m t) kept ∙ model-held t s (sym h) (sym k)) i;
        state = (ap state_of kept ∙ state-held t s (sym h) (sym k)) i;
        answer = e i;
      }

  module _ (k : ℕ) where
    abbrev Stopping : AfterRun → Type 0
    Stopping z =
        (run_of t s (take (record_size * k) bytes) ≡ record { tables = z.tables; state = z.state; answer = verdict_in z.state })
        × ((step_of z.tables z.state (drop (record_size * k) bytes)).answer ≡ some r)

    stopped_by : (a b : Bool) → a ≡ long t → b ≡ well_formed t s → (outcome_for a b).answer ≡ bad (suc k) r → Stopping (outcome_for a b)
    unfolding run_refused ran_on run_of step_of examined refusal_of
    stopped_by false b h j e = absurd (let z : ◌≡◌ {A = ℕ} 0 (suc k) = cc in omega (arith, z))
    stopped_by true false h j e = absurd (let z : ◌≡◌ {A = ℕ} 0 (suc k) = cc in omega (arith, z))
    stopped_by true true h j e =
        let m = (run tables (model_in t s) bytes).model in
        let f = run-front (model_in t s) bytes r k e in
        let v : Valid tables m = run-valid (model_in t s) bytes (valid-held t s (sym h) (sym j)) in (
          rw (← h, ← j, f.0, verdict-told m),
          rw (long-spread m v t (sym h), formed-spread m v t, model-back m v t, f.1),
        )

    holds_by : (a b : Bool) → a ≡ long t → b ≡ well_formed t s → (outcome_for a b).answer ≡ bad (suc k) r
        → (m : Model) × Valid tables m × ((outcome_for a b).tables ≡ spread m t) × ((outcome_for a b).state ≡ state_of m)
    unfolding run_refused ran_on
    holds_by false b h j e = absurd (let z : ◌≡◌ {A = ℕ} 0 (suc k) = cc in omega (arith, z))
    holds_by true false h j e = absurd (let z : ◌≡◌ {A = ℕ} 0 (suc k) = cc in omega (arith, z))
    holds_by true true h j e = ((run tables (model_in t s) bytes).model, run-valid (model_in t s) bytes (valid-held t s (sym h) (sym j)), refl, refl)

    -- what a stopped run leaves is a valid model's
    pub run_holds : (run_of t s bytes).answer ≡ bad (suc k) r
        → (m : Model) × Valid tables m × ((run_of t s bytes).tables ≡ spread m t) × ((run_of t s bytes).state ≡ state_of m)
    unfolding run_of
    run_holds e = holds_by (long t) (well_formed t s) refl refl e

pub run-same : RunSame
unfolding run_of
run-same t s bytes step r f e = whole_by t s bytes r step f (long t) (well_formed t s) refl refl e

pub run-stopped : RunStopped
unfolding run_of
run-stopped t s bytes k r e = stopped_by t s bytes r k (long t) (well_formed t s) refl refl e

-- ---- a refused formula

pub load-zeroed : LoadZeroed
unfolding spread over flat ends_from set_row kind_row clauses
load-zeroed t text line number h e =
    let z = refused-zeroed t text line number h e in
    let of = z.tables in
    record {
      literals = ap (λ (x : Tables). x.literals) of;
      ends = ap (λ (x : Tables). x.ends) of;
      sets = ap (λ (x : Tables). x.sets) of;
      spare = ap (λ (x : Tables). x.spare) of;
      kinds = ap (λ (x : Tables). x.kinds) of;
      state = z.state;
    }

-- ---- entries past the stated sizes

module _ (t : Tables) where
  framed-same : Framed t t
  framed-same = record { literals = refl; ends = refl; sets = refl; spare = refl; kinds = refl }

  load-framed : (b : Bool) (o : Loaded) → Valid tables (loaded_model o) → Framed t (cond (not b) (load_short t) (loaded_on t o)).tables
  unfolding load_short loaded_on
  load-framed true o v = rest-stays (loaded_model o) v t
  load-framed false o v = framed-same

  loaded-valid : (text : List ℕ) (o : Loaded) → load text ≡ o → Valid tables (loaded_model o)
  unfolding loaded_model
  loaded-valid text (accepted φ) e = load-valid text φ e
  loaded-valid text (refused l n) e = blank-valid

  module _ (s : State) (bytes : List ℕ) where
    step-framed : (a b : Bool) → a ≡ long t → b ≡ well_formed t s
        → Framed t (cond (not a) (step_refused t s 1) (cond (not b) (step_refused t s 2) (examined t (model_in t s) (examine_bytes tables (model_in t s) bytes)))).tables
    unfolding step_refused examined Calculus.next_by
    step-framed false b h k = framed-same
    step-framed true false h k = framed-same
    step-framed true true h k =
        let m = model_in t s in
        rest-stays (after m (examine_bytes tables m bytes)) (call-keeps tables m (valid-held t s (sym h) (sym k)) (Calculus.step_call bytes)) t

    run_framed : (a b : Bool) → a ≡ long t → b ≡ well_formed t s
        → Framed t (cond (not a) (run_refused t s 1) (cond (not b) (run_refused t s 2) (ran_on t (run tables (model_in t s) bytes)))).tables
    unfolding run_refused ran_on
    run_framed false b h k = framed-same
    run_framed true false h k = framed-same
    run_framed true true h k = let m = model_in t s in rest-stays (run tables m bytes).model (run-valid m bytes (valid-held t s (sym h) (sym k))) t

pub rest-same : RestSame
unfolding load_of step_of run_of
rest-same t s bytes =
    (load-framed t (long t) (load bytes) (loaded-valid t bytes (load bytes) refl), step-framed t s bytes (long t) (well_formed t s) refl refl, run_framed t s bytes (long t) (well_formed t s) refl refl)

-- ---- the sets table in its words

pub words-zeroed : WordsZeroed
words-zeroed l l' e e' w w' k k' text line number f f' lent told is =
    let z = load-zeroed (tables_of l e w k) text line number lent told in
    let S = as_sets words_each w in
    let zeros : List Set = replicate variable_limit 0 in
    sym (words-follow l' e' w' k' f') ∙ ap (λ (t : Tables). table_of words_each t.sets ++ t.spare) is
    ∙ ap₂ (λ (T : List Set) (v : List ℕ). table_of words_each T ++ v) z.sets z.spare
    ∙ rw (table-append 4 zeros (drop variable_limit S), table-zeros 4 variable_limit, append_assoc (replicate table_words 0) (table_of words_each (drop variable_limit S)) (spare_in words_each w), ← rest-words w f (long-words w (long-is (tables_of l e w k) lent).sets))

-- tables that a load, a step or a run leaves
left-framed : (t t' : Tables) (s : State) (bytes : List ℕ) → (t' ≡ (load_of t bytes).tables) ⊎ ((t' ≡ (step_of t s bytes).tables) ⊎ (t' ≡ (run_of t s bytes).tables)) → Framed t t'
left-framed t t' s bytes (inl e) = subst (λ (x : Tables). Framed t x) (sym e) (rest-same t s bytes).0
left-framed t t' s bytes (inr (inl e)) = subst (λ (x : Tables). Framed t x) (sym e) (rest-same t s bytes).1
left-framed t t' s bytes (inr (inr e)) = subst (λ (x : Tables). Framed t x) (sym e) (rest-same t s bytes).2

pub words-rest : WordsRest
words-rest l l' e e' w w' k k' f f' h h' s bytes is = rest-in-words l l' e e' w w' k k' f f' h h' (left-framed (tables_of l e w k) (tables_of l' e' w' k') s bytes is)

-- ---- `judge`

pub judge-leaves : JudgeLeaves
judge-leaves t text records =
    let loaded = load_of t text in (
      λ line number e. sym (judged-refused t text records loaded.tables {s = loaded.state} {a = loaded.answer} line number refl e).1,
      λ e. sym (judged-ran t text records {t₁ = loaded.tables} {s = loaded.state} {l = loaded.answer} refl e refl).1,
    )

pub judge-short : JudgeShort
unfolding written with_line
judge-short line out h = (rw (lt-ltb (length out) output_size h), rw (lt-ltb (length out) output_size h))
