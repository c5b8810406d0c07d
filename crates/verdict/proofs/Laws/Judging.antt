-- A load and a run to the line (specs/Judging.antt): one law for a refused text, one for a run.
use mathlib.Core.Path.{◌≡◌, refl, sym, ◌∙◌, ap}
use mathlib.Core.Bool.{Bool, true, false}
use mathlib.Core.List.{List}
use Prim.Native.Nat.{ℕ}
use native.Mathlib.Omega.{arith}
use Rattle.dqbf.specs.Limits as Limits
use Rattle.dqbf.specs.Formula.{Formula}
use Rattle.dqbf.specs.Reading.{accepted, refused, load}
use Rattle.dqbf.specs.Reading as Reading
use Rattle.dqbf.specs.Model.{Model, model_of}
use Rattle.dqbf.specs.Valid.{Valid}
use Rattle.dqbf.specs.Run as Run
use Rattle.dqbf.specs.Line.{verdict_line, formula_line, printed, program}
use Rattle.dqbf.proofs.LoadValid.{load-valid}
use Rattle.tables.specs.Tables.{Tables}
use Rattle.tables.specs.Spread.{spread, state_of}
use Rattle.tables.specs.WellFormed.{long}
use Rattle.tables.specs.declared.State.{State}
use Rattle.tables.proofs.Laws.Spread.{model-back, formed-spread, long-spread}
use Rattle.tables.proofs.Refinement.{last-counts}
use Rattle.dqdimacs.specs.Loading.{AfterLoad, load_answer, loaded_model, loaded_on, load_short, load_of}
use Rattle.dqdimacs.specs.Loading.{LoadAnswer}
use Rattle.steps.specs.Steps.{run_told, AfterRun, ran_on, run_of}
use Rattle.std.specs.Prelude.{Result}
use Rattle.steps.specs.declared.BadStep.{BadStep}
use Rattle.steps.specs.declared.Outcome.{Outcome}
use Rattle.lines.specs.Lines.{line_of, written, with_line}
use Rattle.verdict.specs.Judging.{judged_line, judged_model, judged_tables, judged_state}
use Rattle.lines.specs.declared.line.Verdict.{Verdict}
use Rattle.std.specs.Prelude.{Option}

-- ---- the load's outcomes

-- a load over tables that are long enough
module _ (t : Tables) (text : List ℕ) (lent : long t ≡ true) where
  load_is : load_of t text ≡ loaded_on t (load text)
  unfolding load_of
  load_is = rw lent

  line-is : (records : List ℕ) → judged_line t text records ≡ printed (load text) records
  unfolding judged_line program
  line-is records = rw lent

  tables-are : (records : List ℕ) → judged_tables t text records ≡ spread (judged_model (load text) records) t
  unfolding judged_tables
  tables-are records = rw lent

  state-is : (records : List ℕ) → judged_state t text records ≡ state_of (judged_model (load text) records)
  unfolding judged_state
  state-is records = rw lent

abbrev Loading : Tables → List ℕ → Tables → State → LoadAnswer → Type 0
Loading t text t₁ s a = ◌≡◌ {A = AfterLoad} (record { tables = t₁; state = s; answer = a }) (load_of t text)

abbrev answer-of : AfterLoad → LoadAnswer
answer-of x = x.answer

abbrev tables-of : AfterLoad → Tables
tables-of x = x.tables

abbrev state-in : AfterLoad → State
state-in x = x.state

refused-is : {a b c d : ℕ} → LoadAnswer.Refused a b ≡ LoadAnswer.Refused c d → (a ≡ c) × (b ≡ d)
refused-is h = (cc, cc)

not-both : {a b : ℕ} → LoadAnswer.Accepted ≡ LoadAnswer.Refused a b → ⊥
not-both h = let z : ◌≡◌ {A = ℕ} 0 1 = cc in omega arith

-- the outcome of a text, by what the calculus reads
module _ (t : Tables) (text records : List ℕ) (t₁ : Tables) where
  refused-on : (o : Reading.Loaded) (s : State) (line number : ℕ) → ◌≡◌ {A = AfterLoad} (record { tables = t₁; state = s; answer = LoadAnswer.Refused line number }) (loaded_on t o)
      → (formula_line line number ≡ printed o records) × (t₁ ≡ spread (judged_model o records) t) × (s ≡ state_of (judged_model o records))
  unfolding loaded_on load_answer loaded_model printed judged_model
  refused-on (accepted φ) s line number e = absurd (not-both (sym (ap answer-of e)))
  refused-on (refused l n) s line number e = let same = refused-is (ap answer-of e) in (rw (same.0, same.1) refl, ap tables-of e, ap state-in e)

  accepted-on : (o : Reading.Loaded) (s : State) → ◌≡◌ {A = AfterLoad} (record { tables = t₁; state = s; answer = LoadAnswer.Accepted }) (loaded_on t o)
      → (φ : Formula) × (o ≡ accepted φ) × (t₁ ≡ spread (model_of φ) t) × (s ≡ state_of (model_of φ))
  unfolding loaded_on load_answer loaded_model
  accepted-on (accepted φ) s e = (φ, refl, ap tables-of e, ap (λ (x : AfterLoad). x.state) e)
  accepted-on (refused l n) s e = absurd (not-both (ap answer-of e))

  -- where a table is lent too short
  refused-short : (s : State) (line number : ℕ) → long t ≡ false → Loading t text t₁ s (LoadAnswer.Refused line number)
      → (formula_line line number ≡ judged_line t text records) × (t₁ ≡ judged_tables t text records) × (s ≡ judged_state t text records)
  unfolding load_of load_short judged_line judged_tables judged_state
  refused-short s line number short e =
      let e' : ◌≡◌ {A = AfterLoad} (record { tables = t₁; state = s; answer = LoadAnswer.Refused line number }) (load_short t) = rw short at e in
      let same = refused-is (ap answer-of e') in
      rw short (rw (same.0, same.1) refl, ap tables-of e', ap state-in e')

  refused-long : (s : State) (line number : ℕ) → long t ≡ true → Loading t text t₁ s (LoadAnswer.Refused line number)
      → (formula_line line number ≡ judged_line t text records) × (t₁ ≡ judged_tables t text records) × (s ≡ judged_state t text records)
  refused-long s line number lent e =
      let r = refused-on (load text) s line number (e ∙ load_is t text lent) in
      (r.0 ∙ sym (line-is t text lent records), r.1 ∙ sym (tables-are t text lent records), r.2 ∙ sym (state-is t text lent records))

  refused-any : (b : Bool) → long t ≡ b → (s : State) (line number : ℕ) → Loading t text t₁ s (LoadAnswer.Refused line number)
      → (formula_line line number ≡ judged_line t text records) × (t₁ ≡ judged_tables t text records) × (s ≡ judged_state t text records)
  refused-any true h s line number e = refused-long s line number h e
  refused-any false h s line number e = refused-short s line number h e

  -- a text that is refused
  pub judged-refused : {s : State} {a : LoadAnswer} (line number : ℕ) → Loading t text t₁ s a → a ≡ LoadAnswer.Refused line number
      → (line_of (Verdict.Formula line number) ≡ judged_line t text records) × (t₁ ≡ judged_tables t text records) × (s ≡ judged_state t text records)
  unfolding line_of
  judged-refused {s} line number e q = refused-any (long t) refl s line number (rw q at e)

-- ---- the run's outcome

accepted-lent : (t : Tables) (text : List ℕ) {t₁ : Tables} {s : State} (b : Bool) → long t ≡ b → Loading t text t₁ s LoadAnswer.Accepted → long t ≡ true
unfolding load_of load_short
accepted-lent t text true h e = h
accepted-lent t text {t₁} {s} false h e =
    let e' : ◌≡◌ {A = AfterLoad} (record { tables = t₁; state = s; answer = LoadAnswer.Accepted }) (load_short t) = rw h at e in
    absurd (not-both (ap answer-of e'))

-- a run over a valid model, spread
run-spread : (m : Model) → Valid Limits.tables m → (t : Tables) → long t ≡ true → (records : List ℕ)
    → run_of (spread m t) (state_of m) records ≡ ran_on (spread m t) (Run.run Limits.tables m records)
unfolding run_of
run-spread m v t lent records = rw (long-spread m v t lent, formed-spread m v t, model-back m v t) refl

abbrev Running : Tables → State → List ℕ → Tables → State → Run.Verdict → Type 0
Running t s records t₂ s₂ v = ◌≡◌ {A = AfterRun} (record { tables = t₂; state = s₂; answer = v }) (run_of t s records)

-- the run behind an accepted load
run-loaded : (t : Tables) (records : List ℕ) (φ : Formula) → Valid Limits.tables (model_of φ) → long t ≡ true → {t₁ t₂ : Tables} {s s₂ : State} {w : Run.Verdict}
    → t₁ ≡ spread (model_of φ) t → s ≡ state_of (model_of φ) → Running t₁ s records t₂ s₂ w
    → (verdict_line w ≡ printed (accepted φ) records) × (t₂ ≡ spread (judged_model (accepted φ) records) t) × (s₂ ≡ state_of (judged_model (accepted φ) records))
unfolding ran_on printed judged_model
run-loaded t records φ v lent {t₁} {t₂} {s} {s₂} {w} p q e =
    let over : Running (spread (model_of φ) t) (state_of (model_of φ)) records t₂ s₂ w = rw (p, q) at e in
    let whole = over ∙ run-spread (model_of φ) v t lent records in
    let ran = Run.run Limits.tables (model_of φ) records in (
      ap (λ (x : AfterRun). verdict_line x.answer) whole,
      ap (λ (x : AfterRun). x.tables) whole ∙ (last-counts (model_of φ) v t).0 ran.model,
      ap (λ (x : AfterRun). x.state) whole,
    )

-- a text that is accepted, and its run
pub judged-ran : (t : Tables) (text records : List ℕ) {t₁ t₂ : Tables} {s s₂ : State} {l : LoadAnswer} {w : Run.Verdict} → Loading t text t₁ s l → l ≡ LoadAnswer.Accepted
    → Running t₁ s records t₂ s₂ w → (verdict_line w ≡ judged_line t text records) × (t₂ ≡ judged_tables t text records) × (s₂ ≡ judged_state t text records)
judged-ran t text records {t₁} {t₂} {s} {s₂} {l} {w} e q r =
    let e' : Loading t text t₁ s LoadAnswer.Accepted = rw q at e in
    let lent = accepted-lent t text (long t) refl e' in
    let (φ, reads, p, h) = accepted-on t text records t₁ (load text) s (e' ∙ load_is t text lent) in
    let out = run-loaded t records φ (load-valid text φ reads) lent p h r in (
      out.0 ∙ ap (λ (o : Reading.Loaded). printed o records) (sym reads) ∙ sym (line-is t text lent records),
      out.1 ∙ ap (λ (o : Reading.Loaded). spread (judged_model o records) t) (sym reads) ∙ sym (tables-are t text lent records),
      out.2 ∙ ap (λ (o : Reading.Loaded). state_of (judged_model o records)) (sym reads) ∙ sym (state-is t text lent records),
    )

-- the same of a verdict that is told
pub ran-told : (a : Result Outcome BadStep) (v : Verdict) {L : List ℕ} {P Q : Type 0} → (verdict_line (run_told a) ≡ L) × P × Q → line_of v ≡ verdict_line (run_told a) → (line_of v ≡ L) × P × Q
ran-told a v h e = (e ∙ h.0, h.1, h.2)

-- a line that is written
pub line-written : (v : Verdict) {w : Option ℕ} (L out : List ℕ) {out' : List ℕ} {P Q : Type 0} → (line_of v ≡ L) × P × Q → (w ≡ written (line_of v) out) × (out' ≡ with_line (line_of v) out)
    → (w ≡ written L out) × (out' ≡ with_line L out) × P × Q
line-written v L out h e = (e.0 ∙ ap (λ (line : List ℕ). written line out) h.0, e.1 ∙ ap (λ (line : List ℕ). with_line line out) h.0, h.1, h.2)
