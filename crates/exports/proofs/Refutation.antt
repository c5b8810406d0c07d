-- THE REFUTATION THEOREM for the driver's buffers: specs/Statements/Refutation.antt.
-- The tables and the state in the buffers go through the same calls as lent tables do (crate `steps`), since what is written is read back.
use mathlib.Core.Path.{◌≡◌, refl, sym, ◌∙◌, ap}
use mathlib.Core.Bool.{Bool, true, false}
use mathlib.Core.List.Memᴰ
use mathlib.Core.List.{List, [], ◌∷◌, map}
use Prim.Native.Nat.{ℕ}
use native.Mathlib.Omega.{arith}
use Rattle.dqbf.specs.Limits.{tables}
use Rattle.dqbf.specs.Literal.{◌∈◌}
use Rattle.dqbf.specs.Formula.{Formula}
use Rattle.dqbf.specs.Meaning.{Refuted}
use Rattle.dqbf.specs.Model.{Model, model_of}
use Rattle.dqbf.specs.Reading.{load, accepted, refused}
use Rattle.dqbf.specs.Run.{Verdict, refuted, open', bad, run}
use Rattle.dqbf.specs.Valid.{Valid}
use Rattle.dqbf.specs.Reading as Reading
use Rattle.dqbf.specs.Run as Run
use Rattle.dqbf.proofs.LoadValid.{load-valid}
use Rattle.dqbf.proofs.StepsKeepValid.{call-keeps}
use Rattle.tables.specs.Tables.{model_in}
use Rattle.tables.specs.Spread.{spread, state_of}
use Rattle.tables.specs.WellFormed.{well_formed}
use Rattle.tables.proofs.Laws.Spread.{valid-held, formed-spread}
use Rattle.dqdimacs.specs.Loading.{load_answer, loaded_model, loaded_on, load_of}
use Rattle.steps.specs.Steps.{ran_on, run_of}
use Rattle.steps.specs.Statements.Refutation.{Lent, answers}
use Rattle.steps.specs.Statements.Refutation as Lending
use Rattle.steps.proofs.Refutation as Lent-tables
use Rattle.buffers.specs.Buffers.{Buffers, whole, tables_in, state_in, written}
use Rattle.results.specs.Results.{field, named_variable, load_result, run_result}
use Rattle.exports.specs.Calls.{After, loaded, load_short, load_bytes, ran, run_bytes}
use Rattle.exports.specs.Statements.Refutation.{Call, run_call, other_call, next, run_results, Refutation}
use Rattle.buffers.proofs.Laws.{lent-long}
use Rattle.results.proofs.Laws.{case-is}
use Rattle.exports.proofs.RoundTrip.{read_back}

-- ---- results

refuted-is : (v : Verdict) → field 0 (run_result v) ≡ 1 → (s k : ℕ) × (v ≡ refuted s k)
unfolding run_result
refuted-is (refuted s k) h = (s, k, refl)
refuted-is (open' s) h = absurd (omega (arith, case-is 2 s 0 0 (omega arith)))
refuted-is (bad s x) h = absurd (omega (arith, case-is 3 s x.number (named_variable x) (omega arith)))

-- ---- buffers as lent tables

lent_in : Buffers → Lent
lent_in b = record { tables = tables_in b; state = state_in b }

-- long enough, and the tables are well formed
record Good (b : Buffers) : Type 0 where
  room : whole b ≡ true
  formed : well_formed (tables_in b) (state_in b) ≡ true

-- a valid model that is written
module _ (b : Buffers) (m : Model) (w : whole b ≡ true) (v : Valid tables m) where
  after : Buffers
  after = written b (spread m (tables_in b)) (state_of m)

  after-good : Good after
  unfolding after
  after-good = record { room = (read_back b m w v).2; formed = rw ((read_back b m w v).0, (read_back b m w v).1) (formed-spread m v (tables_in b)) }

  after-lent : lent_in after ≡ record { tables = spread m (tables_in b); state = state_of m }
  unfolding after lent_in
  after-lent = λ i. record { tables = (read_back b m w v).0 i; state = (read_back b m w v).1 i }

-- ---- a run

call : Call → Run.Call
call (run_call records) = Run.run_call records
call other_call = Run.other_call

module _ (b : Buffers) (g : Good b) (records : List ℕ) where
  model : Model
  model = model_in (tables_in b) (state_in b)

  ran-model : Model
  ran-model = (run tables model records).model

  ran-valid : Valid tables ran-model
  unfolding ran-model model Run.next_by
  ran-valid = call-keeps tables model (valid-held (tables_in b) (state_in b) (lent-long b g.room) g.formed) (Run.run_call records)

  run_is : run_of (tables_in b) (state_in b) records ≡ ran_on (tables_in b) (run tables model records)
  unfolding run_of model
  run_is = rw (lent-long b g.room, g.formed)

  bytes-are : run_bytes b records ≡ ran b (ran_on (tables_in b) (run tables model records))
  unfolding run_bytes
  bytes-are = rw g.room (ap (ran b) run_is)

  buffers-are : next b (run_call records) ≡ after b ran-model g.room ran-valid
  unfolding next after ran ran_on ran-model
  buffers-are = ap (λ (x : After). x.buffers) bytes-are

  run-good : Good (next b (run_call records))
  run-good = rw buffers-are (after-good b ran-model g.room ran-valid)

  run_lent : lent_in (next b (run_call records)) ≡ Lending.next (lent_in b) (Run.run_call records)
  unfolding Lending.next lent_in
  run_lent =
      ap lent_in buffers-are ∙ after-lent b ran-model g.room ran-valid
      ∙ (unfold ran_on ran-model in λ i. record { tables = (sym run_is i).tables; state = (sym run_is i).state })

  run-refuted : field 0 (run_bytes b records).result ≡ 1
      → (s k : ℕ) × (Run.ran (refuted s k) ≡ Lending.answer (lent_in b) (Run.run_call records))
  unfolding Lending.answer lent_in run_bytes ran
  run-refuted h =
      let x = (run_of (tables_in b) (state_in b) records).answer in
      let told : field 0 (run_result x) ≡ 1 = rw g.room at h in
      let r = refuted-is x told in
      (r.0, r.1, ap Run.ran (sym r.2))

other-stays : (x : Lent) → Lending.next x Run.other_call ≡ x
unfolding Lending.next
other-stays x = refl

results-are : (b : Buffers) → Good b → (calls : List Call) (r : ℕ) → r ∈ run_results b calls → field 0 r ≡ 1
    → (s k : ℕ) × (Run.ran (refuted s k) ∈ answers (lent_in b) (map call calls))
unfolding run_results answers call
results-are b g [] r q h = absurd (Memᴰ.not-nil q)
results-are b g (run_call records ∷ calls) r (Memᴰ.head e) h =
    let x = run-refuted b g records (rw e at h) in
    (x.0, x.1, Memᴰ.head x.2)
results-are b g (run_call records ∷ calls) r (Memᴰ.tail q) h =
    let x = results-are (next b (run_call records)) (run-good b g records) calls r q h in
    (x.0, x.1, Memᴰ.tail (rw (run_lent b g records) at x.2))
results-are b g (other_call ∷ calls) r q h = let x = results-are b g calls r q h in (x.0, x.1, Memᴰ.tail {xs = answers (Lending.next (lent_in b) Run.other_call) (map call calls)} (rw (other-stays (lent_in b)) x.2))

-- ---- a load

never-refused : (b : Buffers) (line number : ℕ) → field 0 (loaded b (loaded_on (tables_in b) (refused line number))).result ≡ 1 → ⊥
unfolding loaded loaded_on load_answer load_result
never-refused b line number h = omega (arith, case-is 4 line number 0 (omega arith))

never-short : (b : Buffers) → field 0 (load_short b).result ≡ 1 → ⊥
unfolding load_short load_result
never-short b h = omega (arith, case-is 4 0 1 0 (omega arith))

module _ (b : Buffers) (text : List ℕ) where
  load-whole : (c : Bool) → whole b ≡ c → field 0 (load_bytes b text).result ≡ 1 → whole b ≡ true
  unfolding load_bytes
  load-whole true e h = e
  load-whole false e h = absurd (never-short b (rw e at h))

  module _ (w : whole b ≡ true) where
    load_is : load_bytes b text ≡ loaded b (loaded_on (tables_in b) (load text))
    unfolding load_bytes load_of
    load_is = rw (w, lent-long b w)

    load-accepted : (o : Reading.Loaded) → load text ≡ o → field 0 (load_bytes b text).result ≡ 1 → (φ : Formula) × (load text ≡ accepted φ)
    load-accepted (accepted φ) e h = (φ, e)
    load-accepted (refused line number) e h = absurd (never-refused b line number (rw (load_is, e) at h))

    module _ (φ : Formula) (e : load text ≡ accepted φ) where
      loaded-are : (load_bytes b text).buffers ≡ after b (model_of φ) w (load-valid text φ e)
      unfolding after loaded loaded_on loaded_model
      loaded-are = ap (λ (x : After). x.buffers) load_is ∙ ap (λ (o : Reading.Loaded). (loaded b (loaded_on (tables_in b) o)).buffers) e

      loaded-refutes : (calls : List Call) (r : ℕ) → r ∈ run_results (load_bytes b text).buffers calls → field 0 r ≡ 1 → Refuted φ
      unfolding Lending.loaded
      loaded-refutes calls r q h =
          let v = load-valid text φ e in
          let start = after b (model_of φ) w v in
          let x = results-are start (after-good b (model_of φ) w v) calls r (rw loaded-are at q) h in
          Lent-tables.refutation text φ e (tables_in b) (lent-long b w) (map call calls) x.0 x.1 (rw (after-lent b (model_of φ) w v) at x.2)

pub refutation : Refutation
refutation b text h =
    let w = load-whole b text (whole b) refl h in
    let f = load-accepted b text w (load text) refl h in
    (f.0, f.1, loaded-refutes b text w f.0 f.1)
