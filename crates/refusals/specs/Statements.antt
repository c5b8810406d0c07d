-- DEMAND 1, "refusals leave exactly the stated contents" (document 01, "Numbers of refusal": "After 1 and 2 tables and state are unchanged", to "as before that
-- step"): what each refused call leaves.
--
-- `load_of`, `step_of` and `run_of` are the outcomes that the contracts of `load`, `step` and `run` promise of lent tables (`refusal_in` of dqbf and `run_told` give the answer
-- for each case of the code's). So the claims hold of these calls for all table contents, every state and all bytes; `long` is the test of number 1, `well_formed` that of number 2.
--     ShortSame          number 1: load, step and run leave all four tables, step and run the state; a load hands back a zero state
--     FormlessSame       number 2: step and run leave tables and state
--     StepSame           a refused step, whatever its number, leaves tables and state
--     RunSame            a run that is refused as a whole (step 0) or at its first record (step 1) leaves tables and state
--     RunStopped         a run stopped at a step leaves what the run over the records before that step leaves, and there the step is refused as the run tells
--     StepNames, RunNames      what the refusal of a step and of a run names (document 02, Note 4)
--     LoadZeroed         a refused formula leaves zeros over the stated sizes, the entries past them, and a zero state
--     RestSame           entries past the stated sizes stay, whatever a load, a step or a run answers
--     WordsZeroed, WordsRest   the same two of the sets table in its words: zeros over 2,048 words, and every word past them stays
--     JudgeLeaves        `judge` leaves the tables of the load or, behind an accepted one, those of the run, so that all of the above holds of it
--     JudgeShort         with fewer bytes lent than a line may need, `judge` leaves these
-- `load_bytes` and `run_bytes` are the outcomes that the contracts of the exports `kefthrun_load` and `kefthrun_run` promise of the driver's buffers; `whole` is
-- the test of number 1. `RunBytesSame` rests on every entry of a lent buffer being a byte. The prover knows that of each call, so the contract of `kefthrun_run`
-- promises `RunBytesSame` itself (`RunPromised`). The other exports write nothing to the buffers: they borrow them for reading.
--     RunBytesShort      number 1: a run leaves every buffer
--     RunBytesSame       a run that is refused as a whole (1, 2, 11) or at its first record leaves every buffer, byte for byte
--     RunBytesStopped    a run stopped at a step leaves the bytes that the run over the records before that step leaves, and there the step is refused as the result tells
--     LoadBytesShort     number 1: a load leaves every buffer, except that it zeroes a state lent whole
--     LoadBytesZeroed    a refused formula leaves the stated bytes 0 and the bytes past them
-- `write_of` and `write_bytes` are the outcomes that the contracts of `write_formula` and of the export `kefthrun_write` promise of the output (document 02, Note 1).
-- Tables, state and buffers are lent to these for reading.
--     WriteSame, WriteBytesSame      a refusal, whatever its number (1, 2, 30), leaves the output
--     WriteRest, WriteBytesRest      behind a written text the output is as it was, and as long
--     WriteBytesShort                number 1: too few bytes in any buffer
use Rattle.std.specs.Prelude.{◌≡◌, ◌⊎◌, None, true, false, cond, List, [], ◌∷◌, ◌++◌, ℕ, suc, ◌+◌, ◌*◌, ◌≤◌, ◌<◌, ℤ, pos, length, replicate, take, drop}
use Rattle.std.proofs.Math.Option.{some}
use Rattle.dqbf.specs.Limits.{clause_limit, literal_limit, variable_limit, record_size}
use Rattle.dqbf.specs.Refusal.{Refusal, refusal}
use Rattle.dqbf.specs.Run.{bad}
use Rattle.dqbf.specs.Statements.ClashingVariable.{Named}
use Rattle.sets.specs.Words.{table_words}
use Rattle.tables.specs.Tables.{Tables, tables_of, model_in}
use Rattle.tables.specs.Statements.{Framed, Below}
use Rattle.tables.specs.Spread.{zero_state}
use Rattle.tables.specs.WellFormed.{long, well_formed}
use Rattle.tables.specs.declared.State.{State}
use Rattle.dqdimacs.specs.Loading.{AfterLoad, load_of}
use Rattle.dqdimacs.specs.Loading as Load
use Rattle.steps.specs.Steps.{step_of, run_of}
use Rattle.steps.specs.Runs.{verdict_in}
use Rattle.formula_text.specs.Writing.{text_length, no_text, write_of}
use Rattle.lines.specs.Lines.{output_size, written, with_line}
use Rattle.verdict.specs.Judging.{judged_tables}
use Rattle.codec.specs.Bytes.{over}
use Rattle.buffers.specs.Buffers.{Buffers, buffers_of, state_size, state_whole, whole, tables_in, state_in}
use Rattle.results.specs.Results.{field, refusal_in, load_result, run_result, write_result}
use Rattle.exports.specs.Calls.{After, load_bytes, run_bytes, write_bytes}
use Rattle.exports.specs.Statements.Fields.{fields, load_fields}

-- ---- 1 and 2

-- "1: a table is lent too short"
abbrev pub ShortSame : Type 0
ShortSame =
    (t : Tables) (s : State) (bytes : List ℕ) → long t ≡ false
    → (load_of t bytes ≡ record { tables = t; state = zero_state; answer = Load.Refused 0 1 })
    × (step_of t s bytes ≡ record { tables = t; state = s; answer = some (refusal 1) })
    × (run_of t s bytes ≡ record { tables = t; state = s; answer = bad 0 (refusal 1) })

-- "2: tables not well formed"
abbrev pub FormlessSame : Type 0
FormlessSame =
    (t : Tables) (s : State) (bytes : List ℕ) → long t ≡ true → well_formed t s ≡ false
    → (step_of t s bytes ≡ record { tables = t; state = s; answer = some (refusal 2) })
    × (run_of t s bytes ≡ record { tables = t; state = s; answer = bad 0 (refusal 2) })

-- ---- "after a step's refusal tables and state are as before that step"

abbrev pub StepSame : Type 0
StepSame =
    (t : Tables) (s : State) (bytes : List ℕ) (r : Refusal) → (step_of t s bytes).answer ≡ some r
    → step_of t s bytes ≡ record { tables = t; state = s; answer = some r }

-- refused as a whole (step 0: 1, 2, and 11 for a list that is too long) or at its first record (step 1)
abbrev pub RunSame : Type 0
RunSame =
    (t : Tables) (s : State) (bytes : List ℕ) (step : ℕ) (r : Refusal) → step ≤ 1 → (run_of t s bytes).answer ≡ bad step r
    → run_of t s bytes ≡ record { tables = t; state = s; answer = bad step r }

-- Stopped at step k + 1: tables and state are those of the run over the k records before it, which is not refused but tells its verdict, and on these
-- tables and this state the step is refused as the run tells, with the same number and values.
abbrev pub RunStopped : Type 0
RunStopped =
    (t : Tables) (s : State) (bytes : List ℕ) (k : ℕ) (r : Refusal) → (run_of t s bytes).answer ≡ bad (suc k) r
    → let stopped = run_of t s bytes in
    (run_of t s (take (record_size * k) bytes) ≡ record { tables = stopped.tables; state = stopped.state; answer = verdict_in stopped.state })
    × ((step_of stopped.tables stopped.state (drop (record_size * k) bytes)).answer ≡ some r)

-- ---- "the lowest variable that the resolvent holds in both signs" (document 02, Note 4)

-- `Named` (dqbf, specs/Statements/ClashingVariable.antt): 23 is of a resolution and names that variable of its resolvent, and every other refusal has no value
abbrev pub StepNames : Type 0
StepNames = (t : Tables) (s : State) (bytes : List ℕ) (r : Refusal) → (step_of t s bytes).answer ≡ some r → Named (model_in t s) bytes r

-- A run that is refused as a whole names nothing. Stopped at step k + 1, it names what that step names on the tables and the state that are left.
abbrev pub RunNames : Type 0
RunNames =
    (t : Tables) (s : State) (bytes : List ℕ) (r : Refusal)
    → let ran = run_of t s bytes in
    (ran.answer ≡ bad 0 r → r.values ≡ []) × ((k : ℕ) → ran.answer ≡ bad (suc k) r → Named (model_in ran.tables ran.state) (drop (record_size * k) bytes) r)

-- ---- "after 10 to 14 and a formula's 11 the fixed entries and the state are 0"

pub record Zeroed (t : Tables) (x : AfterLoad) : Type 0 where
  pub literals : x.tables.literals ≡ replicate literal_limit (pos 0) ++ drop literal_limit t.literals
  pub ends : x.tables.ends ≡ replicate clause_limit 0 ++ drop clause_limit t.ends
  pub sets : x.tables.sets ≡ replicate variable_limit 0 ++ drop variable_limit t.sets
  pub spare : x.tables.spare ≡ t.spare
  pub kinds : x.tables.kinds ≡ replicate variable_limit 0 ++ drop variable_limit t.kinds
  pub state : x.state ≡ zero_state

abbrev pub LoadZeroed : Type 0
LoadZeroed = (t : Tables) (text : List ℕ) (line number : ℕ) → long t ≡ true → (load_of t text).answer ≡ Load.Refused line number → Zeroed t (load_of t text)

-- ---- "Entries of a longer table past these counts are never changed"

abbrev pub RestSame : Type 0
RestSame =
    (t : Tables) (s : State) (bytes : List ℕ) → Framed t (load_of t bytes).tables × Framed t (step_of t s bytes).tables × Framed t (run_of t s bytes).tables

-- ---- the same of the words of a sets table (document 02, Note 6): `words` before a call, `words'` behind it

abbrev pub WordsZeroed : Type 0
WordsZeroed =
    (literals literals' : List ℤ) (ends ends' words words' kinds kinds' text : List ℕ) (line number : ℕ) → Below words → Below words'
    → let t = tables_of literals ends words kinds in
    long t ≡ true → (load_of t text).answer ≡ Load.Refused line number → tables_of literals' ends' words' kinds' ≡ (load_of t text).tables
    → words' ≡ replicate table_words 0 ++ drop table_words words

abbrev pub WordsRest : Type 0
WordsRest =
    (literals literals' : List ℤ) (ends ends' words words' kinds kinds' : List ℕ) → Below words → Below words' → table_words ≤ length words → table_words ≤ length words'
    → (s : State) (bytes : List ℕ)
    → let t = tables_of literals ends words kinds in
    let t' = tables_of literals' ends' words' kinds' in
    (t' ≡ (load_of t bytes).tables) ⊎ ((t' ≡ (step_of t s bytes).tables) ⊎ (t' ≡ (run_of t s bytes).tables)) → drop table_words words' ≡ drop table_words words

-- ---- `judge`: a load, and a run where the text is accepted

abbrev pub JudgeLeaves : Type 0
JudgeLeaves =
    (t : Tables) (text records : List ℕ)
    → let loaded = load_of t text in
    ((line number : ℕ) → loaded.answer ≡ Load.Refused line number → judged_tables t text records ≡ loaded.tables)
    × (loaded.answer ≡ Load.Accepted → judged_tables t text records ≡ (run_of loaded.tables loaded.state records).tables)

abbrev pub JudgeShort : Type 0
JudgeShort = (line out : List ℕ) → length out < output_size → (written line out ≡ None) × (with_line line out ≡ out)

-- ---- the driver's buffers: "too few bytes in any of them is 1, and nothing lent is changed then, except that a load zeroes a state lent whole"

abbrev pub RunBytesShort : Type 0
RunBytesShort =
    (b : Buffers) (records : List ℕ) → whole b ≡ false → run_bytes b records ≡ record { buffers = b; result = run_result (bad 0 (refusal 1)) }

-- `over front buffer` is `front`, and behind it what stood there
abbrev pub LoadBytesShort : Type 0
LoadBytesShort =
    (b : Buffers) (text : List ℕ) → whole b ≡ false
    → load_bytes b text
    ≡ record {
      buffers = buffers_of b.literals b.ends b.sets b.kinds (cond (state_whole b) (over (replicate state_size 0) b.state) b.state);
      result = load_result (Load.Refused 0 1);
    }

-- the result tells a refusal at step 0 or 1
abbrev pub RunBytesSame : Buffers → After → Type 0
RunBytesSame b x = (step number variable : ℕ) → step ≤ 1 → fields x.result ≡ 3 ∷ step ∷ number ∷ variable ∷ [] → x.buffers ≡ b

-- what the contract of `kefthrun_run` says of a call on these buffers and records, with x behind it
abbrev pub RunPromised : Buffers → List ℕ → After → Type 0
RunPromised b records x = (x ≡ run_bytes b records) × RunBytesSame b x

-- The result tells a refusal at step k + 1: on the tables and the state in the bytes that are left, that step is refused with that number and that variable.
abbrev pub RunBytesStopped : Type 0
RunBytesStopped =
    (b : Buffers) (records : List ℕ) (k number variable : ℕ) → fields (run_bytes b records).result ≡ 3 ∷ suc k ∷ number ∷ variable ∷ []
    → let left = (run_bytes b records).buffers in
    (run_bytes b (take (record_size * k) records) ≡ record { buffers = left; result = run_result (verdict_in (state_in left)) })
    × ((step_of (tables_in left) (state_in left) (drop (record_size * k) records)).answer ≡ some (refusal_in number variable))

-- the bytes of 8,192, 2,048, 2,048 and 512 entries and of eight counts are 0
unfoldable pub zeroed_bytes : Buffers → Buffers
zeroed_bytes b =
    buffers_of (over (replicate (2 * literal_limit) 0) b.literals) (over (replicate (2 * clause_limit) 0) b.ends) (over (replicate (8 * table_words) 0) b.sets)
    (over (replicate variable_limit 0) b.kinds) (over (replicate state_size 0) b.state)

abbrev pub LoadBytesZeroed : Type 0
LoadBytesZeroed =
    (b : Buffers) (text : List ℕ) (line number : ℕ) → whole b ≡ true → fields (load_bytes b text).result ≡ load_fields (Load.Refused line number)
    → (load_bytes b text).buffers ≡ zeroed_bytes b

-- ---- a written formula: "output untouched", "Output past the text is untouched"

abbrev pub WriteSame : Type 0
WriteSame = (t : Tables) (s : State) (out : List ℕ) (r : Refusal) → (write_of t s out).answer ≡ no_text r → (write_of t s out).output ≡ out

-- n bytes fit the output, what is behind them is as it was, and the output is as long as it was
pub record PastSame (n : ℕ) (out left : List ℕ) : Type 0 where
  pub inside : n ≤ length out
  pub rest : drop n left ≡ drop n out
  pub size : length left ≡ length out

abbrev pub WriteRest : Type 0
WriteRest = (t : Tables) (s : State) (out : List ℕ) (n : ℕ) → (write_of t s out).answer ≡ text_length n → PastSame n out (write_of t s out).output

abbrev pub WriteBytesShort : Type 0
WriteBytesShort = (b : Buffers) (out : List ℕ) → whole b ≡ false → write_bytes b out ≡ record { output = out; result = write_result (no_text (refusal 1)) }

-- the result tells a refusal
abbrev pub WriteBytesSame : Type 0
WriteBytesSame = (b : Buffers) (out : List ℕ) → field 0 (write_bytes b out).result ≡ 2 → (write_bytes b out).output ≡ out

-- the result tells a written text, and its length in two fields
abbrev pub WriteBytesRest : Type 0
WriteBytesRest =
    (b : Buffers) (out : List ℕ) → let r = (write_bytes b out).result in
    field 0 r ≡ 1 → PastSame (field 1 r + 65536 * field 2 r) out (write_bytes b out).output
