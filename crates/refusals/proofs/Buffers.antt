-- The claims of specs/Statements.antt about the driver's buffers.
use mathlib.Core.Path.{◌≡◌, refl, sym, ap, ap₂, ◌∙◌}
use mathlib.Core.Bool.{Bool, true, false}
use mathlib.Core.List.{List, [], ◌∷◌, ◌++◌, map, append-nil}
use mathlib.Core.Option.{some}
use Prim.Native.Nat.{ℕ, zero, suc, ◌+◌, ◌*◌, ◌/◌, ◌≤◌}
use lib.Dec.{lit<}
use lib.IntN.{pos}
use lib.ListN.{length, take, drop, replicate, length-replicate, replicate-append-replicate, drop_of_length-le}
use native.Mathlib.Nat.{mul-zero, mul-suc}
use native.Mathlib.Omega.{arith}
use Rattle.dqbf.specs.Limits.{clause_limit, literal_limit, variable_limit, record_size}
use Rattle.dqbf.specs.Refusal.{Refusal}
use Rattle.dqbf.specs.Run.{Verdict, refuted, open', bad}
use Rattle.sets.specs.Words.{words_each, table_words, as_sets, table_of}
use Rattle.sets.proofs.Laws.Sets.{sets-length}
use Rattle.sets.proofs.Laws.Tables.{table-zeros}
use Rattle.tables.specs.Spread.{spread, state_of, zero_state}
use Rattle.tables.specs.declared.State.{State}
use Rattle.dqdimacs.specs.Loading.{AfterLoad, load_of}
use Rattle.dqdimacs.specs.Loading.{LoadAnswer}
use Rattle.dqdimacs.specs.Loading as Load
use Rattle.steps.specs.Steps.{step_of, run_of}
use Rattle.steps.specs.Runs.{verdict_in}
use Rattle.codec.specs.Bytes.{digits, entries, bytes_of, bits, literals_in, literal_bytes, over}
use Rattle.codec.specs.State.{counts, state_bytes}
use Rattle.codec.proofs.Laws.Bytes.{entries-length}
use Rattle.codec.proofs.Laws.Tables.{literals-length}
use Rattle.buffers.specs.Buffers.{Buffers, whole, tables_in, state_in, written}
use Rattle.buffers.proofs.Laws.{lent-long}
use Rattle.results.specs.Results.{packed, field, named_variable, refusal_in, run_result}
use Rattle.exports.specs.Calls.{After, AllBytes, loaded, load_short, load_bytes, ran, run_short, run_bytes}
use Rattle.exports.specs.Statements.Fields.{fields, load_fields, run_fields}
use Rattle.exports.proofs.Fields.{load-tells, run-tells}
use Rattle.exports.proofs.Laws.Named.{Well, run-well}
use Rattle.exports.proofs.RoundTrip.{same_bytes-are, read_back}
use Rattle.refusals.specs.Statements.{RunBytesShort, LoadBytesShort, RunPromised, RunBytesStopped, Zeroed, zeroed_bytes, LoadBytesZeroed}
use Rattle.refusals.proofs.Tables.{run_holds, run-same, run-stopped, load-zeroed}

-- ---- 1

pub run-bytes-short : RunBytesShort
unfolding run_bytes run_short
run-bytes-short b records h = rw h

pub load-bytes-short : LoadBytesShort
unfolding load_bytes load_short
load-bytes-short b text h = rw h

-- ---- a refused run

-- a result that tells a refusal is that of such a verdict
told-bad : (v : Verdict) (step number variable : ℕ) → ((k : ℕ) (r : Refusal) → v ≡ bad k r → Well r) → run_fields v ≡ 3 ∷ step ∷ number ∷ variable ∷ []
    → v ≡ bad step (refusal_in number variable)
unfolding run_fields
told-bad (refuted s k) step number variable w e = absurd (let z : ◌≡◌ {A = ℕ} 1 3 = cc in omega arith)
told-bad (open' s) step number variable w e = absurd (let z : ◌≡◌ {A = ℕ} 2 3 = cc in omega arith)
told-bad (bad s r) step number variable w e =
    let first : s ≡ step = cc in
    let second : r.number ≡ number = cc in
    let third : named_variable r ≡ variable = cc in
    rw (← first, ← second, ← third, (w s r refl).back)

module _ (b : Buffers) (records : List ℕ) where
  whole_run : whole b ≡ true → run_bytes b records ≡ ran b (run_of (tables_in b) (state_in b) records)
  unfolding run_bytes
  whole_run w = rw w

  run-answer : (step number variable : ℕ) → whole b ≡ true → fields (run_bytes b records).result ≡ 3 ∷ step ∷ number ∷ variable ∷ []
      → (run_of (tables_in b) (state_in b) records).answer ≡ bad step (refusal_in number variable)
  run-answer step number variable w e =
      told-bad (run_of (tables_in b) (state_in b) records).answer step number variable (run-well (tables_in b) (state_in b) records) (sym (run-tells b records w) ∙ e)

  same_whole : AllBytes b → (step number variable : ℕ) → step ≤ 1 → whole b ≡ true → fields (run_bytes b records).result ≡ 3 ∷ step ∷ number ∷ variable ∷ []
      → (run_bytes b records).buffers ≡ b
  unfolding ran
  same_whole k step number variable f w e =
      let same = run-same (tables_in b) (state_in b) records step (refusal_in number variable) f (run-answer step number variable w e) in
      rw (whole_run w, same) (same_bytes-are b w k)

-- what `kefthrun_run` promises of a call
pub run-bytes-same : (b : Buffers) (records : List ℕ) → AllBytes b → {x : After} → x ≡ run_bytes b records → RunPromised b records x
run-bytes-same b records k {x} is = (is, λ step number variable f e. ap (λ (y : After). y.buffers) is ∙ by step number variable f (sym (ap (λ (y : After). fields y.result) is) ∙ e) (whole b) refl)
  where
    by : (step number variable : ℕ) → step ≤ 1 → fields (run_bytes b records).result ≡ 3 ∷ step ∷ number ∷ variable ∷ [] → (c : Bool) → whole b ≡ c
        → (run_bytes b records).buffers ≡ b
    by step number variable f e true w = same_whole b records k step number variable f w e
    by step number variable f e false w = ap (λ (y : After). y.buffers) (run-bytes-short b records w)

-- what a stopped run leaves is read back
module _ (b : Buffers) (records : List ℕ) (k number variable : ℕ) (w : whole b ≡ true) (e : fields (run_bytes b records).result ≡ 3 ∷ suc k ∷ number ∷ variable ∷ []) where
  abbrev r : Refusal
  r = refusal_in number variable

  answered : (run_of (tables_in b) (state_in b) records).answer ≡ bad (suc k) r
  answered = run-answer b records (suc k) number variable w e

  left_back : (tables_in (run_bytes b records).buffers ≡ (run_of (tables_in b) (state_in b) records).tables)
      × (state_in (run_bytes b records).buffers ≡ (run_of (tables_in b) (state_in b) records).state)
  unfolding ran
  left_back =
      let (m, valid, held, counts) = run_holds (tables_in b) (state_in b) records r k answered in
      let left : (run_bytes b records).buffers ≡ written b (spread m (tables_in b)) (state_of m) =
      ap (λ (x : After). x.buffers) (whole_run b records w) ∙ ap₂ (written b) held counts in
      let back = read_back b m w valid in
      (ap tables_in left ∙ back.0 ∙ sym held, ap state_in left ∙ back.1 ∙ sym counts)

  stopped-left : (run_bytes b (take (record_size * k) records)
      ≡ record { buffers = (run_bytes b records).buffers; result = run_result (verdict_in (state_in (run_bytes b records).buffers)) })
      × ((step_of (tables_in (run_bytes b records).buffers) (state_in (run_bytes b records).buffers) (drop (record_size * k) records)).answer ≡ some r)
  unfolding ran
  stopped-left =
      let stopped = run-stopped (tables_in b) (state_in b) records k r answered in
      (rw (left_back.1, whole_run b (take (record_size * k) records) w, stopped.0, whole_run b records w), rw (left_back.0, left_back.1) stopped.1)

pub run-bytes-stopped : RunBytesStopped
unfolding run_short fields run_result named_variable packed field
run-bytes-stopped b records k number variable e = by (whole b) refl
  where
    by : (c : Bool) → whole b ≡ c
        → (run_bytes b (take (record_size * k) records)
        ≡ record { buffers = (run_bytes b records).buffers; result = run_result (verdict_in (state_in (run_bytes b records).buffers)) })
        × ((step_of (tables_in (run_bytes b records).buffers) (state_in (run_bytes b records).buffers) (drop (record_size * k) records)).answer ≡ some (refusal_in number variable))
    by true w = stopped-left b records k number variable w e
    by false w =
        let told = sym (ap (λ (x : After). fields x.result) (run-bytes-short b records w)) ∙ e in
        absurd (let z : ◌≡◌ {A = ℕ} 0 (suc k) = cc in omega (arith, z))

-- ---- a refused formula

told-refused : (a : LoadAnswer) (line number : ℕ) → load_fields a ≡ load_fields (Load.Refused line number) → a ≡ Load.Refused line number
unfolding load_fields
told-refused Load.Accepted line number e = absurd (let z : ◌≡◌ {A = ℕ} 0 1 = cc in omega arith)
told-refused (Load.Refused l n) line number e =
    let first : l ≡ line = cc in
    let second : n ≡ number = cc in
    λ i. Load.Refused (first i) (second i)

-- zeros in bytes
zero-digits : (w : ℕ) → digits w 0 ≡ replicate w 0
unfolding digits
zero-digits zero = refl
zero-digits (suc w) = ap (λ (l : List ℕ). 0 ∷ l) (zero-digits w)

zero-bytes : (w n : ℕ) → bytes_of w (replicate n 0) ≡ replicate (w * n) 0
unfolding bytes_of
zero-bytes w zero = rw (mul-zero w)
zero-bytes w (suc n) =
    let more : w + w * n ≡ w * suc n = omega (arith, mul-suc w n) in
    rw (zero-digits w, zero-bytes w n) (replicate-append-replicate w (w * n) 0 ∙ ap (λ (k : ℕ). replicate k 0) more)

zero_bits : (n : ℕ) → map bits (replicate n (pos 0)) ≡ replicate n 0
unfolding bits
zero_bits zero = refl
zero_bits (suc n) = ap (λ (l : List ℕ). 0 ∷ l) (zero_bits n)

zero-literals : (n : ℕ) → literal_bytes (replicate n (pos 0)) ≡ replicate (2 * n) 0
unfolding literal_bytes
zero-literals n = ap (bytes_of 2) (zero_bits n) ∙ zero-bytes 2 n

zero-state : (l : List ℕ) → over (state_bytes zero_state) l ≡ over (replicate 16 0) l
unfolding state_bytes counts bytes_of digits
zero-state l = refl

-- a table of the stated size has no entry past it
none-past : {A : Type 0} (n : ℕ) (x : A) (l : List A) → length l ≡ n → replicate n x ++ drop n l ≡ replicate n x
none-past n x l e = rw (drop_of_length-le l {i = n} (omega arith), append-nil)

zeros-over : (n : ℕ) (l : List ℕ) → replicate n 0 ++ drop n l ≡ over (replicate n 0) l
unfolding over
zeros-over n l = rw (length-replicate {A = ℕ} n 0)

module _ (b : Buffers) (text : List ℕ) (w : whole b ≡ true) where
  whole-load : load_bytes b text ≡ loaded b (load_of (tables_in b) text)
  unfolding load_bytes
  whole-load = rw w

  load-answer : (line number : ℕ) → fields (load_bytes b text).result ≡ load_fields (Load.Refused line number)
      → (load_of (tables_in b) text).answer ≡ Load.Refused line number
  load-answer line number e = told-refused (load_of (tables_in b) text).answer line number (sym (load-tells b text w) ∙ e)

  held-sets : length (as_sets words_each (entries 8 table_words b.sets)) ≡ variable_limit
  held-sets = sets-length 4 (lit< tt) (entries 8 table_words b.sets) ∙ ap (λ n. n / 4) (entries-length 8 table_words b.sets)

  zeroed-written : (x : AfterLoad) → Zeroed (tables_in b) x → written b x.tables x.state ≡ zeroed_bytes b
  unfolding written tables_in zeroed_bytes
  zeroed-written x z = λ i. record {
    literals = ap (λ (l : List ℕ). over l b.literals)
        (ap literal_bytes (z.literals ∙ none-past literal_limit (pos 0) (literals_in literal_limit b.literals) (literals-length literal_limit b.literals)) ∙ zero-literals literal_limit) i;
    ends = ap (λ (l : List ℕ). over l b.ends)
        (ap (bytes_of 2) (z.ends ∙ none-past clause_limit 0 (entries 2 clause_limit b.ends) (entries-length 2 clause_limit b.ends)) ∙ zero-bytes 2 clause_limit) i;
    sets = ap (λ (l : List ℕ). over l b.sets)
        (ap (λ (S : List ℕ). bytes_of 8 (table_of words_each S)) (z.sets ∙ none-past variable_limit 0 (as_sets words_each (entries 8 table_words b.sets)) held-sets) ∙ ap (bytes_of 8) (table-zeros 4 variable_limit) ∙ zero-bytes 8 table_words) i;
    kinds = (z.kinds ∙ zeros-over variable_limit b.kinds) i;
    state = (ap (λ (s : State). over (state_bytes s) b.state) z.state ∙ zero-state b.state) i;
  }

pub load-bytes-zeroed : LoadBytesZeroed
unfolding loaded
load-bytes-zeroed b text line number w e =
    let z = load-zeroed (tables_in b) text line number (lent-long b w) (load-answer b text w line number e) in
    rw (whole-load b text w) (zeroed-written b text w (load_of (tables_in b) text) z)
