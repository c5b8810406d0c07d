-- The claims of specs/Statements/Fields.antt.
use mathlib.Core.Path.{◌≡◌, refl}
use mathlib.Core.Logic.{◌≢◌}
use mathlib.Core.Bool.{cond, ◌||◌, Bool, true, false}
use mathlib.Core.List.{List, [], ◌∷◌}
use Prim.Native.Nat.{ℕ, ◌+◌, ◌*◌, ◌/◌, ◌<◌}
use native.Mathlib.Omega.{arith}
use lib.Dec.{eqb, ltb}
use lib.ListN.{length}
use Rattle.dqbf.specs.Set.{size}
use Rattle.dqbf.specs.Refusal.{Refusal, refusal}
use Rattle.dqbf.specs.Rules.{clause_at, unknown}
use Rattle.dqbf.specs.Model.{used, kind_of, set_of}
use Rattle.dqbf.specs.Valid.{Valid}
use Rattle.dqbf.specs.Questions.{clause_length, no_clause, ask_clause, variable, no_variable, ask_variable}
use Rattle.dqbf.specs.Limits.{tables}
use Rattle.dqbf.specs.Reading.{load, accepted, refused}
use Rattle.dqbf.specs.Run.{Verdict, refuted, open', bad, run}
use Rattle.dqbf.specs.Reading as Reading
use Rattle.dqbf.specs.Spelled.{spelled}
use Rattle.tables.specs.declared.State.{State}
use Rattle.tables.specs.Unusable.{unless_refused}
use Rattle.tables.specs.Tables.{Tables, model_in}
use Rattle.tables.specs.WellFormed.{long, well_formed}
use Rattle.tables.proofs.Laws.Unusable.{usable, unusable-ill}
use Rattle.tables.proofs.Laws.Spread.{valid-held}
use Rattle.questions.specs.Answers.{length_answer, variable_answer}
use Rattle.dqdimacs.specs.Loading.{load_answer, loaded_on, load_of}
use Rattle.steps.specs.Steps.{ran_on, run_refused, run_of}
use Rattle.formula_text.specs.Writing.{text_length, no_text}
use Rattle.buffers.specs.Buffers.{Buffers, whole, tables_in, state_in}
use Rattle.results.specs.Results.{packed, field, named_variable, load_result, run_result, clause_result, variable_result, write_result}
use Rattle.exports.specs.Calls.{loaded, load_bytes, ran, run_short, run_bytes, clause_bytes, variable_bytes, wrote, write_bytes}
use Rattle.exports.specs.Statements.Fields.{fields, load_fields, run_fields, clause_fields, variable_fields, write_fields, LoadTells, RunTells, RunTellsClash, ClauseTells, VariableTells, WriteTells, WriteTellsLength}
use Rattle.buffers.proofs.Laws.{lent-long}
use Rattle.results.proofs.Laws.{case-is, first-is, second_is, third-is, first-cut, two_fields}
use Rattle.exports.proofs.Laws.Named.{Well, plain-well, run-well}
use Rattle.exports.proofs.Laws.Short.{ShortVerdict, run_short-is, ShortLoaded, load-short, length-short, kind-short, size-short}
use Rattle.formula_text.proofs.Laws.Written.{written-by}
use Rattle.exports.proofs.Laws.Written.{text-short, bytes-written-by, never-told}

fields-are : (k a b c : ℕ) → k < 65536 → a < 65536 → b < 65536 → c < 65536 → fields (packed k a b c) ≡ k ∷ a ∷ b ∷ c ∷ []
unfolding fields
fields-are k a b c h i j l = rw (case-is k a b c h, first-is k a b c h i, second_is k a b c h j, third-is k a b c h l)

-- with two values
pub two-are : (k a b : ℕ) → k < 65536 → a < 65536 → b < 65536 → fields (packed k a b 0) ≡ k ∷ a ∷ b ∷ 0 ∷ []
two-are k a b h i j = fields-are k a b 0 h i j (omega arith)

load_fields-are : (o : Reading.Loaded) → ShortLoaded o → fields (load_result (load_answer o)) ≡ load_fields (load_answer o)
unfolding load_answer load_result load_fields ShortLoaded
load_fields-are (accepted φ) h = two-are 1 0 0 (omega arith) (omega arith) (omega arith)
load_fields-are (refused line number) h = two-are 4 line number (omega arith) h.0 h.1

pub load-tells : LoadTells
unfolding load_bytes load_of loaded_on loaded
load-tells b text w = rw (w, lent-long b w) (load_fields-are (load text) (load-short text))

verdict-fields : (v : Verdict) → ShortVerdict v → fields (run_result v) ≡ run_fields v
unfolding run_result run_fields ShortVerdict
verdict-fields (refuted s k) h = two-are 1 s k (omega arith) h.0 h.1
verdict-fields (open' s) h = two-are 2 s 0 (omega arith) h (omega arith)
verdict-fields (bad s r) h = fields-are 3 s r.number (named_variable r) (omega arith) h.0 h.1 h.2

module _ (b : Buffers) (records : List ℕ) (w : whole b ≡ true) where
  run-fields : (c : Bool) → well_formed (tables_in b) (state_in b) ≡ c
      → fields (run_result (run_of (tables_in b) (state_in b) records).answer) ≡ run_fields (run_of (tables_in b) (state_in b) records).answer
  unfolding run_of ran_on run_refused run_result run_fields named_variable
  run-fields true e =
      let v = valid-held (tables_in b) (state_in b) (lent-long b w) e in
      rw (lent-long b w, e) (verdict-fields (run tables (model_in (tables_in b) (state_in b)) records).verdict (run_short-is (model_in (tables_in b) (state_in b)) v records))
  run-fields false e = rw (lent-long b w, e) (two-are 3 0 2 (omega arith) (omega arith) (omega arith))

pub run-tells : RunTells
unfolding run_bytes ran
run-tells b records w = rw w (run-fields b records w (well_formed (tables_in b) (state_in b)) refl)

-- a refused step
bad-clash : (v : Verdict) (r : ℕ) → fields r ≡ run_fields v → ((k : ℕ) (x : Refusal) → v ≡ bad k x → Well x)
    → field 0 r ≡ 3 → (field 2 r ≡ 23 → field 3 r ≢ 0) × (field 2 r ≢ 23 → field 3 r ≡ 0)
unfolding fields run_fields
bad-clash (refuted s k) r e w h = absurd (let z : field 0 r ≡ 1 = cc in omega (arith, z))
bad-clash (open' s) r e w h = absurd (let z : field 0 r ≡ 2 = cc in omega (arith, z))
bad-clash (bad s x) r e w h =
    let number : field 2 r ≡ x.number = cc in
    let variable : field 3 r ≡ named_variable x = cc in
    rw (number, variable) ((w s x refl).clash, (w s x refl).others)

pub run-tells-clash : RunTellsClash
unfolding run_bytes run_short run_result run_fields named_variable
run-tells-clash b records = go (whole b) refl
  where
    go : (c : Bool) → whole b ≡ c → let r = (run_bytes b records).result in
        field 0 r ≡ 3 → (field 2 r ≡ 23 → field 3 r ≢ 0) × (field 2 r ≢ 23 → field 3 r ≡ 0)
    go true w =
        let t = tables_in b in
        let s = state_in b in
        bad-clash (run_of t s records).answer (run_bytes b records).result (run-tells b records w) (run-well t s records)
    go false w =
        let told = two-are 3 0 1 (omega arith) (omega arith) (omega arith) in
        let well = plain-well 1 (λ z. omega arith) in
        rw w (bad-clash (bad 0 (refusal 1)) (packed 3 0 1 0) told (λ k x e. let q : refusal 1 ≡ x = cc in rw (← q) well))

-- ---- questions

module _ (t : Tables) (s : State) (lent : long t ≡ true) (n : ℕ) where
  asked-clause : Valid tables (model_in t s) → (c : Bool)
      → fields (clause_result (cond c (no_clause (refusal 21)) (clause_length (length (clause_at (model_in t s) n)))))
      ≡ clause_fields (cond c (no_clause (refusal 21)) (clause_length (length (clause_at (model_in t s) n))))
  unfolding clause_result clause_fields
  asked-clause v true = two-are 2 21 0 (omega arith) (omega arith) (omega arith)
  asked-clause v false = two-are 1 (length (clause_at (model_in t s) n)) 0 (omega arith) (length-short (model_in t s) v n) (omega arith)

  clause-fields : (c : Bool) → well_formed t s ≡ c → fields (clause_result (length_answer t s n)) ≡ clause_fields (length_answer t s n)
  unfolding length_answer unless_refused ask_clause clause_result clause_fields
  clause-fields true e = rw (usable t s lent e) (asked-clause (valid-held t s lent e) (unknown (model_in t s) n))
  clause-fields false e = rw (unusable-ill t s lent e) (two-are 2 2 0 (omega arith) (omega arith) (omega arith))

  asked-variable : Valid tables (model_in t s) → (c : Bool)
      → fields (variable_result (cond c (no_variable (refusal 22)) (variable (kind_of (model_in t s) n) (size (set_of (model_in t s) n)))))
      ≡ variable_fields (cond c (no_variable (refusal 22)) (variable (kind_of (model_in t s) n) (size (set_of (model_in t s) n))))
  unfolding variable_result variable_fields
  asked-variable v true = two-are 2 22 0 (omega arith) (omega arith) (omega arith)
  asked-variable v false =
      two-are 1 (kind_of (model_in t s) n) (size (set_of (model_in t s) n)) (omega arith) (kind-short (model_in t s) v n) (size-short (model_in t s) v n)

  variable-fields : (c : Bool) → well_formed t s ≡ c → fields (variable_result (variable_answer t s n)) ≡ variable_fields (variable_answer t s n)
  unfolding variable_answer unless_refused ask_variable variable_result variable_fields
  variable-fields true e = rw (usable t s lent e) (asked-variable (valid-held t s lent e) (eqb n 0 || ltb (used (model_in t s)) n))
  variable-fields false e = rw (unusable-ill t s lent e) (two-are 2 2 0 (omega arith) (omega arith) (omega arith))

pub clause-tells : ClauseTells
unfolding clause_bytes
clause-tells b c w = rw w (clause-fields (tables_in b) (state_in b) (lent-long b w) c (well_formed (tables_in b) (state_in b)) refl)

pub variable-tells : VariableTells
unfolding variable_bytes
variable-tells b x w = rw w (variable-fields (tables_in b) (state_in b) (lent-long b w) x (well_formed (tables_in b) (state_in b)) refl)

-- ---- a written formula

length_fields : (n : ℕ) → n < 4294967296 → fields (write_result (text_length n)) ≡ write_fields (text_length n)
unfolding fields write_result write_fields
length_fields n h =
    let high : n / 65536 < 65536 = omega arith in
    rw (
      case-is 1 n (n / 65536) 0 (omega arith),
      first-cut 1 n (n / 65536) 0 (omega arith),
      second_is 1 n (n / 65536) 0 (omega arith) high,
      third-is 1 n (n / 65536) 0 (omega arith) (omega arith),
    )

refused-fields : (n : ℕ) → n < 65536 → fields (write_result (no_text (refusal n))) ≡ write_fields (no_text (refusal n))
unfolding write_result write_fields
refused-fields n h = two-are 2 n 0 (omega arith) h (omega arith)

pub write-tells : WriteTells
unfolding write_bytes wrote
write-tells b out w =
    rw w (written-by (tables_in b) (state_in b) out (λ x. fields (write_result x.answer) ≡ write_fields x.answer) (λ n h short. refused-fields n h)
    (λ lent formed fits. length_fields _ (text-short (tables_in b) (state_in b) lent formed)))

pub write-tells-length : WriteTellsLength
write-tells-length b out =
    bytes-written-by b out (λ x. field 0 x.result ≡ 1 → field 1 x.result + 65536 * field 2 x.result ≡ length (spelled (model_in (tables_in b) (state_in b))))
    (λ n h e. absurd (never-told n e)) (λ short fits e. two_fields _ short)
