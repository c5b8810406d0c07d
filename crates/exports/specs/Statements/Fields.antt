-- The fields of a result are the case and the values of the answer, and nothing is cut off: each value fits its 16 bits. The case is never 0, a field without a
-- value is 0.
-- The length of a written text has two fields, which together are the length.
use Rattle.std.specs.Prelude.{◌≡◌, ◌≢◌, true, List, [], ◌∷◌, ℕ, ◌+◌, ◌*◌, ◌/◌, ◌%◌, length}
use Rattle.dqbf.specs.Questions.{ClauseAnswer, clause_length, no_clause, VariableAnswer, variable, no_variable}
use Rattle.dqbf.specs.Run.{Verdict, refuted, open', bad}
use Rattle.dqbf.specs.Spelled.{spelled}
use Rattle.tables.specs.Tables.{model_in}
use Rattle.questions.specs.Answers.{length_answer, variable_answer}
use Rattle.dqdimacs.specs.Loading.{load_of}
use Rattle.dqdimacs.specs.Loading.{LoadAnswer}
use Rattle.dqdimacs.specs.Loading as Load
use Rattle.steps.specs.Steps.{run_of}
use Rattle.formula_text.specs.Writing.{TextAnswer, text_length, no_text, write_of}
use Rattle.buffers.specs.Buffers.{Buffers, whole, tables_in, state_in}
use Rattle.results.specs.Results.{field, named_variable}
use Rattle.exports.specs.Calls.{load_bytes, run_bytes, clause_bytes, variable_bytes, write_bytes}

unfoldable pub fields : ℕ → List ℕ
fields r = field 0 r ∷ field 1 r ∷ field 2 r ∷ field 3 r ∷ []

unfoldable pub load_fields : LoadAnswer → List ℕ
load_fields Load.Accepted = 1 ∷ 0 ∷ 0 ∷ 0 ∷ []
load_fields (Load.Refused line number) = 4 ∷ line ∷ number ∷ 0 ∷ []

unfoldable pub run_fields : Verdict → List ℕ
run_fields (refuted steps clause) = 1 ∷ steps ∷ clause ∷ 0 ∷ []
run_fields (open' steps) = 2 ∷ steps ∷ 0 ∷ 0 ∷ []
run_fields (bad step x) = 3 ∷ step ∷ x.number ∷ named_variable x ∷ []

unfoldable pub clause_fields : ClauseAnswer → List ℕ
clause_fields (clause_length n) = 1 ∷ n ∷ 0 ∷ 0 ∷ []
clause_fields (no_clause r) = 2 ∷ r.number ∷ 0 ∷ 0 ∷ []

unfoldable pub variable_fields : VariableAnswer → List ℕ
variable_fields (variable kind universals) = 1 ∷ kind ∷ universals ∷ 0 ∷ []
variable_fields (no_variable r) = 2 ∷ r.number ∷ 0 ∷ 0 ∷ []

unfoldable pub write_fields : TextAnswer → List ℕ
write_fields (text_length n) = 1 ∷ n % 65536 ∷ n / 65536 ∷ 0 ∷ []
write_fields (no_text r) = 2 ∷ r.number ∷ 0 ∷ 0 ∷ []

abbrev pub LoadTells : Type 0
LoadTells = (b : Buffers) (text : List ℕ) → whole b ≡ true → fields (load_bytes b text).result ≡ load_fields (load_of (tables_in b) text).answer

abbrev pub RunTells : Type 0
RunTells = (b : Buffers) (records : List ℕ) → whole b ≡ true → fields (run_bytes b records).result ≡ run_fields (run_of (tables_in b) (state_in b) records).answer

-- Of a refused step the fourth field is a variable for 23, and 0 for every other number: the fields tell the refusal.
abbrev pub RunTellsClash : Type 0
RunTellsClash =
    (b : Buffers) (records : List ℕ) → let r = (run_bytes b records).result in
    field 0 r ≡ 3 → (field 2 r ≡ 23 → field 3 r ≢ 0) × (field 2 r ≢ 23 → field 3 r ≡ 0)

-- (what the exported show tells is specs/Statements/Shown.antt)
abbrev pub ClauseTells : Type 0
ClauseTells = (b : Buffers) (c : ℕ) → whole b ≡ true → fields (clause_bytes b c) ≡ clause_fields (length_answer (tables_in b) (state_in b) c)

abbrev pub VariableTells : Type 0
VariableTells = (b : Buffers) (x : ℕ) → whole b ≡ true → fields (variable_bytes b x) ≡ variable_fields (variable_answer (tables_in b) (state_in b) x)

abbrev pub WriteTells : Type 0
WriteTells = (b : Buffers) (out : List ℕ) → whole b ≡ true → fields (write_bytes b out).result ≡ write_fields (write_of (tables_in b) (state_in b) out).answer

-- a result that tells a written text has the length of that text
abbrev pub WriteTellsLength : Type 0
WriteTellsLength =
    (b : Buffers) (out : List ℕ) → let r = (write_bytes b out).result in
    field 0 r ≡ 1 → field 1 r + 65536 * field 2 r ≡ length (spelled (model_in (tables_in b) (state_in b)))
