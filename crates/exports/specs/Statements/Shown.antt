-- What the exported show tells (document 01, "A shown clause is the caller's own stretch of the literal table").
--     ShowsTheClause      place and length of the clause's stretch in the caller's literals
--     ShowsTheLength      its length is the one that the question answers
--     ShowsNothing        the empty stretch at the start, wherever the question about the length is refused: too few bytes, ill-formed tables, an unknown number
use Rattle.std.specs.Prelude.{◌≡◌, true, [], ◌∷◌, ℕ, ◌+◌, ◌≤◌, length}
use Rattle.tables.specs.declared.State.{State}
use Rattle.tables.specs.Tables.{Tables, stretch}
use Rattle.questions.specs.Answers.{shown_start, shown_clause}
use Rattle.buffers.specs.Buffers.{Buffers, whole, tables_in, state_in}
use Rattle.results.specs.Results.{field}
use Rattle.exports.specs.Calls.{show_bytes, clause_bytes}
use Rattle.exports.specs.Statements.Fields.{fields}

-- a result with place and length of the shown clause in the literals
pub record Tells (t : Tables) (s : State) (c r : ℕ) : Type 0 where
  pub told : fields r ≡ 1 ∷ shown_start t s c ∷ length (shown_clause t s c) ∷ 0 ∷ []
  pub there : stretch (shown_start t s c) (shown_start t s c + length (shown_clause t s c)) t.literals ≡ shown_clause t s c
  pub inside : shown_start t s c + length (shown_clause t s c) ≤ length t.literals

abbrev pub ShowsTheClause : Type 0
ShowsTheClause = (b : Buffers) (c : ℕ) → whole b ≡ true → Tells (tables_in b) (state_in b) c (show_bytes b c)

abbrev pub ShowsTheLength : Type 0
ShowsTheLength = (b : Buffers) (c : ℕ) → field 0 (clause_bytes b c) ≡ 1 → field 2 (show_bytes b c) ≡ field 1 (clause_bytes b c)

abbrev pub ShowsNothing : Type 0
ShowsNothing = (b : Buffers) (c : ℕ) → field 0 (clause_bytes b c) ≡ 2 → fields (show_bytes b c) ≡ 1 ∷ 0 ∷ 0 ∷ 0 ∷ []
