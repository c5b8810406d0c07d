-- The exported calls over the driver's buffers: decode, the definition of the call over tables, encode (document 01, "The solver's driver is C++").
-- "too few bytes in any of them is 1, and nothing lent is changed then, except that a load zeroes a state lent whole."
--     AllBytes                                     every entry of the buffers is a byte
--     After                                        the buffers behind a call, and its result
--     load_bytes, run_bytes                          what a load and a run leave and return
--     load_whole, run_whole                          the same over buffers that are long enough
--     load_short, run_short                          the same where one is too short
--     show_bytes, clause_bytes, variable_bytes        the results of the calls that write nothing
--     AfterWriteBytes                              the output behind a written formula, and the result
--     write_bytes                                   what a written formula leaves and returns: the buffers are read only (document 02, Note 1)
--     write_whole, write_short                       the same over buffers that are long enough, and where one is too short
-- What a result's fields tell: specs/Statements/Fields.antt; the interface's number: specs/Interface.antt of the crate `driver`.
use Rattle.std.specs.Prelude.{cond, List, [], ℕ, replicate}
use Rattle.dqbf.specs.Refusal.{refusal}
use Rattle.dqbf.specs.Run.{bad}
use Rattle.dqbf.specs.Questions.{no_clause, no_variable}
use Rattle.questions.specs.Answers.{length_answer, variable_answer, shown_start, shown_clause}
use Rattle.dqdimacs.specs.Loading.{AfterLoad, load_of}
use Rattle.dqdimacs.specs.Loading as Load
use Rattle.steps.specs.Steps.{AfterRun, run_of}
use Rattle.formula_text.specs.Writing.{no_text, AfterWrite, write_of}
use Rattle.codec.specs.Bytes.{Bytes, over}
use Rattle.buffers.specs.Buffers.{Buffers, buffers_of, state_size, state_whole, whole, tables_in, state_in, written}
use Rattle.results.specs.Results.{load_result, run_result, clause_result, show_result, variable_result, write_result}

-- every entry of the buffers is a byte
pub record AllBytes (b : Buffers) : Type 0 where
  pub literals : Bytes b.literals
  pub ends : Bytes b.ends
  pub sets : Bytes b.sets
  pub kinds : Bytes b.kinds
  pub state : Bytes b.state

-- the buffers behind a call, and its result
pub record After : Type 0 where
  pub buffers : Buffers
  pub result : ℕ

-- ---- a load

unfoldable pub loaded : Buffers → AfterLoad → After
loaded b l = record { buffers = written b l.tables l.state; result = load_result l.answer }

unfoldable pub load_short : Buffers → After
load_short b = record {
  buffers = buffers_of b.literals b.ends b.sets b.kinds (cond (state_whole b) (over (replicate state_size 0) b.state) b.state);
  result = load_result (Load.Refused 0 1);
}

abbrev pub load_whole : Buffers → List ℕ → After
load_whole b text = loaded b (load_of (tables_in b) text)

unfoldable pub load_bytes : Buffers → List ℕ → After
load_bytes b text = cond (whole b) (load_whole b text) (load_short b)

-- ---- a run

unfoldable pub ran : Buffers → AfterRun → After
ran b r = record { buffers = written b r.tables r.state; result = run_result r.answer }

unfoldable pub run_short : Buffers → After
run_short b = record { buffers = b; result = run_result (bad 0 (refusal 1)) }

abbrev pub run_whole : Buffers → List ℕ → After
run_whole b records = ran b (run_of (tables_in b) (state_in b) records)

unfoldable pub run_bytes : Buffers → List ℕ → After
run_bytes b records = cond (whole b) (run_whole b records) (run_short b)

-- ---- calls that write nothing

-- "For an unknown clause number, short or ill-formed tables it is the empty stretch at the start"
unfoldable pub show_bytes : Buffers → ℕ → ℕ
show_bytes b c = cond (whole b) (show_result (shown_start (tables_in b) (state_in b) c) (shown_clause (tables_in b) (state_in b) c)) (show_result 0 [])

unfoldable pub clause_bytes : Buffers → ℕ → ℕ
clause_bytes b c = cond (whole b) (clause_result (length_answer (tables_in b) (state_in b) c)) (clause_result (no_clause (refusal 1)))

unfoldable pub variable_bytes : Buffers → ℕ → ℕ
variable_bytes b x = cond (whole b) (variable_result (variable_answer (tables_in b) (state_in b) x)) (variable_result (no_variable (refusal 1)))

-- ---- a written formula

pub record AfterWriteBytes : Type 0 where
  pub output : List ℕ
  pub result : ℕ

unfoldable pub wrote : AfterWrite → AfterWriteBytes
wrote w = record { output = w.output; result = write_result w.answer }

unfoldable pub write_short : List ℕ → AfterWriteBytes
write_short out = record { output = out; result = write_result (no_text (refusal 1)) }

abbrev pub write_whole : Buffers → (out : List ℕ) → AfterWriteBytes
write_whole b out = wrote (write_of (tables_in b) (state_in b) out)

unfoldable pub write_bytes : Buffers → (out : List ℕ) → AfterWriteBytes
write_bytes b out = cond (whole b) (write_whole b out) (write_short out)
