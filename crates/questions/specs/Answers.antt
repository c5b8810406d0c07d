-- What the questions answer, on tables with their state (document 01, "The four lent tables"): the calculus' answers (dqbf, specs/Questions.antt) on the model
-- in well-formed tables, behind numbers 1 and 2.
--     length_told, variable_told          the paper's numbers and values for each case of an answer
--     length_answer, variable_answer      the outcome of a question
--     Shown                             the stretch that is shown: its place in the caller's literals and the clause in it
use Rattle.std.specs.Prelude.{◌≡◌, cond, List, [], Result, Ok, Err, ℕ, ◌+◌, ◌-◌, ◌*◌, ℤ}
use Rattle.std.specs.Borrow.{Bor}
use Rattle.dqbf.specs.Literal.{Clause}
use Rattle.dqbf.specs.Refusal.{refusal_told}
use Rattle.dqbf.specs.Rules.{unknown}
use Rattle.dqbf.specs.Questions as Questions
use Rattle.dqbf.specs.Questions.{ClauseAnswer, clause_length, no_clause, ask_clause, no_variable, ask_variable}
use Rattle.tables.specs.declared.State.{State}
use Rattle.tables.specs.Tables.{Tables, entry, model_in}
use Rattle.tables.specs.Unusable.{unusable, unless_refused}
use Rattle.dqbf.specs.declared.refusal.Refusal as Code
use Rattle.questions.specs.declared.VariableEntry.{VariableEntry}

-- ---- the length of a clause

abbrev pub length_told : Result ℕ Code.Refusal → ClauseAnswer
length_told (Ok n) = clause_length n
length_told (Err r) = no_clause (refusal_told r)

unfoldable pub length_answer : Tables → State → ℕ → ClauseAnswer
length_answer t s c = unless_refused (unusable t s) no_clause (ask_clause (model_in t s) c)

-- ---- kind and set size of a variable

abbrev pub variable_told : Result VariableEntry Code.Refusal → Questions.VariableAnswer
variable_told (Ok x) = Questions.variable x.kind x.universals
variable_told (Err r) = no_variable (refusal_told r)

unfoldable pub variable_answer : Tables → State → ℕ → Questions.VariableAnswer
variable_answer t s x = unless_refused (unusable t s) no_variable (ask_variable (model_in t s) x)

-- ---- a shown clause

unfoldable pub shown_clause : Tables → State → ℕ → Clause
shown_clause t s c = unless_refused (unusable t s) (λ r. []) (Questions.show (model_in t s) c)

-- where it starts in the literals: a clause starts where the one before it ends
unfoldable pub shown_start : Tables → State → ℕ → ℕ
shown_start t s c = unless_refused (unusable t s) (λ r. 0) (cond (unknown (model_in t s) c) 0 (entry t.ends (c - 1)))

-- in bytes
abbrev pub literal_size : ℕ
literal_size = 2

-- r is the part of the caller's own literals that starts there and holds the clause
pub record Shown (t : Tables) (s : State) (c : ℕ) (literals r : Bor (List ℤ)) : Type 0 where
  pub clause : r.now ≡ shown_clause t s c
  pub place : r.ref_ptr ≡ (literals.ref_ptr.0, shown_start t s c * literal_size + literals.ref_ptr.1)
