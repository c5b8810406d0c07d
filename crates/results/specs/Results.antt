-- The result of an exported call: one number of four 16-bit fields, the lowest first. The first tells the case, the others have its values; a field without a value is 0.
-- 0 is no case, so that a result that was cleared and never filled in tells nothing.
--     packed                                            the number
--     field                                             a field of it
--     named_variable, refusal_in                          the variable that a refusal names (document 02, Note 4); a refusal from number and variable
--     load_result, run_result, clause_result, variable_result      of each answer, with the paper's numbers of refusal
--     show_result                                        of a shown clause: place and length, and no refusal
--     write_result                                       of a written formula: the text's length in two fields, the low 16 bits first
use Rattle.std.specs.Prelude.{cond, ℕ, zero, suc, ◌+◌, ◌*◌, ◌/◌, ◌%◌, eqb, length, get_or}
use Rattle.dqbf.specs.Refusal.{Refusal, refusal, naming}
use Rattle.dqbf.specs.Literal.{Clause}
use Rattle.dqbf.specs.Questions.{ClauseAnswer, clause_length, no_clause, VariableAnswer, variable, no_variable}
use Rattle.dqbf.specs.Run.{Verdict, refuted, open', bad}
use Rattle.dqdimacs.specs.Loading.{LoadAnswer}
use Rattle.dqdimacs.specs.Loading as Load
use Rattle.formula_text.specs.Writing.{TextAnswer, text_length, no_text}

unfoldable pub packed : ℕ → ℕ → ℕ → ℕ → ℕ
packed case a b c = case + 65536 * (a % 65536) + 4294967296 * (b % 65536) + 281474976710656 * (c % 65536)

unfoldable pub field : ℕ → ℕ → ℕ
field zero r = r % 65536
field (suc i) r = field i (r / 65536)

-- 1: accepted; 4: refused with line and number
unfoldable pub load_result : LoadAnswer → ℕ
load_result Load.Accepted = packed 1 0 0 0
load_result (Load.Refused line number) = packed 4 line number 0

-- 0: it names none
unfoldable pub named_variable : Refusal → ℕ
named_variable x = get_or x.values 0 0

unfoldable pub refusal_in : (number variable : ℕ) → Refusal
refusal_in n x = cond (eqb x 0) (refusal n) (naming n x)

-- 1: refuted with accepted steps and lowest empty clause; 2: open with accepted steps; 3: bad with step, number and the variable that is named_variable
unfoldable pub run_result : Verdict → ℕ
run_result (refuted steps clause) = packed 1 steps clause 0
run_result (open' steps) = packed 2 steps 0 0
run_result (bad step x) = packed 3 step x.number (named_variable x)

-- 1: the length; 2: refused with its number
unfoldable pub clause_result : ClauseAnswer → ℕ
clause_result (clause_length n) = packed 1 n 0 0
clause_result (no_clause r) = packed 2 r.number 0 0

-- 1: where the stretch starts and its length, in entries of the literals
unfoldable pub show_result : ℕ → Clause → ℕ
show_result start C = packed 1 start (length C) 0

-- the same from a place and the answer to the question about the length
unfoldable pub stretch_result : ℕ → ClauseAnswer → ℕ
stretch_result start (clause_length n) = packed 1 start n 0
stretch_result start (no_clause r) = packed 1 0 0 0

-- 1: kind and number of universals; 2: refused with its number
unfoldable pub variable_result : VariableAnswer → ℕ
variable_result (variable kind universals) = packed 1 kind universals 0
variable_result (no_variable r) = packed 2 r.number 0 0

-- 1: the length, its low 16 bits and the next 16; 2: refused with its number
unfoldable pub write_result : TextAnswer → ℕ
write_result (text_length n) = packed 1 n (n / 65536) 0
write_result (no_text r) = packed 2 r.number 0 0
