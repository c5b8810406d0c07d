-- The formula part of lent tables, written as DQDIMACS (document 02, Note 1): answer and output behind the call, for all table contents and every output.
-- Numbers 1 and 2 come first, then 30, output lent shorter than the text; each leaves the output untouched. Else the text stands at the front of the output,
-- and what is past it is untouched.
--     TextAnswer, write_told     the length of the text or the paper's number, for each case of an answer
--     write_tests                the refusals in order
--     in_front                   a text at the front of an output
--     AfterWrite, write_of       the outcome
--     tidy_limit                 an output of so many bytes is never too short
use Rattle.std.specs.Prelude.{List, [], ◌∷◌, ◌++◌, Result, Ok, Err, ℕ, ltb, length, drop}
use Rattle.dqbf.specs.Refusal.{Refusal, refusal, refusal_told, Test, ◌when◌, first}
use Rattle.tables.specs.declared.State.{State}
use Rattle.tables.specs.Tables.{Tables, model_in}
use Rattle.tables.specs.Unusable.{table_tests, unless_refused}
use Rattle.dqbf.specs.Spelled.{spelled}
use Rattle.dqbf.specs.declared.refusal.Refusal as Code

pub data TextAnswer : Type 0 where
  text_length : ℕ → TextAnswer
  no_text : Refusal → TextAnswer

abbrev pub write_told : Result ℕ Code.Refusal → TextAnswer
write_told (Ok n) = text_length n
write_told (Err r) = no_text (refusal_told r)

unfoldable pub write_tests : Tables → State → List ℕ → List Test
write_tests t s out = table_tests t s ++ ((refusal 30 when ltb (length out) (length (spelled (model_in t s)))) ∷ [])

unfoldable pub in_front : (text out : List ℕ) → List ℕ
in_front text out = text ++ drop (length text) out

pub record AfterWrite : Type 0 where
  pub answer : TextAnswer
  pub output : List ℕ

unfoldable pub write_of : Tables → State → List ℕ → AfterWrite
write_of t s out =
    let text = spelled (model_in t s) in
    unless_refused (first (write_tests t s out)) (λ r. record { answer = no_text r; output = out })
    (record { answer = text_length (length text); output = in_front text out })

-- No formula within the limits has a longer text.
abbrev pub tidy_limit : ℕ
tidy_limit = 311296
