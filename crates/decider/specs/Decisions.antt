-- What `decide` answers, on tables with their state (document 02, Note 8): the decision (deciding's specs/Deciding.antt) on the model in well-formed tables,
-- behind numbers 1 and 2.
--     decision_told       the paper's number or family for each case of an answer
--     decision_answer     the outcome
use Rattle.std.specs.Prelude.{Option, None, Some, Result, Ok, Err, ℕ}
use Rattle.dqbf.specs.Refusal.{refusal_told}
use Rattle.deciding.specs.Deciding.{Decision, true_by, no_family, undecided, decide}
use Rattle.tables.specs.declared.State.{State}
use Rattle.tables.specs.Tables.{Tables, model_in}
use Rattle.tables.specs.Unusable.{unusable, unless_refused}
use Rattle.dqbf.specs.declared.refusal.Refusal as Code

abbrev pub decision_told : Result (Option ℕ) Code.Refusal → Decision
decision_told (Ok (Some family)) = true_by family
decision_told (Ok None) = no_family
decision_told (Err r) = undecided (refusal_told r)

unfoldable pub decision_answer : Tables → State → Decision
decision_answer t s = unless_refused (unusable t s) undecided (decide (model_in t s))
