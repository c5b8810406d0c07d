-- What is claimed of a text that `write_formula` writes behind steps and runs, over lent tables, and proved in proofs/AfterSteps.antt.
-- Document 02, Note 1: "the formula part of the tables": what steps add does not show, whatever a step or a run answers, refusals among them.
--     StepUnwritten, RunUnwritten     answer and output are those before the call
--     run_behind                       a run on what a load left
--     RestoredAfterRun                the text that is then written, loaded again, restores what the load left
-- The same of a model is `StepsUnwritten` of dqbf, specs/Statements/Exact.antt.
use Rattle.std.specs.Prelude.{◌≡◌, List, ℕ, ◌≤◌}
use Rattle.dqbf.specs.Limits.{text_limit}
use Rattle.tables.specs.declared.State.{State}
use Rattle.tables.specs.Tables.{Tables}
use Rattle.dqdimacs.specs.Loading.{load_of}
use Rattle.dqdimacs.specs.Loading.{Accepted}
use Rattle.steps.specs.Steps.{step_of, AfterRun, run_of}
use Rattle.formula_text.specs.Writing.{write_of}
use Rattle.round_trip.specs.Statements.{WroteText, text_of}

-- one record's bytes
abbrev pub StepUnwritten : Type 0
StepUnwritten = (t : Tables) (s : State) (bytes out : List ℕ) → write_of (step_of t s bytes).tables (step_of t s bytes).state out ≡ write_of t s out

abbrev pub RunUnwritten : Type 0
RunUnwritten = (t : Tables) (s : State) (records out : List ℕ) → write_of (run_of t s records).tables (run_of t s records).state out ≡ write_of t s out

abbrev pub run_behind : Tables → (text records : List ℕ) → AfterRun
run_behind t text records = run_of (load_of t text).tables (load_of t text).state records

-- Every entry, those past the stated sizes too, the state and the answer are as the load left them: nothing of the run stays.
abbrev pub RestoredAfterRun : Type 0
RestoredAfterRun = (t : Tables) (text records out : List ℕ) (n : ℕ) → (load_of t text).answer ≡ Accepted
    → WroteText (run_behind t text records).tables (run_behind t text records).state out n → n ≤ text_limit
    → load_of (run_behind t text records).tables (text_of (run_behind t text records).tables (run_behind t text records).state out n) ≡ load_of t text
