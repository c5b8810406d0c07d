-- What is claimed of a text that `write_formula` wrote, over lent tables (document 02, Note 1), and proved in proofs/ReadAgain.antt.
--     WroteText, text_of    that a text of n bytes was written; that text
--     LongEnough           an output of `tidy_limit` bytes is never too short
--     ReadAgain            the text loaded into any tables leaves the formula part
--     LoadedAgain          of what an accepted load left nothing is lost
--     SameText             two texts are the same exactly if the formulas are
-- What is written behind steps and runs: specs/AfterSteps.antt.
use Rattle.std.specs.Prelude.{◌≡◌, true, List, ◌↔◌, ◌≢◌, ℕ, ◌≤◌, length, take}
use Rattle.dqbf.specs.Limits.{text_limit}
use Rattle.dqbf.specs.Refusal.{refusal}
use Rattle.dqbf.specs.Model.{Model}
use Rattle.tables.specs.declared.State.{State}
use Rattle.tables.specs.Tables.{Tables, model_in}
use Rattle.tables.specs.Spread.{spread, state_of}
use Rattle.tables.specs.WellFormed.{long}
use Rattle.dqdimacs.specs.Loading.{AfterLoad, load_of}
use Rattle.dqdimacs.specs.Loading.{Accepted}
use Rattle.dqbf.specs.Spelled.{formula_part}
use Rattle.dqbf.specs.Statements.Exact.{SameFormula}
use Rattle.formula_text.specs.Writing.{text_length, no_text, write_of, tidy_limit}

-- n bytes were written: the text
abbrev pub WroteText : Tables → State → List ℕ → ℕ → Type 0
WroteText t s out n = (write_of t s out).answer ≡ text_length n

abbrev pub text_of : Tables → State → List ℕ → ℕ → List ℕ
text_of t s out n = take n (write_of t s out).output

-- An output of 311,296 bytes is never too short: number 30 is not answered, whatever the tables and the state are.
abbrev pub LongEnough : Type 0
LongEnough = (t : Tables) (s : State) (out : List ℕ) → tidy_limit ≤ length out → (write_of t s out).answer ≢ no_text (refusal 30)

-- an accepted load of a formula with this model
abbrev pub loaded : Model → Tables → AfterLoad
loaded m t = record { tables = spread m t; state = state_of m; answer = Accepted }

-- "A text of at most 32,768 bytes, read again, restores the formula's tables and counts": over any tables that are long enough.
abbrev pub ReadAgain : Type 0
ReadAgain = (t : Tables) (s : State) (out : List ℕ) (n : ℕ) → WroteText t s out n → n ≤ text_limit
    → (t' : Tables) → long t' ≡ true → load_of t' (text_of t s out n) ≡ loaded (formula_part (model_in t s)) t'

-- Of what an accepted load left nothing is lost: its text, loaded over the same tables, leaves every entry, the state and the answer as they are.
abbrev pub LoadedAgain : Type 0
LoadedAgain = (t : Tables) (text out : List ℕ) (n : ℕ) → (load_of t text).answer ≡ Accepted → WroteText (load_of t text).tables (load_of t text).state out n → n ≤ text_limit
    → load_of (load_of t text).tables (text_of (load_of t text).tables (load_of t text).state out n) ≡ load_of t text

-- "Two accepted formulas have the same text only if V, kinds, set words and clauses agree, and then always": of any two texts that were written.
abbrev pub SameText : Type 0
SameText = (t t' : Tables) (s s' : State) (out out' : List ℕ) (n n' : ℕ) → WroteText t s out n → WroteText t' s' out' n'
    → (text_of t s out n ≡ text_of t' s' out' n') ↔ SameFormula (model_in t s) (model_in t' s')
