-- A load over lent tables (document 01, "Formula text", "Numbers of refusal"): tables, state and answer behind the call, for every byte string and all table contents.
-- Where a table is lent too short nothing changes and the state is zero. Else the call is the calculus' (dqbf, specs/Reading.antt): an accepted text leaves its formula's
-- model, spread over the tables, and a refused one leaves zeros.
-- Offers `LoadAnswer`, `load_told` (of the code's answer), `load_answer` (the paper's line and number for each answer), `loaded_model`, `AfterLoad`, `load_of`.
use Rattle.std.specs.Prelude.{cond, not, List, ℕ, Result, Ok, Err}
use Rattle.dqbf.specs.Reading.{accepted, refused, load}
use Rattle.dqbf.specs.Reading as Reading
use Rattle.dqbf.specs.Model.{Model, model_of}
use Rattle.dqbf.specs.Refusal.{refusal_told}
use Rattle.tables.specs.Tables.{Tables}
use Rattle.tables.specs.Spread.{spread, state_of, blank}
use Rattle.tables.specs.WellFormed.{long}
use Rattle.tables.specs.declared.State.{State}
use Rattle.texts.specs.declared.reading.LoadRefusal.{LoadRefusal}

-- accepted, or refused with the line (0: the whole text) and the number
pub data LoadAnswer : Type 0 where
  Accepted : LoadAnswer
  Refused : ℕ → ℕ → LoadAnswer

-- the code's answer
abbrev pub load_told : Result (Unit {0}) LoadRefusal → LoadAnswer
load_told (Ok x) = Accepted
load_told (Err r) = Refused r.line (refusal_told r.refusal).number

unfoldable pub load_answer : Reading.Loaded → LoadAnswer
load_answer (accepted φ) = Accepted
load_answer (refused line number) = Refused line number

-- what the tables then hold
unfoldable pub loaded_model : Reading.Loaded → Model
loaded_model (accepted φ) = model_of φ
loaded_model (refused line number) = blank

pub record AfterLoad : Type 0 where
  pub tables : Tables
  pub state : State
  pub answer : LoadAnswer

unfoldable pub loaded_on : Tables → Reading.Loaded → AfterLoad
loaded_on t o = record { tables = spread (loaded_model o) t; state = state_of (loaded_model o); answer = load_answer o }

-- 1: a table is lent too short
unfoldable pub load_short : Tables → AfterLoad
load_short t = record { tables = t; state = state_of blank; answer = Refused 0 1 }

unfoldable pub load_of : Tables → List ℕ → AfterLoad
load_of t text = let read = loaded_on t (load text) in cond (not (long t)) (load_short t) read
