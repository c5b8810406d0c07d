-- A formula and a list of steps to the line: the calculus' `program` (dqbf, specs/Line.antt), with the tables that it is worked out on.
-- Offers `judged_line`, `judged_model`, `judged_tables`, `judged_state`.
use Rattle.std.specs.Prelude.{cond, not, List, ℕ}
use Rattle.dqbf.specs.Limits as Limits
use Rattle.dqbf.specs.Reading.{Loaded, accepted, refused, load}
use Rattle.dqbf.specs.Model.{Model, model_of}
use Rattle.dqbf.specs.Run.{run}
use Rattle.dqbf.specs.Line.{formula_line, program}
use Rattle.tables.specs.Tables.{Tables}
use Rattle.tables.specs.Spread.{spread, state_of, blank}
use Rattle.tables.specs.WellFormed.{long}
use Rattle.tables.specs.declared.State.{State}

-- the program's line; `formula 0 1` where a table is lent too short
unfoldable pub judged_line : Tables → (text records : List ℕ) → List ℕ
judged_line t text records = let line = program text records in cond (not (long t)) (formula_line 0 1) line

-- what the tables then hold
unfoldable pub judged_model : Loaded → (records : List ℕ) → Model
judged_model (accepted φ) records = (run Limits.tables (model_of φ) records).model
judged_model (refused line number) records = blank

unfoldable pub judged_tables : Tables → (text records : List ℕ) → Tables
judged_tables t text records = let full = spread (judged_model (load text) records) t in cond (not (long t)) t full

-- and the state that goes with them
unfoldable pub judged_state : Tables → (text records : List ℕ) → State
judged_state t text records = let full = state_of (judged_model (load text) records) in cond (not (long t)) (state_of blank) full
