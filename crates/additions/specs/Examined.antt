-- What an examined record leaves of tables that hold a model (document 01, "Numbers of refusal"): tables, state and answer.
-- Offers `AfterStep`, `examined`. A step's answer is no refusal, or the paper's number with its values (`refusal_in` of dqbf, specs/Refusal.antt).
use Rattle.std.proofs.Math.Option.{Option}
use Rattle.dqbf.specs.Refusal.{Refusal}
use Rattle.dqbf.specs.Model.{Model}
use Rattle.dqbf.specs.Run.{Examined, after, refusal_of}
use Rattle.tables.specs.Tables.{Tables}
use Rattle.tables.specs.Spread.{spread, state_of}
use Rattle.tables.specs.declared.State.{State}

pub record AfterStep : Type 0 where
  pub tables : Tables
  pub state : State
  pub answer : Option Refusal

-- on tables that hold the model m
unfoldable pub examined : Tables → Model → Examined → AfterStep
examined t m e = record { tables = spread (after m e) t; state = state_of (after m e); answer = refusal_of e }
