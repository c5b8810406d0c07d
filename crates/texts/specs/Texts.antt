-- A text, as the code has read it (dqbf, specs/Reading.antt): what the tables hold behind its last line.
-- Offers `empty_state`, `start_progress`, `TextRead`.
use Rattle.std.specs.Prelude.{◌≡◌, ℕ, Result, Ok, Err}
use Rattle.dqbf.specs.Reading.{Reader, Loaded, accepted, refused}
use Rattle.dqbf.specs.Refusal.{refusal_told}
use Rattle.tables.specs.Tables.{Tables}
use Rattle.tables.specs.declared.State.{State}
use Rattle.prefix_lines.specs.Lines.{Carried, carried, ReadSoFar, Framed}
use Rattle.prefix_lines.specs.declared.progress.Phase.TheVariants.{Opening}
use Rattle.prefix_lines.specs.declared.progress.Progress.{Progress}
use Rattle.texts.specs.declared.reading.LoadRefusal.{LoadRefusal}

-- V variables in use, and nothing else
abbrev pub empty_state : ℕ → State
empty_state v = record {
  bound = record { 0 = v };
  variables = record { 0 = v };
  universals = 0;
  formula = record { 0 = 0 };
  clauses = record { 0 = 0 };
  literals = 0;
  steps = record { 0 = 0 };
  empty = record { 0 = 0 };
}

-- before the first line
abbrev pub start_progress : Carried
start_progress = record { phase = Opening; count = 0; state = empty_state 0 }

-- The whole text was read, and came to o: the reader at its end, or the line with its number. The tables `now` have the state s.
pub record TextRead (t : Tables) (o : Loaded) (a : Result (Unit {0}) LoadRefusal) (s : State) (now : Tables) : Type 0 where
  pub accepts : a ≡ Ok tt → (r : Reader) × (o ≡ accepted r.formula) × (p : Progress) × ReadSoFar t r (carried p s) now
  pub refuses : (x : LoadRefusal) → a ≡ Err x → o ≡ refused x.line (refusal_told x.refusal).number
  pub framed : Framed t now
