-- The lines read so far, as the code carries them: a reader of the calculus (dqbf, specs/Reading.antt) that the tables with their state and a `Progress` by value hold.
--     Carried, carried                 phase, C and counts: a `Progress` with the tables' state
--     phase_told, carried_of           a reader by value
--     ReadSoFar, Known, Framed, SameRoom, LineRead     what the tables hold between two lines, and behind a line
--     Within, clause_added            the counts
--     on_line, universal_added, DeclaredAll     variables of an `a` or an `e` line declared one after the other
use Rattle.std.specs.Prelude.{◌≡◌, Bool, true, false, List, [], map, ℕ, ◌+◌, ◌≤◌, length, take}
use Rattle.std.proofs.Math.Option.{Option, none}
use Rattle.dqbf.specs.Limits.{variable_limit, universal_limit, clause_limit, literal_limit}
use Rattle.dqbf.specs.Refusal.{Refusal, first}
use Rattle.dqbf.specs.Formula.{Declaration, on_a, on_e, universals, declared}
use Rattle.dqbf.specs.Model.{model_of}
use Rattle.dqbf.specs.Reading.{Form, Phase, opening, prefix_lines, clause_lines, Reader, start, fresh, line_tests, declaring, taken}
use Rattle.dqbf.proofs.Reading.Lines.{Sane}
use Rattle.ranks.specs.Order.{all_inserted}
use Rattle.tables.specs.Tables.{Tables}
use Rattle.tables.specs.Spread.{spread, state_of, blank}
use Rattle.tables.specs.declared.State.{State}
use Rattle.tables.specs.WellFormed.{long}
use Rattle.tables.specs.Adding.{clause_ended, formula_counted}
use Rattle.prefix_lines.specs.Rows.{unless_12}
use Rattle.prefix_lines.specs.declared.progress.Phase as Code
use Rattle.prefix_lines.specs.declared.progress.Phase.TheVariants.{Opening, PrefixLines, ClauseLines}
use Rattle.prefix_lines.specs.declared.progress.Progress.{Progress}

pub record Carried : Type 0 where
  pub phase : Code.Phase
  pub count : ℕ
  pub state : State

abbrev pub carried : Progress → State → Carried
carried p s = record { phase = p.phase; count = p.count; state = s }

unfoldable pub phase_told : Phase → Code.Phase
phase_told opening = Opening
phase_told prefix_lines = PrefixLines
phase_told clause_lines = ClauseLines

unfoldable pub carried_of : Reader → Carried
carried_of r = record {
  phase = phase_told r.phase;
  count = r.count;
  state = state_of (model_of r.formula);
}

-- The tables `now` hold what a reader has read over the tables t, and p has its counts.
pub record ReadSoFar (t : Tables) (r : Reader) (p : Carried) (now : Tables) : Type 0 where
  pub lent : long t ≡ true
  pub sane : Sane r
  pub opened : r.phase ≡ opening → r ≡ start
  pub few : length r.formula.clauses ≤ r.count
  pub progress : p ≡ carried_of r
  pub tables : now ≡ spread (model_of r.formula) t

-- The front of `known` has the different numbers on the `a` lines so far, in ascending order.
abbrev pub Known : Reader → List ℕ → Type 0
Known r known = take (length (universals r.formula)) known ≡ all_inserted [] (universals r.formula)

-- The entries past the stated sizes are as they were: cleared, the tables are the first ones cleared.
abbrev pub Framed : Tables → Tables → Type 0
Framed t now = spread blank now ≡ spread blank t

-- Each table is as long as before.
pub record SameRoom (before after : Tables) : Type 0 where
  pub literals : length after.literals ≡ length before.literals
  pub ends : length after.ends ≡ length before.ends
  pub sets : length after.sets ≡ length before.sets
  pub kinds : length after.kinds ≡ length before.kinds

-- A line of a form was read: its first test that applies, and what the tables hold where none does.
pub record LineRead (t : Tables) (r : Reader) (f : Form) (a : Option Refusal) (p : Carried) (now : Tables) : Type 0 where
  pub told : first (line_tests r f) ≡ a
  pub held : a ≡ none → ReadSoFar t (taken r f) p now
  pub framed : Framed t now

-- the counts are within the limits
pub record Within (p : Carried) : Type 0 where
  pub bound : p.state.bound.0 ≤ variable_limit
  pub variables : p.state.variables.0 ≤ variable_limit
  pub universals : p.state.universals ≤ universal_limit
  pub formula : p.state.formula.0 ≤ p.state.clauses.0
  pub clauses : p.state.clauses.0 ≤ p.count
  pub count : p.count ≤ clause_limit
  pub literals : p.state.literals ≤ literal_limit

-- one formula clause more, of so many literals
unfoldable pub clause_added : Carried → ℕ → Carried
clause_added p width = record { phase = ClauseLines; count = p.count; state = formula_counted (clause_ended p.state width) }

-- ---- variables of an `a` line (true) or an `e` line, one after the other

unfoldable pub on_line : Bool → ℕ → Declaration
on_line true x = on_a x
on_line false x = on_e x

-- one universal more
unfoldable pub universal_added : Carried → Carried
universal_added p = record {
  phase = p.phase;
  count = p.count;
  state = record {
    bound = p.state.bound;
    variables = p.state.variables;
    universals = p.state.universals + 1;
    formula = p.state.formula;
    clauses = p.state.clauses;
    literals = p.state.literals;
    steps = p.state.steps;
    empty = p.state.empty;
  };
}

-- 12: a variable is above V or declared twice
pub record DeclaredAll (universal : Bool) (xs : List ℕ) (t : Tables) (r : Reader) (a : Option Refusal) (p : Carried) (now : Tables) : Type 0 where
  pub told : a ≡ unless_12 (fresh r.formula.bound (declared r.formula.prefix) xs)
  pub held : a ≡ none → ReadSoFar t (declaring r (map (on_line universal) xs)) p now
  pub framed : Framed t now

-- what one variable more leaves of the counts
pub record OneMore (before after : State) : Type 0 where
  pub bound : after.bound.0 ≡ before.bound.0
  pub universals : after.universals ≤ before.universals + 1
  pub few : after.universals ≤ universal_limit
