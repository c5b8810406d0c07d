use mathlib.Core.Path.{◌≡◌}
use Prim.Native.Nat.{◌+◌, ◌≤◌}
use Rattle.dqbf.specs.Limits.{universal_limit}
use Rattle.dqbf.specs.Reading.{Reader, prefix_lines}
use Rattle.tables.specs.Lent.{tables_held, SameLoans}
use Rattle.tables.specs.Tables.{Tables}
use Rattle.prefix_lines.specs.Lines.{carried, ReadSoFar, SameRoom}
use Rattle.prefix_lines.specs.declared.progress.Progress.{Progress}
use Rattle.prefix_lines.proofs.Laws.Declaring.{Declared}
use Rattle.prefix_lines.proofs.declarations.declare_all.Given as goal

abbrev pub invariant-loop-variable : goal.invariant-loop-variable
invariant-loop-variable l = record {
  loans : SameLoans l.fn.tables l.tables;
  rest : (l.tables.literals.now ≡ l.fn.tables.literals.now) × (l.tables.ends.now ≡ l.fn.tables.ends.now);
  room : SameRoom (tables_held l.fn.tables) (tables_held l.tables);
  bound : l.tables.state.bound.0 ≡ l.fn.tables.state.bound.0;
  more : l.tables.state.universals ≤ l.fn.tables.state.universals + l.variable-index;
  few : l.tables.state.universals ≤ universal_limit;
  read : (t : Tables) (r : Reader) (p : Progress) → ReadSoFar t r (carried p l.fn.tables.state) (tables_held l.fn.tables) → r.phase ≡ prefix_lines
      → Declared l.universal l.variables t r l.variable-index (carried p l.tables.state) (tables_held l.tables);
}
