use mathlib.Core.Path.{◌≡◌}
use Prim.Native.Nat.{◌-◌, ◌≤◌}
use lib.ListN.{length}
use Rattle.dqbf.specs.Text.{line_feed, pieces}
use Rattle.dqbf.specs.Reading.{start, read_from}
use Rattle.tables.specs.Lent.{tables_held, SameLoans}
use Rattle.prefix_lines.specs.Lines.{carried, SameRoom}
use Rattle.texts.proofs.Laws.Texts.{Reached}
use Rattle.texts.proofs.reading.read_lines.Given as goal

abbrev pub invariant-loop-at : goal.invariant-loop-at
invariant-loop-at l = record {
  inside : l.at ≤ length l.text;
  counted : l.line ≤ l.at;
  loans : SameLoans l.fn.tables l.tables;
  room : SameRoom (tables_held l.fn.tables) (tables_held l.tables);
  numbers : length l.numbers ≡ 16384;
  known : length l.known ≡ 257;
  reached : Reached (read_from (pieces line_feed l.text) 0 start) (tables_held l.fn.tables) l.text l.at l.line (carried l.progress l.tables.state) l.known (tables_held l.tables);
}

abbrev pub decreases-loop-at : goal.decreases-loop-at
decreases-loop-at l = length l.text - l.at
