use mathlib.Core.Path.{◌≡◌}
use Prim.Native.Nat.{◌+◌, ◌≤◌}
use lib.ListN.{length}
use Rattle.std.specs.Slice.Iter.{chunks_rest, chunks_size}
use Rattle.std.specs.Iterator.Adapters.{enumerate_source, enumerate_count}
use Rattle.tables.specs.Lent.{tables_held, SameLoans}
use Rattle.steps.proofs.Laws.Runs.{Running}
use Rattle.steps.proofs.run.run_records.Given as goal

abbrev pub invariant-loop-i : goal.invariant-loop-i
invariant-loop-i l = let left = chunks_rest (enumerate_source l.i-iterator) in record {
  counted : enumerate_count l.i-iterator + length left ≤ length l.bytes;
  size : chunks_size (enumerate_source l.i-iterator) ≡ 16;
  loans : SameLoans l.initial.tables l.tables;
  running : Running (tables_held l.initial.tables) l.initial.tables.state l.bytes (tables_held l.tables) l.tables.state left (enumerate_count l.i-iterator);
}
