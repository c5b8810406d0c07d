use mathlib.Core.Path.{◌≡◌}
use Prim.Native.Nat.{◌+◌, ◌≤◌}
use lib.ListN.{length, drop}
use Rattle.std.specs.Slice.Iter.{chunks_exact_rest, chunks_exact_size}
use Rattle.tokens.specs.Working.{length_before}
use Rattle.tokens.proofs.text.blocks_before.Given as goal

abbrev pub invariant-loop-block : goal.invariant-loop-block
invariant-loop-block l = record {
  size : chunks_exact_size l.block-iterator ≡ 16;
  inside : l.before ≤ length l.bytes;
  left : chunks_exact_rest l.block-iterator ≡ drop l.before l.bytes;
  absent : length_before l.b l.bytes ≡ l.before + length_before l.b (drop l.before l.bytes);
}
