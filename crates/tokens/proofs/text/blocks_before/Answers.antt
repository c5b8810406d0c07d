use mathlib.Core.Path.{sym, ◌∙◌, ap}
use Prim.Native.Nat.{◌+◌, ◌≤◌}
use Rattle.std.proofs.Common.{rules}
use native.Mathlib.Omega.{arith}
use borrow.Author.Tests.{ltb-true, ltb-false}
use lib.ListN.{length, length-drop}
use Rattle.std.specs.Slice.Iter.{chunks_exact_rest, chunks_exact_size}
use Rattle.tokens.proofs.Laws.Pieces.{before-pass, piece-before, piece-next, piece-inside}
use Rattle.tokens.proofs.text.blocks_before.Goals as goal

pub loop-block-init : goal.loop-block-init
loop-block-init c =
    let first = c.into_iter-block-iterator.ensures.into_iter_gives in
    record {
      size = ap chunks_exact_size first ∙ c.chunks_exact-block-items.ensures.size;
      inside = omega arith;
      left = ap chunks_exact_rest first ∙ c.chunks_exact-block-items.ensures.rest;
      absent = omega arith;
    }

pub returns-then-block_has : goal.returns-then-block_has
returns-then-block_has c =
    let l = c.loop-block in
    let s = c.in-Some.ensures.steps in (
      l.invariant.inside,
      l.invariant.absent,
      λ h. ltb-true _ 16 (sym (piece-before _ l.before 16 _ _ _ l.invariant.left s.1.0 (s.1.1 ∙ l.invariant.size) c.args.b) ∙ sym c.block_has.ensures ∙ c.if-block_has.true),
    )

pub overflow_add-before : goal.overflow_add-before
overflow_add-before c =
    let l = c.loop-block in
    let s = c.in-Some.ensures.steps in
    let more = piece-inside c.args.bytes.now l.before 16 _ _ _ l.invariant.left s.1.0 (s.1.1 ∙ l.invariant.size) in
    let h : l.before + length c.in-Some.block.now ≤ length c.args.bytes.now
    = omega (arith, more, length-drop l.before c.args.bytes.now, ap length l.invariant.left, s.1.1, l.invariant.size) in
    search rules

pub loop-block-preserved : goal.loop-block-preserved
loop-block-preserved c =
    let l = c.loop-block in
    let s = c.in-Some.ensures.steps in
    let sixteen = s.1.1 ∙ l.invariant.size in
    let b = piece-before _ l.before 16 _ _ _ l.invariant.left s.1.0 sixteen c.args.b in
    let e = before-pass c.args.b c.args.bytes.now l.before 16 (ltb-false _ 16 (sym b ∙ sym c.block_has.ensures ∙ c.if-block_has.false)) in
    let more = piece-inside c.args.bytes.now l.before 16 _ _ _ l.invariant.left s.1.0 sixteen in
    record {
      size = s.0 ∙ l.invariant.size;
      inside = omega (arith, more, length-drop l.before c.args.bytes.now, ap length l.invariant.left, sixteen);
      left = rw sixteen (piece-next c.args.bytes.now l.before 16 _ _ _ l.invariant.left s.1.0 sixteen);
      absent = rw sixteen (omega (arith, e, l.invariant.absent));
    }

pub returns : goal.returns
returns c =
    let l = c.loop-block in
    let few = length-drop l.before c.args.bytes.now in
    (l.invariant.inside, l.invariant.absent, λ h. absurd (omega (arith, h, few, c.in-None.ensures.steps, l.invariant.size, ap length l.invariant.left)))
