-- `run::run_records` meets its contract.
use native.Mathlib.Omega.{arith}
use mathlib.Core.Path.{refl, ◌∙◌, ap}
use Prim.Native.Nat.{ℕ, min}
use lib.ListN.{length}
use Rattle.std.proofs.lemmas.List.{length-append}
use Rattle.std.specs.Slice.Iter.{chunks_rest, chunks_size}
use Rattle.std.specs.Iterator.Adapters.{enumerate_source, enumerate_count}
use Rattle.tables.proofs.Laws.Lent.{same-loans, loans-then}
use Rattle.steps.proofs.Laws.Decoded.{bytes-malformed, bytes-examined}
use Rattle.steps.proofs.Laws.Runs.{running-start, running-on, running-refused, run-ended}
use Rattle.steps.proofs.run.run_records.Goals as goal

pub loop-i-init : goal.loop-i-init
loop-i-init c =
    let first = c.into_iter-i-iterator.ensures.into_iter_gives in
    let source = ap enumerate_source first ∙ c.enumerate-i-items.ensures.source in
    let count = ap enumerate_count first ∙ c.enumerate-i-items.ensures.count in
    let rest = ap chunks_rest source ∙ c.chunks.ensures.rest in
    record {
      counted = omega (arith, count, ap length rest);
      size = ap chunks_size source ∙ c.chunks.ensures.size;
      loans = same-loans _;
      running = rw (count, rest) (running-start _ _ _ c.requires.0);
    }

pub examine-requires : goal.examine-requires
examine-requires c = c.loop-i.invariant.running.holding

pub returns-in_default-clause-loans : goal.returns-in_default-clause-loans
returns-in_default-clause-loans c = c.loop-i.invariant.loans

pub returns-in_default-clause-after : goal.returns-in_default-clause-after
returns-in_default-clause-after c =
    let s = c.in-Some.ensures.steps in
    let g = c.loop-i.invariant in
    let size = s.0.1.1 ∙ ap (λ (n : ℕ). min n (length (chunks_rest (enumerate_source c.loop-i.i-iterator)))) g.size in
    let malformed = bytes-malformed _ _ g.running.holding _ c.decode.ensures c.in_default.is in
    rw s.1 (running-refused _ _ _ _ _ _ _ _ _ g.running s.0.1.0 size s.0.1.2 malformed _ refl)

pub returns-in-Err-clause-loans : goal.returns-in-Err-clause-loans
returns-in-Err-clause-loans c = loans-then c.loop-i.invariant.loans c.examine.ensures.loans

pub returns-in-Err-clause-after : goal.returns-in-Err-clause-after
returns-in-Err-clause-after c =
    let s = c.in-Some.ensures.steps in
    let g = c.loop-i.invariant in
    let size = s.0.1.1 ∙ ap (λ (n : ℕ). min n (length (chunks_rest (enumerate_source c.loop-i.i-iterator)))) g.size in
    let examined = bytes-examined _ _ g.running.holding _ c.decode.ensures _ c.in-Some-decode.is c.examine.ensures.after in
    rw s.1 (running-refused _ _ _ _ _ _ _ _ _ g.running s.0.1.0 size s.0.1.2 examined _ (rw c.in-Err.is))

pub loop-i-preserved : goal.loop-i-preserved
loop-i-preserved c =
    let s = c.in-Some.ensures.steps in
    let g = c.loop-i.invariant in
    let size = s.0.1.1 ∙ ap (λ (n : ℕ). min n (length (chunks_rest (enumerate_source c.loop-i.i-iterator)))) g.size in
    let examined = bytes-examined _ _ g.running.holding _ c.decode.ensures _ c.in-Some-decode.is c.examine.ensures.after in
    record {
      counted = omega (arith, g.counted, s.2, ap length s.0.1.0 ∙ length-append c.in-Some.record.now (chunks_rest (enumerate_source c.next.new.self)), size, s.0.1.2);
      size = s.0.0 ∙ g.size;
      loans = loans-then g.loans c.examine.ensures.loans;
      running = rw s.2 (running-on _ _ _ _ _ _ _ _ _ g.running s.0.1.0 size s.0.1.2 examined (rw c.in_default-examine.is));
    }

pub returns-clause-loans : goal.returns-clause-loans
returns-clause-loans c = c.loop-i.invariant.loans

pub returns-clause-after : goal.returns-clause-after
returns-clause-after c = run-ended _ _ _ _ _ _ _ c.loop-i.invariant.running c.in-None.ensures.steps.0.1.0 c.outcome_of.ensures
