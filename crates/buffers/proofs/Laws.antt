-- Sizes of buffers, a state of zeros, where a clause starts.
use mathlib.Core.Path.{◌≡◌, sym, ◌∙◌, ap}
use mathlib.Core.Bool.{true, cond, and-true}
use mathlib.Core.List.{List, [], ◌∷◌, ◌++◌, append-nil}
use Prim.Native.Nat.{ℕ, suc, ◌-◌, ◌^◌, ◌<◌, ◌≤◌}
use native.Mathlib.Omega.{arith}
use borrow.Author.Tests.{lt-leb, le-leb, leb-true}
use lib.Dec.{leb, lit<}
use lib.ListN.{length, get_or, replicate, drop}
use Rattle.dqbf.specs.Limits.{clause_limit, literal_limit}
use Rattle.sets.specs.Words.{words_each, table_words, as_sets, table_of}
use Rattle.sets.proofs.Laws.Sets.{table-back}
use Rattle.sets.proofs.Laws.Tables.{spare-none}
use Rattle.tables.specs.Tables.{entry}
use Rattle.tables.specs.WellFormed.{every, long}
use Rattle.tables.proofs.Laws.Formed.{long-to}
use Rattle.tables.proofs.Laws.Lent.{words_long}
use Rattle.tables.proofs.Laws.Tests.{every-at}
use Rattle.codec.specs.Bytes.{entries, over}
use Rattle.codec.proofs.Laws.Bytes.{entries-length}
use Rattle.codec.proofs.Laws.Tables.{literals-length}
use Rattle.buffers.specs.Buffers.{Buffers, state_whole, whole, tables_in}

-- ---- sizes

pub record Sizes (b : Buffers) : Type 0 where
  pub literals : 16384 ≤ length b.literals
  pub ends : 4096 ≤ length b.ends
  pub sets : 16384 ≤ length b.sets
  pub kinds : 512 ≤ length b.kinds
  pub state : 16 ≤ length b.state

pub whole-last : (b : Buffers) → 16384 ≤ length b.literals → 4096 ≤ length b.ends → 16384 ≤ length b.sets → 512 ≤ length b.kinds → leb 16 (length b.state) ≡ whole b
unfolding whole state_whole every
whole-last b l e s k = sym (rw (le-leb 16384 (length b.literals) l, le-leb 4096 (length b.ends) e, le-leb 16384 (length b.sets) s, le-leb 512 (length b.kinds) k) (and-true (leb 16 (length b.state))))

pub whole-sizes : (b : Buffers) → whole b ≡ true → Sizes b
unfolding whole state_whole
whole-sizes b e =
    let at = every-at (leb 16384 (length b.literals) ∷ leb 4096 (length b.ends) ∷ leb 16384 (length b.sets) ∷ leb 512 (length b.kinds) ∷ leb 16 (length b.state) ∷ []) e in
    record {
      literals = leb-true 16384 (length b.literals) (at 0);
      ends = leb-true 4096 (length b.ends) (at 1);
      sets = leb-true 16384 (length b.sets) (at 2);
      kinds = leb-true 512 (length b.kinds) (at 3);
      state = leb-true 16 (length b.state) (at 4);
    }

pub sizes-whole : (b : Buffers) → Sizes b → whole b ≡ true
sizes-whole b z = sym (whole-last b z.literals z.ends z.sets z.kinds) ∙ le-leb 16 (length b.state) z.state

-- the tables in them are long enough then
pub lent-long : (b : Buffers) → whole b ≡ true → long (tables_in b) ≡ true
unfolding tables_in
lent-long b w =
    let z = whole-sizes b w in
    long-to (tables_in b) (record {
      literals = omega (arith, literals-length literal_limit b.literals);
      ends = omega (arith, entries-length 2 clause_limit b.ends);
      sets = words_long (entries 8 table_words b.sets) (omega (arith, entries-length 8 table_words b.sets));
      kinds = z.kinds;
    })

-- ---- a state of zeros

pub zero-short : (s : List ℕ) → length s < 16 → s ≡ cond (leb 16 (length s)) (over (replicate 16 0) s) s
zero-short s h = rw (lt-leb 16 (length s) h)

pub zero-whole : (s : List ℕ) → 16 ≤ length s → {z : List ℕ} → z ≡ replicate 16 0 → z ++ drop 16 s ≡ cond (leb 16 (length s)) (over (replicate 16 0) s) s
unfolding over
zero-whole s h e = rw (le-leb 16 (length s) h, e)

-- ---- where a clause starts

pub start_first : (ends : List ℕ) (c : ℕ) → c < 2 → 0 ≡ entry ends (c - 1)
unfolding entry
start_first ends c h = let z : c - 1 ≡ 0 = omega arith in sym (ap (entry ends) z)

pub start-at : (ends : List ℕ) (c place : ℕ) → 2 ≤ c → place ≡ c - 2 → get_or ends place 0 ≡ entry ends (c - 1)
unfolding entry
start-at ends c place h e = let z : c - 1 ≡ suc place = omega arith in sym (ap (entry ends) z)

-- ---- the words of a table of the stated size are those of its sets

pub words-of-sets : (w : List ℕ) → length w ≡ table_words → ((i : ℕ) → get_or w i 0 < 2 ^ 64) → w ≡ table_of words_each (as_sets words_each w)
words-of-sets w e f = sym (sym (append-nil (table_of 4 (as_sets 4 w))) ∙ ap (λ (l : List ℕ). table_of 4 (as_sets 4 w) ++ l) (sym (spare-none w e)) ∙ table-back 4 (lit< tt) w f)
