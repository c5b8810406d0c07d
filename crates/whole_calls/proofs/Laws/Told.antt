-- What a load leaves in the buffers.
-- Offers `load-told`.
use mathlib.Core.Path.{◌≡◌, ◌∙◌, ap}
use mathlib.Core.List.{List}
use Prim.Native.Nat.{ℕ, ◌/◌, ◌≤◌}
use native.Mathlib.Omega.{arith}
use borrow.Author.Tests.{le-leb}
use lib.Dec.{lit<}
use lib.IntN.{ℤ}
use lib.ListN.{length, drop_of_length-le}
use Rattle.dqbf.specs.Limits.{clause_limit, literal_limit}
use Rattle.sets.specs.Words.{words_each, table_words, as_sets, table_of}
use Rattle.sets.proofs.Laws.Sets.{sets-length}
use Rattle.sets.proofs.Laws.Tables.{spare-none}
use Rattle.tables.specs.Tables.{Tables, tables_of}
use Rattle.tables.specs.Spread.{spread}
use Rattle.tables.specs.WellFormed.{every, long}
use Rattle.tables.specs.declared.State.{State}
use Rattle.tables.specs.Spread as Spread
use Rattle.dqdimacs.specs.Loading.{LoadAnswer, AfterLoad, loaded_on, load_of}
use Rattle.codec.specs.Bytes.{entries, bytes_of, literals_in, literal_bytes, over}
use Rattle.codec.specs.State.{state_bytes}
use Rattle.codec.proofs.Laws.Bytes.{entries-length}
use Rattle.codec.proofs.Laws.Tables.{literals-length}
use Rattle.buffers.specs.Buffers.{Buffers, buffers_of, tables_in, written}
use Rattle.results.specs.Results.{load_result}
use Rattle.exports.specs.Calls.{After, loaded}

-- a load reads no entry: of tables of the stated sizes only the kinds' entries past their size count
load-unread : (kinds text : List ℕ) → 512 ≤ length kinds → (l l' : List ℤ) (e e' w w' : List ℕ) → length l ≡ 8192 → length l' ≡ 8192 → length e ≡ 2048 → length e' ≡ 2048
    → length w ≡ table_words → length w' ≡ table_words → load_of (tables_of l e w kinds) text ≡ load_of (tables_of l' e' w' kinds) text
unfolding load_of loaded_on spread Spread.over long every
load-unread kinds text k l l' e e' w w' p p' q q' r r' =
    let n : length (as_sets words_each w) ≡ 512 = sets-length 4 (lit< tt) w ∙ ap (λ i. i / 4) r in
    let n' : length (as_sets words_each w') ≡ 512 = sets-length 4 (lit< tt) w' ∙ ap (λ i. i / 4) r' in
    rw (
      p,
      p',
      q,
      q',
      n,
      n',
      spare-none w r,
      spare-none w' r',
      le-leb 512 (length kinds) k,
      drop_of_length-le l {i = 8192} (omega arith),
      drop_of_length-le l' {i = 8192} (omega arith),
      drop_of_length-le e {i = 2048} (omega arith),
      drop_of_length-le e' {i = 2048} (omega arith),
      drop_of_length-le (as_sets words_each w) {i = 512} (omega arith),
      drop_of_length-le (as_sets words_each w') {i = 512} (omega arith),
    )

module _ (b : Buffers) (text : List ℕ) (kinds-room : 512 ≤ length b.kinds) where
  pub load-told : (l : List ℤ) (e w : List ℕ) → length l ≡ 8192 → length e ≡ 2048 → length w ≡ table_words → {t : Tables} {s : State} {a : LoadAnswer}
      → ◌≡◌ {A = AfterLoad} (record { tables = t; state = s; answer = a }) (load_of (tables_of l e w b.kinds) text)
      → {l' : List ℤ} {e' k' : List ℕ} (w' : List ℕ) → t ≡ tables_of l' e' w' k'
      → {literals ends sets state : List ℕ} → literals ≡ over (literal_bytes l') b.literals → ends ≡ over (bytes_of 2 e') b.ends
      → sets ≡ over (bytes_of 8 (table_of words_each (as_sets words_each w'))) b.sets → state ≡ over (state_bytes s) b.state → {n : ℕ} → n ≡ load_result a
      → ◌≡◌ {A = After} (record { buffers = buffers_of literals ends sets k' state; result = n }) (loaded b (load_of (tables_in b) text))
  unfolding tables_in loaded written
  load-told l e w p q u told w' h lw ew sw tw nw =
      let same = load-unread b.kinds text kinds-room l (literals_in literal_limit b.literals) e (entries 2 clause_limit b.ends) w (entries 8 table_words b.sets)
      p (literals-length literal_limit b.literals) q (entries-length 2 clause_limit b.ends) u (entries-length 8 table_words b.sets) in
      rw (lw, ew, sw, tw, nw) (ap (loaded b) ((rw h at told) ∙ same))
