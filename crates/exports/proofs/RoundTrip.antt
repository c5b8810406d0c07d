-- The claims of specs/Statements/RoundTrip.antt.
use mathlib.Core.Path.{◌≡◌, ap, sym, ◌∙◌}
use mathlib.Core.Bool.{true}
use mathlib.Core.List.{List}
use Prim.Native.Nat.{ℕ, ◌*◌, ◌/◌}
use native.Mathlib.Omega.{arith}
use lib.Dec.{lit<}
use lib.IntN.{pos}
use lib.ListN.{length}
use Rattle.dqbf.specs.Limits.{tables, clause_limit, literal_limit, variable_limit}
use Rattle.dqbf.specs.Model.{Model, clauses}
use Rattle.dqbf.specs.Valid.{Valid}
use Rattle.sets.specs.Words.{table_words, as_sets, spare_in, table_of}
use Rattle.sets.proofs.Laws.Sets.{sets-length}
use Rattle.sets.proofs.Laws.Tables.{table-length, table_fits, sets-again, spare-again, spare-none}
use Rattle.tables.specs.Spread.{flat, ends_from, set_row, kind_row, spread, state_of}
use Rattle.tables.specs.WellFormed.{long}
use Rattle.tables.specs.Spread as Spread
use Rattle.tables.proofs.Laws.Cuts.{flat-length, ends-length}
use Rattle.tables.proofs.Laws.Valid.{kinds-used, sets-used}
use Rattle.tables.proofs.Laws.Rows as Rows
use Rattle.codec.specs.Bytes.{entries, bytes_of, literals_in, literal_bytes, over}
use Rattle.codec.specs.State.{state_bytes}
use Rattle.codec.proofs.Laws.Bytes.{entries-length, entries_fit, bytes-length, over-length}
use Rattle.codec.proofs.Laws.State.{state-length, state-back}
use Rattle.codec.proofs.Laws.Tables.{literals-length}
use Rattle.codec.proofs.Laws.RoundTrip.{literal-bytes-length, table-back, table_same, literals-back, literals-same, state-same}
use Rattle.buffers.specs.Buffers.{Buffers, whole, tables_in, state_in, written}
use Rattle.exports.specs.Statements.RoundTrip.{SameBytes, ReadBack}
use Rattle.exports.proofs.Laws.Fits.{literals-small, ends-small, sets-small, counts-small}
use Rattle.buffers.proofs.Laws.{Sizes, whole-sizes, sizes-whole, words-of-sets}

pub same_bytes-are : SameBytes
unfolding written tables_in state_in
same_bytes-are b w k =
    let z = whole-sizes b w in
    λ i. record {
      literals = literals-same literal_limit b.literals z.literals k.literals i;
      ends = table_same 2 clause_limit b.ends z.ends k.ends i;
      sets = (ap (λ (l : List ℕ). over (bytes_of 8 l) b.sets) (sym (words-of-sets (entries 8 table_words b.sets) (entries-length 8 table_words b.sets) (entries_fit 8 table_words b.sets k.sets)))
          ∙ table_same 8 table_words b.sets z.sets k.sets) i;
      kinds = b.kinds;
      state = state-same b.state z.state k.state i;
    }

module _ (b : Buffers) (m : Model) (w : whole b ≡ true) (v : Valid tables m) where
  room : Sizes b
  room = whole-sizes b w

  -- ---- the tables have their sizes

  literals-long : length (Spread.over literal_limit (pos 0) (flat (clauses m)) (literals_in literal_limit b.literals)) ≡ literal_limit
  literals-long =
      let n = literals-length literal_limit b.literals in
      Rows.over-length (pos 0) literal_limit (flat (clauses m)) (literals_in literal_limit b.literals) (omega (arith, flat-length (clauses m), v.few-literals)) (omega arith) ∙ n

  ends-long : length (Spread.over clause_limit 0 (ends_from 0 (clauses m)) (entries 2 clause_limit b.ends)) ≡ clause_limit
  ends-long =
      let n = entries-length 2 clause_limit b.ends in
      Rows.over-length 0 clause_limit (ends_from 0 (clauses m)) (entries 2 clause_limit b.ends) (omega (arith, ends-length 0 (clauses m), v.few-clauses)) (omega arith) ∙ n

  -- the sets in the buffer, and those of the model over them
  abbrev held : List ℕ
  held = as_sets 4 (entries 8 table_words b.sets)

  held-long : length held ≡ variable_limit
  held-long = sets-length 4 (lit< tt) (entries 8 table_words b.sets) ∙ ap (λ i. i / 4) (entries-length 8 table_words b.sets)

  abbrev sets : List ℕ
  sets = Spread.over variable_limit 0 (set_row m) held

  sets-long : length sets ≡ variable_limit
  sets-long = Rows.over-length 0 variable_limit (set_row m) held (omega (arith, sets-used m v.even, v.few-variables)) (omega (arith, held-long)) ∙ held-long

  words_long : length (table_of 4 sets) ≡ table_words
  words_long = table-length 4 sets ∙ ap (λ n. 4 * n) sets-long

  words_back : entries 8 table_words (over (bytes_of 8 (table_of 4 sets)) b.sets) ≡ table_of 4 sets
  words_back = table-back 8 table_words (table_of 4 sets) b.sets words_long (table_fits 4 sets)

  kinds-long : length (Spread.over variable_limit 0 (kind_row m) b.kinds) ≡ length b.kinds
  kinds-long = Rows.over-length 0 variable_limit (kind_row m) b.kinds (omega (arith, kinds-used m, v.few-variables)) room.kinds

  -- ---- read back

  tables-back : tables_in (written b (spread m (tables_in b)) (state_of m)) ≡ spread m (tables_in b)
  unfolding tables_in written spread
  tables-back = λ i. record {
    literals = literals-back literal_limit (Spread.over literal_limit (pos 0) (flat (clauses m)) (literals_in literal_limit b.literals)) b.literals literals-long
        (literals-small m v (literals_in literal_limit b.literals) (omega (arith, literals-length literal_limit b.literals))) i;
    ends = table-back 2 clause_limit (Spread.over clause_limit 0 (ends_from 0 (clauses m)) (entries 2 clause_limit b.ends)) b.ends ends-long
        (ends-small m v (entries 2 clause_limit b.ends) (omega (arith, entries-length 2 clause_limit b.ends))) i;
    sets = (ap (as_sets 4) words_back ∙ sets-again 4 (lit< tt) sets (sets-small m v held (omega (arith, held-long)))) i;
    spare = (ap (spare_in 4) words_back ∙ spare-again 4 (lit< tt) sets ∙ sym (spare-none (entries 8 table_words b.sets) (entries-length 8 table_words b.sets))) i;
    kinds = Spread.over variable_limit 0 (kind_row m) b.kinds;
  }

  state-read : state_in (written b (spread m (tables_in b)) (state_of m)) ≡ state_of m
  unfolding state_in written over
  state-read = state-back (state_of m) _ (counts-small m v)

  -- ---- still long enough

  whole-written : whole (written b (spread m (tables_in b)) (state_of m)) ≡ true
  unfolding written spread tables_in
  whole-written =
      let l : length (literal_bytes (Spread.over literal_limit (pos 0) (flat (clauses m)) (literals_in literal_limit b.literals))) ≡ 16384 = literal-bytes-length _ ∙ ap (λ n. 2 * n) literals-long in
      let e : length (bytes_of 2 (Spread.over clause_limit 0 (ends_from 0 (clauses m)) (entries 2 clause_limit b.ends))) ≡ 4096 = bytes-length 2 _ ∙ ap (λ n. 2 * n) ends-long in
      let s : length (bytes_of 8 (table_of 4 sets)) ≡ 16384 = bytes-length 8 _ ∙ ap (λ n. 8 * n) words_long in
      let lw = over-length (literal_bytes (Spread.over literal_limit (pos 0) (flat (clauses m)) (literals_in literal_limit b.literals))) b.literals (omega (arith, room.literals)) in
      let ew = over-length (bytes_of 2 (Spread.over clause_limit 0 (ends_from 0 (clauses m)) (entries 2 clause_limit b.ends))) b.ends (omega (arith, room.ends)) in
      let sw = over-length (bytes_of 8 (table_of 4 sets)) b.sets (omega (arith, room.sets)) in
      let tw = over-length (state_bytes (state_of m)) b.state (omega (arith, state-length (state_of m), room.state)) in
      sizes-whole (written b (spread m (tables_in b)) (state_of m)) (record {
        literals = omega (arith, room.literals);
        ends = omega (arith, room.ends);
        sets = omega (arith, room.sets);
        kinds = omega (arith, room.kinds, kinds-long);
        state = omega (arith, room.state);
      })

pub read_back : ReadBack
read_back b m w v = (tables-back b m w v, state-read b m w v, whole-written b m w v)
