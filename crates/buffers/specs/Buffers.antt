-- The driver's buffers (document 01, "The solver's driver is C++"): each table is its entries in little-endian bytes, the state its counts in order, 16 bits each.
--     Buffers, buffers_of     the four tables and the state
--     whole                  no buffer has too few bytes
--     tables_in, state_in      what they hold: the stated entries; kinds are bytes, and are lent as they are
--     written                tables and state written back: bytes past the stated sizes stay
use Rattle.std.specs.Prelude.{Bool, List, [], ◌∷◌, ℕ, ◌*◌, leb, length}
use Rattle.dqbf.specs.Limits.{clause_limit, literal_limit, variable_limit}
use Rattle.sets.specs.Words.{words_each, table_words, table_of}
use Rattle.tables.specs.declared.State.{State}
use Rattle.tables.specs.Tables.{Tables, tables_of}
use Rattle.tables.specs.WellFormed.{every}
use Rattle.codec.specs.Bytes.{entries, bytes_of, literals_in, literal_bytes, over}
use Rattle.codec.specs.State.{state_bytes}
use Rattle.codec.specs.State as Codec

pub record Buffers : Type 0 where
  pub literals : List ℕ
  pub ends : List ℕ
  pub sets : List ℕ
  pub kinds : List ℕ
  pub state : List ℕ

abbrev pub buffers_of : List ℕ → List ℕ → List ℕ → List ℕ → List ℕ → Buffers
buffers_of literals ends sets kinds state = record { literals = literals; ends = ends; sets = sets; kinds = kinds; state = state }

-- eight counts of 16 bits
abbrev pub state_size : ℕ
state_size = 16

unfoldable pub state_whole : Buffers → Bool
state_whole b = leb state_size (length b.state)

unfoldable pub whole : Buffers → Bool
whole b =
    every (leb (2 * literal_limit) (length b.literals) ∷ leb (2 * clause_limit) (length b.ends) ∷ leb (8 * table_words) (length b.sets)
    ∷ leb variable_limit (length b.kinds) ∷ state_whole b ∷ [])

unfoldable pub tables_in : Buffers → Tables
tables_in b = tables_of (literals_in literal_limit b.literals) (entries 2 clause_limit b.ends) (entries 8 table_words b.sets) b.kinds

unfoldable pub state_in : Buffers → State
state_in b = Codec.state_in b.state

unfoldable pub written : Buffers → Tables → State → Buffers
written b t s = record {
  literals = over (literal_bytes t.literals) b.literals;
  ends = over (bytes_of 2 t.ends) b.ends;
  sets = over (bytes_of 8 (table_of words_each t.sets)) b.sets;
  kinds = t.kinds;
  state = over (state_bytes s) b.state;
}
