-- Decoding and encoding undo each other (document 01, "each table is its entries in little-endian bytes").
use Rattle.std.specs.Prelude.{◌≡◌, true}
use Rattle.dqbf.specs.Limits.{tables}
use Rattle.dqbf.specs.Model.{Model}
use Rattle.dqbf.specs.Valid.{Valid}
use Rattle.tables.specs.Spread.{spread, state_of}
use Rattle.buffers.specs.Buffers.{Buffers, whole, tables_in, state_in, written}
use Rattle.exports.specs.Calls.{AllBytes}

-- Tables and state that are written back as they were read leave the buffers as they were. Of a lent buffer the prover knows that its entries are bytes, so
-- the contract of `kefthrun_run` promises what follows of this for refused runs with no such premise (`RunBytesSame` in the crate `refusals`).
abbrev pub SameBytes : Type 0
SameBytes = (b : Buffers) → whole b ≡ true → AllBytes b → written b (tables_in b) (state_in b) ≡ b

-- A valid model that is written is read back, and the buffers stay long enough.
abbrev pub ReadBack : Type 0
ReadBack =
    (b : Buffers) (m : Model) → whole b ≡ true → Valid tables m
    → (tables_in (written b (spread m (tables_in b)) (state_of m)) ≡ spread m (tables_in b))
    × (state_in (written b (spread m (tables_in b)) (state_of m)) ≡ state_of m)
    × (whole (written b (spread m (tables_in b)) (state_of m)) ≡ true)
