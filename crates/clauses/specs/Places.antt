-- Places in a clause.
-- Offers `place_of` (the place of a literal), `but_at` (a clause without the literal at a place).
use Rattle.std.specs.Prelude.{cond, [], ◌∷◌, ◌++◌, ℕ, suc, ◌+◌, ℤ, take, drop}
use Rattle.dqbf.specs.Literal.{Clause, same}

-- counted from 0; the clause's length where the literal does not stand in it
unfoldable pub place_of : ℤ → Clause → ℕ
place_of l [] = 0
place_of l (k ∷ C) = cond (same k l) 0 (suc (place_of l C))

abbrev pub but_at : ℕ → Clause → Clause
but_at i C = take i C ++ drop (i + 1) C
