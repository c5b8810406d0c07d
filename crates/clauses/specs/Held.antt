-- What a clause by value is.
-- Offers `held`.
use Rattle.std.specs.Prelude.{take}
use Rattle.dqbf.specs.Literal.{Clause}
use Rattle.clauses.specs.declared.Held.{Held}

-- the front of the array
abbrev pub held : Held → Clause
held h = take h.count h.literals
