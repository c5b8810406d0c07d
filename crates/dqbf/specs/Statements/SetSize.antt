-- The count of ones of a variable's set word is the number of universals in its set (document 01, "how many universals its set holds").
use Rattle.std.specs.Prelude.{◌≡◌, ℕ}
use Rattle.dqbf.specs.Limits.{Room}
use Rattle.dqbf.specs.Set.{size}
use Rattle.dqbf.specs.Model.{Model, set_of}
use Rattle.dqbf.specs.Valid.{Valid}
use Rattle.dqbf.specs.Questions.{members}

abbrev pub SetSize : Type 0
SetSize = (room : Room) (m : Model) → Valid room m → (x : ℕ) → size (set_of m x) ≡ members m (set_of m x)
