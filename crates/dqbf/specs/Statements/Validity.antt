-- An accepted load leaves a valid model, and every call keeps a model valid (document 01, "An accepted load leaves them so").
use Rattle.std.specs.Prelude.{◌≡◌, List, ℕ}
use Rattle.dqbf.specs.Limits.{Room, tables}
use Rattle.dqbf.specs.Formula.{Formula}
use Rattle.dqbf.specs.Reading.{load, accepted}
use Rattle.dqbf.specs.Model.{Model, model_of}
use Rattle.dqbf.specs.Valid.{Valid}
use Rattle.dqbf.specs.Record.{Record}
use Rattle.dqbf.specs.Rules.{Addition, add}
use Rattle.dqbf.specs.Run.{accepts, examine, Call, next}

abbrev pub LoadValid : Type 0
LoadValid = (text : List ℕ) (φ : Formula) → load text ≡ accepted φ → Valid tables (model_of φ)

abbrev pub StepsKeepValid : Type 0
StepsKeepValid = (room : Room) (m : Model) → Valid room m → (r : Record) (a : Addition) → examine room m r ≡ accepts a → Valid room (add m a)

abbrev pub CallsKeepValid : Type 0
CallsKeepValid = (room : Room) (m : Model) → Valid room m → (c : Call) → Valid room (next room m c)
