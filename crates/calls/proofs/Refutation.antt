-- THE REFUTATION THEOREM over load, step and run: specs/Statements/Refutation.antt.
use mathlib.Core.Path.{◌≡◌}
use mathlib.Core.Bool.{true}
use mathlib.Core.List.{List}
use Prim.Native.Nat.{ℕ}
use Rattle.dqbf.specs.Formula.{Formula}
use Rattle.dqbf.specs.Reading.{load, accepted}
use Rattle.tables.specs.Tables.{Tables}
use Rattle.tables.specs.WellFormed.{long}
use Rattle.dqdimacs.specs.Loading.{load_of, loaded_on, loaded_model}
use Rattle.dqdimacs.proofs.LoadFormed.{accepted-exactly}
use Rattle.steps.specs.Statements.Refutation as Steps
use Rattle.steps.proofs.Refutation as AfterLoad
use Rattle.calls.specs.Statements.Refutation.{loaded, Refutation}

-- an accepted load leaves what the theorem of the steps starts from
loaded-is : (t : Tables) (text : List ℕ) (φ : Formula) → long t ≡ true → load text ≡ accepted φ → loaded t text ≡ Steps.loaded φ t
unfolding loaded Steps.loaded load_of loaded_on loaded_model
loaded-is t text φ h e = rw (h, e)

pub refutation : Refutation
refutation t text e calls steps clause q =
    let h = (accepted-exactly t text).0 e in
    let φ = h.1.0 in
    (φ, h.1.1, AfterLoad.refutation text φ h.1.1 t h.0 calls steps clause (rw (loaded-is t text φ h.0 h.1.1) at q))
