-- What is claimed of a load over lent tables (specs/Loading.antt), and proved in proofs/LoadFormed.antt.
use Rattle.std.specs.Prelude.{◌≡◌, true, List, ◌↔◌, ℕ}
use Rattle.dqbf.specs.Formula.{Formula}
use Rattle.dqbf.specs.Model.{model_of}
use Rattle.dqbf.specs.Reading.{load, accepted}
use Rattle.tables.specs.Tables.{Tables, model_in}
use Rattle.tables.specs.Spread.{spread, blank, zero_state}
use Rattle.tables.specs.WellFormed.{long, well_formed}
use Rattle.dqdimacs.specs.Loading.{Accepted, Refused, AfterLoad, load_of}

-- A load is accepted exactly if no table is too short and the text says a formula.
abbrev pub AcceptedExactly : Type 0
AcceptedExactly = (t : Tables) (text : List ℕ) → ((load_of t text).answer ≡ Accepted) ↔ ((long t ≡ true) × ((φ : Formula) × (load text ≡ accepted φ)))

-- tables and state are well formed and hold a formula, "with V variables in use and no step"
pub record Holding (φ : Formula) (x : AfterLoad) : Type 0 where
  pub lent : long x.tables ≡ true
  pub formed : well_formed x.tables x.state ≡ true
  pub model : model_in x.tables x.state ≡ model_of φ
  pub bound : x.state.bound.0 ≡ φ.bound
  pub variables : x.state.variables.0 ≡ φ.bound
  pub steps : x.state.steps.0 ≡ 0

-- "An accepted load leaves them so": whatever the tables held before.
abbrev pub LoadFormed : Type 0
LoadFormed = (t : Tables) (text : List ℕ) → (load_of t text).answer ≡ Accepted → (φ : Formula) × (load text ≡ accepted φ) × Holding φ (load_of t text)

-- A refused text leaves zeros over the stated sizes, which are well formed too.
pub record Zeroed (t : Tables) (x : AfterLoad) : Type 0 where
  pub tables : x.tables ≡ spread blank t
  pub state : x.state ≡ zero_state
  pub formed : well_formed x.tables x.state ≡ true

abbrev pub RefusedZeroed : Type 0
RefusedZeroed = (t : Tables) (text : List ℕ) (line number : ℕ) → long t ≡ true → (load_of t text).answer ≡ Refused line number → Zeroed t (load_of t text)
