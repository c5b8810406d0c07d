-- The claims of specs/Statements.antt.
use mathlib.Core.Path.{◌≡◌, refl, ap, ◌∙◌}
use mathlib.Core.Bool.{Bool, true, false, cond, not}
use mathlib.Core.List.{List}
use Prim.Native.Nat.{ℕ}
use native.Mathlib.Omega.{arith}
use lib.ListN.{length}
use Rattle.dqbf.specs.Formula.{Formula}
use Rattle.dqbf.specs.Model.{Model, model_by, model_of, used, steps}
use Rattle.dqbf.specs.Reading.{load, accepted, refused}
use Rattle.dqbf.specs.Reading as Reading
use Rattle.dqbf.proofs.LoadValid.{load-valid}
use Rattle.tables.specs.Tables.{Tables}
use Rattle.tables.specs.Spread.{spread, state_of, blank}
use Rattle.tables.specs.WellFormed.{long}
use Rattle.tables.proofs.Laws.Spread.{model-back, formed-spread, long-spread, blank-valid, blank-state}
use Rattle.dqdimacs.specs.Loading.{Accepted, Refused, AfterLoad, load_answer, loaded_model, loaded_on, load_short, load_of}
use Rattle.dqdimacs.specs.Statements.{AcceptedExactly, Holding, LoadFormed, Zeroed, RefusedZeroed}
use Rattle.prefix_lines.proofs.Laws.Rows.{row-length}

module _ (t : Tables) where
  -- load_of, by whether the tables are long enough and what the text came to
  abbrev load_by : Bool → Reading.Loaded → AfterLoad
  load_by b o = cond (not b) (load_short t) (loaded_on t o)

  accepted-by : (b : Bool) (o : Reading.Loaded) → (load_by b o).answer ≡ Accepted → (b ≡ true) × ((φ : Formula) × (o ≡ accepted φ))
  unfolding load_short loaded_on load_answer
  accepted-by true (accepted φ) e = (refl, (φ, refl))
  accepted-by true (refused l n) e = cc
  accepted-by false o e = cc

  accepts-by : (b : Bool) (o : Reading.Loaded) (φ : Formula) → b ≡ true → o ≡ accepted φ → (load_by b o).answer ≡ Accepted
  unfolding loaded_on load_answer
  accepts-by b o φ e h = rw (e, h)

  refused-by : (o : Reading.Loaded) (line number : ℕ) → (loaded_on t o).answer ≡ Refused line number → loaded_model o ≡ blank
  unfolding loaded_on load_answer loaded_model
  refused-by (accepted φ) line number e = cc
  refused-by (refused l n) line number e = refl

  on-long : (text : List ℕ) → long t ≡ true → load_of t text ≡ loaded_on t (load text)
  unfolding load_of
  on-long text h = rw h

pub accepted-exactly : AcceptedExactly
unfolding load_of
accepted-exactly t text = (accepted-by t (long t) (load text), λ h. accepts-by t (long t) (load text) h.1.0 h.0 h.1.1)

-- ---- an accepted load

bound-is : (φ : Formula) → length (model_of φ).kinds ≡ φ.bound
unfolding model_by
bound-is φ = row-length _ φ.bound

used-is : (φ : Formula) → used (model_of φ) ≡ φ.bound
unfolding used model_by
used-is φ = omega (arith, bound-is φ)

none_made : (φ : Formula) → steps (model_of φ) ≡ 0
unfolding steps model_by
none_made φ = refl

model-holds : (t : Tables) (text : List ℕ) (φ : Formula) → long t ≡ true → load text ≡ accepted φ → Holding φ (loaded_on t (accepted φ))
unfolding loaded_on loaded_model state_of
model-holds t text φ h e =
    let v = load-valid text φ e in
    record {
      lent = long-spread (model_of φ) v t h;
      formed = formed-spread (model_of φ) v t;
      model = model-back (model_of φ) v t;
      bound = bound-is φ;
      variables = used-is φ;
      steps = none_made φ;
    }

pub load-formed : LoadFormed
load-formed t text e =
    let h = (accepted-exactly t text).0 e in
    let φ = h.1.0 in
    (φ, h.1.1, rw (on-long t text h.0, h.1.1) (model-holds t text φ h.0 h.1.1))

-- ---- a refused one

blank-zeroed : (t : Tables) (x : AfterLoad) → x.tables ≡ spread blank t → x.state ≡ state_of blank → Zeroed t x
blank-zeroed t x e h = record { tables = e; state = h ∙ blank-state; formed = rw (e, h) (formed-spread blank blank-valid t) }

zeroed-by : (t : Tables) (o : Reading.Loaded) (line number : ℕ) → (loaded_on t o).answer ≡ Refused line number → Zeroed t (loaded_on t o)
unfolding loaded_on
zeroed-by t o line number e =
    let b : loaded_model o ≡ blank = refused-by t o line number e in
    blank-zeroed t (loaded_on t o) (ap (λ (m : Model). spread m t) b) (ap state_of b)

pub refused-zeroed : RefusedZeroed
refused-zeroed t text line number h e = rw (on-long t text h) (zeroed-by t (load text) line number (rw (on-long t text h) at e))
