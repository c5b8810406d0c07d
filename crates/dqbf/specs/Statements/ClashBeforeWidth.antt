-- 23 BEFORE 24, COMPARED WITH THE ORDER THAT STOOD BEFORE (document 02, Note 5): "Only resolutions which gave 24 and whose resolvent has such a pair change;
-- they give 23", with the lowest variable that the resolvent holds in both signs.
--
-- Both orders are instances of one parameter (`resolution_tests_by`, specs/Rules.antt). The claims hold for every room, every valid model and all bytes.
--     width_first                      the order that document 01 had
--     WideClash, StoppedWide          a step that changes, and a run that stops at one
--     StepCompared, StepsCompared     the answers to one step, and to every one: these change, and nothing else does
--     RunCompared, RunsCompared       the same of a run; it accepts the same steps and stops at the same one
--     CallsCompared                   any list of calls comes to the same model
--     Refused, SomeCompared           by computation: resolvents of 33 literals, with a pair and without
use Rattle.std.specs.Prelude.{◌≡◌, ◌⊎◌, List, [], ◌∷◌, ℕ, suc, ℤ}
use Rattle.std.proofs.Math.Option.{some}
use Rattle.dqbf.specs.Limits.{Room, tables}
use Rattle.dqbf.specs.Bytes.{bytes}
use Rattle.dqbf.specs.Refusal.{Refusal, refusal, naming}
use Rattle.dqbf.specs.Reading.{load}
use Rattle.dqbf.specs.Model.{Model}
use Rattle.dqbf.specs.Valid.{Valid}
use Rattle.dqbf.specs.Record.{resolution, record_of, record_at}
use Rattle.dqbf.specs.Rules.{clause_at, resolvent, ResolutionTest, of_pivot, of_clash, of_width}
use Rattle.dqbf.specs.Run.{refuses, examine_bytes_by, examine_bytes, after, bad, run_by, run, Call}
use Rattle.dqbf.specs.Cases.{hex, left_by, wide, wide_model}
use Rattle.dqbf.specs.Statements.RuleIff.{reached_by, reached}
use Rattle.dqbf.specs.Statements.ClashingVariable.{InBothSigns, Clash}

-- document 01: "then resolution 22, 24, 23, 25"
unfoldable pub width_first : List ResolutionTest
width_first = of_pivot ∷ of_width ∷ of_clash ∷ []

-- ---- a step

-- the bytes say a resolution that gave 24, and its resolvent holds some variable in both signs
pub record WideClash (room : Room) (m : Model) (bytes : List ℕ) : Type 0 where
  pub first : ℕ
  pub second : ℕ
  pub pivot : ℤ
  pub variable : ℕ
  pub resolves : record_of bytes ≡ some (resolution first second pivot)
  pub gave : examine_bytes_by width_first room m bytes ≡ refuses (refusal 24)
  pub pair : InBothSigns (resolvent (clause_at m first) (clause_at m second) pivot) variable

pub record StepCompared (room : Room) (m : Model) (bytes : List ℕ) : Type 0 where
  -- the answer is the same, or it was such a resolution's
  pub only : (examine_bytes room m bytes ≡ examine_bytes_by width_first room m bytes) ⊎ WideClash room m bytes
  -- each such resolution gives 23 with the lowest variable (`Clash`)
  pub each : WideClash room m bytes → (r : Refusal) × (examine_bytes room m bytes ≡ refuses r) × Clash m bytes r
  -- what is left is the same
  pub model : after m (examine_bytes room m bytes) ≡ after m (examine_bytes_by width_first room m bytes)

abbrev pub StepsCompared : Type 0
StepsCompared = (room : Room) (m : Model) → Valid room m → (bytes : List ℕ) → StepCompared room m bytes

-- ---- a run

-- the run stopped with 24 at step k + 1, at such a resolution on the model that it left
pub record StoppedWide (room : Room) (m : Model) (records : List ℕ) (k : ℕ) : Type 0 where
  pub stopped : (run_by width_first room m records).verdict ≡ bad (suc k) (refusal 24)
  pub clash : WideClash room (run_by width_first room m records).model (record_at records k)

pub record RunCompared (room : Room) (m : Model) (records : List ℕ) : Type 0 where
  -- the same steps are accepted, and they add the same
  pub model : (run room m records).model ≡ (run_by width_first room m records).model
  -- the verdict is the same, or the run stopped at such a resolution
  pub only : ((run room m records).verdict ≡ (run_by width_first room m records).verdict) ⊎ ((k : ℕ) × StoppedWide room m records k)
  -- each such run stops at the same step, with 23 and the lowest variable
  pub each : (k : ℕ) → StoppedWide room m records k
      → (r : Refusal) × ((run room m records).verdict ≡ bad (suc k) r) × Clash (run room m records).model (record_at records k) r

abbrev pub RunsCompared : Type 0
RunsCompared = (room : Room) (m : Model) → Valid room m → (records : List ℕ) → RunCompared room m records

-- ---- a list of calls

-- It comes to the same model, so that the claims above speak of each of its calls.
abbrev pub CallsCompared : Type 0
CallsCompared = (room : Room) (m : Model) → Valid room m → (calls : List Call) → reached room m calls ≡ reached_by width_first room m calls

-- ---- by computation

-- a step that is refused on the model of a text: the refusal in the order before, and now
pub record Refused (record' : List ℕ) (old new : Refusal) : Type 0 where
  pub before : examine_bytes_by width_first tables wide_model record' ≡ refuses old
  pub now : examine_bytes tables wide_model record' ≡ refuses new

pub record SomeCompared : Type 0 where
  -- the model is what the load of the text leaves
  pub text : left_by (load (bytes wide)) [] ≡ wide_model
  -- the resolvent of clauses 1 and 2 has 33 literals, 2 and -2 among them
  pub pair : Refused (hex "01000000 01000000 02000000 01000000") (refusal 24) (naming 23 2)
  -- that of clauses 1 and 3 has 33 literals and no complementary ones
  pub no-pair : Refused (hex "01000000 01000000 03000000 01000000") (refusal 24) (refusal 24)
