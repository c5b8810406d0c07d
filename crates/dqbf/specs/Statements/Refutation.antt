-- DEMAND 3 (document 01, "The refutation statement").
--
-- For every text that `load` accepts, and every list of calls from the model that the load leaves, each acting on the model as the call before left it,
-- refused ones included: if a run among them answers refuted, no family makes the formula true.
--
-- `Refuted` speaks of the text's declarations and variables (specs/Meaning.antt). A call is a step with any bytes, a run with any bytes, or one that
-- writes nothing. The claim holds for every room of tables.
use Rattle.std.specs.Prelude.{◌≡◌, List, [], ◌∷◌, ℕ}
use Rattle.dqbf.specs.Limits.{Room}
use Rattle.dqbf.specs.Literal.{◌∈◌}
use Rattle.dqbf.specs.Formula.{Formula}
use Rattle.dqbf.specs.Meaning.{Refuted}
use Rattle.dqbf.specs.Reading.{load, accepted}
use Rattle.dqbf.specs.Model.{Model, model_of}
use Rattle.dqbf.specs.Run.{refuted, Call, Answer, ran, next, answer, answers}

abbrev pub Refutation : Type 0
Refutation =
    (room : Room) (text : List ℕ) (φ : Formula) → load text ≡ accepted φ
    → (calls : List Call) (steps clause : ℕ) → ran (refuted steps clause) ∈ answers room (model_of φ) calls → Refuted φ

-- ---- the same for anything that holds a model: tables with their state, the driver's buffers

-- `Holds t m` says that t holds the model m. Calls of a type C stand for calls of the calculus; each leaves what holds the model that the calculus
-- comes to, and answers as the calculus does.
pub record Follows {T C : Type 0} (room : Room) (Holds : T → Model → Type 0) (call : C → Call) (go : T → C → T) (says : T → C → Answer) : Type 0 where
  pub keeps : (t : T) (m : Model) (c : C) → Holds t m → Holds (go t c) (next room m (call c))
  pub tells : (t : T) (m : Model) (c : C) → Holds t m → says t c ≡ answer room m (call c)

-- the answers of a list of calls, each on what the call before left
unfoldable pub all_said : {T C : Type 0} → (T → C → T) → (T → C → Answer) → T → List C → List Answer
all_said go says t [] = []
all_said go says t (c ∷ cs) = says t c ∷ all_said go says (go t c) cs

abbrev pub HeldRefutation : Type 1
HeldRefutation =
    (T C : Type 0) (room : Room) (Holds : T → Model → Type 0) (call : C → Call) (go : T → C → T) (says : T → C → Answer) → Follows room Holds call go says
    → (text : List ℕ) (φ : Formula) → load text ≡ accepted φ → (t : T) → Holds t (model_of φ)
    → (calls : List C) (steps clause : ℕ) → ran (refuted steps clause) ∈ all_said go says t calls → Refuted φ
