-- No formula which a run calls refuted is called true. Calls keep the formula part, so that the question may stand behind any of them.
use mathlib.Core.Path.{◌≡◌, refl, sym, ◌∙◌}
use mathlib.Core.List.{List, [], ◌∷◌}
use Prim.Native.Nat.{ℕ}
use Rattle.dqbf.specs.Limits.{Room}
use Rattle.dqbf.specs.Formula.{Formula}
use Rattle.dqbf.specs.Meaning.{Refuted}
use Rattle.dqbf.specs.Model.{Model, model_of}
use Rattle.dqbf.specs.Run.{Call, Answer, next, answer, answers}
use Rattle.dqbf.specs.Spelled.{formula_part}
use Rattle.dqbf.specs.Statements.Refutation.{Follows, all_said}
use Rattle.dqbf.proofs.FormulaPart.{part-formula, next-part}
use Rattle.dqbf.proofs.Refutation.{held-refutation}
use Rattle.deciding.specs.Deciding.{Decision, decide, true_by}
use Rattle.deciding.specs.Families.{functions_of, Meant}
use Rattle.deciding.specs.Statements.{behind, NeverTrue, HeldDecides, HeldNeverTrue}
use Rattle.deciding.proofs.Deciding.{decides-by-meaning}
use Rattle.deciding.proofs.Exact.{load-exact}

-- a refuted formula and an answer that means what it says
never : (φ : Formula) → Refuted φ → (d : Decision) → Meant φ d → (f : ℕ) → d ≡ true_by f → ⊥
unfolding Meant
never φ r d meant f e = no (rw e at meant)
  where
    no : Meant φ (true_by f) → ⊥
    no t = r (functions_of φ f) t.family t.makes-true

-- ---- anything that holds a model

module _ (T C : Type 0) (room : Room) (Holds : T → Model → Type 0) (call : C → Call) (go : T → C → T) (says : T → C → Answer) (f : Follows room Holds call go says) where
  -- what calls leave holds a model with the same formula part
  left-holds : (t : T) (m : Model) → Holds t m → (cs : List C) → (n : Model) × Holds (behind go t cs) n × (formula_part n ≡ formula_part m)
  unfolding behind
  left-holds t m h [] = (m, h, refl)
  left-holds t m h (c ∷ cs) =
      let r = left-holds (go t c) (next room m (call c)) (f.keeps t m c h) cs in
      (r.0, r.1, r.2 ∙ next-part room m (call c))

pub held-decides : HeldDecides
held-decides T C room Holds call go says f asks is text φ h t held before =
    let l = left-holds T C room Holds call go says f t (model_of φ) held before in
    rw (is (behind go t before) l.0 l.1) (decides-by-meaning l.0 φ (sym (part-formula φ) ∙ sym l.2) (load-exact text φ h))

pub held-never-true : HeldNeverTrue
held-never-true T C room Holds call go says f asks is text φ h t held calls steps clause q before n e =
    never φ (held-refutation T C room Holds call go says f text φ h t held calls steps clause q) (asks (behind go t before))
    (held-decides T C room Holds call go says f asks is text φ h t held before) n e

-- ---- the calculus itself

model-follows : (room : Room) → Follows room (λ (m n : Model). m ≡ n) (λ (c : Call). c) (next room) (answer room)
model-follows room = record { keeps = λ m n c e. rw e refl; tells = λ m n c e. rw e refl }

answers-are : (room : Room) (m : Model) (cs : List Call) → answers room m cs ≡ all_said (next room) (answer room) m cs
unfolding answers all_said
answers-are room m [] = refl
answers-are room m (c ∷ cs) = rw (answers-are room (next room m c) cs) refl

pub never_true : NeverTrue
never_true room text φ h calls steps clause q before f e =
    held-never-true Model Call room (λ (m n : Model). m ≡ n) (λ (c : Call). c) (next room) (answer room) (model-follows room) decide (λ m n e. rw e refl)
    text φ h (model_of φ) refl calls steps clause (rw (answers-are room (model_of φ) calls) at q) before f e
