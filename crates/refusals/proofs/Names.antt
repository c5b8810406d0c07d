-- What a refused step and a refused run name: the claims of specs/Statements.antt, by those of the calculus on the model in the tables.
use mathlib.Core.Path.{◌≡◌, refl}
use mathlib.Core.Logic.{◌⊎◌, inl, inr}
use mathlib.Core.Bool.{Bool, true, false, cond, not}
use mathlib.Core.List.{List, []}
use mathlib.Core.Option.{some}
use Prim.Native.Nat.{ℕ, suc}
use native.Mathlib.Omega.{arith}
use lib.ListN.{length, get_or}
use Rattle.dqbf.specs.Limits.{tables}
use Rattle.dqbf.specs.Refusal.{Refusal, refusal}
use Rattle.dqbf.specs.Model.{Model}
use Rattle.dqbf.specs.Record.{stretches}
use Rattle.dqbf.specs.Valid.{Valid}
use Rattle.dqbf.specs.Run.{Examined, accepts, refuses, refusal_of, examine_bytes, bad, run}
use Rattle.dqbf.specs.Statements.ClashingVariable.{Named}
use Rattle.dqbf.proofs.ClashingVariable.{clashing-variable, run-named}
use Rattle.tables.specs.Tables.{Tables, model_in}
use Rattle.tables.specs.WellFormed.{long, well_formed}
use Rattle.tables.specs.declared.State.{State}
use Rattle.tables.proofs.Laws.Spread.{valid-held}
use Rattle.steps.specs.Steps.{examined, step_refused, step_of, ran_on, run_refused, run_of}
use Rattle.refusals.specs.Statements.{StepNames, RunNames}
use Rattle.refusals.proofs.Tables.{run-stopped}

refused-is : (e : Examined) (r : Refusal) → refusal_of e ≡ some r → e ≡ refuses r
unfolding refusal_of
refused-is (accepts a) r q = absurd (let z : ◌≡◌ {A = ℕ} 0 1 = cc in omega arith)
refused-is (refuses x) r q = cc

some_is : (x r : Refusal) → some x ≡ some r → x ≡ r
some_is x r q = cc

pub step-names : StepNames
unfolding step_of step_refused examined
step-names t s bytes r = by (long t) refl (well_formed t s) refl
  where
    e : Examined
    e = examine_bytes tables (model_in t s) bytes

    by : (a : Bool) → long t ≡ a → (b : Bool) → well_formed t s ≡ b
        → (cond (not a) (step_refused t s 1) (cond (not b) (step_refused t s 2) (examined t (model_in t s) e))).answer ≡ some r → Named (model_in t s) bytes r
    by false h b k q = rw (← (some_is (refusal 1) r q)) (record { clashing = λ z. absurd (omega (arith, z)); others = λ z. refl })
    by true h false k q = rw (← (some_is (refusal 2) r q)) (record { clashing = λ z. absurd (omega (arith, z)); others = λ z. refl })
    by true h true k q = clashing-variable tables (model_in t s) (valid-held t s h k) bytes r (refused-is e r q)

whole-names : (t : Tables) (s : State) (bytes : List ℕ) (r : Refusal) → (run_of t s bytes).answer ≡ bad 0 r → r.values ≡ []
unfolding run_of run_refused ran_on
whole-names t s bytes r = by (long t) refl (well_formed t s) refl
  where
    -- the whole list is no step
    go : (left : Model) (at : ℕ → List ℕ) → ((◌≡◌ {A = ℕ} 0 0) × (r ≡ refusal 11)) ⊎ ((k : ℕ) × (0 ≡ suc k) × Valid tables left × Named left (at k) r) → r.values ≡ []
    go left at (inl w) = rw w.1 refl
    go left at (inr w) = absurd (omega (arith, w.1))

    by : (a : Bool) → long t ≡ a → (b : Bool) → well_formed t s ≡ b
        → (cond (not a) (run_refused t s 1) (cond (not b) (run_refused t s 2) (ran_on t (run tables (model_in t s) bytes)))).answer ≡ bad 0 r → r.values ≡ []
    by false h b k q = let e : refusal 1 ≡ r = cc in rw (← e) refl
    by true h false k q = let e : refusal 2 ≡ r = cc in rw (← e) refl
    by true h true k q = go (run tables (model_in t s) bytes).model (λ i. get_or (stretches (length bytes) bytes) i []) (run-named tables (model_in t s) (valid-held t s h k) bytes 0 r q)

pub run-names : RunNames
run-names t s bytes r = (whole-names t s bytes r, λ k q. step-names _ _ _ r (run-stopped t s bytes k r q).1)
