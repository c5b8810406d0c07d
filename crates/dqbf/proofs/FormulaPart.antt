-- Steps and runs keep the formula part of a model (specs/Spelled.antt: `formula_part`), and the model of a formula is its own formula part.
use mathlib.Core.Path.{◌≡◌, refl, ◌∙◌}
use mathlib.Core.Bool.{Bool, true, false, cond}
use mathlib.Core.List.{List, [], ◌∷◌}
use Prim.Native.Nat.{ℕ, suc}
use lib.Dec.{ltb}
use lib.ListN.{length}
use Rattle.dqbf.specs.Limits.{Room, records_limit}
use Rattle.dqbf.specs.Formula.{Formula}
use Rattle.dqbf.specs.Model.{Model, model_by, model_of}
use Rattle.dqbf.specs.Record.{stretches}
use Rattle.dqbf.specs.Refusal.{refusal}
use Rattle.dqbf.specs.Rules.{add}
use Rattle.dqbf.specs.Run.{Examined, accepts, refuses, examine_bytes, after, bad, go_on, run_from_by, run_from, run_by, run, Call, step_call, run_call, other_call, next_by, next}
use Rattle.dqbf.specs.Spelled.{formula_part}

pub part-formula : (φ : Formula) → formula_part (model_of φ) ≡ model_of φ
unfolding formula_part model_by
part-formula φ = refl

pub after-part : (m : Model) (e : Examined) → formula_part (after m e) ≡ formula_part m
unfolding formula_part after add
after-part m (accepts a) = refl
after-part m (refuses x) = refl

module _ (room : Room) where
  records-part : (rs : List (List ℕ)) (n : ℕ) (m : Model) → formula_part (run_from room rs n m).model ≡ formula_part m
  unfolding run_from_by go_on after
  records-part [] n m = refl
  records-part (bs ∷ rs) n m = go (examine_bytes room m bs) (λ m'. records-part rs (suc n) m')
    where
      go : (e : Examined) → ((m' : Model) → formula_part (run_from room rs (suc n) m').model ≡ formula_part m')
          → formula_part (go_on e m (suc n) (λ m'. run_from room rs (suc n) m')).model ≡ formula_part m
      go (accepts a) rest = rest (add m a) ∙ after-part m (accepts a)
      go (refuses x) rest = refl

  pub run-part : (m : Model) (bs : List ℕ) → formula_part (run room m bs).model ≡ formula_part m
  unfolding run_by
  run-part m bs = go (ltb records_limit (length bs))
    where
      go : (b : Bool) → formula_part (cond b (record { model = m; verdict = bad 0 (refusal 11) }) (run_from room (stretches (length bs) bs) 0 m)).model ≡ formula_part m
      go true = refl
      go false = records-part (stretches (length bs) bs) 0 m

  pub next-part : (m : Model) (c : Call) → formula_part (next room m c) ≡ formula_part m
  unfolding next_by
  next-part m (step_call bs) = after-part m (examine_bytes room m bs)
  next-part m (run_call bs) = run-part m bs
  next-part m other_call = refl
