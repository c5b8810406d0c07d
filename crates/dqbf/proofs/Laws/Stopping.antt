-- A run that stops at a record (specs/Run.antt): what the records before it leave, and that it is refused there.
-- Offers `Stopped`, `stopped-at`.
use mathlib.Core.Path.{◌≡◌, refl, ◌∙◌, ap}
use mathlib.Core.Bool.{Bool, true, false, cond}
use mathlib.Core.List.{List, [], ◌∷◌}
use Prim.Native.Nat.{ℕ, suc, ◌+◌}
use native.Mathlib.Omega.{arith}
use lib.Dec.{eqb}
use lib.ListN.{take, get_or}
use Rattle.dqbf.specs.Limits.{Room}
use Rattle.dqbf.specs.Refusal.{Refusal}
use Rattle.dqbf.specs.Model.{Model, steps, lowest_empty}
use Rattle.dqbf.specs.Rules.{add}
use Rattle.dqbf.specs.Run.{Examined, accepts, refuses, examine_bytes, refuted, open', bad, verdict_of, go_on, run_from, run_from_by}

-- a verdict at the end of the list is not bad
ended-good : (m : Model) (k : ℕ) (x : Refusal) → verdict_of m ≡ bad k x → ⊥
unfolding verdict_of
ended-good m k x e = by (eqb (lowest_empty m) 0) e
  where
    by : (b : Bool) → cond b (open' (steps m)) (refuted (steps m) (lowest_empty m)) ≡ bad k x → ⊥
    by true e = let z : ◌≡◌ {A = ℕ} 0 1 = cc in omega arith
    by false e = let z : ◌≡◌ {A = ℕ} 0 1 = cc in omega arith

-- what the records before the refused one leave, and that it is refused there
pub record Stopped (room : Room) (l : List (List ℕ)) (n : ℕ) (m : Model) (k : ℕ) (x : Refusal) : Type 0 where
  pub before : ℕ
  pub step : k ≡ suc (n + before)
  pub front : run_from room (take before l) n m ≡ record { model = (run_from room l n m).model; verdict = verdict_of (run_from room l n m).model }
  pub refused : examine_bytes room (run_from room l n m).model (get_or l before []) ≡ refuses x

pub stopped-at : (room : Room) (l : List (List ℕ)) (n : ℕ) (m : Model) (k : ℕ) (x : Refusal) → (run_from room l n m).verdict ≡ bad k x → Stopped room l n m k x
unfolding run_from_by go_on
stopped-at room [] n m k x e = absurd (ended-good m k x e)
stopped-at room (bs ∷ rest) n m k x e = going (λ m' q. stopped-at room rest (suc n) m' k x q) (examine_bytes room m bs) refl e
  where
    going : ((m' : Model) → (run_from room rest (suc n) m').verdict ≡ bad k x → Stopped room rest (suc n) m' k x) → (w : Examined) → examine_bytes room m bs ≡ w
        → (go_on w m (suc n) (λ m'. run_from room rest (suc n) m')).verdict ≡ bad k x → Stopped room (bs ∷ rest) n m k x
    going later (accepts a) h e =
        let s = later (add m a) e in
        record { before = suc s.before; step = omega (arith, s.step); front = rw h s.front; refused = rw h s.refused }
    going later (refuses y) h e =
        let number : suc n ≡ k = cc in
        let same : y ≡ x = cc in
        record { before = 0; step = omega (arith, number); front = rw h; refused = rw h (h ∙ ap refuses same) }
