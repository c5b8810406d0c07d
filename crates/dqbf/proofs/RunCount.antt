-- The steps counted are those accepted.
use mathlib.Core.Path.{◌≡◌, refl, ◌∙◌, ap}
use mathlib.Core.Logic.{◌⊎◌, inl, inr}
use mathlib.Core.List.{List, [], ◌∷◌}
use mathlib.Core.Option.{Option, none, some}
use Prim.Native.Nat.{ℕ, suc, ◌+◌, ◌<◌}
use native.Mathlib.Omega.{arith}
use lib.ListN.{length}
use Rattle.dqbf.specs.Limits.{Room, records_limit}
use Rattle.dqbf.specs.Refusal.{Refusal}
use Rattle.dqbf.specs.Model.{Model, steps}
use Rattle.dqbf.specs.Record.{Record, record_of, stretches}
use Rattle.dqbf.specs.Rules.{Addition, add}
use Rattle.dqbf.specs.Run.{Examined, accepts, refuses, examine_by, examine_or20, examine_or20_by, examine_bytes, examine_bytes_by, Verdict, bad, verdict_of, go_on, run_from, run_from_by, run_by, Ran}
use Rattle.dqbf.specs.Valid.{Valid}
use Rattle.dqbf.specs.Statements.RunCount.{RunCount, Counted}
use Rattle.dqbf.proofs.StepsKeepValid.{examine-keeps}
use Rattle.dqbf.proofs.Additions.{additions}
use Rattle.dqbf.proofs.Laws.Tests.{ltb-not}

module _ (room : Room) where
  -- an accepted record: a valid model of one step more
  step_counts : (m : Model) → Valid room m → (bs : List ℕ) (a : Addition) → examine_bytes room m bs ≡ accepts a → Valid room (add m a) × (steps (add m a) ≡ suc (steps m))
  unfolding examine_bytes_by examine_or20_by examine_by
  step_counts m v bs a = go (record_of bs)
    where
      go : (o : Option Record) → examine_or20 room m o ≡ accepts a → Valid room (add m a) × (steps (add m a) ≡ suc (steps m))
      go none h = absurd (let z : ◌≡◌ {A = ℕ} 0 1 = cc in omega arith)
      go (some r) h = (examine-keeps room m v r a h, (additions room m v r a h).one-step)

  -- `Counted` with n records before
  abbrev CountedFrom : ℕ → Model → ℕ → Model → Verdict → Type 0
  CountedFrom n m k m' w =
      ((w ≡ verdict_of m') × (steps m' ≡ steps m + k)) ⊎ ((i : ℕ) × (x : Refusal) × (i < k) × (w ≡ bad (suc (n + i)) x) × (steps m' ≡ steps m + i))

  run_from-counts : (rs : List (List ℕ)) (n : ℕ) (m : Model) → Valid room m → CountedFrom n m (length rs) (run_from room rs n m).model (run_from room rs n m).verdict
  unfolding run_from_by go_on
  run_from-counts [] n m v = inl (refl, omega arith)
  run_from-counts (bs ∷ rs) n m v = go (examine_bytes room m bs) refl (λ m' v'. run_from-counts rs (suc n) m' v')
    where
      go : (e : Examined) → examine_bytes room m bs ≡ e
          → ((m' : Model) → Valid room m' → CountedFrom (suc n) m' (length rs) (run_from room rs (suc n) m').model (run_from room rs (suc n) m').verdict)
          → CountedFrom n m (suc (length rs)) (go_on e m (suc n) (λ m'. run_from room rs (suc n) m')).model (go_on e m (suc n) (λ m'. run_from room rs (suc n) m')).verdict
      go (refuses x) e rest = inr (0, x, omega arith, ap (λ (k : ℕ). bad k x) (omega arith), omega arith)
      go (accepts a) e rest = let s = step_counts m v bs a e in more s.1 (rest (add m a) s.0)
        where
          more : steps (add m a) ≡ suc (steps m) → CountedFrom (suc n) (add m a) (length rs) (run_from room rs (suc n) (add m a)).model (run_from room rs (suc n) (add m a)).verdict
              → CountedFrom n m (suc (length rs)) (run_from room rs (suc n) (add m a)).model (run_from room rs (suc n) (add m a)).verdict
          more q (inl h) = inl (h.0, omega (arith, h.1))
          more q (inr h) = inr (suc h.0, h.1, omega (arith, h.2), h.3 ∙ ap (λ (k : ℕ). bad k h.1) (omega arith), omega (arith, h.4))

pub run-count : RunCount
unfolding run_by
run-count room m v bs h = rw (ltb-not records_limit (length bs) h) (go (run_from-counts room (stretches (length bs) bs) 0 m v))
  where
    r : Ran
    r = run_from room (stretches (length bs) bs) 0 m

    go : CountedFrom room 0 m (length (stretches (length bs) bs)) r.model r.verdict → Counted m (length (stretches (length bs) bs)) r.model r.verdict
    go (inl k) = inl k
    go (inr k) = inr (k.0, k.1, k.2, k.3 ∙ ap (λ (i : ℕ). bad (suc i) k.1) (omega arith), k.4)
