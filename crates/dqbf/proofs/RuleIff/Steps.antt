-- A record on a valid model: what the three rules share.
use mathlib.Core.Path.{◌≡◌, refl, sym}
use mathlib.Core.Logic.{◌⊎◌, inl, inr, ◌≢◌}
use mathlib.Core.List.{[], ◌∷◌}
use mathlib.Core.Option.{none}
use lib.IntN.{ℤ, neg_ℤ}
use Rattle.dqbf.specs.Limits.{Room}
use Rattle.dqbf.specs.Refusal.{Refusal, refusal, ◌when◌}
use Rattle.dqbf.specs.Literal.{Clause, ◌∈◌}
use Rattle.dqbf.specs.Model.{Model, clauses, kind_of}
use Rattle.dqbf.specs.Record.{Record}
use Rattle.dqbf.specs.Rules.{Addition, no_room, added, tests}
use Rattle.dqbf.specs.Run.{accepts, judged, examine, examine_by}
use Rattle.dqbf.specs.Valid.{Ascending, Valid}
use Rattle.dqbf.specs.Published.{Fits}
use Rattle.dqbf.proofs.Laws.Tests.{pass}
use Rattle.dqbf.proofs.Laws.Order.{ascending-pure}
use Rattle.dqbf.proofs.Laws.Literals.{neg-abs, self-neg}
use Rattle.dqbf.proofs.Laws.Models.{in-fits}
use Rattle.dqbf.specs.Refusal as Refusal

module _ (room : Room) (m : Model) (v : Valid room m) where
  -- a literal of a kept clause is not 0
  pub nonzero : (C : Clause) → C ∈ clauses m → (x : ℤ) → x ∈ C → x ≡ neg_ℤ x → ⊥
  unfolding kind_of
  nonzero C c x q e = (v.kept C c).over x q (rw (self-neg x e))

  pub pure : (C D E : Clause) (p : ℤ) → C ∈ clauses m → D ∈ clauses m → Ascending E → ((x : ℤ) → (x ∈ E) → (((x ∈ C) × (x ≢ p)) ⊎ ((x ∈ D) × (x ≢ neg_ℤ p)))) → (x : ℤ) → x ∈ E → neg_ℤ x ∈ E → ⊥
  pure C D E p c d s from x q r = go (from x q)
    where
      e : x ≡ neg_ℤ x
      e = ascending-pure E s x (neg_ℤ x) q r (sym (neg-abs x))

      go : ((x ∈ C) × (x ≢ p)) ⊎ ((x ∈ D) × (x ≢ neg_ℤ p)) → ⊥
      go (inl h) = nonzero C c x h.0 e
      go (inr h) = nonzero D d x h.0 e

  -- the last test
  pub roomy : (b a : Addition) → b ≡ a → Fits room m a → Refusal.first ((refusal 25 when no_room room m b) ∷ []) ≡ none
  unfolding Refusal.first
  roomy b a e f = pass (refusal 25) (no_room room m b) [] (rw e (in-fits room m a f)) refl

  pub accept : (r : Record) (a : Addition) → Refusal.first (tests room m r) ≡ none → added m r ≡ a → examine room m r ≡ accepts a
  unfolding examine_by judged
  accept r a h e = rw (h, e)
