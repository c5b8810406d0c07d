-- An existential of a formula in its model: kind 2, and the set word of its set.
use mathlib.Core.Path.{◌≡◌, sym, ◌∙◌}
use mathlib.Core.Logic.{◌⊎◌, inl, inr, ◌≢◌}
use mathlib.Core.Bool.{true, true≢false}
use mathlib.Core.List.{List}
use Prim.Native.Nat.{ℕ, ◌≤◌}
use native.Mathlib.Omega.{arith}
use Rattle.dqbf.specs.Literal.{◌∈◌}
use Rattle.dqbf.specs.Set.{bit}
use Rattle.dqbf.specs.Formula.{Formula, universals, existential, var}
use Rattle.dqbf.specs.Model.{kind_of, set_of, place, word_of, kind_for, set_for, model_of}
use Rattle.dqbf.proofs.Laws.Counting.{word_in}
use Rattle.dqbf.proofs.Laws.Words.{bit-zero}
use Rattle.dqbf.proofs.Soundness.Link.{In, Out, in-or-out}

module _ (φ : Formula) where
  abbrev us : List ℕ
  us = universals φ

  -- its set in the model has only places of its set; none if it is above V
  pub set-only : (x : ℕ) (S : List ℕ) → var φ x ≡ existential S → (i : ℕ) → bit (set_of (model_of φ) x) i ≡ true → (u : ℕ) × (u ∈ S) × (place us u ≡ i)
  unfolding set_for
  set-only x S e i t = go (in-or-out φ x)
    where
      go : In φ x ⊎ Out φ x → (u : ℕ) × (u ∈ S) × (place us u ≡ i)
      go (inl h) = word_in us S i (rw (h.2, e) at t)
      go (inr h) = absurd (true≢false (sym (rw h.2 at t) ∙ bit-zero i))

  -- a variable up to V
  pub in-model : (x : ℕ) (S : List ℕ) → var φ x ≡ existential S → x ≤ φ.bound → x ≢ 0 → (kind_of (model_of φ) x ≡ 2) × (set_of (model_of φ) x ≡ word_of us S)
  unfolding kind_for set_for
  in-model x S e low high = go (in-or-out φ x)
    where
      go : In φ x ⊎ Out φ x → (kind_of (model_of φ) x ≡ 2) × (set_of (model_of φ) x ≡ word_of us S)
      go (inl h) = (h.1 ∙ rw e, h.2 ∙ rw e)
      go (inr (inl z, h, k)) = absurd (high z)
      go (inr (inr z, h, k)) = absurd (omega arith)
