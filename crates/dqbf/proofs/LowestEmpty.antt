-- The lowest empty clause: the clause named is empty, and none before it is.
use mathlib.Core.Path.{◌≡◌, refl}
use mathlib.Core.Logic.{◌⊎◌, inl, inr, ◌≢◌}
use mathlib.Core.List.{List, [], ◌∷◌}
use Prim.Native.Nat.{ℕ, zero, suc, ◌+◌, ◌<◌}
use native.Mathlib.Omega.{arith}
use lib.ListN.{length, get_or}
use Rattle.dqbf.specs.Literal.{Clause}
use Rattle.dqbf.specs.Model.{clauses, empty_from, lowest_empty}
use Rattle.dqbf.specs.Statements.RunCount.{Lowest, LowestEmpty}

empty_from-spec : (k : ℕ) (Cs : List Clause) → ((empty_from k Cs ≡ 0) × ((i : ℕ) → i < length Cs → get_or Cs i [] ≢ []))
    ⊎ ((j : ℕ) × (empty_from k Cs ≡ k + j) × (j < length Cs) × (get_or Cs j [] ≡ []) × ((i : ℕ) → i < j → get_or Cs i [] ≢ []))
unfolding empty_from
empty_from-spec k [] = inl (refl, λ i h. absurd (omega arith))
empty_from-spec k ([] ∷ Cs) = inr (0, omega arith, omega arith, refl, λ i h. absurd (omega arith))
empty_from-spec k ((l ∷ C) ∷ Cs) = go (empty_from-spec (suc k) Cs)
  where
    full : l ∷ C ≢ []
    full e = let z : ◌≡◌ {A = ℕ} 0 1 = cc in omega arith

    not_yet : (n : ℕ) → ((i : ℕ) → i < n → get_or Cs i [] ≢ []) → (i : ℕ) → i < suc n → get_or ((l ∷ C) ∷ Cs) i [] ≢ []
    not_yet n h zero s = full
    not_yet n h (suc i) s = h i (omega arith)

    go : ((empty_from (suc k) Cs ≡ 0) × ((i : ℕ) → i < length Cs → get_or Cs i [] ≢ []))
        ⊎ ((j : ℕ) × (empty_from (suc k) Cs ≡ suc k + j) × (j < length Cs) × (get_or Cs j [] ≡ []) × ((i : ℕ) → i < j → get_or Cs i [] ≢ []))
        → ((empty_from (suc k) Cs ≡ 0) × ((i : ℕ) → i < suc (length Cs) → get_or ((l ∷ C) ∷ Cs) i [] ≢ []))
        ⊎ ((j : ℕ) × (empty_from (suc k) Cs ≡ k + j) × (j < suc (length Cs)) × (get_or ((l ∷ C) ∷ Cs) j [] ≡ []) × ((i : ℕ) → i < j → get_or ((l ∷ C) ∷ Cs) i [] ≢ []))
    go (inl h) = inl (h.0, not_yet (length Cs) h.1)
    go (inr h) = inr (suc h.0, omega (arith, h.1), omega (arith, h.2), h.3, not_yet h.0 h.4)

pub lowest-empty : LowestEmpty
unfolding lowest_empty
lowest-empty m = go (empty_from-spec 1 (clauses m))
  where
    go : ((empty_from 1 (clauses m) ≡ 0) × ((i : ℕ) → i < length (clauses m) → get_or (clauses m) i [] ≢ []))
        ⊎ ((j : ℕ) × (empty_from 1 (clauses m) ≡ 1 + j) × (j < length (clauses m)) × (get_or (clauses m) j [] ≡ []) × ((i : ℕ) → i < j → get_or (clauses m) i [] ≢ []))
        → Lowest m (empty_from 1 (clauses m))
    go (inl h) = inl h
    go (inr h) = inr (h.0, omega (arith, h.1), h.2, h.3, h.4)
