-- Truth under a family's number: of a formula (dqbf, specs/Meaning.antt) and of its model (specs/Deciding.antt).
use mathlib.Core.Path.{◌≡◌, refl, sym, ◌∙◌, ap, ap₂}
use mathlib.Core.Logic.{◌⊎◌, inl, inr}
use mathlib.Core.Bool.{Bool, true, false, ◌||◌, false≢true}
use mathlib.Core.Option.{none, some}
use mathlib.Core.List.Memᴰ
use mathlib.Core.List.{List, [], ◌∷◌, map}
use Prim.Native.Nat.{ℕ, zero, suc, ◌^◌, ◌<◌}
use native.Mathlib.Omega.{arith}
use lib.IntN.{ℤ, pos, negsuc}
use Rattle.dqbf.specs.Literal.{Clause, ◌∈◌, sorted}
use Rattle.dqbf.specs.Set.{Set, inside}
use Rattle.dqbf.specs.Formula.{Formula, universals, Var, undeclared, universal, existential, var}
use Rattle.dqbf.specs.Meaning.{Setting, value, is, literal, clause, True}
use Rattle.dqbf.specs.Model.{Model, universal_count, kind_of, set_of, place, kind_for, set_for, model_by, model_of}
use Rattle.dqbf.proofs.Laws.Tests.{and_left, and_right, both, or-either, or_left, or_right}
use Rattle.dqbf.proofs.Laws.Clauses.{◌⊆◌, sorted-holds, sorted-in}
use Rattle.dqbf.proofs.Laws.Words.{single-inside}
use Rattle.dqbf.proofs.Soundness.Link.{In, Out, in-or-out}
use Rattle.deciding.specs.Deciding.{function_at, value_for, value_at, literal_at, clause_at, all_below, always_true, all_true, makes_true}
use Rattle.deciding.specs.Families.{word_for, functions_of, Exact}
use Rattle.deciding.proofs.Laws.Settings.{word-given, word_small, setting_of, setting-word}

-- ---- tests of all numbers and all clauses

pub below_at : (n : ℕ) (P : ℕ → Bool) → all_below n P ≡ true → (i : ℕ) → i < n → P i ≡ true
unfolding all_below
below_at zero P h i l = absurd (omega arith)
below_at (suc n) P h zero l = and_left (P 0) (all_below n (λ i. P (suc i))) h
below_at (suc n) P h (suc i) l = below_at n (λ i. P (suc i)) (and_right (P 0) (all_below n (λ i. P (suc i))) h) i (omega arith)

pub at-below : (n : ℕ) (P : ℕ → Bool) → ((i : ℕ) → i < n → P i ≡ true) → all_below n P ≡ true
unfolding all_below
at-below zero P h = refl
at-below (suc n) P h = both (P 0) (all_below n (λ i. P (suc i))) (h 0 (omega arith)) (at-below n (λ i. P (suc i)) (λ i l. h (suc i) (omega arith)))

pub all-at : (m : Model) (f : ℕ) (Cs : List Clause) → all_true m f Cs ≡ true → (C : Clause) → C ∈ Cs → always_true m f C ≡ true
unfolding all_true
all-at m f [] h C x'' = elim x'' [ ]
all-at m f (D ∷ Cs) h C (Memᴰ.head e) = rw e (and_left (always_true m f D) (all_true m f Cs) h)
all-at m f (D ∷ Cs) h C (Memᴰ.tail q) = all-at m f Cs (and_right (always_true m f D) (all_true m f Cs) h) C q

pub at_all : (m : Model) (f : ℕ) (Cs : List Clause) → ((C : Clause) → C ∈ Cs → always_true m f C ≡ true) → all_true m f Cs ≡ true
unfolding all_true
at_all m f [] h = refl
at_all m f (D ∷ Cs) h = both (always_true m f D) (all_true m f Cs) (h D (Memᴰ.head refl)) (at_all m f Cs (λ C q. h C (Memᴰ.tail q)))

-- ---- a clause is true by one of its literals

module _ (m : Model) (f : ℕ) (w : Set) where
  pub true-by : {l : ℤ} {C : Clause} → l ∈ C → literal_at m f w l ≡ true → clause_at m f w C ≡ true
  unfolding clause_at
  true-by {l} (Memᴰ.head {x = x} {xs = C} e) h = or_left (literal_at m f w x) (clause_at m f w C) (rw (← e) h)
  true-by (Memᴰ.tail {x = x} {xs = C} q) h = or_right (literal_at m f w x) (clause_at m f w C) (true-by q h)

  pub by-some : (C : Clause) → clause_at m f w C ≡ true → (l : ℤ) × (l ∈ C) × (literal_at m f w l ≡ true)
  unfolding clause_at
  by-some [] h = absurd (false≢true h)
  by-some (l ∷ C) h = go (or-either (literal_at m f w l) (clause_at m f w C) h) (λ k. by-some C k)
    where
      go : (literal_at m f w l ≡ true) ⊎ (clause_at m f w C ≡ true) → (clause_at m f w C ≡ true → (k : ℤ) × (k ∈ C) × (literal_at m f w k ≡ true)) → (k : ℤ) × (k ∈ l ∷ C) × (literal_at m f w k ≡ true)
      go (inl k) r = (l, Memᴰ.head refl, k)
      go (inr k) r = let t = r k in (t.0, Memᴰ.tail t.1, t.2)

  pub true-more : (C D : Clause) → C ⊆ D → clause_at m f w C ≡ true → clause_at m f w D ≡ true
  true-more C D sub h = let t = by-some C h in true-by (sub t.0 t.1) t.2

module _ (φ : Formula) (exact : Exact φ) (f : ℕ) where
  abbrev m : Model
  m = model_of φ

  abbrev us : List ℕ
  us = universals φ

  module _ (σ : Setting us) where
    value-is : (k : ℕ) → value (var φ (suc k)) (suc k) (functions_of φ f (suc k)) σ ≡ value_at m f (suc k) (word_for σ)
    unfolding value_at value_for value functions_of kind_for set_for
    value-is k = go (in-or-out φ (suc k))
      where
        v : ℕ
        v = suc k

        here : (x : Var) → value x v (functions_of φ f v) σ ≡ value_for (kind_for x) (inside (set_for us v x) (word_for σ)) (function_at m f v (word_for σ))
        here undeclared = refl
        here universal = ap some (word-given σ v ∙ sym (single-inside (2 ^ place us v) (word_for σ) (place us v) refl))
        here (existential S) = refl

        far : (x : Var) → var φ v ≡ x → φ.bound < v → value x v (functions_of φ f v) σ ≡ none
        far undeclared e l = refl
        far universal e l = absurd (let w = (exact.numbered v (λ z. let o : ◌≡◌ {A = ℕ} 0 1 = cc in omega arith)).1 in omega arith)
        far (existential S) e l = absurd (let w = (exact.numbered v (λ z. let o : ◌≡◌ {A = ℕ} 0 1 = cc in omega arith)).1 in omega arith)

        go : In φ v ⊎ Out φ v → value (var φ v) v (functions_of φ f v) σ ≡ value_for (kind_of m v) (inside (set_of m v) (word_for σ)) (function_at m f v (word_for σ))
        go (inl h) = rw h.1 (here (var φ v) ∙ ap (λ (s : ℕ). value_for (kind_for (var φ v)) (inside s (word_for σ)) (function_at m f v (word_for σ))) (sym h.2))
        go (inr (inl z, h, k)) = absurd (omega arith)
        go (inr (inr z, h, k)) = rw h (far (var φ v) refl z)

    literal-is : (l : ℤ) → literal φ (functions_of φ f) σ l ≡ literal_at m f (word_for σ) l
    unfolding literal literal_at
    literal-is (pos zero) = refl
    literal-is (pos (suc k)) = ap (is true) (value-is k)
    literal-is (negsuc k) = ap (is false) (value-is k)

    pub clause-is : (C : Clause) → clause φ (functions_of φ f) σ C ≡ clause_at m f (word_for σ) C
    unfolding clause clause_at
    clause-is [] = refl
    clause-is (l ∷ C) = ap₂ ◌||◌ (literal-is l) (clause-is C)

  -- a formula is true under a number's functions exactly if its model is under the number
  pub true-is : True φ (functions_of φ f) → makes_true m f ≡ true
  unfolding makes_true model_by always_true
  true-is h = at_all m f (map sorted φ.clauses) (λ C q. at-below (2 ^ universal_count m) (λ w. clause_at m f w C) (λ w l. at C q w l))
    where
      at : (C : Clause) → C ∈ map sorted φ.clauses → (w : Set) → w < 2 ^ universal_count m → clause_at m f w C ≡ true
      at C q w l =
          let d = Memᴰ.of_map sorted φ.clauses q in
          let s = setting-word us w (rw (← exact.counted) l) in
          let t = clause-is (setting_of us w) d.0 in
          rw (← d.2) (true-more m f w d.0 (sorted d.0) (sorted-holds d.0) (rw s at (sym t ∙ h d.0 d.1 (setting_of us w))))

  pub is_true : makes_true m f ≡ true → True φ (functions_of φ f)
  unfolding makes_true model_by always_true
  is_true h C q σ =
      let a = all-at m f (map sorted φ.clauses) h (sorted C) (Memᴰ.map sorted q) in
      let b = below_at (2 ^ universal_count m) (λ w. clause_at m f w (sorted C)) a (word_for σ) (rw exact.counted (word_small σ)) in
      clause-is σ C ∙ true-more m f (word_for σ) (sorted C) C (sorted-in C) b
