-- Dependency sets of clauses, by places and by universals. The definitions work on places (bits of a set word), the published rules on universal variables;
-- on valid models the two say the same (`dep-universal`, `inside-universals`, `common-universals`).
use mathlib.Core.Bool.{Bool, false, false≢true, true, true≢false}
use mathlib.Core.List.Memᴰ
use mathlib.Core.List.{[], ◌∷◌}
use mathlib.Core.Logic.{◌↔◌, ◌⊎◌, inl, inr}
use mathlib.Core.Path.{◌∙◌, ◌≡◌, refl, sym}
use Prim.Native.Nat.{ℕ, ◌<◌}
use lib.IntN.{nat_abs, ℤ}
use lib.ListN.{length}
use Rattle.dqbf.specs.Literal.{Clause, ◌∈◌, pick}
use Rattle.dqbf.specs.Published.{Dep, Has, OfUniversals}
use Rattle.dqbf.specs.Model.{Model, clause_set, kind_of, set_of}
use Rattle.dqbf.specs.Limits.{Room}
use Rattle.dqbf.specs.Set.{Set, bit, common, inside, single}
use Rattle.dqbf.specs.Valid.{Valid}
use Rattle.dqbf.specs.Rules.{reads}
use Rattle.dqbf.proofs.Laws.Tests.{and_left, and_right, both, never, or-either, or_left, or_right}
use Rattle.dqbf.proofs.Laws.Words.{bit-and, bit-ext, bit-inside, bit-or, bit-zero, single-inside}
use Rattle.dqbf.proofs.Laws.Clauses.{pick-in, pick-short}

-- the set of one of C's literals has place i
abbrev pub DepAt : Model → Clause → ℕ → Type 0
DepAt m C i = (l : ℤ) × (l ∈ C) × (bit (set_of m (nat_abs l)) i ≡ true)

module _ (m : Model) where
  dep-to : (C : Clause) (i : ℕ) → bit (clause_set m C) i ≡ true → DepAt m C i
  unfolding clause_set
  dep-to [] i h = absurd (true≢false (sym h ∙ bit-zero i))
  dep-to (l ∷ C) i h = go (or-either (bit (set_of m (nat_abs l)) i) (bit (clause_set m C) i) (sym (bit-or (set_of m (nat_abs l)) (clause_set m C) i) ∙ h)) (λ k. dep-to C i k)
    where
      go : (bit (set_of m (nat_abs l)) i ≡ true) ⊎ (bit (clause_set m C) i ≡ true) → (bit (clause_set m C) i ≡ true → DepAt m C i) → DepAt m (l ∷ C) i
      go (inl k) ih = (l, Memᴰ.head refl, k)
      go (inr k) ih = let d = ih k in (d.0, Memᴰ.tail d.1, d.2)

  dep-from : (i : ℕ) (l : ℤ) {C : Clause} → l ∈ C → bit (set_of m (nat_abs l)) i ≡ true → bit (clause_set m C) i ≡ true
  unfolding clause_set
  dep-from i l (Memᴰ.head {x = k} {xs = C} e) h =
      bit-or (set_of m (nat_abs k)) (clause_set m C) i ∙ or_left (bit (set_of m (nat_abs k)) i) (bit (clause_set m C) i) (rw (← e) h)
  dep-from i l (Memᴰ.tail {x = k} {xs = C} q) h =
      bit-or (set_of m (nat_abs k)) (clause_set m C) i ∙ or_right (bit (set_of m (nat_abs k)) i) (bit (clause_set m C) i) (dep-from i l q h)

  pub dep-is : (C : Clause) (i : ℕ) → (bit (clause_set m C) i ≡ true) ↔ DepAt m C i
  dep-is C i = (dep-to C i, λ d. dep-from i d.0 d.1 d.2)

  pub inside_is : (L R : Clause) → (inside (clause_set m L) (clause_set m R) ≡ true) ↔ ((i : ℕ) → DepAt m L i → DepAt m R i)
  inside_is L R = (
    λ h i d. (dep-is R i).0 ((bit-inside (clause_set m L) (clause_set m R)).0 h i ((dep-is L i).1 d)),
    λ h. (bit-inside (clause_set m L) (clause_set m R)).1 (λ i k. (dep-is R i).1 (h i ((dep-is L i).0 k))),
  )

  pub common-bits : (L R : Clause) (i : ℕ) → (bit (common (clause_set m L) (clause_set m R)) i ≡ true) ↔ (DepAt m L i × DepAt m R i)
  common-bits L R i = (
    λ h. let k = sym (bit-and (clause_set m L) (clause_set m R) i) ∙ h in
        ((dep-is L i).0 (and_left (bit (clause_set m L) i) (bit (clause_set m R) i) k), (dep-is R i).0 (and_right (bit (clause_set m L) i) (bit (clause_set m R) i) k)),
    λ d. bit-and (clause_set m L) (clause_set m R) i ∙ both (bit (clause_set m L) i) (bit (clause_set m R) i) ((dep-is L i).1 d.0) ((dep-is R i).1 d.1),
  )

-- ---- universals

-- the universal variable u has place i
abbrev pub At : Model → ℕ → ℕ → Type 0
At m u i = (kind_of m u ≡ 1) × (set_of m u ≡ single i)

module _ (room : Room) (m : Model) (v : Valid room m) where
  -- a universal is in a set exactly if its place is
  pub has-place : (s : Set) (u i : ℕ) → At m u i → Has m s u ↔ (bit s i ≡ true)
  has-place s u i h = (λ k. sym (single-inside (set_of m u) s i h.1) ∙ k.1, λ k. (h.0, single-inside (set_of m u) s i h.1 ∙ k))

  pub dep-universal : (C : Clause) (u i : ℕ) → At m u i → Dep m C u ↔ DepAt m C i
  dep-universal C u i h = (
    λ d. (d.0, d.1, (has-place (set_of m (nat_abs d.0)) u i h).0 d.2),
    λ d. (d.0, d.1, (has-place (set_of m (nat_abs d.0)) u i h).1 d.2),
  )

  -- a place that a clause's set has is a universal's
  pub dep-at : (C : Clause) (i : ℕ) → DepAt m C i → (u : ℕ) × At m u i
  dep-at C i d = let p = v.filled i (v.within (nat_abs d.0) i d.2) in (p.0, (p.1, p.2))

  at-dep : (C : Clause) (u : ℕ) → Dep m C u → (i : ℕ) × At m u i
  at-dep C u d = let p = v.sole u d.2.0 in (p.0, (d.2.0, p.2))

  -- dep(L) lies inside dep(R) exactly if the set of L lies inside the set of R
  pub inside-universals : (L R : Clause) → (inside (clause_set m L) (clause_set m R) ≡ true) ↔ ((u : ℕ) → Dep m L u → Dep m R u)
  inside-universals L R = (
    λ h u d. let p = at-dep L u d in (dep-universal R u p.0 p.1).1 ((inside_is m L R).0 h p.0 ((dep-universal L u p.0 p.1).0 d)),
    λ h. (inside_is m L R).1 (λ i d. let p = dep-at L i d in (dep-universal R p.0 i p.1).0 (h p.0 ((dep-universal L p.0 i p.1).1 d))),
  )

  -- the intersection of two clauses' sets
  pub common-universals : (L R : Clause) (u : ℕ) → Has m (common (clause_set m L) (clause_set m R)) u ↔ (Dep m L u × Dep m R u)
  common-universals L R u = (
    λ h. let p = v.sole u h.0 in
        let a : At m u p.0 = (h.0, p.2) in
        let d = (common-bits m L R p.0).0 ((has-place (common (clause_set m L) (clause_set m R)) u p.0 a).0 h) in
        ((dep-universal L u p.0 a).1 d.0, (dep-universal R u p.0 a).1 d.1),
    λ d. let p = at-dep L u d.0 in
        (has-place (common (clause_set m L) (clause_set m R)) u p.0 p.1).1
        ((common-bits m L R p.0).1 ((dep-universal L u p.0 p.1).0 d.0, (dep-universal R u p.0 p.1).0 d.1)),
  )

  pub common-of-universals : (L R : Clause) → OfUniversals m (common (clause_set m L) (clause_set m R))
  common-of-universals L R i h = let p = dep-at L i ((common-bits m L R i).0 h).0 in (p.0, p.1.0, p.1.1)

  -- a set of universals is known from them
  pub same-universals : (s t : Set) → OfUniversals m s → OfUniversals m t → ((u : ℕ) → Has m s u → Has m t u) → ((u : ℕ) → Has m t u → Has m s u) → s ≡ t
  same-universals s t p q f g = bit-ext s t (λ i. both_ways (bit s i) (bit t i) (to s t p f i) (to t s q g i))
    where
      to : (s t : Set) → OfUniversals m s → ((u : ℕ) → Has m s u → Has m t u) → (i : ℕ) → bit s i ≡ true → bit t i ≡ true
      to s t p f i h = let w = p i h in let a : At m w.0 i = (w.1, w.2) in (has-place t w.0 i a).0 (f w.0 ((has-place s w.0 i a).1 h))

      both_ways : (a b : Bool) → (a ≡ true → b ≡ true) → (b ≡ true → a ≡ true) → a ≡ b
      both_ways true b h k = sym (h refl)
      both_ways false b h k = sym (never b (λ t. false≢true (k t)))

-- a clause of the same literals has the same universals
pub dep-subset : (m : Model) (C D : Clause) → ((x : ℤ) → x ∈ C → x ∈ D) → (u : ℕ) → Dep m C u → Dep m D u
dep-subset m C D sub u d = (d.0, sub d.0 d.1, d.2)

-- some literal's set contains the set of the universal u
pub reads-is : (m : Model) (u : ℕ) → kind_of m u ≡ 1 → (C : Clause) → (reads m (set_of m u) C ≡ true) ↔ Dep m C u
unfolding reads
reads-is m u k C = (to C, λ d. from d.0 d.1 d.2.1)
  where
    s : Set
    s = set_of m u

    to : (C : Clause) → reads m s C ≡ true → Dep m C u
    to [] h = absurd (false≢true h)
    to (l ∷ C) h = go (or-either (inside s (set_of m (nat_abs l))) (reads m s C) h) (to C)
      where
        go : (inside s (set_of m (nat_abs l)) ≡ true) ⊎ (reads m s C ≡ true) → (reads m s C ≡ true → Dep m C u) → Dep m (l ∷ C) u
        go (inl h) ih = (l, Memᴰ.head refl, (k, h))
        go (inr h) ih = let d = ih h in (d.0, Memᴰ.tail d.1, d.2)

    from : (l : ℤ) {C : Clause} → l ∈ C → inside s (set_of m (nat_abs l)) ≡ true → reads m s C ≡ true
    from l (Memᴰ.head {x = y} {xs = C} q) h = or_left (inside s (set_of m (nat_abs y))) (reads m s C) (rw (← q) h)
    from l (Memᴰ.tail {x = y} {xs = C} q) h = or_right (inside s (set_of m (nat_abs y))) (reads m s C) (from l q h)

-- a part whose set does not contain that of another part is not the whole clause
pub part-short : (m : Model) (C : Clause) (a b : ℕ) → inside (clause_set m (pick b C)) (clause_set m (pick a C)) ≡ false → length (pick a C) < length C
part-short m C a b h = go (pick-short a C)
  where
    go : (pick a C ≡ C) ⊎ (length (pick a C) < length C) → length (pick a C) < length C
    go (inl e) = absurd (true≢false (sym ((inside_is m (pick b C) (pick a C)).1 (λ i d. (d.0, rw e (pick-in b C d.0 d.1), d.2))) ∙ h))
    go (inr s) = s
