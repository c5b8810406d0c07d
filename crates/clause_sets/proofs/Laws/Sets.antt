-- Sets of variables and clauses over a list of sets (specs/Sets.antt), a literal at a time, and over a model.
-- Offers: `set_at`, `set_there` for a variable; `set_more`, `set-end`, `set-parts` for a clause's set; `front-in-use`, `back-in-use`; `Measuring`, where a loop that
-- measures a part stands, with `measuring-start`, `measuring-more`, `measuring-done`; `model-set`, `model-clause-set`: over a model's sets they are the model's own; `reads-single`.
use mathlib.Core.Path.{◌≡◌, refl, ap, sym, ◌∙◌}
use mathlib.Core.Logic.{◌≢◌}
use mathlib.Core.Bool.{Bool, true, false, ◌&&◌, or_assoc, true≢false}
use mathlib.Core.List.Memᴰ
use mathlib.Core.List.{List, [], ◌∷◌, ◌++◌}
use Prim.Native.Nat.{ℕ, zero, suc, ◌+◌, ◌-◌, ◌<◌, ◌≤◌}
use native.Mathlib.Nat.{add-zero, zero-add}
use native.Mathlib.Omega.{arith}
use borrow.Author.Tests.{eq-eqb, ne_eqb, eqb-true}
use lib.Bits.{or_zero_l, or_zero_r}
use lib.Dec.{eqb}
use lib.IntN.{ℤ, pos, nat_abs}
use lib.ListN.{length, get_or, take, drop, take-append-drop}
use mir.Syntax.{w16}
use mir.Val.{SFits, to_z, of_z}
use mir.Facts.{to_z-of_z}
use Rattle.dqbf.specs.Literal.{Clause}
use Rattle.dqbf.specs.Set.{Set, empty_set, single, union, common, inside, bit}
use Rattle.dqbf.specs.Model.{Model, set_of, clause_set}
use Rattle.dqbf.specs.Rules.{reads}
use Rattle.dqbf.proofs.Laws.Lists.{nth}
use Rattle.dqbf.proofs.Laws.Signed.{var-kept}
use Rattle.dqbf.proofs.Laws.Words.{bit-and, bit-or, bit-ext, bit-single, bit-zero}
use Rattle.sets.specs.Words.{as_set}
use Rattle.clause_sets.specs.Sets.{set_in, clause_set_in, InUse, PartOf}

-- ---- unions

pub union_assoc : (r s t : Set) → union (union r s) t ≡ union r (union s t)
union_assoc r s t = bit-ext (union (union r s) t) (union r (union s t)) go
  where
    go : (i : ℕ) → bit (union (union r s) t) i ≡ bit (union r (union s t)) i
    go i = rw (bit-or (union r s) t i, bit-or r s i, bit-or r (union s t) i, bit-or s t i) (or_assoc (bit r i) (bit s i) (bit t i))

-- ---- one universal

inside-single : (i : ℕ) (s : Set) → inside (single i) s ≡ bit s i
inside-single i s = go (bit s i) refl
  where
    both : (j : ℕ) → bit (common (single i) s) j ≡ (eqb i j && bit s j)
    both j = bit-and (single i) s j ∙ ap (λ (b : Bool). b && bit s j) (bit-single i j)

    go : (b : Bool) → bit s i ≡ b → inside (single i) s ≡ b
    go true e = eq-eqb (common (single i) s) (single i) (bit-ext (common (single i) s) (single i) (λ j. both j ∙ here j (eqb i j) refl ∙ sym (bit-single i j)))
      where
        here : (j : ℕ) (c : Bool) → eqb i j ≡ c → (eqb i j && bit s j) ≡ eqb i j
        here j true q = rw (← eqb-true i j q, eq-eqb i i refl, e)
        here j false q = rw q
    go false e =
        ne_eqb (common (single i) s) (single i)
        (λ q. true≢false (sym (bit-single i i ∙ eq-eqb i i refl) ∙ ap (λ (x : Set). bit x i) (sym q) ∙ both i ∙ rw (eq-eqb i i refl, e)))

-- ---- set_in

-- the variable of a literal that is passed
pub variable-read : {l : ℤ} → SFits w16 l → {x : ℕ} → x ≡ nat_abs (to_z w16 (of_z w16 l)) → x ≡ nat_abs l
variable-read f q = q ∙ ap nat_abs (to_z-of_z {w = w16} f)

module _ (sets : List Set) where
  pub set_at : (x : ℕ) → x ≢ 0 → set_in sets x ≡ get_or sets (x - 1) empty_set
  unfolding set_in
  set_at zero n = absurd (n refl)
  set_at (suc i) n = let e : suc i - 1 ≡ i = omega arith in rw e

  -- an entry that was read has a set
  pub set_there : {C : Clause} → InUse sets C → (i : ℕ) → i < length C → SFits w16 (get_or C i (pos 0))
      → (0 < nat_abs (to_z w16 (of_z w16 (get_or C i (pos 0))))) × (nat_abs (to_z w16 (of_z w16 (get_or C i (pos 0)))) ≤ length sets)
  set_there {C} u i h f = rw (var-kept (get_or C i (pos 0)) f.sfits) (u (get_or C i (pos 0)) (nth C i (pos 0) h))

  -- ---- of what a loop has before it, D: its literal in front is k, an entry whose set S was looked up

  module _ {D R : Clause} {k : ℤ} {S : Set} (e : D ≡ k ∷ R) (f : SFits w16 k) (q : S ≡ set_in sets (nat_abs (to_z w16 (of_z w16 k)))) where
    looked-up : set_in sets (nat_abs k) ≡ S
    looked-up = sym (q ∙ ap (set_in sets) (var-kept k f.sfits))

    -- the union so far is r, and with S it is t
    pub set_more : (r : Set) {t : Set} → t ≡ union r S → union r (clause_set_in sets D) ≡ union t (clause_set_in sets R)
    unfolding clause_set_in
    set_more r u = rw (e, looked-up, u) (sym (union_assoc r S (clause_set_in sets R)))

  pub set-end : (r : Set) {D : Clause} → D ≡ [] → union r (clause_set_in sets D) ≡ r
  unfolding clause_set_in
  set-end r e = rw e (or_zero_r r)

  -- ---- two parts of a clause

  pub set-parts : (C D : Clause) → clause_set_in sets (C ++ D) ≡ union (clause_set_in sets C) (clause_set_in sets D)
  unfolding clause_set_in
  set-parts [] D = sym (or_zero_l (clause_set_in sets D))
  set-parts (l ∷ C) D = rw (set-parts C D) (sym (union_assoc (set_in sets (nat_abs l)) (clause_set_in sets C) (clause_set_in sets D)))

  module _ {C : Clause} (u : InUse sets C) (n : ℕ) where
    pub front-in-use : InUse sets (take n C)
    front-in-use l q = u l (rw (take-append-drop n C) at (Memᴰ.append_left (drop n C) q))

    pub back-in-use : InUse sets (drop n C)
    back-in-use l q = u l (rw (take-append-drop n C) at (Memᴰ.append_right (take n C) q))

  -- ---- a part of a clause, measured a literal at a time

  -- Of the part C, the loop has so many literals as `count` says, with the set `set`; `rest` is to come.
  pub record Measuring (C : Clause) (count : ℕ) (set : Set) (rest : Clause) : Type 0 where
    pub width : length C ≡ count + length rest
    pub united : clause_set_in sets C ≡ union set (clause_set_in sets rest)

  pub measuring-start : (C : Clause) → Measuring C 0 0 C
  measuring-start C = record { width = sym (zero-add (length C)); united = sym (or_zero_l (clause_set_in sets C)) }

  module _ {C : Clause} {count : ℕ} {set : Set} {rest : Clause} (w : Measuring C count set rest) where
    pub measuring-more : {k : ℤ} {more : Clause} → rest ≡ k ∷ more → SFits w16 k → {S : Set} → S ≡ set_in sets (nat_abs (to_z w16 (of_z w16 k))) → {U : Set} → U ≡ union set S
        → Measuring C (count + 1) U more
    measuring-more e f q u = record { width = omega (arith, w.width, ap length e); united = w.united ∙ set_more e f q set u }

    pub measuring-done : rest ≡ [] → (words : List ℕ) → as_set words ≡ set → PartOf sets C (record { count = count; set = words })
    unfolding clause_set_in
    measuring-done e words held = record { count = sym (w.width ∙ rw e (add-zero count)); set = held ∙ sym (w.united ∙ rw e (or_zero_r set)) }

-- ---- over the sets of a model

module _ (m : Model) where
  abbrev pub sets_of : List Set
  sets_of = m.sets ++ m.forks

  pub model-set : (x : ℕ) → set_in sets_of x ≡ set_of m x
  unfolding set_in set_of
  model-set zero = refl
  model-set (suc i) = refl

  pub model-clause-set : (C : Clause) → clause_set_in sets_of C ≡ clause_set m C
  unfolding clause_set_in clause_set
  model-clause-set [] = refl
  model-clause-set (l ∷ C) = rw (model-set (nat_abs l), model-clause-set C)

  -- a set of one universal: some literal's set contains it exactly if the clause's does
  pub reads-single : (i : ℕ) (C : Clause) → reads m (single i) C ≡ inside (single i) (clause_set m C)
  unfolding reads clause_set
  reads-single i C = read C ∙ sym (inside-single i (clause_set m C))
    where
      read : (C : Clause) → reads m (single i) C ≡ bit (clause_set m C) i
      read [] = sym (bit-zero i)
      read (l ∷ C) = rw (inside-single i (set_of m (nat_abs l)), read C) (sym (bit-or (set_of m (nat_abs l)) (clause_set m C) i))
