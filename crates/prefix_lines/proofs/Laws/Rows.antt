-- A row: a value for each of the variables 1 to V, `map f (numbers 0 v)`.
--     row-length, row-entry, row-past      its length; the value of a variable by its entry
--     row-set                              two functions that agree but for one variable
--     declared-above, declared-twice, declared-new      the returns of `declare`
--     union_assoc                          unions of unions
--     Members, members-start, members-next, members-stop, members-all     the loop of `members_of`
-- Assumes nothing.
use mathlib.Core.Path.{◌≡◌, refl, ap, sym, ◌∙◌}
use mathlib.Core.Logic.{◌⊎◌, inl, inr}
use mathlib.Core.Bool.{true, false, or_assoc, and-false}
use mathlib.Core.Option.{none, some}
use mathlib.Core.List.{List, [], ◌∷◌, map}
use Prim.Native.Nat.{ℕ, zero, suc, ◌+◌, ◌-◌, ◌≤◌, ◌<◌}
use native.Mathlib.Nat.{add-zero, zero-add, not-suc-le-zero, le_of_suc-le-suc}
use native.Mathlib.Numerals.{add-one, sub-one}
use native.Mathlib.Omega.{arith}
use borrow.Author.Tests.{le-leb, lt-leb, ne_eqb}
use lib.Dec.{leb, ltb}
use lib.Bits.{bit_or, or_zero_l, or_zero_r}
use lib.ListN.{length, get_or, drop, set, length-map, get_or-eq_default, drop_of_length-le}
use lib.Seq.{drop-cons}
use Rattle.dqbf.specs.Refusal.{refusal}
use Rattle.dqbf.specs.Set.{Set, union, bit}
use Rattle.dqbf.specs.Model.{numbers}
use Rattle.dqbf.proofs.Laws.Tests.{either, ltb_yes, ltb_no}
use Rattle.dqbf.proofs.Laws.Words.{bit-ext, bit-or}
use Rattle.dqbf.proofs.Soundness.Link.{numbers-length}
use Rattle.tables.specs.Tables.{entry}
use Rattle.tables.specs.WellFormed.{all_of}
use Rattle.prefix_lines.specs.Rows.{declarable, Declared, is_universal, union_of}

pub row-length : {A : Type 0} (f : ℕ → A) (v : ℕ) → length (map f (numbers 0 v)) ≡ v
row-length f v = length-map (numbers 0 v) f ∙ numbers-length 0 v

-- ---- two functions

module _ {A : Type 0} (f g : ℕ → A) where
  same_above : (k n : ℕ) → ((x : ℕ) → k < x → g x ≡ f x) → map g (numbers k n) ≡ map f (numbers k n)
  unfolding numbers
  same_above k zero h = refl
  same_above k (suc n) h = rw (h (suc k) (omega arith)) (ap (f (suc k) ∷◌) (same_above (suc k) n (λ x q. h x (omega arith))))

  set-from : (k n i : ℕ) → i < n → ((x : ℕ) → (x ≡ suc (k + i) → ⊥) → g x ≡ f x) → map g (numbers k n) ≡ set (map f (numbers k n)) i (g (suc (k + i)))
  unfolding numbers
  set-from k zero i h e = absurd (not-suc-le-zero h)
  set-from k (suc n) zero h e =
      rw (add-zero k) (ap (g (suc k) ∷◌) (same_above (suc k) n (λ x q. e x (λ d. omega (arith, add-zero k)))))
  set-from k (suc n) (suc i) h e =
      let q : suc (suc k + i) ≡ suc (k + suc i) = omega arith in
      let r = set-from (suc k) n i (le_of_suc-le-suc h) (λ x d. e x (λ w. d (w ∙ sym q))) in
      rw (e (suc k) (λ d. omega arith), ← q) (ap (f (suc k) ∷◌) r)

  -- they agree but for the variable y
  pub row-set : (v y : ℕ) → (y ≡ 0 → ⊥) → y ≤ v → ((x : ℕ) → (x ≡ y → ⊥) → g x ≡ f x) → map g (numbers 0 v) ≡ set (map f (numbers 0 v)) (y - 1) (g y)
  row-set v zero n h e = absurd (n refl)
  row-set v (suc i) n h e =
      let q : suc (0 + i) ≡ suc i = omega arith in
      rw sub-one (rw q at (set-from 0 v i h (λ x d. e x (λ w. d (w ∙ sym q)))))

-- ---- the value of a variable

module _ (f : ℕ → ℕ) where
  value-at : (k n i : ℕ) → i < n → get_or (map f (numbers k n)) i 0 ≡ f (suc (k + i))
  unfolding numbers
  value-at k zero i h = absurd (not-suc-le-zero h)
  value-at k (suc n) zero h = ap f (omega arith)
  value-at k (suc n) (suc i) h = value-at (suc k) n i (le_of_suc-le-suc h) ∙ ap f (omega arith)

  pub row_at : (v i : ℕ) → i < v → get_or (map f (numbers 0 v)) i 0 ≡ f (suc i)
  row_at v i h = value-at 0 v i h ∙ ap (λ n. f (suc n)) (zero-add i)

  -- of every number, where f is 0 for those that are no variable of the row
  pub row-entry : (v x : ℕ) → f 0 ≡ 0 → ((y : ℕ) → v < y → f y ≡ 0) → entry (map f (numbers 0 v)) x ≡ f x
  unfolding entry
  row-entry v zero z past = sym z
  row-entry v (suc i) z past = go (either (ltb i v))
    where
      go : (ltb i v ≡ true) ⊎ (ltb i v ≡ false) → get_or (map f (numbers 0 v)) i 0 ≡ f (suc i)
      go (inl h) = row_at v i (ltb_yes i v h)
      go (inr h) =
          let k = ltb_no i v h in
          get_or-eq_default (map f (numbers 0 v)) 0 (omega (arith, row-length f v)) ∙ sym (past (suc i) (omega arith))

-- ---- one variable declared

module _ (bound x kind s : ℕ) (sets kinds : List ℕ) where
  refused-row : declarable bound kinds x ≡ false → Declared bound x kind s sets kinds (some (refusal 12)) sets kinds
  refused-row e = record { told = rw e; sets-are = rw e; kinds-are = rw e }

  pub declared-above : bound < x → Declared bound x kind s sets kinds (some (refusal 12)) sets kinds
  unfolding declarable
  declared-above h = refused-row (rw (lt-leb x bound h))

  pub declared-twice : (get_or kinds (x - 1) 0 ≡ 0 → ⊥) → Declared bound x kind s sets kinds (some (refusal 12)) sets kinds
  unfolding declarable
  declared-twice n = refused-row (rw (ne_eqb (get_or kinds (x - 1) 0) 0 n) (and-false (leb x bound)))

  pub declared-new : x ≤ bound → get_or kinds (x - 1) 0 ≡ 0 → {sets' : List ℕ} → sets' ≡ set sets (x - 1) s → Declared bound x kind s sets kinds none sets' (set kinds (x - 1) kind)
  unfolding declarable
  declared-new h e w = record { told = rw (le-leb x bound h, e); sets-are = rw (le-leb x bound h, e) w; kinds-are = rw (le-leb x bound h, e) }

-- ---- unions

pub union_assoc : (a b c : Set) → union (union a b) c ≡ union a (union b c)
union_assoc a b c =
    bit-ext _ _ (λ i. rw (bit-or (bit_or a b) c i, bit-or a b i, bit-or a (bit_or b c) i, bit-or b c i) (or_assoc (bit a i) (bit b i) (bit c i)))

-- ---- the members of a set: the first i are universals, with the union u of their sets

pub record Members (sets kinds xs : List ℕ) (i u : ℕ) : Type 0 where
  pub all : all_of (is_universal kinds) (drop i xs) ≡ all_of (is_universal kinds) xs
  pub union-is : union u (union_of sets (drop i xs)) ≡ union_of sets xs

module _ (sets kinds xs : List ℕ) where
  pub members-start : Members sets kinds xs 0 0
  members-start = record { all = refl; union-is = or_zero_l (union_of sets xs) }

  module _ (i : ℕ) {u k : ℕ} (inside : i < length xs) (h : Members sets kinds xs i u) (kind : k ≡ entry kinds (get_or xs i 0)) where
    tail : drop i xs ≡ get_or xs i 0 ∷ drop (suc i) xs
    tail = drop-cons xs i 0 inside

    pub members-stop : (k ≡ 1 → ⊥) → all_of (is_universal kinds) xs ≡ false
    unfolding all_of is_universal
    members-stop n = sym h.all ∙ ap (all_of (is_universal kinds)) tail ∙ rw (← kind, ne_eqb k 1 n)

    pub members-next : {s w : ℕ} → k ≡ 1 → s ≡ entry sets (get_or xs i 0) → w ≡ union u s → Members sets kinds xs (i + 1) w
    unfolding all_of is_universal union_of
    members-next {s} {w} e f g = rw add-one (record {
      all = sym (ap (all_of (is_universal kinds)) tail ∙ rw (← kind, e)) ∙ h.all;
      union-is = rw (g, f) (union_assoc u (entry sets (get_or xs i 0)) (union_of sets (drop (suc i) xs)) ∙ sym (ap (λ l. union u (union_of sets l)) tail)) ∙ h.union-is;
    })

  pub members-all : (i : ℕ) {u : ℕ} → length xs ≤ i → Members sets kinds xs i u → (all_of (is_universal kinds) xs ≡ true) × (u ≡ union_of sets xs)
  unfolding all_of union_of
  members-all i {u} e h =
      let none : drop i xs ≡ [] = drop_of_length-le xs {i = i} e in
      (sym (ap (all_of (is_universal kinds)) (sym none) ∙ h.all), sym (or_zero_r u) ∙ ap (λ l. union u (union_of sets l)) (sym none) ∙ h.union-is)
