-- The search for the first family that is left, and what it says of the formula.
use mathlib.Core.Path.{◌≡◌, refl, sym, ◌∙◌, ap, ap₂}
use mathlib.Core.Bool.{Bool, true, false, cond, ◌&&◌, ◌||◌}
use mathlib.Core.Option.{Option, none, some}
use mathlib.Core.List.{List, [], ◌∷◌}
use Prim.Native.Nat.{ℕ, zero, suc, ◌+◌, ◌-◌, ◌*◌, ◌%◌, ◌^◌, ◌≤◌, ◌<◌}
use native.Mathlib.Numerals.{add-one}
use native.Mathlib.Decide.{dec_lt}
use native.Mathlib.Omega.{arith}
use lib.Dec.{eqb}
use lib.IntN.{ℤ, pos, negsuc}
use lib.ListN.{length, take, replicate, length-replicate}
use lib.Seq.{length-take-le}
use lib.Pow.{pow-add}
use Rattle.std.proofs.Math.Nat.{pow-le-pow_right}
use Rattle.dqbf.specs.Literal.{Clause}
use Rattle.dqbf.specs.Set.{Set, size}
use Rattle.dqbf.specs.Meaning.{is}
use Rattle.dqbf.specs.Model.{Model, universal_count}
use Rattle.dqbf.specs.Spelled.{formula_in}
use Rattle.sets.proofs.Laws.Four.{shifted}
use Rattle.tables.specs.FormulaEntries.{declarations}
use Rattle.tables.proofs.Laws.FormulaEntries.{kind-declared, set-declared}
use Rattle.family_bits.specs.Left.{word_bits, is_left, all_left, Narrowed}
use Rattle.family_bits.proofs.Laws.Left.{every-left}
use Rattle.deciding.proofs.Answers.{few-families}
use Rattle.deciding.specs.Deciding.{table_bits, offset, total_bits, function_at, value_at, literal_at, clause_at, all_below, always_true, all_true, makes_true, least_from, first_family}

-- ---- number by number

module _ (P : ℕ → Bool) (n k : ℕ) (s : least_from k (n - k) P ≡ least_from 0 n P) where
  step : k < n → least_from k (n - k) P ≡ cond (P k) (some k) (least_from (k + 1) (n - (k + 1)) P)
  unfolding least_from
  step h =
      let e : n - k ≡ suc (n - (k + 1)) = omega arith in
      ap (λ (d : ℕ). least_from k d P) e ∙ ap (λ (j : ℕ). cond (P k) (some k) (least_from j (n - (k + 1)) P)) (sym (add-one k))

  pub search-next : k < n → P k ≡ false → least_from (k + 1) (n - (k + 1)) P ≡ least_from 0 n P
  search-next h e = sym (step h ∙ rw e) ∙ s

  pub search-found : k < n → P k ≡ true → some k ≡ least_from 0 n P
  search-found h e = sym (step h ∙ rw e) ∙ s

  pub search-none : n ≤ k → none ≡ least_from 0 n P
  unfolding least_from
  search-none h = let e : n - k ≡ 0 = omega arith in sym (ap (λ (d : ℕ). least_from k d P) e) ∙ s

pub least-same : (k n : ℕ) (P Q : ℕ → Bool) → ((j : ℕ) → k ≤ j → j < k + n → P j ≡ Q j) → least_from k n P ≡ least_from k n Q
unfolding least_from
least-same k zero P Q h = refl
least-same k (suc n) P Q h =
    ap₂ (λ (b : Bool) (r : Option ℕ). cond b (some k) r) (h k (omega arith) (omega arith)) (least-same (suc k) n P Q (λ j a b. h j (omega arith) (omega arith)))

-- 64 to a word
pub enough-words : (b : ℕ) → b ≤ 16 → (2 ^ b ≤ 64 * ((1 * 2 ^ (b - 6)) % 18446744073709551616)) × ((1 * 2 ^ (b - 6)) % 18446744073709551616 ≤ 1024)
enough-words b h = rw (shifted (b - 6) (omega (arith, h))) (go (dec_lt 6 b))
  where
    go : Dec (6 < b) → (2 ^ b ≤ 64 * 2 ^ (b - 6)) × (2 ^ (b - 6) ≤ 1024)
    go (yes l) =
        let e : b ≡ 6 + (b - 6) = omega (arith, l) in
        let p : 2 ^ b ≡ 2 ^ 6 * 2 ^ (b - 6) = ap (2 ^◌) e ∙ pow-add 2 6 (b - 6) in
        let f = few-families b h in
        (omega arith, omega arith)
    go (no l) =
        let e : b - 6 ≡ 0 = omega (arith, l) in
        let p : 2 ^ b ≤ 2 ^ 6 = pow-le-pow_right {n = 2} (omega arith) {i = b} {j = 6} (omega (arith, l)) in
        rw e (p, omega arith)

-- ---- the clauses of a model are asked only as clauses

module _ (kinds : List ℕ) (sets : List Set) (Cs : List Clause) where
  abbrev m : Model
  m = declarations kinds sets

  abbrev n : Model
  n = formula_in kinds sets Cs

  count_same : universal_count m ≡ universal_count n
  unfolding universal_count declarations
  count_same = refl

  offset-same : (x : ℕ) → offset m x ≡ offset n x
  unfolding offset table_bits
  offset-same zero = refl
  offset-same (suc x) = ap₂ ◌+◌ (offset-same x) (ap₂ (λ (k : ℕ) (s : Set). cond (eqb k 2) (2 ^ size s) 0) (sym (kind-declared kinds sets Cs x)) (sym (set-declared kinds sets Cs x)))

  pub total-same : total_bits m ≡ total_bits n
  unfolding total_bits declarations
  total-same = offset-same (suc (length kinds))

  module _ (f : ℕ) where
    value_same : (x : ℕ) (w : Set) → value_at m f x w ≡ value_at n f x w
    unfolding value_at function_at
    value_same x w = rw (sym (kind-declared kinds sets Cs x), sym (set-declared kinds sets Cs x), count_same, offset-same x)

    literal-same : (w : Set) (l : ℤ) → literal_at m f w l ≡ literal_at n f w l
    unfolding literal_at
    literal-same w (pos zero) = refl
    literal-same w (pos (suc k)) = ap (is true) (value_same (suc k) w)
    literal-same w (negsuc k) = ap (is false) (value_same (suc k) w)

    clause-same : (w : Set) (C : Clause) → clause_at m f w C ≡ clause_at n f w C
    unfolding clause_at
    clause-same w [] = refl
    clause-same w (l ∷ C) = ap₂ ◌||◌ (literal-same w l) (clause-same w C)

    below-same : (k : ℕ) (P Q : ℕ → Bool) → ((i : ℕ) → P i ≡ Q i) → all_below k P ≡ all_below k Q
    unfolding all_below
    below-same zero P Q h = refl
    below-same (suc k) P Q h = ap₂ ◌&&◌ (h 0) (below-same k (λ i. P (suc i)) (λ i. Q (suc i)) (λ i. h (suc i)))

    always-same : (C : Clause) → always_true m f C ≡ always_true n f C
    unfolding always_true
    always-same C = ap (λ (k : ℕ). all_below (2 ^ k) (λ w. clause_at m f w C)) count_same ∙ below-same (2 ^ universal_count n) (λ w. clause_at m f w C) (λ w. clause_at n f w C) (λ w. clause-same w C)

    all_same : (Ds : List Clause) → all_true m f Ds ≡ all_true n f Ds
    unfolding all_true
    all_same [] = refl
    all_same (C ∷ Ds) = ap₂ ◌&&◌ (always-same C) (all_same Ds)

    pub true_same : all_true m f Cs ≡ makes_true n f
    unfolding makes_true
    true_same = all_same Cs

  -- what is left of every family are those that make the formula true
  pub search_is : (bits k : ℕ) (words : List ℕ) → bits ≡ total_bits m → 2 ^ bits ≤ word_bits * k
      → Narrowed (all_left k) words (λ f. all_true m f Cs) → least_from 0 (2 ^ bits) (is_left words) ≡ first_family n
  unfolding first_family
  search_is bits k words e room r =
      ap (λ (d : ℕ). least_from 0 (2 ^ d) (is_left words)) (e ∙ total-same)
      ∙ least-same 0 (2 ^ total_bits n) (is_left words) (makes_true n) (λ f a b. at f (let z = ap (2 ^◌) (e ∙ total-same) in omega arith))
    where
      at : (f : ℕ) → f < word_bits * k → is_left words f ≡ makes_true n f
      at f h =
          r.kept f (rw (length-replicate {A = ℕ} k 18446744073709551615) h) ∙ ap (◌&& all_true m f Cs) (every-left k f h) ∙ true_same f

-- ---- parts of arrays

pub part_length : (n k x : ℕ) → n ≤ k → n ≡ length (take n (replicate k x))
part_length n k x h = sym (length-take-le n (replicate k x) (rw (length-replicate {A = ℕ} k x) h))

all-part : (n k : ℕ) → n ≤ k → take n (all_left k) ≡ all_left n
all-part zero k h = refl
all-part (suc n) zero h = absurd (omega arith)
all-part (suc n) (suc k) h = ap (18446744073709551615 ∷◌) (all-part n k (omega arith))

pub all_left-front : (n k : ℕ) → n ≤ k → take n (all_left k) ≡ all_left (length (take n (all_left k)))
all_left-front n k h = all-part n k h ∙ ap all_left (part_length n k 18446744073709551615 h)

pub all_room : (n k a : ℕ) → n ≤ k → a ≤ word_bits * n → a ≤ word_bits * length (take n (all_left k))
all_room n k a h l = let e = part_length n k 18446744073709551615 h in omega arith
