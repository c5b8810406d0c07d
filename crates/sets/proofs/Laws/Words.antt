-- Words and the set that they hold, for any number of words, one word at a time.
use mathlib.Core.Path.{◌≡◌, refl, sym, ◌∙◌, ap, ap₂}
use mathlib.Core.Logic.{◌⊎◌, inl, inr}
use mathlib.Core.Bool.{true, false, ◌&&◌}
use mathlib.Core.List.{List, [], ◌∷◌}
use Prim.Native.Nat.{ℕ, zero, suc, ◌+◌, ◌*◌, ◌/◌, ◌%◌, ◌^◌, ◌<◌}
use native.Mathlib.Nat.{mod-lt}
use native.Mathlib.Omega.{arith}
use borrow.Author.Tests.{eq-eqb, ne_eqb, eqb-true, eqb-false}
use lib.Arith.{digits_lt}
use lib.Bits.{or_block, and_block, or_lt, and_lt}
use lib.Count.{ones_cat, ones-ones}
use lib.Dec.{eqb}
use lib.Pow.{pow-add, pow_pos, high, low, split, shr_lt}
use Rattle.dqbf.specs.Set.{Set, empty_set, union, common, inside, size}
use Rattle.dqbf.proofs.Laws.Tests.{either}
use Rattle.sets.specs.Words.{Words, as_set, words_of, union_each, common_each, inside_each, size_each, none_each, same_each}

-- ---- as_set, words_of

-- one word more
power : (n : ℕ) → 2 ^ (64 * suc n) ≡ 2 ^ (64 * n) * 2 ^ 64
power n = let e : 64 * suc n ≡ 64 * n + 64 = omega arith in rw (e, pow-add 2 (64 * n) 64)

pub set_below : (n : ℕ) (ws : List ℕ) → Words n ws → as_set ws < 2 ^ (64 * n)
unfolding Words as_set
set_below (suc n) [] h = elim h [ ]
set_below zero (w ∷ ws) h = elim h [ ]
set_below zero [] h = pow_pos 0
set_below (suc n) (w ∷ ws) h = rw (power n) (digits_lt (set_below n ws h.1) h.0)

pub words-of : (n : ℕ) (s : Set) → Words n (words_of n s)
unfolding Words words_of
words-of zero s = tt
words-of (suc n) s = (mod-lt s (pow_pos 64), words-of n (s / 2 ^ 64))

pub set_back : (n : ℕ) (s : Set) → s < 2 ^ (64 * n) → as_set (words_of n s) ≡ s
unfolding words_of as_set
set_back zero s h = omega arith
set_back (suc n) s h =
    let more : 64 * suc n ≡ 64 * n + 64 = omega arith in
    let up : s / 2 ^ 64 < 2 ^ (64 * n) = shr_lt (64 * n) 64 (rw more at h) in
    rw (set_back n (s / 2 ^ 64) up) (split s 64)

pub words_back : (n : ℕ) (ws : List ℕ) → Words n ws → words_of n (as_set ws) ≡ ws
unfolding Words words_of as_set
words_back (suc n) [] h = elim h [ ]
words_back zero (w ∷ ws) h = elim h [ ]
words_back zero [] h = refl
words_back (suc n) (w ∷ ws) h = rw (low (as_set ws) 64 h.0, high (as_set ws) 64 h.0, words_back n ws h.1)

-- ---- union, intersection, size

pub union-words : (n : ℕ) (s t : List ℕ) → Words n s → Words n t → Words n (union_each s t)
unfolding Words union_each
union-words (suc n) (v ∷ s) [] h k = elim k [ ]
union-words (suc n) [] t h k = elim h [ ]
union-words zero (v ∷ s) t h k = elim h [ ]
union-words zero [] (w ∷ t) h k = elim k [ ]
union-words zero [] [] h k = tt
union-words (suc n) (v ∷ s) (w ∷ t) h k = (or_lt 64 v w h.0 k.0, union-words n s t h.1 k.1)

pub union-set : (n : ℕ) (s t : List ℕ) → Words n s → Words n t → as_set (union_each s t) ≡ union (as_set s) (as_set t)
unfolding Words union_each as_set
union-set (suc n) (v ∷ s) [] h k = elim k [ ]
union-set (suc n) [] t h k = elim h [ ]
union-set zero (v ∷ s) t h k = elim h [ ]
union-set zero [] (w ∷ t) h k = elim k [ ]
union-set zero [] [] h k = refl
union-set (suc n) (v ∷ s) (w ∷ t) h k = rw (union-set n s t h.1 k.1) (sym (or_block 64 (as_set s) (as_set t) v w h.0 k.0))

pub common-words : (n : ℕ) (s t : List ℕ) → Words n s → Words n t → Words n (common_each s t)
unfolding Words common_each
common-words (suc n) (v ∷ s) [] h k = elim k [ ]
common-words (suc n) [] t h k = elim h [ ]
common-words zero (v ∷ s) t h k = elim h [ ]
common-words zero [] (w ∷ t) h k = elim k [ ]
common-words zero [] [] h k = tt
common-words (suc n) (v ∷ s) (w ∷ t) h k = (and_lt 64 v w h.0 k.0, common-words n s t h.1 k.1)

pub common-set : (n : ℕ) (s t : List ℕ) → Words n s → Words n t → as_set (common_each s t) ≡ common (as_set s) (as_set t)
unfolding Words common_each as_set
common-set (suc n) (v ∷ s) [] h k = elim k [ ]
common-set (suc n) [] t h k = elim h [ ]
common-set zero (v ∷ s) t h k = elim h [ ]
common-set zero [] (w ∷ t) h k = elim k [ ]
common-set zero [] [] h k = refl
common-set (suc n) (v ∷ s) (w ∷ t) h k = rw (common-set n s t h.1 k.1) (sym (and_block 64 (as_set s) (as_set t) v w h.0 k.0))

pub size-set : (n : ℕ) (s : List ℕ) → Words n s → size_each s ≡ size (as_set s)
unfolding Words size_each as_set
size-set (suc n) [] h = elim h [ ]
size-set zero (w ∷ s) h = elim h [ ]
size-set zero [] h = sym (ones-ones 0)
size-set (suc n) (w ∷ s) h = rw (size-set n s h.1, ones_cat 64 (as_set s) w h.0) (omega arith)

-- ---- equality, and what is told by it: emptiness and containment

both_equal : (h k v w : ℕ) → v < 2 ^ 64 → w < 2 ^ 64 → (eqb v w && eqb h k) ≡ eqb (h * 2 ^ 64 + v) (k * 2 ^ 64 + w)
both_equal h k v w p q = go (either (eqb v w)) (either (eqb h k))
  where
    go : (eqb v w ≡ true) ⊎ (eqb v w ≡ false) → (eqb h k ≡ true) ⊎ (eqb h k ≡ false) → (eqb v w && eqb h k) ≡ eqb (h * 2 ^ 64 + v) (k * 2 ^ 64 + w)
    go (inr e) d = rw e (sym (ne_eqb _ _ (λ z. eqb-false v w e (sym (low h 64 p) ∙ ap (λ x. x % 2 ^ 64) z ∙ low k 64 q))))
    go (inl e) (inr d) = rw (e, d) (sym (ne_eqb _ _ (λ z. eqb-false h k d (sym (high h 64 p) ∙ ap (λ x. x / 2 ^ 64) z ∙ high k 64 q))))
    go (inl e) (inl d) = rw (e, d) (sym (eq-eqb _ _ (ap₂ (λ (x y : ℕ). x * 2 ^ 64 + y) (eqb-true h k d) (eqb-true v w e))))

pub same_set : (n : ℕ) (s t : List ℕ) → Words n s → Words n t → same_each s t ≡ eqb (as_set s) (as_set t)
unfolding Words same_each as_set
same_set (suc n) (v ∷ s) [] h k = elim k [ ]
same_set (suc n) [] t h k = elim h [ ]
same_set zero (v ∷ s) t h k = elim h [ ]
same_set zero [] (w ∷ t) h k = elim k [ ]
same_set zero [] [] h k = refl
same_set (suc n) (v ∷ s) (w ∷ t) h k = rw (same_set n s t h.1 k.1) (both_equal (as_set s) (as_set t) v w h.0 k.0)

pub none-set : (n : ℕ) (s : List ℕ) → Words n s → none_each s ≡ eqb (as_set s) empty_set
unfolding Words none_each as_set
none-set (suc n) [] h = elim h [ ]
none-set zero (w ∷ s) h = elim h [ ]
none-set zero [] h = refl
none-set (suc n) (w ∷ s) h = rw (none-set n s h.1) (both_equal (as_set s) 0 w 0 h.0 (pow_pos 64))

inside-same : (s t : List ℕ) → inside_each s t ≡ same_each (common_each s t) s
unfolding inside_each same_each common_each
inside-same [] t = refl
inside-same (v ∷ s) [] = refl
inside-same (v ∷ s) (w ∷ t) = rw (inside-same s t)

pub inside-set : (n : ℕ) (s t : List ℕ) → Words n s → Words n t → inside_each s t ≡ inside (as_set s) (as_set t)
inside-set n s t h k =
    inside-same s t ∙ same_set n (common_each s t) s (common-words n s t h k) h ∙ ap (λ (x : ℕ). eqb x (as_set s)) (common-set n s t h k)
