-- The test 12 of declared variables (dqbf, `fresh`), one variable after the other.
--     elem-append, fresh-same, fresh-append      a list in two parts
--     fresh-next, fresh-stop                     one variable more, which passes or not
--     fresh-one                                  one variable alone
--     many-fresh                                 fresh variables on an `a` line are as many different numbers as there are
-- Assumes nothing.
use mathlib.Core.Path.{◌≡◌, refl, ap, sym, ◌∙◌}
use mathlib.Core.Bool.{Bool, true, false, not, ◌&&◌, ◌||◌, and_assoc, and-true, true≢false}
use mathlib.Core.List.{List, [], ◌∷◌, ◌++◌, append-nil}
use Prim.Native.Nat.{ℕ, ◌+◌, ◌≤◌, ◌<◌}
use native.Mathlib.Numerals.{add-one}
use lib.Dec.{leb, eqb}
use lib.ListN.{length, get_or, take, drop, take-append-drop, length-append}
use lib.Seq.{take-suc}
use Rattle.dqbf.specs.Formula.{Declaration, declared, universals_of}
use Rattle.dqbf.specs.Reading.{elem, different, fresh}
use Rattle.dqbf.proofs.Laws.Tests.{and_left, and_right, leb_yes, never}
use Rattle.dqbf.proofs.Laws.Counting.{Once, once-append, fresh-apart, fresh-once, different-once}
use Rattle.dqbf.proofs.Reading.Lines.{once-universals, universals-declared}

or_assoc : (a b c : Bool) → (a || (b || c)) ≡ ((a || b) || c)
or_assoc true b c = refl
or_assoc false b c = refl

or_swap : (a b c : Bool) → (a || (b || c)) ≡ (b || (a || c))
or_swap true true c = refl
or_swap true false c = refl
or_swap false b c = refl

pub elem-append : (x : ℕ) (xs ys : List ℕ) → elem x (xs ++ ys) ≡ (elem x xs || elem x ys)
unfolding elem
elem-append x [] ys = refl
elem-append x (y ∷ xs) ys = rw (elem-append x xs ys) (or_assoc (eqb x y) (elem x xs) (elem x ys))

pub fresh-same : (v : ℕ) (seen seen' xs : List ℕ) → ((x : ℕ) → elem x seen ≡ elem x seen') → fresh v seen xs ≡ fresh v seen' xs
unfolding fresh elem
fresh-same v seen seen' [] e = refl
fresh-same v seen seen' (x ∷ xs) e = rw (e x, fresh-same v (x ∷ seen) (x ∷ seen') xs (λ y. ap (λ (b : Bool). eqb y x || b) (e y)))

pub fresh-append : (v : ℕ) (seen xs ys : List ℕ) → fresh v seen (xs ++ ys) ≡ (fresh v seen xs && fresh v (seen ++ xs) ys)
unfolding fresh
fresh-append v seen [] ys = rw (append-nil seen)
fresh-append v seen (x ∷ xs) ys =
    rw (fresh-append v (x ∷ seen) xs ys, fresh-same v (x ∷ (seen ++ xs)) (seen ++ (x ∷ xs)) ys moved)
    (sym (and_assoc (leb x v && not (elem x seen)) (fresh v (x ∷ seen) xs) (fresh v (seen ++ (x ∷ xs)) ys)))
  where
    moved : (y : ℕ) → elem y (x ∷ (seen ++ xs)) ≡ elem y (seen ++ (x ∷ xs))
    moved y = unfold elem in rw (elem-append y seen xs, elem-append y seen (x ∷ xs)) (or_swap (eqb y x) (elem y seen) (elem y xs))

-- ---- the first i variables passed

module _ (v : ℕ) (seen xs : List ℕ) (i : ℕ) (h : i < length xs) (passed : fresh v seen (take i xs) ≡ true) where
  one_more : fresh v seen (take (i + 1) xs) ≡ fresh v (seen ++ take i xs) (get_or xs i 0 ∷ [])
  one_more = rw (add-one, take-suc xs i 0 h) (fresh-append v seen (take i xs) (get_or xs i 0 ∷ []) ∙ rw passed)

  pub fresh-next : fresh v (seen ++ take i xs) (get_or xs i 0 ∷ []) ≡ true → fresh v seen (take (i + 1) xs) ≡ true
  fresh-next e = one_more ∙ e

  pub fresh-stop : fresh v (seen ++ take i xs) (get_or xs i 0 ∷ []) ≡ false → fresh v seen xs ≡ false
  fresh-stop e =
      ap (fresh v seen) (sym (take-append-drop (i + 1) xs)) ∙ fresh-append v seen (take (i + 1) xs) (drop (i + 1) xs) ∙ rw (one_more ∙ e)

-- ---- one variable

module _ (v : ℕ) (seen : List ℕ) (x : ℕ) where
  pub fresh-one : fresh v seen (x ∷ []) ≡ (leb x v && not (elem x seen))
  unfolding fresh
  fresh-one = and-true (leb x v && not (elem x seen))

  module _ (e : fresh v seen (x ∷ []) ≡ true) where
    pub fresh-low : x ≤ v
    fresh-low = leb_yes x v (and_left (leb x v) (not (elem x seen)) (sym fresh-one ∙ e))

    pub fresh-new : elem x seen ≡ false
    fresh-new = never (elem x seen) (λ t. true≢false (sym (and_right (leb x v) (not (elem x seen)) (sym fresh-one ∙ e)) ∙ ap not t))

-- ---- different numbers

module _ (v : ℕ) (ds : List Declaration) (xs : List ℕ) (once : Once (declared ds)) (e : fresh v (declared ds) xs ≡ true) where
  pub many-fresh : length (different (universals_of ds ++ xs)) ≡ length (universals_of ds) + length xs
  many-fresh = ap length (different-once (universals_of ds ++ xs) all) ∙ length-append (universals_of ds) xs
    where
      all : Once (universals_of ds ++ xs)
      all = once-append (universals_of ds) xs (once-universals ds once) (fresh-once v (declared ds) xs e) (λ x p q. fresh-apart v (declared ds) xs e x q (universals-declared ds x p))
