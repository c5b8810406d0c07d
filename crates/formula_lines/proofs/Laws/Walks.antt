-- Loops over a list of numbers, an item each turn: the first that passes a test, and a text for each that passes it (dqbf's `first_of`, `select`).
--     Walk                              at turn i the item, and what is left of the list
--     variables-walk, list-walk         over the variables 1 to n, and over a list
--     found-first                       the first that passes, as the library finds it
--     select-taken, -passed, -none      those that pass
--     each_fits, -next, -passed, -end   a text for each that passes
use mathlib.Core.Path.{◌≡◌, refl, sym}
use mathlib.Core.Bool.{Bool, true, false, cond}
use Rattle.std.specs.Prelude.{Some, find}
use Rattle.std.specs.Option.{unwrap_or}
use mathlib.Core.List.{List, [], ◌∷◌, ◌++◌, append-nil}
use Prim.Native.Nat.{ℕ, suc, ◌+◌, ◌-◌, ◌≤◌, ◌<◌}
use native.Mathlib.Numerals.{add-one}
use native.Mathlib.Omega.{arith}
use lib.ListN.{length, get_or, drop, drop_of_length-le}
use lib.Seq.{drop-cons}
use Rattle.dqbf.specs.Model.{numbers}
use Rattle.dqbf.specs.Spelled.{select, first_of}
use Rattle.words.specs.Laid.{Fits, Wrote}
use Rattle.words.specs.Listed.{listed}
use Rattle.words.proofs.Laws.Laid.{Writing, writing-next, writing-fits, writing-done}

pub record Walk (n : ℕ) (item : ℕ → ℕ) (rest : ℕ → List ℕ) : Type 0 where
  pub split : (i : ℕ) → i < n → rest i ≡ item i ∷ rest (i + 1)
  pub out : (i : ℕ) → n ≤ i → rest i ≡ []

pub variables-walk : (n : ℕ) → Walk n (λ i. i + 1) (λ i. numbers i (n - i))
unfolding numbers
variables-walk n = record {
  split = λ i h. let e : n - i ≡ suc (n - (i + 1)) = omega arith in rw (e, add-one i);
  out = λ i h. let e : n - i ≡ 0 = omega arith in rw e;
}

pub list-walk : (xs : List ℕ) → Walk (length xs) (λ i. get_or xs i 0) (λ i. drop i xs)
list-walk xs = record { split = λ i h. rw (add-one i) (drop-cons xs i 0 h); out = λ i h. drop_of_length-le xs {i = i} h }

-- ---- the first that passes

-- as the library finds it; 0: none passes
pub found-first : (P : ℕ → Bool) (xs : List ℕ) → unwrap_or (find P xs) 0 ≡ first_of P xs
unfolding first_of
found-first P [] = refl
found-first P (x ∷ xs) = go (P x) (found-first P xs)
  where
    go : (b : Bool) → unwrap_or (find P xs) 0 ≡ first_of P xs → unwrap_or (cond b (Some x) (find P xs)) 0 ≡ cond b x (first_of P xs)
    go true e = refl
    go false e = e

-- ---- those that pass

module _ {n : ℕ} {item : ℕ → ℕ} {rest : ℕ → List ℕ} (k : Walk n item rest) (P : ℕ → Bool) (i : ℕ) where
  pub select-taken : i < n → P (item i) ≡ true → select P (rest i) ≡ item i ∷ select P (rest (i + 1))
  unfolding select
  select-taken h t = rw (k.split i h, t)

  pub select-passed : i < n → P (item i) ≡ false → select P (rest i) ≡ select P (rest (i + 1))
  unfolding select
  select-passed h t = rw (k.split i h, t)

  pub select-none : n ≤ i → select P (rest i) ≡ []
  unfolding select
  select-none h = rw (k.out i h)

-- ---- a text for each that passes

module _ {n : ℕ} {item : ℕ → ℕ} {rest : ℕ → List ℕ} (k : Walk n item rest)
    (P : ℕ → Bool) (whole : List ℕ → List ℕ) (one : ℕ → List ℕ) (more : (x : ℕ) (xs : List ℕ) → whole (x ∷ xs) ≡ one x ++ whole xs) (i : ℕ) where
  abbrev left : ℕ → List ℕ
  left j = whole (select P (rest j))

  left-taken : i < n → P (item i) ≡ true → left i ≡ one (item i) ++ left (i + 1)
  left-taken h t = rw (select-taken k P i h t) (more (item i) (select P (rest (i + 1))))

  module _ {T : List ℕ} {at₀ : ℕ} {out₀ : List ℕ} {at : ℕ} {out : List ℕ} (w : Writing T at₀ out₀ (left i) at out) where
    pub each_fits : i < n → P (item i) ≡ true → Fits at₀ T → Fits at (one (item i))
    each_fits h t f = writing-fits (one (item i)) (left (i + 1)) (rw (left-taken h t) at w) f

    pub each_next : i < n → P (item i) ≡ true → {out' : List ℕ} {r : ℕ} → Wrote (one (item i)) at out out' r → Writing T at₀ out₀ (left (i + 1)) r out'
    each_next h t u = writing-next (one (item i)) (left (i + 1)) (rw (left-taken h t) at w) u

    pub each-passed : i < n → P (item i) ≡ false → Writing T at₀ out₀ (left (i + 1)) at out
    each-passed h t = rw (select-passed k P i h t) at w

    pub each-end : n ≤ i → Writing T at₀ out₀ (whole []) at out
    each-end h = rw (select-none k P i h) at w

-- ---- what is left is the closing 0

pub closing-fits : {T : List ℕ} {at₀ : ℕ} {out₀ : List ℕ} {at : ℕ} {out : List ℕ} → Writing T at₀ out₀ (listed []) at out → Fits at₀ T → Fits at (listed [])
closing-fits w f = writing-fits (listed []) [] (rw (sym (append-nil (listed []))) at w) f

pub closing-done : {T : List ℕ} {at₀ : ℕ} {out₀ : List ℕ} {at : ℕ} {out out' : List ℕ} {r : ℕ} → Writing T at₀ out₀ (listed []) at out → Wrote (listed []) at out out' r → Wrote T at₀ out₀ out' r
closing-done w u = writing-done (writing-next (listed []) [] (rw (sym (append-nil (listed []))) at w) u)
