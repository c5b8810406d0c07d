-- A list from place i on: the element in front, and the end. A clause without the literal at a place: how long it is, and where its literals stand.
-- Offers `list-front`, `list-end`; `but-length`, `but-front`, `skipped-within`.
use mathlib.Core.Path.{◌≡◌, ap, ◌∙◌}
use mathlib.Core.Logic.{◌⊎◌, inl, inr}
use mathlib.Core.List.{List, [], ◌∷◌}
use Prim.Native.Nat.{ℕ, ◌+◌, ◌-◌, ◌<◌, ◌≤◌}
use native.Mathlib.Decide.{dec_lt}
use native.Mathlib.Numerals.{add-one}
use native.Mathlib.Omega.{arith}
use borrow.Author.Tests.{le-leb, lt-leb}
use lib.Dec.{leb}
use lib.IntN.{ℤ}
use lib.ListN.{length, take, drop, get_or, drop_of_length-le, length-append, length-drop, get_or-append}
use lib.Seq.{drop-cons, length-take-le, get_or-take, get_or-drop, get_or-append-add}
use mir.Val.{bool_byte}
use Rattle.dqbf.specs.Literal.{Clause}
use Rattle.clauses.specs.Places.{but_at}

pub list-front : {A : Type 0} (xs : List A) (i : ℕ) (d : A) → i < length xs → drop i xs ≡ get_or xs i d ∷ drop (i + 1) xs
list-front xs i d h = rw (add-one i) (drop-cons xs i d h)

pub list-end : {A : Type 0} (xs : List A) (i : ℕ) → length xs ≤ i → drop i xs ≡ []
list-end xs i h = drop_of_length-le xs h

-- ---- a list without the element at place p (specs/Places.antt)

pub but-length : (C : Clause) (p : ℕ) → p < length C → length (but_at p C) ≡ length C - 1
but-length C p h = omega (arith, length-append (take p C) (drop (p + 1) C), length-take-le p C (omega arith), length-drop (p + 1) C)

-- literal i of what is left stands at place i + d of the clause
module _ (C : Clause) (p i : ℕ) {d : ℕ} (skips : d ≡ bool_byte (leb p i)) where
  either_side : ((i < p) × (d ≡ 0)) ⊎ ((p ≤ i) × (d ≡ 1))
  either_side = go (dec_lt i p)
    where
      go : Dec (i < p) → ((i < p) × (d ≡ 0)) ⊎ ((p ≤ i) × (d ≡ 1))
      go (yes h) = inl (h, rw (lt-leb p i h) at skips)
      go (no h) = let k : p ≤ i = omega arith in inr (k, rw (le-leb p i k) at skips)

  pub skipped-within : i < length C - 1 → i + d < length C
  skipped-within more = go either_side
    where
      go : ((i < p) × (d ≡ 0)) ⊎ ((p ≤ i) × (d ≡ 1)) → i + d < length C
      go (inl (h, e)) = omega arith
      go (inr (h, e)) = omega arith

  but-at : (l : ℤ) → p < length C → get_or (but_at p C) i l ≡ get_or C (i + d) l
  but-at l inside = go either_side
    where
      front : length (take p C) ≡ p
      front = length-take-le p C (omega arith)

      go : ((i < p) × (d ≡ 0)) ⊎ ((p ≤ i) × (d ≡ 1)) → get_or (but_at p C) i l ≡ get_or C (i + d) l
      go (inl (h, e)) =
          let here : i ≡ i + d = omega arith in
          get_or-append (take p C) (drop (p + 1) C) l i (omega (arith, front)) ∙ get_or-take p C i l h ∙ ap (λ (k : ℕ). get_or C k l) here
      go (inr (h, e)) =
          let split : i ≡ length (take p C) + (i - p) = omega (arith, front) in
          let behind : p + 1 + (i - p) ≡ i + d = omega arith in
          ap (λ (k : ℕ). get_or (but_at p C) k l) split
          ∙ get_or-append-add (take p C) (drop (p + 1) C) (i - p) l
          ∙ get_or-drop (p + 1) C (i - p) l
          ∙ ap (λ (k : ℕ). get_or C k l) behind

  pub but-front : (l : ℤ) → p < length C → i < length C - 1 → drop i (but_at p C) ≡ get_or C (i + d) l ∷ drop (i + 1) (but_at p C)
  but-front l inside more = rw (← but-at l inside) (list-front (but_at p C) i l (omega (arith, but-length C p inside)))
