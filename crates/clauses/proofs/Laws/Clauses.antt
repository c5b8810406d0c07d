-- The operations on one clause (dqbf's specs/Literal.antt, specs/Places.antt), a literal at a time: `place_of`, `pick`, `covers`.
-- Of the first: by what `position` tells. Of a part: by the lowest bit of its mask.
-- `place-holds`, `without-place`: what the place of a literal tells of `holds` and `without`.
use mathlib.Core.Path.{◌≡◌, refl, ap, sym, ◌∙◌}
use mathlib.Core.Logic.{◌⊎◌, inl, inr, ◌≢◌}
use mathlib.Core.Bool.{Bool, true, false, cond, ◌&&◌, ◌||◌}
use mathlib.Core.List.Memᴰ
use mathlib.Core.List.{[], ◌∷◌, ◌++◌}
use Rattle.std.specs.Prelude.{Option, Some, None, MatchOption}
use Rattle.std.specs.List.{AllWithin, HoldsAt}
use Prim.Native.Nat.{ℕ, zero, suc, ◌+◌, ◌-◌, ◌*◌, ◌/◌, ◌%◌, ◌≤◌, ◌<◌, ◌^◌, max}
use native.Mathlib.Nat.{mod-lt, one-mul, pow-suc, suc-add, zero-add, not-suc-le-zero, le_of_suc-le-suc}
use native.Mathlib.Decide.{dec_lt}
use native.Mathlib.Omega.{arith}
use borrow.Author.Tests.{eq-eqb, ne_eqb, eqb-true, eqb-false, lt-ltb, le-ltb}
use lib.Bits.{bit_and, bit_or, or_step}
use lib.Count.{count_trailing_zeros, under, trailing_of_zero}
use lib.Dec.{eqb, ltb, eqb-suc-zero}
use lib.IntN.{ℤ, pos, nat_abs}
use lib.ListN.{length, drop, get_or}
use lib.Pow.{pow_pos, shl_exact}
use Rattle.dqbf.specs.Limits.{width_limit}
use Rattle.dqbf.specs.Literal.{Clause, ◌∈◌, same, holds, without, pick, covers}
use Rattle.dqbf.specs.Set.{bit}
use Rattle.dqbf.specs.Valid.{Ascending}
use Rattle.dqbf.proofs.Laws.Clauses.{pick-short}
use Rattle.dqbf.proofs.Laws.Literals.{same-is, same-same, same_not}
use Rattle.dqbf.proofs.Laws.Tests.{either, or_no}
use Rattle.dqbf.proofs.Laws.Words.{bit-or, bit-ext, bit-zero, digit, lowest-odd, lowest-even}
use Rattle.clauses.specs.Places.{place_of, but_at}
use Rattle.clauses.proofs.Laws.Places.{list-front, list-end}

-- ---- place_of

ltb-suc : (a b : ℕ) → ltb (suc a) (suc b) ≡ ltb a b
ltb-suc a b = go (dec_lt a b)
  where
    go : Dec (a < b) → ltb (suc a) (suc b) ≡ ltb a b
    go (yes h) = lt-ltb (suc a) (suc b) (omega arith) ∙ sym (lt-ltb a b h)
    go (no h) = le-ltb (suc a) (suc b) (omega arith) ∙ sym (le-ltb a b (omega arith))

-- what `position` tells of a literal in a clause
abbrev pub Found : ℤ → Clause → Option ℕ → Type 0
Found l C r =
    MatchOption r (AllWithin (λ x. x ≢ l) C 0 (length C)) (λ i. (i < length C) × HoldsAt (λ x. x ≡ l) C i × AllWithin (λ x. x ≢ l) C 0 i)

module _ (l : ℤ) where
  -- no literal before place i is l: the place is i or one behind it
  place-behind : (C : Clause) (i : ℕ) → i ≤ length C → AllWithin (λ x. x ≢ l) C 0 i → place_of l C ≡ i + place_of l (drop i C)
  unfolding place_of
  place-behind C zero h n = sym (zero-add (place_of l C))
  place-behind [] (suc i) h n = absurd (not-suc-le-zero h)
  place-behind (k ∷ C) (suc i) h n =
      rw (same_not k l (n 0 (pos 0) (omega arith) (omega arith)), suc-add i (place_of l (drop i C)))
      (ap suc (place-behind C i (le_of_suc-le-suc h) (λ j d a b. n (suc j) d (omega arith) (omega arith))))

  pub place-here : (C : Clause) (i : ℕ) → i < length C → get_or C i (pos 0) ≡ l → AllWithin (λ x. x ≢ l) C 0 i → (i ≡ place_of l C) × (i < length C)
  unfolding place_of
  place-here C i h there n =
      let e = place-behind C i (omega arith) n in
      let here : place_of l (drop i C) ≡ 0 = rw (list-front C i (pos 0) h, there, same-same l) in
      (omega (arith, e, here), h)

  pub place-found : (C : Clause) (r : Option ℕ) → Found l C r → MatchOption r (place_of l C ≡ length C) (λ i. (i ≡ place_of l C) × (i < length C))
  unfolding place_of
  place-found C None n =
      let e = place-behind C (length C) (omega arith) n in
      let none : place_of l (drop (length C) C) ≡ 0 = rw (list-end C (length C) (omega arith)) in
      omega (arith, e, none)
  place-found C (Some i) (h, there, n) =
      let e = place-behind C i (omega arith) n in
      let here : place_of l (drop i C) ≡ 0 = rw (list-front C i (pos 0) h, there (pos 0), same-same l) in
      (omega (arith, e, here), h)

  -- the literal stands in the clause exactly if its place does
  pub place-holds : (C : Clause) → holds l C ≡ ltb (place_of l C) (length C)
  unfolding holds place_of
  place-holds [] = refl
  place-holds (k ∷ C) = go (same k l) (place-holds C)
    where
      go : (b : Bool) → holds l C ≡ ltb (place_of l C) (length C) → (b || holds l C) ≡ ltb (cond b 0 (suc (place_of l C))) (suc (length C))
      go true q = sym (lt-ltb 0 (suc (length C)) (omega arith))
      go false q = q ∙ sym (ltb-suc (place_of l C) (length C))

  without-none : (C : Clause) → ((k : ℤ) → k ∈ C → k ≢ l) → without l C ≡ C
  unfolding without
  without-none [] n = refl
  without-none (k ∷ C) n = rw (same_not k l (n k (Memᴰ.head refl)), without-none C (λ j q. n j (Memᴰ.tail q)))

  -- an ascending clause holds it once
  pub without-place : (C : Clause) → Ascending C → place_of l C < length C → but_at (place_of l C) C ≡ without l C
  unfolding place_of without Ascending
  without-place [] a h = refl
  without-place (k ∷ C) a h = go (same k l) refl h (without-place C a.1)
    where
      go : (b : Bool) → same k l ≡ b → cond b 0 (suc (place_of l C)) < suc (length C) → (place_of l C < length C → but_at (place_of l C) C ≡ without l C)
          → but_at (cond b 0 (suc (place_of l C))) (k ∷ C) ≡ cond b (without l C) (k ∷ without l C)
      go true e q rest = sym (without-none C (λ j m s. let u = a.0 j m in let v = ap nat_abs (s ∙ sym (same-is k l e)) in absurd (omega arith)))
      go false e q rest = rw (suc-add (place_of l C) 1) (ap (λ (D : Clause). k ∷ D) (rest (omega arith)))

-- ---- pick

-- a part has no more literals than the clause
pub pick-few : (mask : ℕ) (C : Clause) → length (pick mask C) ≤ length C
pick-few mask C = go (pick-short mask C)
  where
    go : (pick mask C ≡ C) ⊎ (length (pick mask C) < length C) → length (pick mask C) ≤ length C
    go (inl e) = omega (arith, ap length e)
    go (inr h) = omega arith

-- the literal at the mask's lowest bit is the first one picked; d bits are looked at

bit-there : (d n w : ℕ) → n ≤ d → count_trailing_zeros d w < n → 0 < w
bit-there d n zero h k = absurd (omega (arith, trailing_of_zero d))
bit-there d n (suc w) h k = omega arith

pick_first : (d : ℕ) (C : Clause) (w : ℕ) → length C ≤ d → count_trailing_zeros d w < length C → pick w C ≡ get_or C (count_trailing_zeros d w) (pos 0) ∷ pick (bit_and w (w - 1)) C
unfolding pick count_trailing_zeros
pick_first d [] w h k = absurd (not-suc-le-zero k)
pick_first zero (l ∷ C) w h k = absurd (not-suc-le-zero h)
pick_first (suc d) (l ∷ C) w h k = go (digit w) k (pick_first d C (w / 2) (omega arith))
  where
    go : (w % 2 ≡ 0) ⊎ (w % 2 ≡ 1) → under (w % 2) (count_trailing_zeros d (w / 2)) < suc (length C)
        → (count_trailing_zeros d (w / 2) < length C → pick (w / 2) C ≡ get_or C (count_trailing_zeros d (w / 2)) (pos 0) ∷ pick (bit_and (w / 2) (w / 2 - 1)) C)
        → pick w (l ∷ C) ≡ get_or (l ∷ C) (under (w % 2) (count_trailing_zeros d (w / 2))) (pos 0) ∷ pick (bit_and w (w - 1)) (l ∷ C)
    go (inl p) k r =
        let t : count_trailing_zeros d (w / 2) < length C = le_of_suc-le-suc (rw p at k) in
        let half = bit-there d (length C) (w / 2) (omega arith) t in
        let e : bit_and (w / 2) (w / 2 - 1) * 2 % 2 ≡ 0 = omega arith in
        let f : bit_and (w / 2) (w / 2 - 1) * 2 / 2 ≡ bit_and (w / 2) (w / 2 - 1) = omega arith in
        rw (p, lowest-even w p (omega arith), e, f) (r t)
    go (inr p) k r =
        let e : w / 2 * 2 % 2 ≡ 0 = omega arith in
        let f : w / 2 * 2 / 2 ≡ w / 2 = omega arith in
        rw (p, lowest-odd w p, e, f)

pick-none : (d : ℕ) (C : Clause) (w : ℕ) → length C ≤ d → length C ≤ count_trailing_zeros d w → pick w C ≡ []
unfolding pick count_trailing_zeros
pick-none d [] w h k = refl
pick-none zero (l ∷ C) w h k = absurd (not-suc-le-zero h)
pick-none (suc d) (l ∷ C) w h k = go (digit w) k (pick-none d C (w / 2) (omega arith))
  where
    go : (w % 2 ≡ 0) ⊎ (w % 2 ≡ 1) → suc (length C) ≤ under (w % 2) (count_trailing_zeros d (w / 2)) → (length C ≤ count_trailing_zeros d (w / 2) → pick (w / 2) C ≡ []) → pick w (l ∷ C) ≡ []
    go (inl p) k r = let t : suc (length C) ≤ suc (count_trailing_zeros d (w / 2)) = rw p at k in rw p (r (omega arith))
    go (inr p) k r = let t : suc (length C) ≤ 0 = rw p at k in absurd (omega arith)

-- the lowest bit of a mask of 32 bits is at `at`
module _ (C : Clause) (w at : ℕ) (narrow : length C ≤ width_limit) (lowest : at ≡ count_trailing_zeros 32 w) where
  pub lowest-there : at < length C → 0 < w
  lowest-there h = bit-there 32 (length C) w narrow (rw lowest at h)

  pub lowest-picked : at < length C → pick w C ≡ get_or C at (pos 0) ∷ pick (bit_and w (w - 1)) C
  lowest-picked h = rw lowest (pick_first 32 C w narrow (rw lowest at h))

  pub none-picked : length C ≤ at → pick w C ≡ []
  none-picked h = pick-none 32 C w narrow (rw lowest at h)

  -- the same with one more literal behind those picked
  pub lowest-before : (l : ℤ) → at < length C → pick w C ++ (l ∷ []) ≡ get_or C at (pos 0) ∷ (pick (bit_and w (w - 1)) C ++ (l ∷ []))
  lowest-before l h = ap (λ (D : Clause). D ++ (l ∷ [])) (lowest-picked h)

  pub last-left : (l : ℤ) → length C ≤ at → pick w C ++ (l ∷ []) ≡ l ∷ []
  last-left l h = ap (λ (D : Clause). D ++ (l ∷ [])) (none-picked h)

-- ---- covers: the bits of the two masks together are those below the clause's length

no_bits : (a b : ℕ) → (eqb a 0 && eqb b 0) ≡ eqb (bit_or a b) 0
no_bits zero b = refl
no_bits (suc a) b = rw (eqb-suc-zero a) (sym (ne_eqb (bit_or (suc a) b) 0 (λ e. absurd (omega (arith, none (suc a) b e)))))
  where
    none : (a b : ℕ) → bit_or a b ≡ 0 → a ≡ 0
    none a b e = bit-ext a 0 (λ i. (or_no (bit a i) (bit b i) (sym (bit-or a b i) ∙ ap (λ (x : ℕ). bit x i) e ∙ bit-zero i)).0 ∙ sym (bit-zero i))

-- d and e are the lowest bits, Q the other bits of both, P the power of 2 for one place less
module _ (Q P : ℕ) (some : 0 < P) where
  same_rest : {n : ℕ} → n ≡ Q * 2 + 1 → eqb Q (P - 1) ≡ eqb n (P * 2 - 1)
  same_rest {n} e = go (either (eqb Q (P - 1)))
    where
      go : (eqb Q (P - 1) ≡ true) ⊎ (eqb Q (P - 1) ≡ false) → eqb Q (P - 1) ≡ eqb n (P * 2 - 1)
      go (inl q) = q ∙ sym (eq-eqb n (P * 2 - 1) (omega (arith, eqb-true Q (P - 1) q)))
      go (inr q) = let ne : Q ≢ P - 1 = eqb-false Q (P - 1) q in q ∙ sym (ne_eqb n (P * 2 - 1) (λ t. ne (omega arith)))

  one_place : (d e : ℕ) → d < 2 → e < 2 → ((eqb d 1 || eqb e 1) && eqb Q (P - 1)) ≡ eqb (Q * 2 + max d e) (P * 2 - 1)
  one_place zero zero h k = sym (ne_eqb (Q * 2 + 0) (P * 2 - 1) (λ t. absurd (omega arith)))
  one_place zero (suc zero) h k = same_rest refl
  one_place (suc zero) zero h k = same_rest refl
  one_place (suc zero) (suc zero) h k = same_rest refl
  one_place zero (suc (suc e)) h k = absurd (omega arith)
  one_place (suc zero) (suc (suc e)) h k = absurd (omega arith)
  one_place (suc (suc d)) e h k = absurd (omega arith)

pub covers-bits : (left right : ℕ) (C : Clause) → covers left right C ≡ eqb (bit_or left right) (2 ^ length C - 1)
unfolding covers
covers-bits left right [] = no_bits left right
covers-bits left right (l ∷ C) =
    rw (covers-bits (left / 2) (right / 2) C, or_step left right, pow-suc 2 (length C))
    (one_place (bit_or (left / 2) (right / 2)) (2 ^ length C) (pow_pos (length C)) (left % 2) (right % 2) (mod-lt left (omega arith)) (mod-lt right (omega arith)))

-- the power of 2 for a width, as the machine shifts it
pub shifted : (n : ℕ) → n ≤ width_limit → (1 * 2 ^ n) % 2 ^ 64 ≡ 2 ^ n
shifted n h = shl_exact {a = 1} 1 n 64 (omega arith) (omega arith) ∙ one-mul (2 ^ n)
