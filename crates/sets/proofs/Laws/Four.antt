-- Four words by value, as the leaves have them: the laws of Words.antt and Sets.antt at this width.
use mathlib.Core.Path.{◌≡◌, refl, sym, subst, ◌∙◌, ap, ap₂}
use mathlib.Core.Logic.{◌⊎◌, inl, inr}
use mathlib.Core.Bool.{Bool, true, false, ◌&&◌}
use mathlib.Core.List.{List, [], ◌∷◌, ◌++◌}
use Prim.Native.Nat.{ℕ, zero, suc, ◌+◌, ◌-◌, ◌*◌, ◌/◌, ◌%◌, ◌^◌, ◌≤◌, ◌<◌, min}
use native.Mathlib.Nat.{one-mul, add-zero, zero-add, sub-zero, mul_assoc, mul_comm}
use borrow.Author.Tests.{leb-true, leb-false}
use native.Mathlib.Numerals.{add-one}
use native.Mathlib.Omega.{arith}
use lib.Bits.{bit_and, bit_or}
use lib.Count.{ones, ones-le}
use lib.Dec.{eqb, leb, lit<}
use lib.ListN.{length, get_or, set, take, drop, replicate, length-drop}
use lib.Pow.{pow-add, pow_pos, shl_exact, ones_split}
use lib.Seq.{get_or-drop, sets-eq}
use mir.Syntax.{w64}
use mir.Val.{Val}
use denote.Array.{Array, each}
use denote.Laws.{Is}
use denote.Plain.{UInt}
use denote.Shadow.{shadow}
use Rattle.std.specs.Cmp.Lexicographic.{pointwise}
use Rattle.dqbf.specs.Set.{empty_set, single, union, common, inside, size}
use Rattle.dqbf.proofs.Laws.Tests.{either}
use Rattle.sets.specs.Words.{Words, as_set, union_each, common_each, inside_each, size_each, none_each, same_each, as_sets, spare_in}
use Rattle.sets.proofs.Laws.Words.{union-set, common-set, inside-set, size-set, none-set, same_set}
use Rattle.sets.proofs.Laws.Sets.{set-zeros, sets-length, sets-at, sets-written, spare-written}

-- ---- an array by value

each_word : (n : ℕ) (xs : List ℕ) (us : List Val) → length xs ≡ n → shadow (each ℕ (UInt w64).own_val xs us) → Words n xs
unfolding Words
each_word zero [] us e s = tt
each_word zero (x ∷ xs) us e s = absurd (omega arith)
each_word (suc n) [] us e s = absurd (omega arith)
each_word (suc n) (x ∷ xs) [] e s = absurd s
each_word (suc n) (x ∷ xs) (u ∷ us) e s = (s.0.1, each_word n xs us (omega arith) s.1)

-- what a function is told of a parameter: it is four words
pub array-words : (xs : List ℕ) (vs : List Val) → Is (Array (UInt w64) 4) xs vs → Words 4 xs
array-words xs vs p = each_word 4 xs p.0 p.1.0.1 p.1.1

abbrev quad : List ℕ → List ℕ
quad s = get_or s 0 0 ∷ get_or s 1 0 ∷ get_or s 2 0 ∷ get_or s 3 0 ∷ []

quad_is : (s : List ℕ) → Words 4 s → s ≡ quad s
unfolding Words
quad_is [] p = elim p [ ]
quad_is (a ∷ []) p = absurd p.1
quad_is (a ∷ b ∷ []) p = absurd p.1.1
quad_is (a ∷ b ∷ c ∷ []) p = absurd p.1.1.1
quad_is (a ∷ b ∷ c ∷ d ∷ []) p = refl
quad_is (a ∷ b ∷ c ∷ d ∷ e ∷ s) p = absurd p.1.1.1.1

and-four : (a b c d : Bool) → (((a && b) && c) && d) ≡ (a && (b && (c && (d && true))))
and-four true true true true = refl
and-four true true true false = refl
and-four true true false d = refl
and-four true false c d = refl
and-four false b c d = refl

-- ---- word by word

module _ (s t : List ℕ) (p : Words 4 s) (q : Words 4 t) where
  pub union-four : as_set (bit_or (get_or s 0 0) (get_or t 0 0) ∷ bit_or (get_or s 1 0) (get_or t 1 0) ∷ bit_or (get_or s 2 0) (get_or t 2 0) ∷ bit_or (get_or s 3 0) (get_or t 3 0) ∷ [])
      ≡ union (as_set s) (as_set t)
  unfolding union_each
  union-four = ap as_set (sym (ap₂ union_each (quad_is s p) (quad_is t q))) ∙ union-set 4 s t p q

  pub common-four : as_set (bit_and (get_or s 0 0) (get_or t 0 0) ∷ bit_and (get_or s 1 0) (get_or t 1 0) ∷ bit_and (get_or s 2 0) (get_or t 2 0) ∷ bit_and (get_or s 3 0) (get_or t 3 0) ∷ [])
      ≡ common (as_set s) (as_set t)
  unfolding common_each
  common-four = ap as_set (sym (ap₂ common_each (quad_is s p) (quad_is t q))) ∙ common-set 4 s t p q

  abbrev within : ℕ → Bool
  within i = eqb (bit_and (get_or s i 0) (get_or t i 0)) (get_or s i 0)

  pub inside-four : (((within 0 && within 1) && within 2) && within 3) ≡ inside (as_set s) (as_set t)
  unfolding inside_each
  inside-four = and-four (within 0) (within 1) (within 2) (within 3) ∙ sym (ap₂ inside_each (quad_is s p) (quad_is t q)) ∙ inside-set 4 s t p q

  abbrev equal : ℕ → Bool
  equal i = eqb (get_or s i 0) (get_or t i 0)

  pub same-four : (((equal 0 && equal 1) && equal 2) && equal 3) ≡ eqb (as_set s) (as_set t)
  unfolding same_each
  same-four = and-four (equal 0) (equal 1) (equal 2) (equal 3) ∙ sym (ap₂ same_each (quad_is s p) (quad_is t q)) ∙ same_set 4 s t p q

module _ (s : List ℕ) (p : Words 4 s) where
  pub none-four : pointwise eqb s (0 ∷ 0 ∷ 0 ∷ 0 ∷ []) ≡ eqb (as_set s) empty_set
  unfolding none_each
  none-four = ap (λ (l : List ℕ). pointwise eqb l (0 ∷ 0 ∷ 0 ∷ 0 ∷ [])) (quad_is s p) ∙ sym (ap none_each (quad_is s p)) ∙ none-set 4 s p

  pub size-four : ones (get_or s 0 0) + ones (get_or s 1 0) + ones (get_or s 2 0) + ones (get_or s 3 0) ≡ size (as_set s)
  unfolding size_each
  size-four =
      let each : ones (get_or s 0 0) + ones (get_or s 1 0) + ones (get_or s 2 0) + ones (get_or s 3 0) ≡ size_each (quad s) = omega arith in
      each ∙ sym (ap size_each (quad_is s p)) ∙ size-set 4 s p

  -- a word holds at most 64 places
  pub size_word : (ones (get_or s 0 0) ≤ 64) × (ones (get_or s 1 0) ≤ 64) × (ones (get_or s 2 0) ≤ 64) × (ones (get_or s 3 0) ≤ 64)
  unfolding Words
  size_word =
      let w : Words 4 (quad s) = subst (λ (l : List ℕ). Words 4 l) (quad_is s p) p in
      (ones-le 64 (get_or s 0 0) w.0, ones-le 64 (get_or s 1 0) w.1.0, ones-le 64 (get_or s 2 0) w.1.1.0, ones-le 64 (get_or s 3 0) w.1.1.1.0)

-- ---- one place, and the lowest places

-- one word that is not 0
single-word : (n i w : ℕ) → i < n → as_set (set (replicate n 0) i w) ≡ 2 ^ (64 * i) * w
unfolding as_set
single-word zero i w h = absurd (omega arith)
single-word (suc n) zero w h = rw (set-zeros n) (omega arith)
single-word (suc n) (suc i) w h =
    let e : 64 * suc i ≡ 64 * i + 64 = omega arith in
    rw (single-word n i w (omega arith), e, pow-add 2 (64 * i) 64) (scaled (2 ^ (64 * i)) w)
  where
    scaled : (a b : ℕ) → a * b * 2 ^ 64 + 0 ≡ a * 2 ^ 64 * b
    scaled a b = add-zero (a * b * 2 ^ 64) ∙ mul_assoc a b (2 ^ 64) ∙ ap (λ x. a * x) (mul_comm b (2 ^ 64)) ∙ sym (mul_assoc a (2 ^ 64) b)

pub shifted : (k : ℕ) → k < 64 → (1 * 2 ^ k) % 2 ^ 64 ≡ 2 ^ k
shifted k h = shl_exact {a = 1} 1 k 64 (lit< tt) (omega arith) ∙ one-mul (2 ^ k)

pub single-four : (i : ℕ) → i < 256 → as_set (set (0 ∷ 0 ∷ 0 ∷ 0 ∷ []) (i / 64) ((1 * 2 ^ (i % 64)) % 2 ^ 64)) ≡ single i
single-four i h =
    let split : 64 * (i / 64) + i % 64 ≡ i = omega arith in
    rw (shifted (i % 64) (omega arith), single-word 4 (i / 64) (2 ^ (i % 64)) (omega arith), ← pow-add 2 (64 * (i / 64)) (i % 64), split)

-- the lowest c places in n words
lowest_in : ℕ → ℕ → List ℕ
lowest_in zero c = []
lowest_in (suc n) c = (2 ^ min c 64 - 1) ∷ lowest_in n (c - 64)

lowest-words : (n c : ℕ) → c ≤ 64 * n → as_set (lowest_in n c) ≡ 2 ^ c - 1
unfolding as_set lowest_in
lowest-words zero c h = let e : c ≡ 0 = omega arith in rw e
lowest-words (suc n) c h = rw (lowest-words n (c - 64) (omega arith)) (go (either (leb c 64)))
  where
    go : (leb c 64 ≡ true) ⊎ (leb c 64 ≡ false) → (2 ^ (c - 64) - 1) * 2 ^ 64 + (2 ^ min c 64 - 1) ≡ 2 ^ c - 1
    go (inl e) =
        let le = leb-true c 64 e in
        let none : c - 64 ≡ 0 = omega arith in
        let all : min c 64 ≡ c = omega arith in
        rw (none, all) (zero-add (2 ^ c - 1))
    go (inr e) =
        let gt = leb-false c 64 e in
        let more : c - 64 + 64 ≡ c = omega arith in
        let all : min c 64 ≡ 64 = omega arith in
        rw all (sym (ones_split (c - 64) 64) ∙ ap (λ k. 2 ^ k - 1) more)

pub lowest-four : (c : ℕ) → c ≤ 256 → {a b d e : ℕ} → a ≡ 2 ^ min (c - 0) 64 - 1 → b ≡ 2 ^ min (c - 64) 64 - 1 → d ≡ 2 ^ min (c - 128) 64 - 1 → e ≡ 2 ^ min (c - 192) 64 - 1
    → as_set (a ∷ b ∷ d ∷ e ∷ []) ≡ 2 ^ c - 1
unfolding lowest_in
lowest-four c h p q r s =
    let two : c - 64 - 64 ≡ c - 128 = omega arith in
    let three : c - 128 - 64 ≡ c - 192 = omega arith in
    rw (p, q, r, s, ← three, ← two, sub-zero c) (lowest-words 4 c h)

-- ---- one word of the lowest places

pub low-none : (c from : ℕ) → c ≤ from → 0 ≡ 2 ^ min (c - from) 64 - 1
low-none c from h = let e : min (c - from) 64 ≡ 0 = omega arith in rw e

pub low-all : (c from : ℕ) → 64 ≤ c - from → 18446744073709551615 ≡ 2 ^ min (c - from) 64 - 1
low-all c from h = let e : min (c - from) 64 ≡ 64 = omega arith in rw e

pub low-some : (c from : ℕ) → c - from < 64 → (1 ≤ (1 * 2 ^ (c - from)) % 2 ^ 64) × ((1 * 2 ^ (c - from)) % 2 ^ 64 - 1 ≡ 2 ^ min (c - from) 64 - 1)
low-some c from h = let e : min (c - from) 64 ≡ c - from = omega arith in rw (shifted (c - from) h, e) (pow_pos (c - from), refl)

-- ---- one set of a table

pub room-four : (w : List ℕ) (i : ℕ) → i < length (as_sets 4 w) → 4 * i + 4 ≤ length w
room-four w i h = omega (arith, sets-length 4 (lit< tt) w)

front-four : (w : List ℕ) → 4 ≤ length w → get_or w 0 0 ∷ get_or w 1 0 ∷ get_or w 2 0 ∷ get_or w 3 0 ∷ [] ≡ take 4 w
front-four (a ∷ b ∷ c ∷ d ∷ w) h = refl
front-four [] h = absurd (omega arith)
front-four (a ∷ []) h = absurd (omega arith)
front-four (a ∷ b ∷ []) h = absurd (omega arith)
front-four (a ∷ b ∷ c ∷ []) h = absurd (omega arith)

pub get-four : (w : List ℕ) (i : ℕ) → i < length (as_sets 4 w)
    → as_set (get_or w (4 * i) 0 ∷ get_or w (4 * i + 1) 0 ∷ get_or w (4 * i + 2) 0 ∷ get_or w (4 * i + 3) 0 ∷ []) ≡ get_or (as_sets 4 w) i 0
get-four w i h =
    let room = room-four w i h in
    let four : 4 ≤ length (drop (4 * i) w) = omega (arith, length-drop (4 * i) w) in
    let front : get_or w (4 * i) 0 ∷ get_or w (4 * i + 1) 0 ∷ get_or w (4 * i + 2) 0 ∷ get_or w (4 * i + 3) 0 ∷ [] ≡ take 4 (drop (4 * i) w) =
    rw (← get_or-drop (4 * i) w 1 0, ← get_or-drop (4 * i) w 2 0, ← get_or-drop (4 * i) w 3 0, ← first) (front-four (drop (4 * i) w) four) in
    ap as_set front ∙ sym (sets-at 4 (lit< tt) w i (omega (arith, sets-length 4 (lit< tt) w)))
  where
    first : get_or (drop (4 * i) w) 0 0 ≡ get_or w (4 * i) 0
    first = get_or-drop (4 * i) w 0 0 ∙ ap (λ k. get_or w k 0) (add-zero (4 * i))

pub put_four : (w : List ℕ) (i : ℕ) (s : List ℕ) → i < length (as_sets 4 w) → Words 4 s
    → (as_sets 4 (set (set (set (set w (4 * i) (get_or s 0 0)) (4 * i + 1) (get_or s 1 0)) (4 * i + 2) (get_or s 2 0)) (4 * i + 3) (get_or s 3 0)) ≡ set (as_sets 4 w) i (as_set s))
    × (spare_in 4 (set (set (set (set w (4 * i) (get_or s 0 0)) (4 * i + 1) (get_or s 1 0)) (4 * i + 2) (get_or s 2 0)) (4 * i + 3) (get_or s 3 0)) ≡ spare_in 4 w)
put_four w i s h p =
    let at = 4 * i in
    let some : 0 < 4 = lit< tt in
    let place : i < length w / 4 = omega (arith, sets-length 4 some w) in
    let stores : set (set (set (set w at (get_or s 0 0)) (at + 1) (get_or s 1 0)) (at + 2) (get_or s 2 0)) (at + 3) (get_or s 3 0) ≡ take at w ++ quad s ++ drop (at + 4) w =
    rw (add-one at, two, three) (sets-eq (quad s) w at (room-four w i h)) in
    rw (stores) (
      sets-written 4 some w i (quad s) refl place ∙ ap (λ (l : List ℕ). set (as_sets 4 w) i (as_set l)) (sym (quad_is s p)),
      spare-written 4 some w i (quad s) refl place,
    )
  where
    two : 4 * i + 2 ≡ suc (suc (4 * i))
    two = omega arith

    three : 4 * i + 3 ≡ suc (suc (suc (4 * i)))
    three = omega arith
