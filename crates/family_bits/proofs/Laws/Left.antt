-- Masks and words of families (specs/Left.antt): `met`, `Marks`, `is_left`, `Narrowed`.
use mathlib.Core.Path.{◌≡◌, refl, sym, ◌∙◌, ap, ap₂}
use mathlib.Core.Logic.{◌⊎◌, inl, inr}
use mathlib.Core.Bool.{Bool, true, false, cond, not, ◌&&◌, ◌||◌, false≢true}
use mathlib.Core.List.{List}
use Prim.Native.Nat.{ℕ, zero, suc, ◌+◌, ◌-◌, ◌*◌, ◌/◌, ◌%◌, ◌^◌, ◌≤◌, ◌<◌}
use native.Mathlib.Nat.{div-div-eq-div-mul, pow-suc, mul_comm}
use native.Mathlib.Decide.{dec_lt}
use native.Mathlib.Omega.{arith}
use borrow.Author.Tests.{eq-eqb, ne_eqb}
use lib.Bits.{bit_and, bit_or, and_shr, and_mod}
use lib.Dec.{eqb}
use lib.ListN.{length, get_or, set, length-set, get_or-replicate}
use lib.Pow.{pow-lt, pow_pos}
use lib.Seq.{get_or-set_same, get_or-set_other}
use mir.Val.{bool_byte}
use Rattle.dqbf.specs.Set.{bit, inside}
use Rattle.dqbf.proofs.Laws.Tests.{and_left, and_right, both, either, eqb_is, eqb_same, never}
use Rattle.dqbf.proofs.Laws.Words.{bit-and, bit-or, bit-zero, bit-ext, bit-single, bit-inside, single-inside}
use Rattle.deciding.proofs.Laws.Numbers.{pack, pack-small, pack-bit}
use Rattle.family_bits.specs.Left.{met, word_bits, Marks, is_left, all_left, Narrowed}

pub alike : (a b : Bool) → (a ≡ true → b ≡ true) → (b ≡ true → a ≡ true) → a ≡ b
alike true b h k = sym (h refl)
alike false b h k = sym (never b (λ t. false≢true (k t)))

pub not_yes : (b : Bool) → not b ≡ true → b ≡ false
not_yes true h = absurd (false≢true h)
not_yes false h = refl

pub and_one : (b : Bool) → (b && true) ≡ b
and_one true = refl
and_one false = refl

-- ---- no bit in common

none_or : (a c f : ℕ) → eqb (bit_and (bit_or a c) f) 0 ≡ (eqb (bit_and a f) 0 && eqb (bit_and c f) 0)
none_or a c f = alike (eqb (bit_and (bit_or a c) f) 0) (eqb (bit_and a f) 0 && eqb (bit_and c f) 0) to from
  where
    at : (i : ℕ) → bit (bit_and (bit_or a c) f) i ≡ ((bit a i || bit c i) && bit f i)
    at i = bit-and (bit_or a c) f i ∙ ap (◌&& bit f i) (bit-or a c i)

    first : (p q r : Bool) → ((p || q) && r) ≡ false → (p && r) ≡ false
    first true q r h = h
    first false q r h = refl

    second : (p q r : Bool) → ((p || q) && r) ≡ false → (q && r) ≡ false
    second true true r h = h
    second true false r h = refl
    second false q r h = h

    join : (p q r : Bool) → (p && r) ≡ false → (q && r) ≡ false → ((p || q) && r) ≡ false
    join true q r h k = h
    join false q r h k = k

    empty : (x i : ℕ) → x ≡ 0 → bit x i ≡ false
    empty x i e = rw e (bit-zero i)

    to : eqb (bit_and (bit_or a c) f) 0 ≡ true → (eqb (bit_and a f) 0 && eqb (bit_and c f) 0) ≡ true
    to h =
        let z = eqb_is (bit_and (bit_or a c) f) 0 h in
        both (eqb (bit_and a f) 0) (eqb (bit_and c f) 0)
        (eq-eqb (bit_and a f) 0 (bit-ext (bit_and a f) 0 (λ i. bit-and a f i ∙ first (bit a i) (bit c i) (bit f i) (sym (at i) ∙ empty (bit_and (bit_or a c) f) i z) ∙ sym (bit-zero i))))
        (eq-eqb (bit_and c f) 0 (bit-ext (bit_and c f) 0 (λ i. bit-and c f i ∙ second (bit a i) (bit c i) (bit f i) (sym (at i) ∙ empty (bit_and (bit_or a c) f) i z) ∙ sym (bit-zero i))))

    from : (eqb (bit_and a f) 0 && eqb (bit_and c f) 0) ≡ true → eqb (bit_and (bit_or a c) f) 0 ≡ true
    from h =
        let x = eqb_is (bit_and a f) 0 (and_left (eqb (bit_and a f) 0) (eqb (bit_and c f) 0) h) in
        let y = eqb_is (bit_and c f) 0 (and_right (eqb (bit_and a f) 0) (eqb (bit_and c f) 0) h) in
        eq-eqb (bit_and (bit_or a c) f) 0 (bit-ext (bit_and (bit_or a c) f) 0 (λ i. at i ∙ join (bit a i) (bit c i) (bit f i) (sym (bit-and a f i) ∙ empty (bit_and a f) i x) (sym (bit-and c f i) ∙ empty (bit_and c f) i y) ∙ sym (bit-zero i)))

single-none : (b f : ℕ) → eqb (bit_and (2 ^ b) f) 0 ≡ not (bit f b)
single-none b f = go (either (bit f b))
  where
    go : (bit f b ≡ true) ⊎ (bit f b ≡ false) → eqb (bit_and (2 ^ b) f) 0 ≡ not (bit f b)
    go (inl h) =
        let e : bit_and (2 ^ b) f ≡ 2 ^ b = eqb_is (bit_and (2 ^ b) f) (2 ^ b) (single-inside (2 ^ b) f b refl ∙ h) in
        rw (h, e) (ne_eqb (2 ^ b) 0 (λ z. let p = pow_pos b in omega arith))
    go (inr h) = rw h (eq-eqb (bit_and (2 ^ b) f) 0 (bit-ext (bit_and (2 ^ b) f) 0 (λ i. bit-and (2 ^ b) f i ∙ ap (◌&& bit f i) (bit-single b i) ∙ off i (either (eqb b i)) ∙ sym (bit-zero i))))
      where
        off : (i : ℕ) → (eqb b i ≡ true) ⊎ (eqb b i ≡ false) → (eqb b i && bit f i) ≡ false
        off i (inl e) = let q = eqb_is b i e in rw (e, ← q) h
        off i (inr e) = rw e

-- ---- all bits of one

inside-or : (a c f : ℕ) → inside (bit_or a c) f ≡ (inside a f && inside c f)
inside-or a c f = alike (inside (bit_or a c) f) (inside a f && inside c f)
    (λ h. both (inside a f) (inside c f)
    ((bit-inside a f).1 (λ i t. (bit-inside (bit_or a c) f).0 h i (bit-or a c i ∙ rw t)))
    ((bit-inside c f).1 (λ i t. (bit-inside (bit_or a c) f).0 h i (bit-or a c i ∙ right (bit a i) (bit c i) t))))
    (λ h. (bit-inside (bit_or a c) f).1 (λ i t. pick i (bit a i) refl (bit c i) refl (sym (bit-or a c i) ∙ t) (and_left (inside a f) (inside c f) h) (and_right (inside a f) (inside c f) h)))
  where
    right : (p q : Bool) → q ≡ true → (p || q) ≡ true
    right true q h = refl
    right false q h = h

    pick : (i : ℕ) (p : Bool) → bit a i ≡ p → (q : Bool) → bit c i ≡ q → (bit a i || bit c i) ≡ true → inside a f ≡ true → inside c f ≡ true → bit f i ≡ true
    pick i true e q d t x y = (bit-inside a f).0 x i e
    pick i false e q d t x y = (bit-inside c f).0 y i (rw e at t)

-- ---- met

pub met-nothing : (f : ℕ) → met 0 0 f ≡ false
unfolding met
met-nothing f = refl

pub met-one : (a z b f : ℕ) → met (bit_or a (2 ^ b)) z f ≡ (bit f b || met a z f)
unfolding met
met-one a z b f = ap (λ (x : Bool). not x || not (inside z f)) (none_or a (2 ^ b) f ∙ ap (eqb (bit_and a f) 0 &&◌) (single-none b f)) ∙ go (eqb (bit_and a f) 0) (bit f b) (inside z f)
  where
    go : (p q r : Bool) → (not (p && not q) || not r) ≡ (q || (not p || not r))
    go true true r = refl
    go true false r = refl
    go false true r = refl
    go false false r = refl

pub met-zero : (a z b f : ℕ) → met a (bit_or z (2 ^ b)) f ≡ (not (bit f b) || met a z f)
unfolding met
met-zero a z b f = ap (λ (x : Bool). not (eqb (bit_and a f) 0) || not x) (inside-or z (2 ^ b) f ∙ ap (inside z f &&◌) (single-inside (2 ^ b) f b refl)) ∙ go (eqb (bit_and a f) 0) (bit f b) (inside z f)
  where
    go : (p q r : Bool) → (not p || not (r && q)) ≡ (not q || (not p || not r))
    go true true true = refl
    go true true false = refl
    go true false true = refl
    go true false false = refl
    go false true r = refl
    go false false r = refl

same-split : (x z : ℕ) → eqb x z ≡ (eqb (x / 64) (z / 64) && eqb (x % 64) (z % 64))
same-split x z = alike (eqb x z) (eqb (x / 64) (z / 64) && eqb (x % 64) (z % 64))
    (λ h. let e = eqb_is x z h in rw e (both (eqb (z / 64) (z / 64)) (eqb (z % 64) (z % 64)) (eqb_same (z / 64)) (eqb_same (z % 64))))
    (λ h. let a = eqb_is (x / 64) (z / 64) (and_left (eqb (x / 64) (z / 64)) (eqb (x % 64) (z % 64)) h) in
    let b = eqb_is (x % 64) (z % 64) (and_right (eqb (x / 64) (z / 64)) (eqb (x % 64) (z % 64)) h) in
    eq-eqb x z (omega arith))

pub met-split : (a z f : ℕ) → met a z f ≡ (met (a / 64) (z / 64) (f / 64) || met (a % 64) (z % 64) (f % 64))
unfolding met
met-split a z f =
    ap₂ (λ (x y : Bool). not x || not y)
    (same-split (bit_and a f) 0 ∙ ap₂ (λ (x y : ℕ). eqb x 0 && eqb y 0) (and_shr a f 6) (and_mod a f 6))
    (same-split (bit_and z f) z ∙ ap₂ (λ (x y : ℕ). eqb x (z / 64) && eqb y (z % 64)) (and_shr z f 6) (and_mod z f 6))
    ∙ go (eqb (bit_and (a / 64) (f / 64)) 0) (eqb (bit_and (a % 64) (f % 64)) 0) (inside (z / 64) (f / 64)) (inside (z % 64) (f % 64))
  where
    go : (p q r s : Bool) → (not (p && q) || not (r && s)) ≡ ((not p || not r) || (not q || not s))
    go true true true s = refl
    go true true false s = refl
    go true false true s = refl
    go true false false s = refl
    go false q r s = refl

-- ---- the bits of a test from a number on, below 64

pack-same : (d : ℕ) (g h : ℕ → Bool) → ((i : ℕ) → g i ≡ h i) → pack d g ≡ pack d h
unfolding pack
pack-same zero g h e = refl
pack-same (suc d) g h e = ap₂ (λ (x : Bool) (y : ℕ). cond x 1 0 + 2 * y) (e 0) (pack-same d (λ i. g (suc i)) (λ i. h (suc i)) (λ i. e (suc i)))

abbrev pub packed_from : ℕ → (ℕ → Bool) → ℕ
packed_from n g = pack (64 - n) (λ i. g (n + i))

pub packed_start : (g : ℕ → Bool) → 0 ≡ packed_from 64 g
unfolding pack
packed_start g = refl

pub packed_more : (n : ℕ) (g : ℕ → Bool) → 1 ≤ n → n ≤ 64 → bool_byte (g (n - 1)) + 2 * packed_from n g ≡ packed_from (n - 1) g
unfolding pack
packed_more n g low high =
    let q : 64 - (n - 1) ≡ suc (64 - n) = omega arith in
    rw (q, bool-one) (ap₂ (λ (x : Bool) (y : ℕ). cond x 1 0 + 2 * y) (ap g (omega arith))
    (pack-same (64 - n) (λ i. g (n + i)) (λ i. g ((n - 1) + suc i)) (λ i. ap g (omega arith))))
  where
    bool-one : bool_byte (g (n - 1)) ≡ cond (g (n - 1)) 1 0
    bool-one = elim (g (n - 1)) as (λ b. bool_byte b ≡ cond b 1 0) [ true ↦ refl | false ↦ refl ]

pub bit_small : (b : Bool) → bool_byte b ≤ 1
bit_small true = omega arith
bit_small false = omega arith

pub packed-fits : (n : ℕ) (g : ℕ → Bool) → 1 ≤ n → 2 * packed_from n g + 1 < 2 ^ 64
packed-fits n g low =
    let p = pack-small (64 - n) (λ i. g (n + i)) in
    go (dec_lt (64 - n) 63) p
  where
    go : Dec (64 - n < 63) → packed_from n g < 2 ^ (64 - n) → 2 * packed_from n g + 1 < 2 ^ 64
    go (yes l) p = let r : 2 ^ (64 - n) < 2 ^ 63 = pow-lt {i = 64 - n} {j = 63} l in omega arith
    go (no l) p = let e : 64 - n ≡ 63 = omega arith in let r : 2 ^ (64 - n) ≡ 2 ^ 63 = ap (2 ^◌) e in omega arith

pub packed-done : (n : ℕ) (g : ℕ → Bool) → n ≡ 0 → {word : ℕ} → word ≡ packed_from n g → Marks word g
packed-done n g e w = rw (w, e) (record { at = λ i h. pack-bit 64 (λ j. g (0 + j)) i h ∙ ap g (omega arith) })

-- ---- a bit by a shift

pub bit-shift : (i w : ℕ) → eqb (w / 2 ^ i % 2) 1 ≡ bit w i
unfolding bit
bit-shift zero w = let e : w / 2 ^ 0 ≡ w = omega arith in rw e
bit-shift (suc i) w = ap (λ (x : ℕ). eqb (x % 2) 1) (ap (w /◌) (pow-suc 2 i ∙ mul_comm (2 ^ i) 2) ∙ sym (div-div-eq-div-mul w 2 (2 ^ i))) ∙ bit-shift i (w / 2)

pub left-shift : (words : List ℕ) (f : ℕ) → eqb (get_or words (f / 64) 0 / 2 ^ (f % 64) % 2) 1 ≡ is_left words f
unfolding is_left
left-shift words f = bit-shift (f % 64) (get_or words (f / 64) 0)

-- ---- the words one after the other

abbrev pub new_word : (ones zeros low i word : ℕ) → ℕ
new_word ones zeros low i word = cond (met ones zeros i) word (bit_and word low)

pub record Passed (ones zeros low : ℕ) (words₀ words : List ℕ) (i : ℕ) : Type 0 where
  pub same : length words ≡ length words₀
  pub done : (j : ℕ) → j < i → get_or words j 0 ≡ new_word ones zeros low j (get_or words₀ j 0)
  pub rest : (j : ℕ) → i ≤ j → get_or words j 0 ≡ get_or words₀ j 0

pub passed_start : (ones zeros low : ℕ) (words : List ℕ) → Passed ones zeros low words words 0
passed_start ones zeros low words = record { same = refl; done = λ j h. absurd (omega arith); rest = λ j h. refl }

module _ {ones zeros low : ℕ} {words₀ words : List ℕ} {i : ℕ} (p : Passed ones zeros low words₀ words i) where
  pub passed-kept : met ones zeros i ≡ true → Passed ones zeros low words₀ words (i + 1)
  passed-kept e = record { same = p.same; done = λ j h. go j h (dec_lt j i); rest = λ j h. p.rest j (omega arith) }
    where
      go : (j : ℕ) → j < i + 1 → Dec (j < i) → get_or words j 0 ≡ new_word ones zeros low j (get_or words₀ j 0)
      go j h (yes l) = p.done j l
      go j h (no l) = let q : j ≡ i = omega arith in rw (q, e) (p.rest i (omega arith))

  pub passed-stored : met ones zeros i ≡ false → i < length words → Passed ones zeros low words₀ (set words i (bit_and (get_or words i 0) low)) (i + 1)
  passed-stored e h = record {
    same = length-set words i (bit_and (get_or words i 0) low) ∙ p.same;
    done = λ j l. go j l (dec_lt j i);
    rest = λ j l. get_or-set_other words i j (bit_and (get_or words i 0) low) 0 (λ q. omega arith) ∙ p.rest j (omega arith);
  }
    where
      go : (j : ℕ) → j < i + 1 → Dec (j < i) → get_or (set words i (bit_and (get_or words i 0) low)) j 0 ≡ new_word ones zeros low j (get_or words₀ j 0)
      go j l (yes k) = get_or-set_other words i j (bit_and (get_or words i 0) low) 0 (λ q. omega arith) ∙ p.done j k
      go j l (no k) =
          let q : j ≡ i = omega arith in
          rw (q, e) (get_or-set_same words i (bit_and (get_or words i 0) low) 0 h ∙ ap (λ (w : ℕ). bit_and w low) (p.rest i (omega arith)))

pub passed-done : (ones zeros low : ℕ) (words₀ words : List ℕ) (i : ℕ) → Marks low (met (ones % 64) (zeros % 64)) → length words ≤ i
    → Passed (ones / 64) (zeros / 64) low words₀ words i → Narrowed words₀ words (met ones zeros)
unfolding is_left
passed-done ones zeros low words₀ words i e h p = record { words = p.same; kept = kept }
  where
    kept : (f : ℕ) → f < 64 * length words₀ → bit (get_or words (f / 64) 0) (f % 64) ≡ (bit (get_or words₀ (f / 64) 0) (f % 64) && met ones zeros f)
    kept f l =
        rw (met-split ones zeros f) (ap (λ (w : ℕ). bit w (f % 64)) (p.done (f / 64) (omega (arith, p.same)))
        ∙ go (met (ones / 64) (zeros / 64) (f / 64)))
      where
        go : (b : Bool) → bit (cond b (get_or words₀ (f / 64) 0) (bit_and (get_or words₀ (f / 64) 0) low)) (f % 64)
            ≡ (bit (get_or words₀ (f / 64) 0) (f % 64) && (b || met (ones % 64) (zeros % 64) (f % 64)))
        go true = sym (and_one (bit (get_or words₀ (f / 64) 0) (f % 64)))
        go false =
            bit-and (get_or words₀ (f / 64) 0) low (f % 64)
            ∙ ap (bit (get_or words₀ (f / 64) 0) (f % 64) &&◌) (e.at (f % 64) (omega arith))

-- ---- every family at first

bit-ones : (k i : ℕ) → i < k → bit (2 ^ k - 1) i ≡ true
unfolding bit
bit-ones zero i h = absurd (omega arith)
bit-ones (suc k) zero h = let p = pow_pos k in let e : (2 ^ suc k - 1) % 2 ≡ 1 = omega arith in rw e
bit-ones (suc k) (suc i) h = let p = pow_pos k in let e : (2 ^ suc k - 1) / 2 ≡ 2 ^ k - 1 = omega arith in ap (λ (x : ℕ). bit x i) e ∙ bit-ones k i (omega arith)

pub every-left : (n f : ℕ) → f < word_bits * n → is_left (all_left n) f ≡ true
unfolding is_left
every-left n f h = ap (λ (w : ℕ). bit w (f % 64)) (get_or-replicate n (f / 64) 18446744073709551615 0 (omega arith)) ∙ bit-ones 64 (f % 64) (omega arith)

-- ---- one test after the other

pub and_assoc : (a b c : Bool) → ((a && b) && c) ≡ (a && (b && c))
and_assoc true b c = refl
and_assoc false b c = refl

pub narrowed-all : (a : List ℕ) (P : ℕ → Bool) → ((f : ℕ) → P f ≡ true) → Narrowed a a P
narrowed-all a P e = record { words = refl; kept = λ f h. sym (ap (is_left a f &&◌) (e f) ∙ and_one (is_left a f)) }

pub narrowed-same : {a b : List ℕ} {P : ℕ → Bool} (R : ℕ → Bool) → Narrowed a b P → ((f : ℕ) → R f ≡ P f) → Narrowed a b R
narrowed-same {a} R n e = record { words = n.words; kept = λ f h. n.kept f h ∙ ap (is_left a f &&◌) (sym (e f)) }

pub narrowed-next : {a b c : List ℕ} {P Q : ℕ → Bool} (R : ℕ → Bool) → Narrowed a b P → Narrowed b c Q → ((f : ℕ) → R f ≡ (P f && Q f)) → Narrowed a c R
narrowed-next {a} {b} {c} {P} {Q} R n k e = record {
  words = k.words ∙ n.words;
  kept = λ f h. k.kept f (rw n.words h) ∙ ap (◌&& Q f) (n.kept f h) ∙ and_assoc (is_left a f) (P f) (Q f) ∙ ap (is_left a f &&◌) (sym (e f));
}
