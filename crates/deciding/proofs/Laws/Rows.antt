-- The place of a setting in the table of a set (specs/Deciding.antt: `row`), the setting at a place, and numbers by their bits.
use mathlib.Core.Path.{◌≡◌, refl, sym, ◌∙◌, ap}
use mathlib.Core.Logic.{◌⊎◌, inl, inr}
use mathlib.Core.Bool.{Bool, true, false, cond, ◌&&◌, false≢true}
use Prim.Native.Nat.{ℕ, zero, suc, ◌+◌, ◌*◌, ◌/◌, ◌%◌, ◌^◌, ◌≤◌, ◌<◌}
use native.Mathlib.Decide.{dec_lt}
use native.Mathlib.Omega.{arith}
use lib.Dec.{eqb}
use lib.Count.{ones, ones_step}
use lib.Bits.{bit_and, and_step, and_zero_r}
use Rattle.dqbf.specs.Set.{Set, bit}
use Rattle.dqbf.proofs.Laws.Tests.{eqb_is}
use Rattle.dqbf.proofs.Laws.Words.{bit-and, digit}
use Rattle.deciding.specs.Deciding.{row}
use Rattle.deciding.specs.Statements.{RowsAscend, RowsFill}

-- ---- a number by its lowest bit and the rest

pub low_bit : (b : Bool) (r : ℕ) → bit (cond b 1 0 + 2 * r) 0 ≡ b
unfolding bit
low_bit true r = let e : (1 + 2 * r) % 2 ≡ 1 = omega arith in rw e
low_bit false r = let e : (0 + 2 * r) % 2 ≡ 0 = omega arith in rw e

pub low-rest : (b : Bool) (r : ℕ) → (cond b 1 0 + 2 * r) / 2 ≡ r
low-rest true r = omega arith
low-rest false r = omega arith

pub high_bit : (b : Bool) (r i : ℕ) → bit (cond b 1 0 + 2 * r) (suc i) ≡ bit r i
unfolding bit
high_bit b r i = ap (λ (x : ℕ). bit x i) (low-rest b r)

pub odd : (s : Set) → bit s 0 ≡ true → s % 2 ≡ 1
unfolding bit
odd s e = eqb_is (s % 2) 1 e

pub even : (s : Set) → bit s 0 ≡ false → s % 2 ≡ 0
unfolding bit
even s e = go (digit s)
  where
    go : (s % 2 ≡ 0) ⊎ (s % 2 ≡ 1) → s % 2 ≡ 0
    go (inl p) = p
    go (inr p) = absurd (false≢true (sym e ∙ rw p))

-- ---- row

-- a row reads only the set's places
pub row-agree : (n : ℕ) (s v w : Set) → ((i : ℕ) → bit s i ≡ true → bit v i ≡ bit w i) → row n s v ≡ row n s w
unfolding row bit
row-agree zero s v w h = refl
row-agree (suc n) s v w h = go (bit s 0) refl (row-agree n (s / 2) (v / 2) (w / 2) (λ i t. h (suc i) t))
  where
    go : (b : Bool) → bit s 0 ≡ b → row n (s / 2) (v / 2) ≡ row n (s / 2) (w / 2)
        → cond b (cond (bit v 0) 1 0 + 2 * row n (s / 2) (v / 2)) (row n (s / 2) (v / 2)) ≡ cond b (cond (bit w 0) 1 0 + 2 * row n (s / 2) (w / 2)) (row n (s / 2) (w / 2))
    go true e k = rw (h 0 e, k)
    go false e k = k

one-most : (b : Bool) → cond b 1 0 ≤ 1
one-most true = omega arith
one-most false = omega arith

pub rows_fill : RowsFill
unfolding row
rows_fill zero s w = positive (ones s)
  where
    positive : (k : ℕ) → 0 < 2 ^ k
    positive zero = omega arith
    positive (suc k) = let h = positive k in omega arith
rows_fill (suc n) s w = go (bit s 0) refl (rows_fill n (s / 2) (w / 2))
  where
    go : (b : Bool) → bit s 0 ≡ b → row n (s / 2) (w / 2) < 2 ^ ones (s / 2)
        → cond b (cond (bit w 0) 1 0 + 2 * row n (s / 2) (w / 2)) (row n (s / 2) (w / 2)) < 2 ^ ones s
    go true e h =
        let o = odd s e in
        let k : ones s ≡ suc (ones (s / 2)) = ones_step s ∙ rw o (omega arith) in
        let z = one-most (bit w 0) in
        rw k (omega arith)
    go false e h = rw (ones_step s) (more (s % 2) (ones (s / 2)) h)
      where
        more : (d k : ℕ) → row n (s / 2) (w / 2) < 2 ^ k → row n (s / 2) (w / 2) < 2 ^ (d + k)
        more zero k q = let e : 0 + k ≡ k = omega arith in rw e q
        more (suc d) k q = let r = more d k q in let e : suc d + k ≡ suc (d + k) = omega arith in rw e (omega arith)

-- the setting at a place of the table: false outside the set
pub unrow : ℕ → Set → ℕ → Set
unrow zero s r = 0
unrow (suc n) s r = cond (bit s 0) (cond (bit r 0) 1 0 + 2 * unrow n (s / 2) (r / 2)) (cond false 1 0 + 2 * unrow n (s / 2) r)

pub unrow-row : (n : ℕ) (s w : Set) (i : ℕ) → i < n → bit s i ≡ true → bit (unrow n s (row n s w)) i ≡ bit w i
unfolding row unrow bit
unrow-row zero s w i h t = absurd (omega arith)
unrow-row (suc n) s w i h t = go (bit s 0) refl i h t (λ j k u. unrow-row n (s / 2) (w / 2) j k u)
  where
    rest : ℕ
    rest = row n (s / 2) (w / 2)

    go : (b : Bool) → bit s 0 ≡ b → (i : ℕ) → i < suc n → bit s i ≡ true → ((j : ℕ) → j < n → bit (s / 2) j ≡ true → bit (unrow n (s / 2) rest) j ≡ bit (w / 2) j)
        → bit (cond b (cond (bit (cond b (cond (bit w 0) 1 0 + 2 * rest) rest) 0) 1 0 + 2 * unrow n (s / 2) (cond b (cond (bit w 0) 1 0 + 2 * rest) rest / 2))
        (cond false 1 0 + 2 * unrow n (s / 2) (cond b (cond (bit w 0) 1 0 + 2 * rest) rest))) i ≡ bit w i
    go true e zero h t ih = low_bit (bit (cond (bit w 0) 1 0 + 2 * rest) 0) (unrow n (s / 2) ((cond (bit w 0) 1 0 + 2 * rest) / 2)) ∙ low_bit (bit w 0) rest
    go true e (suc i) h t ih =
        high_bit (bit (cond (bit w 0) 1 0 + 2 * rest) 0) (unrow n (s / 2) ((cond (bit w 0) 1 0 + 2 * rest) / 2)) i
        ∙ ap (λ (x : ℕ). bit (unrow n (s / 2) x) i) (low-rest (bit w 0) rest) ∙ ih i (omega arith) t
    go false e zero h t ih = absurd (false≢true (sym e ∙ t))
    go false e (suc i) h t ih = high_bit false (unrow n (s / 2) rest) i ∙ ih i (omega arith) t

-- ---- rows ascend

pub bit_is : (w : Set) → cond (bit w 0) 1 0 ≡ w % 2
unfolding bit
bit_is w = go (digit w)
  where
    go : (w % 2 ≡ 0) ⊎ (w % 2 ≡ 1) → cond (eqb (w % 2) 1) 1 0 ≡ w % 2
    go (inl p) = rw p
    go (inr p) = rw p

and-odd : (v s : Set) → s % 2 ≡ 1 → bit_and v s ≡ v % 2 + 2 * bit_and (v / 2) (s / 2)
and-odd v s o = let h = and_step v s in omega arith

and-even : (v s : Set) → s % 2 ≡ 0 → bit_and v s ≡ 2 * bit_and (v / 2) (s / 2)
and-even v s o = let h = and_step v s in omega arith

and-true : (a : Bool) → (a && true) ≡ a
and-true true = refl
and-true false = refl

-- equal on the set, equal rows
row_common : (n : ℕ) (s v w : Set) → bit_and v s ≡ bit_and w s → row n s v ≡ row n s w
row_common n s v w h = row-agree n s v w (λ i t. both (bit v i) (bit w i) (bit s i) t (sym (bit-and v s i) ∙ ap (λ (x : ℕ). bit x i) h ∙ bit-and w s i))
  where
    both : (a b c : Bool) → c ≡ true → (a && c) ≡ (b && c) → a ≡ b
    both a b c t e = sym (and-true a) ∙ (rw t at e) ∙ and-true b

less-or-same : (a b c d : ℕ) → a + 2 * b < c + 2 * d → a ≤ 1 → c ≤ 1 → (b < d) ⊎ ((b ≡ d) × (a < c))
less-or-same a b c d h p q = go (dec_lt b d)
  where
    go : Dec (b < d) → (b < d) ⊎ ((b ≡ d) × (a < c))
    go (yes k) = inl k
    go (no k) = let e : b ≡ d = omega arith in inr (e, omega arith)

pub rows-ascend : RowsAscend
unfolding row
rows-ascend zero s v w small h =
    let z : s ≡ 0 = omega arith in
    let a : bit_and v s ≡ 0 = rw z (and_zero_r v) in
    let b : bit_and w s ≡ 0 = rw z (and_zero_r w) in
    absurd (omega arith)
rows-ascend (suc n) s v w small h = go (bit s 0) refl (rows-ascend n (s / 2) (v / 2) (w / 2) (omega arith)) (row_common n (s / 2) (v / 2) (w / 2))
  where
    go : (b : Bool) → bit s 0 ≡ b → (bit_and (v / 2) (s / 2) < bit_and (w / 2) (s / 2) → row n (s / 2) (v / 2) < row n (s / 2) (w / 2))
        → (bit_and (v / 2) (s / 2) ≡ bit_and (w / 2) (s / 2) → row n (s / 2) (v / 2) ≡ row n (s / 2) (w / 2))
        → cond b (cond (bit v 0) 1 0 + 2 * row n (s / 2) (v / 2)) (row n (s / 2) (v / 2)) < cond b (cond (bit w 0) 1 0 + 2 * row n (s / 2) (w / 2)) (row n (s / 2) (w / 2))
    go true e less same =
        let o = odd s e in
        let a = and-odd v s o in
        let c = and-odd w s o in
        let x = bit_is v in
        let y = bit_is w in
        two (less-or-same (v % 2) (bit_and (v / 2) (s / 2)) (w % 2) (bit_and (w / 2) (s / 2)) (omega arith) (omega arith) (omega arith)) x y
      where
        two : (bit_and (v / 2) (s / 2) < bit_and (w / 2) (s / 2)) ⊎ ((bit_and (v / 2) (s / 2) ≡ bit_and (w / 2) (s / 2)) × (v % 2 < w % 2))
            → cond (bit v 0) 1 0 ≡ v % 2 → cond (bit w 0) 1 0 ≡ w % 2
            → cond (bit v 0) 1 0 + 2 * row n (s / 2) (v / 2) < cond (bit w 0) 1 0 + 2 * row n (s / 2) (w / 2)
        two (inl k) x y = let q = less k in omega arith
        two (inr (k, l)) x y = let q = same k in omega arith
    go false e less same =
        let o = even s e in
        let a = and-even v s o in
        let c = and-even w s o in
        less (omega arith)
