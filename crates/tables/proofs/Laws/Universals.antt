-- The universals' sets are single different bits that fill the lowest places: the test of kinds and sets side by side, and what it says of each place.
--     size-single, single-size        a set of one place
--     lowest-bit                      the lowest places
--     Bits, bits_is, bits-from        what `universal_bits` says, both ways
use mathlib.Core.Path.{◌≡◌, refl, ap, sym, ◌∙◌}
use mathlib.Core.Bool.{Bool, true, false, cond, ◌&&◌, ◌||◌, and-false, true≢false}
use mathlib.Core.List.{List, [], ◌∷◌}
use mathlib.Core.Logic.{◌⊎◌, inl, inr, ⊎_elim}
use Prim.Native.Nat.{ℕ, zero, suc, ◌-◌, ◌/◌, ◌%◌, ◌^◌, ◌<◌}
use native.Mathlib.Nat.{pow-suc, mod-lt, zero-lt-suc, not-suc-le-zero, le_of_suc-le-suc}
use native.Mathlib.Omega.{arith}
use borrow.Author.Tests.{eqb-true, eqb-false, eq-eqb, ne_eqb, lt-ltb, le-ltb, ltb-true}
use lib.Arith.{bin_ind}
use lib.Bits.{bit_and, bit_or}
use lib.Count.{ones, ones_step, ones-ones}
use lib.Dec.{eqb, ltb, leb-suc-suc}
use lib.ListN.{length, get_or}
use lib.Pow.{pow_pos}
use Rattle.dqbf.specs.Set.{bit, single, union}
use Rattle.dqbf.proofs.Laws.Tests.{and_left, and_right, both, or_no, or-either, or_right}
use Rattle.dqbf.proofs.Laws.Words.{bit-zero, bit-and, bit-or, bit-ext, bit-single}
use Rattle.dqbf.proofs.Laws.Counting.{single-one}
use Rattle.tables.specs.WellFormed.{lowest, new_bit, universal_bits}

-- ---- sets of one place

ones_none : (w : ℕ) → ones w ≡ 0 → w ≡ 0
ones_none = bin_ind (λ w. ones w ≡ 0 → w ≡ 0) (λ e. refl) (λ w ih e. let h = ones_step w in let z = ih (omega arith) in omega arith)

pub size-single : (w : ℕ) → ones w ≡ 1 → (i : ℕ) × (w ≡ single i)
size-single = bin_ind (λ w. ones w ≡ 1 → (i : ℕ) × (w ≡ 2 ^ i)) (λ e. absurd (omega (arith, ones-ones 0))) step
  where
    step : (w : ℕ) → (ones (w / 2) ≡ 1 → (i : ℕ) × (w / 2 ≡ 2 ^ i)) → ones w ≡ 1 → (i : ℕ) × (w ≡ 2 ^ i)
    step w ih e = go (w % 2) refl (mod-lt w (zero-lt-suc 1))
      where
        go : (d : ℕ) → w % 2 ≡ d → d < 2 → (i : ℕ) × (w ≡ 2 ^ i)
        go zero q h = let r = ih (omega (arith, ones_step w)) in (suc r.0, omega (arith, r.1, pow-suc 2 r.0))
        go (suc d) q h = (0, omega (arith, ones_none (w / 2) (omega (arith, ones_step w))))

pub single-size : (i : ℕ) → ones (single i) ≡ 1
single-size zero = ones-ones 1
single-size (suc i) =
    let h : 2 ^ suc i / 2 ≡ 2 ^ i = omega (arith, pow-suc 2 i) in
    let l : 2 ^ suc i % 2 ≡ 0 = omega (arith, pow-suc 2 i) in
    ones_step (2 ^ suc i) ∙ rw (h, l) (omega (arith, single-size i))

pub lowest-bit : (n i : ℕ) → bit (lowest n) i ≡ ltb i n
unfolding lowest bit
lowest-bit zero i = bit-zero i ∙ sym (le-ltb i 0 (omega arith))
lowest-bit (suc n) zero =
    let l : (2 ^ suc n - 1) % 2 ≡ 1 = omega (arith, pow-suc 2 n, pow_pos n) in
    rw l (sym (lt-ltb 0 (suc n) (omega arith)))
lowest-bit (suc n) (suc i) =
    let h : (2 ^ suc n - 1) / 2 ≡ 2 ^ n - 1 = omega (arith, pow-suc 2 n, pow_pos n) in
    rw h (lowest-bit n i ∙ sym (leb-suc-suc (suc i) n))

-- ---- a place of a union

module _ (seen j i : ℕ) where
  joined : bit (union seen (single j)) i ≡ (bit seen i || eqb j i)
  joined = bit-or seen (2 ^ j) i ∙ ap (λ b. bit seen i || b) (bit-single j i)

  unseen : bit (union seen (single j)) i ≡ false → bit seen i ≡ false
  unseen e = (or_no (bit seen i) (eqb j i) (sym joined ∙ e)).0

  apart : bit (union seen (single j)) i ≡ false → j ≡ i → ⊥
  apart e = eqb-false j i (or_no (bit seen i) (eqb j i) (sym joined ∙ e)).1

  keeps-out : bit seen i ≡ false → (j ≡ i → ⊥) → bit (union seen (single j)) i ≡ false
  keeps-out e d = joined ∙ rw (e, ne_eqb j i d)

  holds-old : bit seen i ≡ true → bit (union seen (single j)) i ≡ true
  holds-old e = joined ∙ rw e

  came : bit (union seen (single j)) i ≡ true → (bit seen i ≡ true) ⊎ (j ≡ i)
  came e = go (or-either (bit seen i) (eqb j i) (sym joined ∙ e))
    where
      go : (bit seen i ≡ true) ⊎ (eqb j i ≡ true) → (bit seen i ≡ true) ⊎ (j ≡ i)
      go (inl a) = inl a
      go (inr b) = inr (eqb-true j i b)

holds-new : (seen j : ℕ) → bit (union seen (single j)) j ≡ true
holds-new seen j = joined seen j j ∙ or_right (bit seen j) (eqb j j) (eq-eqb j j refl)

-- ---- universal_bits

-- a single bit that was not seen
fresh : (seen s : ℕ) → ones s ≡ 1 → bit_and seen s ≡ 0 → (j : ℕ) × (s ≡ single j) × (bit seen j ≡ false)
fresh seen s one none = let r = size-single s one in (r.0, r.1, out (bit seen r.0) (bit s r.0) (here r.0 r.1) (free r.0))
  where
    free : (j : ℕ) → (bit seen j && bit s j) ≡ false
    free j = sym (bit-and seen s j) ∙ ap (λ x. bit x j) none ∙ bit-zero j

    here : (j : ℕ) → s ≡ single j → bit s j ≡ true
    here j e = ap (λ x. bit x j) e ∙ bit-single j j ∙ eq-eqb j j refl

    out : (a b : Bool) → b ≡ true → (a && b) ≡ false → a ≡ false
    out true b p q = absurd (true≢false (sym p ∙ q))
    out false b p q = refl

fresh-back : (seen j : ℕ) → bit seen j ≡ false → bit_and seen (single j) ≡ 0
fresh-back seen j e = bit-ext (bit_and seen (2 ^ j)) 0 (λ i. bit-and seen (2 ^ j) i ∙ ap (λ b. bit seen i && b) (bit-single j i) ∙ go i (eqb j i) refl ∙ sym (bit-zero i))
  where
    go : (i : ℕ) (b : Bool) → eqb j i ≡ b → (bit seen i && b) ≡ false
    go i true q = rw (← eqb-true j i q, e)
    go i false q = and-false (bit seen i)

-- some universal's set is place j
abbrev pub Taken : (kinds sets : List ℕ) → ℕ → Type 0
Taken kinds sets j = (i : ℕ) × (i < length kinds) × (get_or kinds i 0 ≡ 1) × (get_or sets i 0 ≡ single j)

behind : (k s : ℕ) (kinds sets : List ℕ) (j : ℕ) → Taken kinds sets j → Taken (k ∷ kinds) (s ∷ sets) j
behind k s kinds sets j g = (suc g.0, omega (arith, g.1), g.2, g.3)

-- what the test says of each place: beside those seen before, each universal has a place of its own, and none of the lowest is left
pub record Bits (n seen : ℕ) (kinds sets : List ℕ) : Type 0 where
  pub low : (i : ℕ) → bit seen i ≡ true → i < n
  pub sole : (i : ℕ) → i < length kinds → get_or kinds i 0 ≡ 1 → (j : ℕ) × (j < n) × (get_or sets i 0 ≡ single j) × (bit seen j ≡ false)
  pub different : (i i' : ℕ) → i < length kinds → i' < length kinds → get_or kinds i 0 ≡ 1 → get_or kinds i' 0 ≡ 1 → get_or sets i 0 ≡ get_or sets i' 0 → i ≡ i'
  pub filled : (j : ℕ) → j < n → bit seen j ≡ false → Taken kinds sets j

module _ (n : ℕ) where
  -- what the test says of the variable in front: it is a universal with a new place, or none
  front : {P : Type 0} (seen k s : ℕ) (kinds sets : List ℕ) → universal_bits seen (lowest n) (k ∷ kinds) (s ∷ sets) ≡ true
      → (k ≡ 1 → (j : ℕ) → s ≡ single j → bit seen j ≡ false → universal_bits (union seen (single j)) (lowest n) kinds sets ≡ true → P)
      → ((k ≡ 1 → ⊥) → universal_bits seen (lowest n) kinds sets ≡ true → P) → P
  unfolding universal_bits new_bit
  front {P} seen k s kinds sets e universal other = go (eqb k 1) refl e
    where
      go : (b : Bool) → eqb k 1 ≡ b → cond b (new_bit seen s && universal_bits (bit_or seen s) (lowest n) kinds sets) (universal_bits seen (lowest n) kinds sets) ≡ true → P
      go false q e = other (eqb-false k 1 q) e
      go true q e =
          let w = and_left (new_bit seen s) (universal_bits (bit_or seen s) (lowest n) kinds sets) e in
          let one = eqb-true (ones s) 1 (and_left (eqb (ones s) 1) (eqb (bit_and seen s) 0) w) in
          let none = eqb-true (bit_and seen s) 0 (and_right (eqb (ones s) 1) (eqb (bit_and seen s) 0) w) in
          let r = fresh seen s one none in
          universal (eqb-true k 1 q) r.0 r.1 r.2 (rw r.1 at (and_right (new_bit seen s) (universal_bits (bit_or seen s) (lowest n) kinds sets) e))

  -- a place that was seen is one of the lowest
  at-end : (seen : ℕ) → eqb seen (lowest n) ≡ true → (i : ℕ) → bit seen i ≡ ltb i n
  at-end seen e i = ap (λ x. bit x i) (eqb-true seen (lowest n) e) ∙ lowest-bit n i

  bits-seen : (seen : ℕ) (kinds sets : List ℕ) → universal_bits seen (lowest n) kinds sets ≡ true → (i : ℕ) → bit seen i ≡ true → i < n
  unfolding universal_bits
  bits-seen seen [] sets e i h = ltb-true i n (sym (at-end seen e i) ∙ h)
  bits-seen seen (k ∷ kinds) [] e i h = ltb-true i n (sym (at-end seen e i) ∙ h)
  bits-seen seen (k ∷ kinds) (s ∷ sets) e i h =
      front seen k s kinds sets e (λ q j d u r. bits-seen (union seen (single j)) kinds sets r i (holds-old seen j i h)) (λ q r. bits-seen seen kinds sets r i h)

  -- a universal's set is a single bit of the lowest places
  bits-sole : (seen : ℕ) (kinds sets : List ℕ) → length sets ≡ length kinds → universal_bits seen (lowest n) kinds sets ≡ true
      → (i : ℕ) → i < length kinds → get_or kinds i 0 ≡ 1 → (j : ℕ) × (j < n) × (get_or sets i 0 ≡ single j) × (bit seen j ≡ false)
  bits-sole seen [] sets l e i h q = absurd (not-suc-le-zero h)
  bits-sole seen (k ∷ kinds) [] l e i h q = absurd (omega arith)
  bits-sole seen (k ∷ kinds) (s ∷ sets) l e zero h q =
      front seen k s kinds sets e (λ p j d u r. (j, bits-seen (union seen (single j)) kinds sets r j (holds-new seen j), d, u)) (λ p r. absurd (p q))
  bits-sole seen (k ∷ kinds) (s ∷ sets) l e (suc i) h q =
      front seen k s kinds sets e
      (λ p j d u r. let g = bits-sole (union seen (single j)) kinds sets (omega arith) r i (le_of_suc-le-suc h) q in (g.0, g.1, g.2, unseen seen j g.0 g.3))
      (λ p r. bits-sole seen kinds sets (omega arith) r i (le_of_suc-le-suc h) q)

  -- a set in front is none behind it
  first-differs : (seen j : ℕ) (kinds sets : List ℕ) → length sets ≡ length kinds → universal_bits (union seen (single j)) (lowest n) kinds sets ≡ true
      → (i : ℕ) → i < length kinds → get_or kinds i 0 ≡ 1 → single j ≡ get_or sets i 0 → ⊥
  first-differs seen j kinds sets l r i h q d =
      let g = bits-sole (union seen (single j)) kinds sets l r i h q in apart seen j g.0 g.3 (single-one j g.0 (d ∙ g.2))

  bits-different : (seen : ℕ) (kinds sets : List ℕ) → length sets ≡ length kinds → universal_bits seen (lowest n) kinds sets ≡ true
      → (i i' : ℕ) → i < length kinds → i' < length kinds → get_or kinds i 0 ≡ 1 → get_or kinds i' 0 ≡ 1 → get_or sets i 0 ≡ get_or sets i' 0 → i ≡ i'
  bits-different seen [] sets l e i i' h h' q q' d = absurd (not-suc-le-zero h)
  bits-different seen (k ∷ kinds) [] l e i i' h h' q q' d = absurd (omega arith)
  bits-different seen (k ∷ kinds) (s ∷ sets) l e zero zero h h' q q' d = refl
  bits-different seen (k ∷ kinds) (s ∷ sets) l e zero (suc i') h h' q q' d =
      front seen k s kinds sets e (λ p j w u r. absurd (first-differs seen j kinds sets (omega arith) r i' (le_of_suc-le-suc h') q' (sym w ∙ d))) (λ p r. absurd (p q))
  bits-different seen (k ∷ kinds) (s ∷ sets) l e (suc i) zero h h' q q' d =
      front seen k s kinds sets e (λ p j w u r. absurd (first-differs seen j kinds sets (omega arith) r i (le_of_suc-le-suc h) q (sym w ∙ sym d))) (λ p r. absurd (p q'))
  bits-different seen (k ∷ kinds) (s ∷ sets) l e (suc i) (suc i') h h' q q' d =
      front seen k s kinds sets e
      (λ p j w u r. ap suc (bits-different (union seen (single j)) kinds sets (omega arith) r i i' (le_of_suc-le-suc h) (le_of_suc-le-suc h') q q' d))
      (λ p r. ap suc (bits-different seen kinds sets (omega arith) r i i' (le_of_suc-le-suc h) (le_of_suc-le-suc h') q q' d))

  bits-filled : (seen : ℕ) (kinds sets : List ℕ) → length sets ≡ length kinds → universal_bits seen (lowest n) kinds sets ≡ true
      → (j : ℕ) → j < n → bit seen j ≡ false → Taken kinds sets j
  unfolding universal_bits
  bits-filled seen [] sets l e j h o = absurd (true≢false (sym (lt-ltb j n h) ∙ sym (at-end seen e j) ∙ o))
  bits-filled seen (k ∷ kinds) [] l e j h o = absurd (omega arith)
  bits-filled seen (k ∷ kinds) (s ∷ sets) l e j h o =
      front seen k s kinds sets e
      (λ p a w u r. here p a w (eqb a j) refl (λ d. bits-filled (union seen (single a)) kinds sets (omega arith) r j h (keeps-out seen a j o d)))
      (λ p r. behind k s kinds sets j (bits-filled seen kinds sets (omega arith) r j h o))
    where
      here : k ≡ 1 → (a : ℕ) → s ≡ single a → (b : Bool) → eqb a j ≡ b → ((a ≡ j → ⊥) → Taken kinds sets j) → Taken (k ∷ kinds) (s ∷ sets) j
      here p a w true q f = (0, omega arith, p, w ∙ ap (λ x. 2 ^ x) (eqb-true a j q))
      here p a w false q f = behind k s kinds sets j (f (eqb-false a j q))

  pub bits_is : (seen : ℕ) (kinds sets : List ℕ) → length sets ≡ length kinds → universal_bits seen (lowest n) kinds sets ≡ true → Bits n seen kinds sets
  bits_is seen kinds sets l e = record {
    low = bits-seen seen kinds sets e;
    sole = bits-sole seen kinds sets l e;
    different = bits-different seen kinds sets l e;
    filled = bits-filled seen kinds sets l e;
  }

  -- ---- and back

  module _ (seen k s : ℕ) (kinds sets : List ℕ) (f : Bits n seen (k ∷ kinds) (s ∷ sets)) where
    -- a universal in front, with a new place
    rest-universal : k ≡ 1 → (j : ℕ) → j < n → s ≡ single j → bit seen j ≡ false → Bits n (union seen (single j)) kinds sets
    rest-universal q j h d u = record {
      low = λ i e. ⊎_elim (λ w. f.low i w) (λ w. omega arith) (came seen j i e);
      sole = λ i g e. let r = f.sole (suc i) (omega arith) e in
          (r.0, r.1, r.2, keeps-out seen j r.0 r.3 (λ w. zero-suc i (f.different 0 (suc i) (omega arith) (omega arith) q e (d ∙ ap (λ x. 2 ^ x) w ∙ sym r.2))));
      different = λ i i' g g' e e' w. let r = f.different (suc i) (suc i') (omega arith) (omega arith) e e' w in omega arith;
      filled = λ i g e. unfront i (apart seen j i e) (f.filled i g (unseen seen j i e));
    }
      where
        zero-suc : (i : ℕ) → 0 ≡ suc i → ⊥
        zero-suc i e = omega arith

        unfront : (i : ℕ) → (j ≡ i → ⊥) → Taken (k ∷ kinds) (s ∷ sets) i → Taken kinds sets i
        unfront i a (zero, g, e, w) = absurd (a (single-one j i (sym d ∙ w)))
        unfront i a (suc p, g, e, w) = (p, le_of_suc-le-suc g, e, w)

    rest-other : (k ≡ 1 → ⊥) → Bits n seen kinds sets
    rest-other q = record {
      low = f.low;
      sole = λ i g e. f.sole (suc i) (omega arith) e;
      different = λ i i' g g' e e' w. let r = f.different (suc i) (suc i') (omega arith) (omega arith) e e' w in omega arith;
      filled = λ i g e. unfront i (f.filled i g e);
    }
      where
        unfront : (i : ℕ) → Taken (k ∷ kinds) (s ∷ sets) i → Taken kinds sets i
        unfront i (zero, g, e, w) = absurd (q e)
        unfront i (suc p, g, e, w) = (p, le_of_suc-le-suc g, e, w)

  full : (seen : ℕ) (sets : List ℕ) → Bits n seen [] sets → eqb seen (lowest n) ≡ true
  full seen sets f = eq-eqb seen (lowest n) (bit-ext seen (lowest n) (λ i. go i (bit seen i) (ltb i n) refl refl ∙ sym (lowest-bit n i)))
    where
      go : (i : ℕ) (b c : Bool) → bit seen i ≡ b → ltb i n ≡ c → b ≡ c
      go i true c e g = sym (lt-ltb i n (f.low i e)) ∙ g
      go i false true e g = absurd (not-suc-le-zero (f.filled i (ltb-true i n g) e).1)
      go i false false e g = refl

  pub bits-from : (seen : ℕ) (kinds sets : List ℕ) → length sets ≡ length kinds → Bits n seen kinds sets → universal_bits seen (lowest n) kinds sets ≡ true
  unfolding universal_bits new_bit
  bits-from seen [] sets l f = full seen sets f
  bits-from seen (k ∷ kinds) [] l f = absurd (omega arith)
  bits-from seen (k ∷ kinds) (s ∷ sets) l f =
      go (eqb k 1) refl (λ j r. bits-from (union seen (single j)) kinds sets (omega arith) r) (λ r. bits-from seen kinds sets (omega arith) r)
    where
      go : (b : Bool) → eqb k 1 ≡ b → ((j : ℕ) → Bits n (union seen (single j)) kinds sets → universal_bits (union seen (single j)) (lowest n) kinds sets ≡ true)
          → (Bits n seen kinds sets → universal_bits seen (lowest n) kinds sets ≡ true)
          → cond b (new_bit seen s && universal_bits (bit_or seen s) (lowest n) kinds sets) (universal_bits seen (lowest n) kinds sets) ≡ true
      go true q ih ih' =
          let r = f.sole 0 (omega arith) (eqb-true k 1 q) in
          rw r.2
          (both _ _ (both _ _ (eq-eqb (ones (2 ^ r.0)) 1 (single-size r.0)) (eq-eqb (bit_and seen (2 ^ r.0)) 0 (fresh-back seen r.0 r.3)))
          (ih r.0 (rest-universal seen k s kinds sets f (eqb-true k 1 q) r.0 r.1 r.2 r.3)))
      go false q ih ih' = ih' (rest-other seen k s kinds sets f (eqb-false k 1 q))
