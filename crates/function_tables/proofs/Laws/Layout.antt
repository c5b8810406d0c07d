-- Function tables of existentials, variable by variable (deciding, specs/Deciding.antt).
use mathlib.Core.Path.{◌≡◌, refl, sym, ◌∙◌, ap}
use mathlib.Core.Bool.{true, cond}
use mathlib.Core.List.{List, [], ◌∷◌, append-nil}
use Prim.Native.Nat.{ℕ, zero, suc, ◌+◌, ◌-◌, ◌*◌, ◌/◌, ◌%◌, ◌^◌, ◌≤◌, ◌<◌}
use native.Mathlib.Numerals.{add-one}
use native.Mathlib.Nat.{div-div-eq-div-mul, pow-suc, sub-zero}
use native.Mathlib.Decide.{dec_lt}
use native.Mathlib.Omega.{arith}
use borrow.Author.Tests.{eq-eqb, ne_eqb}
use lib.Count.{ones-le}
use lib.Dec.{eqb}
use lib.ListN.{length, get_or, set}
use lib.Seq.{get_or-set_same, get_or-set_other, ext_get_or}
use Rattle.dqbf.specs.Set.{Set, bit, size}
use Rattle.dqbf.specs.Model.{Model, kind_of, set_of}
use Rattle.deciding.specs.Deciding.{table_bits, offset, total_bits, row}
use Rattle.deciding.proofs.Laws.Rows.{bit_is}
use Rattle.deciding.proofs.Laws.Numbers.{offset-rises}
use Rattle.tables.specs.FormulaEntries.{declarations}
use Rattle.sets.specs.Words.{as_set}

-- ---- rows

row-none : (s w : Set) → row 0 s w ≡ 0
unfolding row
row-none s w = refl

row_out : (n : ℕ) (s w : Set) → s % 2 ≡ 0 → row (suc n) s w ≡ row n (s / 2) (w / 2)
unfolding row bit
row_out n s w e = rw e

bit-one : (s : Set) → s % 2 ≡ 1 → bit s 0 ≡ true
unfolding bit
bit-one s e = rw e

row_in : (n : ℕ) (s w : Set) → s % 2 ≡ 1 → row (suc n) s w ≡ w % 2 + 2 * row n (s / 2) (w / 2)
unfolding row
row_in n s w e = rw (bit-one s e) (ap (λ (d : ℕ). d + 2 * row n (s / 2) (w / 2)) (bit_is w))

-- a row by its highest place downwards: k places are left
abbrev pub row_above : (n s w k : ℕ) → ℕ
row_above n s w k = row (n - k) (s / 2 ^ k) (w / 2 ^ k)

module _ (n : ℕ) (s w : Set) where
  pub above-start : 0 ≡ row_above n s w n
  above-start = let e : n - n ≡ 0 = omega arith in sym (ap (λ (d : ℕ). row d (s / 2 ^ n) (w / 2 ^ n)) e ∙ row-none (s / 2 ^ n) (w / 2 ^ n))

  -- one place less
  lower : (k x : ℕ) → 1 ≤ k → x / 2 ^ (k - 1) / 2 ≡ x / 2 ^ k
  lower k x h =
      let e : k ≡ suc (k - 1) = omega arith in
      div-div-eq-div-mul x (2 ^ (k - 1)) 2 ∙ ap (x /◌) (sym (pow-suc 2 (k - 1)) ∙ ap (2 ^◌) (sym e))

  module _ (k : ℕ) (low : 1 ≤ k) (high : k ≤ n) (r : ℕ) (is : r ≡ row_above n s w k) where
    next : n - (k - 1) ≡ suc (n - k)
    next = omega arith

    rest : r ≡ row (n - k) (s / 2 ^ (k - 1) / 2) (w / 2 ^ (k - 1) / 2)
    rest = is ∙ rw (lower k s low, lower k w low)

    pub above-out : (s / 2 ^ (k - 1) % 2 ≡ 1 → ⊥) → r ≡ row_above n s w (k - 1)
    above-out e = rw next (rest ∙ sym (row_out (n - k) (s / 2 ^ (k - 1)) (w / 2 ^ (k - 1)) (omega (arith, e))))

    pub above_in : s / 2 ^ (k - 1) % 2 ≡ 1 → w / 2 ^ (k - 1) % 2 + 2 * r ≡ row_above n s w (k - 1)
    above_in e = rw next (ap (λ (x : ℕ). w / 2 ^ (k - 1) % 2 + 2 * x) rest ∙ sym (row_in (n - k) (s / 2 ^ (k - 1)) (w / 2 ^ (k - 1)) e))

  pub above-done : (k r : ℕ) → k ≡ 0 → r ≡ row_above n s w k → r ≡ row n s w
  above-done k r e is = is ∙ ap (λ (j : ℕ). row (n - j) (s / 2 ^ j) (w / 2 ^ j)) e ∙ rw (sub-zero n, div-one s, div-one w)
    where
      div-one : (x : ℕ) → x / 2 ^ 0 ≡ x
      div-one x = omega arith

-- a row of k places less is small
pub above-small : (n k r : ℕ) → 1 ≤ k → k ≤ n → r < 2 ^ (n - k) → (r < 2 ^ (n - (k - 1))) × ((d : ℕ) → d ≤ 1 → d + 2 * r < 2 ^ (n - (k - 1)))
above-small n k r low high h = let e : n - (k - 1) ≡ suc (n - k) = omega arith in rw e (omega arith, λ d l. omega arith)

pub whole : (n k r : ℕ) → k ≡ 0 → r < 2 ^ (n - k) → r < 2 ^ n
whole n k r e h = let z : n - k ≡ n = omega arith in rw z at h

-- ---- small sets, by their lowest words

pub lowest-word : (ws : List ℕ) (s : Set) → as_set ws ≡ s → s < 2 ^ 4 → get_or ws 0 0 ≡ s
unfolding as_set
lowest-word [] s e h = e
lowest-word (w ∷ ws) s e h = omega arith

-- the sets below i are in their places
abbrev pub Copied : (sets out : List ℕ) → ℕ → Type 0
Copied sets out i = (j : ℕ) → j < i → get_or out j 0 ≡ get_or sets j 0

pub copied_next : (sets out : List ℕ) (i v : ℕ) → i < length out → v ≡ get_or sets i 0 → Copied sets out i → Copied sets (set out i v) (i + 1)
copied_next sets out i v h e p j l = go (dec_lt j i)
  where
    go : Dec (j < i) → get_or (set out i v) j 0 ≡ get_or sets j 0
    go (yes k) = get_or-set_other out i j v 0 (λ q. omega arith) ∙ p j k
    go (no k) = let q : j ≡ i = omega arith in rw q (get_or-set_same out i v 0 h ∙ e)

pub copied-done : (sets out : List ℕ) (i : ℕ) → length out ≡ length sets → length out ≤ i → Copied sets out i → out ≡ sets
copied-done sets out i e h p = ext_get_or 0 out sets e (λ j l. p j (omega arith))

-- ---- tables of bits

-- at most 4 universals, at most 16 bits
pub small_size : (s : Set) → s < 2 ^ 4 → size s ≤ 4
small_size s h = ones-le 4 s h

pub small_power : (k : ℕ) → k ≤ 4 → 2 ^ k ≤ 16
small_power zero h = omega arith
small_power (suc zero) h = omega arith
small_power (suc (suc zero)) h = omega arith
small_power (suc (suc (suc zero))) h = omega arith
small_power (suc (suc (suc (suc zero)))) h = omega arith
small_power (suc (suc (suc (suc (suc k))))) h = absurd (omega arith)

pub shifted : (n : ℕ) → n ≤ 4 → (1 * 2 ^ n) % 4294967296 ≡ 2 ^ n
shifted n h = let p = small_power n h in omega arith

pub no_table : (kind : ℕ) (s : Set) → (kind ≡ 2 → ⊥) → (0 ≡ cond (eqb kind 2) (2 ^ size s) 0) × (0 ≤ 16)
no_table kind s e = (rw (ne_eqb kind 2 e), omega arith)

pub table_is : (kind n : ℕ) (s : Set) → kind ≡ 2 → s < 2 ^ 4 → n ≡ size s → ((1 * 2 ^ n) % 4294967296 ≡ cond (eqb kind 2) (2 ^ size s) 0) × ((1 * 2 ^ n) % 4294967296 ≤ 16)
table_is kind n s e h q =
    let k = small_size s h in
    let l : n ≤ 4 = omega arith in
    rw (shifted n l, eq-eqb kind 2 e, ← q) (refl, small_power n l)

module _ (kinds : List ℕ) (sets : List Set) where
  abbrev m : Model
  m = declarations kinds sets

  pub kind_at : (i : ℕ) → kind_of m (suc i) ≡ get_or kinds i 0
  unfolding kind_of declarations
  kind_at i = ap (λ (l : List ℕ). get_or l i 0) (append-nil kinds)

  pub set_at : (i : ℕ) → set_of m (suc i) ≡ get_or sets i 0
  unfolding set_of declarations
  set_at i = ap (λ (l : List ℕ). get_or l i 0) (append-nil sets)

  pub offset-first : offset m 1 ≡ 0
  unfolding offset table_bits kind_of
  offset-first = refl

  pub offset-next : (i r : ℕ) → r ≡ cond (eqb (get_or kinds i 0) 2) (2 ^ size (get_or sets i 0)) 0 → offset m (suc i) + r ≡ offset m (suc (i + 1))
  unfolding offset table_bits
  offset-next i r e = rw (add-one i) (ap (offset m (suc i) +◌) (e ∙ ap (λ (k : ℕ). cond (eqb k 2) (2 ^ size (get_or sets i 0)) 0) (sym (kind_at i)) ∙ ap (λ (s : Set). cond (eqb (kind_of m (suc i)) 2) (2 ^ size s) 0) (sym (set_at i))))

  pub total-is : total_bits m ≡ offset m (suc (length kinds))
  unfolding total_bits declarations
  total-is = refl

  pub offset-low : (i : ℕ) → i < length kinds → offset m (suc i) ≤ total_bits m
  unfolding total_bits declarations
  offset-low i h = let r = offset-rises m (suc i) (suc (length kinds)) (omega arith) in omega arith

  -- the offsets below i are in their places
  abbrev pub Placed : List ℕ → ℕ → Type 0
  Placed offsets i = (j : ℕ) → j < i → get_or offsets j 0 ≡ offset m (suc j)

  pub placed-next : (offsets : List ℕ) (i total : ℕ) → i < length offsets → total ≡ offset m (suc i) → Placed offsets i → Placed (set offsets i total) (i + 1)
  placed-next offsets i total h e p j l = go (dec_lt j i)
    where
      go : Dec (j < i) → get_or (set offsets i total) j 0 ≡ offset m (suc j)
      go (yes k) = get_or-set_other offsets i j total 0 (λ q. omega arith) ∙ p j k
      go (no k) = let q : j ≡ i = omega arith in rw q (get_or-set_same offsets i total 0 h ∙ e)
