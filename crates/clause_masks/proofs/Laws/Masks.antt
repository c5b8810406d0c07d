-- Masks of literals and clauses (specs/Masking.antt): `masks_met`, `Asks`, `MasksOf`.
use mathlib.Core.Path.{◌≡◌, refl, sym, ◌∙◌, ap, ap₂}
use mathlib.Core.Logic.{◌≢◌}
use mathlib.Core.Bool.{Bool, true, false, ◌||◌, beq, true≢false, false≢true}
use mathlib.Core.Option.{some}
use mathlib.Core.List.{List}
use Prim.Native.Nat.{ℕ, zero, suc, ◌+◌, ◌-◌, ◌^◌, ◌≤◌, ◌<◌}
use native.Mathlib.Numerals.{add-one}
use native.Mathlib.Omega.{arith}
use lib.Bits.{bit_or}
use lib.IntN.{ℤ, pos, negsuc, nat_abs}
use lib.ListN.{length, get_or, drop, drop_of_length-le}
use lib.Seq.{drop-cons}
use lib.Signed.{lt_z}
use Rattle.dqbf.specs.Literal.{Clause}
use Rattle.dqbf.specs.Set.{Set, bit, inside}
use Rattle.dqbf.specs.Meaning.{is}
use Rattle.dqbf.specs.Model.{Model, kind_of, set_of}
use Rattle.dqbf.proofs.Laws.Lists.{nth}
use Rattle.dqbf.proofs.Laws.Tests.{ltb-not}
use Rattle.deciding.specs.Deciding.{offset, row, function_at, value_for, value_at, literal_at, clause_at}
use Rattle.tables.specs.FormulaEntries.{declarations}
use Rattle.family_bits.proofs.Laws.Left.{met-nothing, met-one, met-zero}
use Rattle.function_tables.proofs.Laws.Layout.{kind_at, set_at, offset-low}
use Rattle.clause_masks.specs.declared.Masks.{Masks}
use Rattle.std.specs.Prelude.{Option, Some, None}
use Rattle.clause_masks.specs.Small.{SmallBits}
use Rattle.clause_masks.specs.Masking.{is_negated, signed, Declared, Over, masks_met, Asks, MasksOf}

-- ---- the sign of a literal

pub negative-is : (l : ℤ) → lt_z l (pos 0) ≡ is_negated l
unfolding is_negated
negative-is (pos n) = ltb-not n 0 (omega arith)
negative-is (negsuc n) = refl

-- ---- one literal more

pub literal-false : (r : Option Masks) (n v : Bool) → beq v n ≡ true → Asks r r (λ f. signed n v)
unfolding signed
literal-false r true true e = record { same = λ f. refl }
literal-false r true false e = absurd (false≢true e)
literal-false r false true e = absurd (false≢true e)
literal-false r false false e = record { same = λ f. refl }

pub literal-true : (s : Option Masks) (n v : Bool) → beq v n ≡ false → Asks None s (λ f. signed n v)
unfolding signed masks_met
literal-true s true true e = absurd (true≢false e)
literal-true s true false e = record { same = λ f. refl }
literal-true s false true e = record { same = λ f. refl }
literal-true s false false e = absurd (true≢false e)

module _ (s : Masks) (n : Bool) (place : ℕ) {x : ℕ} where
  pub literal-one : n ≡ false → x ≡ bit_or s.ones (2 ^ place) → Asks (Some (record { ones = x; zeros = s.zeros })) (Some s) (λ f. signed n (bit f place))
  unfolding signed masks_met
  literal-one e o = record { same = λ f. rw (e, o) (met-one s.ones s.zeros place f) }

  pub literal-zero : n ≡ true → x ≡ bit_or s.zeros (2 ^ place) → Asks (Some (record { ones = s.ones; zeros = x })) (Some s) (λ f. signed n (bit f place))
  unfolding signed masks_met
  literal-zero e z = record { same = λ f. rw (e, z) (met-zero s.ones s.zeros place f) }

pub asks-by : (r s : Option Masks) (P Q : ℕ → Bool) → Asks r s P → ((f : ℕ) → P f ≡ Q f) → Asks r s Q
asks-by r s P Q a e = record { same = λ f. a.same f ∙ ap (◌|| masks_met s f) (e f) }

-- ---- a literal by the kind of its variable

module _ (m : Model) (f : ℕ) (w : Set) where
  is_signed : (l : ℤ) (v : Bool) → 0 < nat_abs l → ((k : ℕ) → nat_abs l ≡ suc k → value_at m f (suc k) w ≡ some v) → literal_at m f w l ≡ signed (is_negated l) v
  unfolding literal_at signed is_negated is
  is_signed (pos zero) v h e = absurd (omega arith)
  is_signed (pos (suc k)) v h e = rw (e k refl)
  is_signed (negsuc k) v h e = rw (e k refl)

  pub universal-literal : (l : ℤ) → 0 < nat_abs l → kind_of m (nat_abs l) ≡ 1 → literal_at m f w l ≡ signed (is_negated l) (inside (set_of m (nat_abs l)) w)
  unfolding value_at value_for
  universal-literal l h e = is_signed l (inside (set_of m (nat_abs l)) w) h (λ k q. rw (← q, e))

  pub existential-literal : (l : ℤ) → 0 < nat_abs l → kind_of m (nat_abs l) ≢ 0 → kind_of m (nat_abs l) ≢ 1 → literal_at m f w l ≡ signed (is_negated l) (function_at m f (nat_abs l) w)
  unfolding value_at value_for
  existential-literal l h a b = is_signed l (function_at m f (nat_abs l) w) h (λ k q. rw (← q) (go (kind_of m (nat_abs l)) a b))
    where
      go : (k : ℕ) → k ≢ 0 → k ≢ 1 → value_for k (inside (set_of m (nat_abs l)) w) (function_at m f (nat_abs l) w) ≡ some (function_at m f (nat_abs l) w)
      go zero p q = absurd (p refl)
      go (suc zero) p q = absurd (q refl)
      go (suc (suc k)) p q = refl

module _ {kinds : List ℕ} {sets : List Set} {offsets : List ℕ} {u : ℕ} (b : SmallBits kinds sets offsets u) (l : ℤ) (d : Declared (declarations kinds sets) l)
    (p : ℕ) (e : p ≡ nat_abs l) where
  abbrev m : Model
  m = declarations kinds sets

  pub place-first : 1 ≤ p
  place-first = omega (arith, d.0)

  pub place-kinds : p - 1 < length kinds
  unfolding declarations
  place-kinds = omega (arith, d.0, d.1)

  pub place-sets : p - 1 < length sets
  place-sets = omega (arith, place-kinds, b.even)

  pub place-offsets : p - 1 < length offsets
  unfolding declarations
  place-offsets = omega (arith, place-kinds, b.laid.room)

  number : suc (p - 1) ≡ nat_abs l
  number = omega (arith, d.0)

  start_is : get_or offsets (p - 1) 0 ≡ offset m (nat_abs l)
  unfolding declarations
  start_is = b.laid.at (p - 1) place-kinds ∙ ap (offset m) number

  pub start_small : get_or offsets (p - 1) 0 ≤ 16
  start_small = let k = offset-low kinds sets (p - 1) place-kinds in let q = ap (offset m) number in omega (arith, start_is, b.few_bits)

  set_is : set_of m (nat_abs l) ≡ get_or sets (p - 1) 0
  set_is = ap (set_of m) (sym number) ∙ set_at kinds sets (p - 1)

  kind-is : kind_of m (nat_abs l) ≡ get_or kinds (p - 1) 0
  kind-is = ap (kind_of m) (sym number) ∙ kind_at kinds sets (p - 1)

  module _ (w : Set) (r s : Option Masks) (n : Bool) (sign : n ≡ is_negated l) where
    pub asks-universal : (v : Bool) → v ≡ inside (get_or sets (p - 1) 0) w → get_or kinds (p - 1) 0 ≡ 1 → Asks r s (λ f. signed n v) → Asks r s (λ f. literal_at m f w l)
    asks-universal v q k a = asks-by r s (λ f. signed n v) (λ f. literal_at m f w l) a
        (λ f. ap₂ signed sign (q ∙ ap (λ (x : Set). inside x w) (sym set_is)) ∙ sym (universal-literal m f w l d.0 (kind-is ∙ k)))

    pub asks-existential : (q : ℕ) → q ≡ get_or offsets (p - 1) 0 + row u (get_or sets (p - 1) 0) w → (get_or kinds (p - 1) 0 ≡ 1 → ⊥) → Asks r s (λ f. signed n (bit f q)) → Asks r s (λ f. literal_at m f w l)
    unfolding function_at
    asks-existential q t k a = asks-by r s (λ f. signed n (bit f q)) (λ f. literal_at m f w l) a
        (λ f. ap₂ signed sign (ap (bit f) (t ∙ ap₂ ◌+◌ start_is (ap₂ (λ (c : ℕ) (x : Set). row c x w) b.counted (sym set_is))))
        ∙ sym (existential-literal m f w l d.0 d.2 (λ z. k (sym kind-is ∙ z))))

-- ---- a clause, literal by literal

module _ (m : Model) (w : Set) (C : Clause) where
  abbrev pub Collected : Option Masks → ℕ → Type 0
  Collected r i = (f : ℕ) → clause_at m f w C ≡ (masks_met r f || clause_at m f w (drop i C))

  pub collected-start : Collected (Some (record { ones = 0; zeros = 0 })) 0
  unfolding masks_met
  collected-start f = rw (met-nothing f)

  pub collected-next : (r s : Option Masks) (i : ℕ) (l : ℤ) → i < length C → l ≡ get_or C i (pos 0) → Collected s i → Asks r s (λ f. literal_at m f w l) → Collected r (i + 1)
  unfolding clause_at
  collected-next r s i l h e c a f =
      c f ∙ ap (λ (D : Clause). masks_met s f || clause_at m f w D) (drop-cons C i (pos 0) h)
      ∙ ap (λ (k : ℤ). masks_met s f || (literal_at m f w k || clause_at m f w (drop (suc i) C))) (sym e)
      ∙ go (masks_met s f) (literal_at m f w l) (clause_at m f w (drop (suc i) C))
      ∙ ap (◌|| clause_at m f w (drop (suc i) C)) (sym (a.same f))
      ∙ ap (λ (j : ℕ). masks_met r f || clause_at m f w (drop j C)) (sym (add-one i))
    where
      go : (p q r : Bool) → (p || (q || r)) ≡ ((q || p) || r)
      go true true r = refl
      go true false r = refl
      go false true r = refl
      go false false r = refl

  pub collected-done : (r : Option Masks) (i : ℕ) → length C ≤ i → Collected r i → MasksOf m w C r
  unfolding clause_at
  collected-done r i h c = record { same = λ f. c f ∙ ap (λ (D : Clause). masks_met r f || clause_at m f w D) (drop_of_length-le C {i = i} h) ∙ or-none (masks_met r f) }
    where
      or-none : (b : Bool) → (b || false) ≡ b
      or-none true = refl
      or-none false = refl

  -- nothing is asked any more
  pub collected-true : (i : ℕ) → Collected None i → MasksOf m w C None
  unfolding masks_met
  collected-true i c = record { same = λ f. c f }

  pub literal-over : Over m C → (i : ℕ) (l : ℤ) → i < length C → l ≡ get_or C i (pos 0) → Declared m l
  literal-over o i l h e = rw e (o (get_or C i (pos 0)) (nth C i (pos 0) h))
