-- Small formulas decided by trying every family (document 02, Note 8: "The answer is true with the first family in number order that makes the formula true, or
-- false if none does").
-- A setting is the set word of the universals that are true there. A family is a number: the function tables of the existentials one behind the other, "variables
-- ascending, settings of each set ascending as set words, first bit least, 1 for true". The truth of a clause is that of dqbf's specs/Meaning.antt, said of a model;
-- specs/Statements ties the two together.
--     table_bits, offset, total_bits      the function tables' bits
--     row                               the place of a setting in the table of a set
--     function_at                        what the function of a variable answers, by the family's number
--     value_at, literal_at, clause_at      truth of a clause under a family at a setting
--     makes_true                         truth of the formula under a family
--     least_from, first_family            the first family that makes the formula true
--     above, Decision, decide           the answer
use Rattle.std.specs.Prelude.{Bool, true, false, cond, ◌&&◌, ◌||◌, List, [], ◌∷◌, ℕ, zero, suc, ◌+◌, ◌*◌, ◌/◌, ◌^◌, eqb, ltb, ℤ, pos, negsuc, length}
use Rattle.std.proofs.Math.Option.{Option, none, some}
use Rattle.dqbf.specs.Limits.{small_universals, small_bits}
use Rattle.dqbf.specs.Refusal.{Refusal, refusal}
use Rattle.dqbf.specs.Literal.{Clause}
use Rattle.dqbf.specs.Set.{Set, bit, inside, size}
use Rattle.dqbf.specs.Model.{Model, universal_count, kind_of, set_of}
use Rattle.dqbf.specs.Meaning.{is}
use Rattle.dqbf.specs.Spelled.{formula_part}

-- ---- families as numbers

-- an existential's function table has a bit for each setting of its set
unfoldable pub table_bits : Model → ℕ → ℕ
table_bits m x = cond (eqb (kind_of m x) 2) (2 ^ size (set_of m x)) 0

-- where the table of a variable starts: behind those of the variables below it
unfoldable pub offset : Model → ℕ → ℕ
offset m zero = 0
offset m (suc x) = offset m x + table_bits m x

-- of the variables up to V together
unfoldable pub total_bits : Model → ℕ
total_bits m = offset m (suc (length m.kinds))

-- The place of a setting among the settings of a set, in ascending order: the values at the set's places below n, the lowest place least.
unfoldable pub row : ℕ → Set → Set → ℕ
row zero s w = 0
row (suc n) s w = let rest = row n (s / 2) (w / 2) in cond (bit s 0) (cond (bit w 0) 1 0 + 2 * rest) rest

-- the answer of a variable's function at a setting: a bit of the family's number
unfoldable pub function_at : Model → (family x : ℕ) → (setting : Set) → Bool
function_at m f x w = bit f (offset m x + row (universal_count m) (set_of m x) w)

-- ---- truth (dqbf, specs/Meaning.antt), of a model under a family at a setting

-- a universal has the value given there, an existential its function's answer; an undeclared variable has none
unfoldable pub value_for : (kind : ℕ) → (universal existential : Bool) → Option Bool
value_for zero u e = none
value_for (suc zero) u e = some u
value_for (suc (suc k)) u e = some e

unfoldable pub value_at : Model → (family x : ℕ) → (setting : Set) → Option Bool
value_at m f x w = value_for (kind_of m x) (inside (set_of m x) w) (function_at m f x w)

unfoldable pub literal_at : Model → (family : ℕ) → (setting : Set) → ℤ → Bool
literal_at m f w (pos zero) = false
literal_at m f w (pos (suc k)) = is true (value_at m f (suc k) w)
literal_at m f w (negsuc k) = is false (value_at m f (suc k) w)

unfoldable pub clause_at : Model → (family : ℕ) → (setting : Set) → Clause → Bool
clause_at m f w [] = false
clause_at m f w (l ∷ C) = literal_at m f w l || clause_at m f w C

-- all numbers below n pass a test
unfoldable pub all_below : ℕ → (ℕ → Bool) → Bool
all_below zero P = true
all_below (suc n) P = P 0 && all_below n (λ i. P (suc i))

-- a clause is true at every setting
unfoldable pub always_true : Model → (family : ℕ) → Clause → Bool
always_true m f C = all_below (2 ^ universal_count m) (λ w. clause_at m f w C)

unfoldable pub all_true : Model → (family : ℕ) → List Clause → Bool
all_true m f [] = true
all_true m f (C ∷ Cs) = always_true m f C && all_true m f Cs

-- every clause of the formula, at every setting
unfoldable pub makes_true : Model → (family : ℕ) → Bool
makes_true m f = all_true m f m.formula

-- ---- the first family in number order

-- the least of n numbers from k on that passes a test
unfoldable pub least_from : ℕ → ℕ → (ℕ → Bool) → Option ℕ
least_from k zero P = none
least_from k (suc n) P = let rest = least_from (suc k) n P in cond (P k) (some k) rest

unfoldable pub first_family : Model → Option ℕ
first_family m = least_from 0 (2 ^ total_bits m) (makes_true m)

-- ---- the answer

pub data Decision : Type 0 where
  true_by : (family : ℕ) → Decision  -- true, with the first family that makes the formula true
  no_family : Decision  -- false
  undecided : Refusal → Decision

unfoldable pub decided : Option ℕ → Decision
decided none = no_family
decided (some f) = true_by f

-- 31: formula above these limits
unfoldable pub above : Model → Bool
above m = ltb small_universals (universal_count m) || ltb small_bits (total_bits m)

-- "Only the formula's own clauses and declared variables count"
unfoldable pub decide : Model → Decision
decide m =
    let p = formula_part m in
    let answer = decided (first_family p) in
    cond (above p) (undecided (refusal 31)) answer
