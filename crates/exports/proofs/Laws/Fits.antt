-- What a valid model's tables and state hold fits the bytes of its entry.
use mathlib.Core.Path.{◌≡◌, refl, sym, ◌∙◌}
use mathlib.Core.Bool.{Bool, true, false}
use mathlib.Core.List.Memᴰ
use mathlib.Core.List.{List, [], ◌∷◌, ◌++◌, append-nil}
use Prim.Native.Nat.{ℕ, zero, suc, ◌+◌, ◌-◌, ◌/◌, ◌<◌, ◌≤◌, ◌^◌}
use native.Mathlib.Nat.{pow-suc, le_trans}
use native.Mathlib.Omega.{arith}
use lib.IntN.{ℤ, pos, negsuc, nat_abs}
use lib.Pow.{pow_pos}
use lib.Signed.{mag}
use lib.ListN.{length, get_or, replicate, drop_of_length-le, length-append}
use Rattle.dqbf.specs.Limits.{tables, clause_limit, literal_limit, variable_limit}
use Rattle.dqbf.specs.Literal.{Clause, ◌∈◌, total}
use Rattle.dqbf.specs.Set.{bit}
use Rattle.dqbf.specs.Model.{Model, clauses, used, steps, empty_from, lowest_empty, set_of}
use Rattle.dqbf.specs.Valid.{Valid}
use Rattle.dqbf.proofs.Laws.Models.{in_use}
use Rattle.dqbf.proofs.Laws.Words.{bit-zero, bit-ext}
use Rattle.tables.specs.Spread.{flat, ends_from, set_row, over, state_of}
use Rattle.codec.specs.State.{counts}
use Rattle.codec.proofs.Laws.Bytes.{Fits}
use Rattle.codec.proofs.Laws.RoundTrip.{SmallLiterals}

-- ---- every entry of a list, and the default behind it

module _ {A : Type 0} (P : A → Type 0) (z : A) (at-z : P z) where
  abbrev pub Each : List A → Type 0
  Each l = (i : ℕ) → P (get_or l i z)

  pub each_append : (xs ys : List A) → Each xs → Each ys → Each (xs ++ ys)
  each_append [] ys f g i = g i
  each_append (x ∷ xs) ys f g zero = f 0
  each_append (x ∷ xs) ys f g (suc i) = each_append xs ys (λ j. f (suc j)) g i

  pub each-replicate : (n : ℕ) → Each (replicate n z)
  each-replicate zero i = at-z
  each-replicate (suc n) zero = at-z
  each-replicate (suc n) (suc i) = each-replicate n i

  pub each_member : (l : List A) → ((x : A) → x ∈ l → P x) → Each l
  each_member [] f i = at-z
  each_member (x ∷ l) f zero = f x (Memᴰ.head refl)
  each_member (x ∷ l) f (suc i) = each_member l (λ y q. f y (Memᴰ.tail q)) i

  -- a row written over a table of its size
  pub each_over : (size : ℕ) (row t : List A) → length t ≤ size → Each row → Each (over size z row t)
  unfolding over
  each_over size row t h f =
      rw (drop_of_length-le t {i = size} h)
      (each_append row (replicate (size - length row) z ++ []) f (rw (append-nil (replicate (size - length row) z)) (each-replicate (size - length row))))

-- ---- literals

small : (l : ℤ) → nat_abs l ≤ 512 → mag l < 2 ^ 15
small (pos n) h = omega arith
small (negsuc n) h = omega arith

abbrev Small : ℤ → Type 0
Small l = mag l < 2 ^ 15

flat-small : (Cs : List Clause) → ((C : Clause) → C ∈ Cs → (l : ℤ) → l ∈ C → Small l) → Each Small (pos 0) (omega arith) (flat Cs)
unfolding flat
flat-small [] f = λ i. omega arith
flat-small (C ∷ Cs) f =
    each_append Small (pos 0) (omega arith) C (flat Cs) (each_member Small (pos 0) (omega arith) C (f C (Memᴰ.head refl))) (flat-small Cs (λ D q. f D (Memᴰ.tail q)))

-- ---- ends

ends-within : (from n : ℕ) (Cs : List Clause) → from + total Cs ≤ n → (i : ℕ) → get_or (ends_from from Cs) i 0 ≤ n
unfolding ends_from total
ends-within from n [] h i = omega arith
ends-within from n (C ∷ Cs) h zero = omega arith
ends-within from n (C ∷ Cs) h (suc i) = ends-within (from + length C) n Cs (omega arith) i

-- ---- sets

-- a set whose places are all below k
pub set_below : (k w : ℕ) → ((i : ℕ) → bit w i ≡ true → i < k) → w < 2 ^ k
unfolding bit
set_below zero w h = let none : w ≡ 0 = bit-ext w 0 (λ i. off i (bit w i) refl ∙ sym (bit-zero i)) in omega arith
  where
    off : (i : ℕ) (b : Bool) → bit w i ≡ b → bit w i ≡ false
    off i true e = absurd (let never = h i e in omega arith)
    off i false e = e
set_below (suc k) w h =
    let half : w / 2 < 2 ^ k = set_below k (w / 2) (λ i e. let below = h (suc i) e in omega arith) in
    rw (pow-suc 2 k) (omega arith)

-- ---- the lowest empty clause

empty-within : (k : ℕ) (Cs : List Clause) → empty_from k Cs ≤ k + length Cs
unfolding empty_from
empty-within k [] = omega arith
empty-within k ([] ∷ Cs) = omega arith
empty-within k ((l ∷ C) ∷ Cs) = let h = empty-within (suc k) Cs in omega arith

-- ---- eight counts

module _ {a b c d e f g h : ℕ} where
  eight : a < 65536 → b < 65536 → c < 65536 → d < 65536 → e < 65536 → f < 65536 → g < 65536 → h < 65536 → Fits 2 (a ∷ b ∷ c ∷ d ∷ e ∷ f ∷ g ∷ h ∷ [])
  eight p q r s t u v w zero = p
  eight p q r s t u v w (suc zero) = q
  eight p q r s t u v w (suc (suc zero)) = r
  eight p q r s t u v w (suc (suc (suc zero))) = s
  eight p q r s t u v w (suc (suc (suc (suc zero)))) = t
  eight p q r s t u v w (suc (suc (suc (suc (suc zero))))) = u
  eight p q r s t u v w (suc (suc (suc (suc (suc (suc zero)))))) = v
  eight p q r s t u v w (suc (suc (suc (suc (suc (suc (suc zero))))))) = w
  eight p q r s t u v w (suc (suc (suc (suc (suc (suc (suc (suc i)))))))) = omega arith

-- ---- tables and state of a valid model

module _ (m : Model) (v : Valid tables m) where
  pub literals-small : (t : List ℤ) → length t ≤ literal_limit → SmallLiterals (over literal_limit (pos 0) (flat (clauses m)) t)
  literals-small t h =
      each_over Small (pos 0) (omega arith) literal_limit (flat (clauses m)) t h
      (flat-small (clauses m) (λ C q l r. small l (le_trans (in_use m (nat_abs l) ((v.kept C q).over l r)) v.few-variables)))

  pub ends-small : (t : List ℕ) → length t ≤ clause_limit → Fits 2 (over clause_limit 0 (ends_from 0 (clauses m)) t)
  ends-small t h =
      each_over (λ x. x < 256 ^ 2) 0 (omega arith) clause_limit (ends_from 0 (clauses m)) t h
      (λ i. let within = ends-within 0 8192 (clauses m) (omega (arith, v.few-literals)) i in omega arith)

  -- each set has places below 256
  pub sets-small : (t : List ℕ) → length t ≤ variable_limit → (i : ℕ) → get_or (over variable_limit 0 (set_row m) t) i 0 < 2 ^ 256
  unfolding set_row set_of
  sets-small t h = each_over (λ x. x < 2 ^ 256) 0 (pow_pos 256) variable_limit (set_row m) t h (λ i. set_below 256 (set_of m (suc i)) (λ j e. let below = v.within (suc i) j e in omega (arith, v.few-universals)))

  pub counts-small : Fits 2 (counts (state_of m))
  unfolding counts state_of used clauses steps lowest_empty
  counts-small =
      let all = length-append m.formula m.derived in
      eight (omega (arith, v.few-variables)) (omega (arith, v.few-variables)) (omega (arith, v.few-universals)) (omega (arith, v.few-clauses))
      (omega (arith, v.few-clauses)) (omega (arith, v.few-literals)) (omega (arith, v.few-clauses)) (omega (arith, v.few-clauses, empty-within 1 (clauses m)))
