-- Entries that are 0, tested and written one after the other.
--     zero-told, zero-literal-told                             the test of one entry; a literal is tested by its bits
--     cleared-next, cleared-all, cleared-tables                one turn of the clearing, its end, and all four tables
use mathlib.Core.Path.{◌≡◌, refl, ap, sym, ◌∙◌}
use mathlib.Core.Logic.{◌⊎◌, inl, inr}
use mathlib.Core.Bool.{true, false}
use mathlib.Core.List.{List, [], ◌∷◌, ◌++◌, append_assoc}
use Prim.Native.Nat.{ℕ, suc, ◌+◌, ◌≤◌, ◌<◌, ◌^◌}
use native.Mathlib.Nat.{sub-zero}
use native.Mathlib.Numerals.{add-one}
use native.Mathlib.Omega.{arith}
use borrow.Author.Tests.{eq-eqb, ne_eqb, eqb-true, eqb-false}
use lib.Dec.{eqb}
use mir.Syntax.{w16}
use mir.Val.{to_z, of_z}
use lib.IntN.{ℤ, pos, negsuc, nat_abs}
use lib.Signed.{mag}
use lib.ListN.{length, get_or, drop, set, replicate, length-replicate, replicate-append-replicate}
use lib.Seq.{drop-cons, set_at}
use Rattle.dqbf.specs.Limits.{clause_limit, literal_limit, variable_limit}
use Rattle.dqbf.specs.Literal.{same}
use Rattle.dqbf.specs.Model.{clauses}
use Rattle.dqbf.proofs.Laws.Signed.{kept16}
use Rattle.dqbf.proofs.Laws.Tests.{either}
use Rattle.sets.specs.Words.{words_each, as_sets, spare_in}
use Rattle.tables.specs.Tables.{Tables, tables_of}
use Rattle.tables.specs.Spread.{flat, ends_from, over, spread, kind_row, set_row, blank}
use Rattle.std.proofs.Common.{nat_eq}
use Rattle.std.specs.Bool.{Decides}
use Rattle.std.specs.Ordering.{int_eq}
use Rattle.std.proofs.lemmas.Bool.Decides.{same_from_decides, Decides-int_eq}
use Rattle.tables.specs.WellFormed.{all_of, is_zero, is_zero_literal}

pub zero-told : (x : ℕ) → eqb x 0 ≡ is_zero x
unfolding is_zero
zero-told x = refl

zero-literal-yes : (l : ℤ) → mag l < 2 ^ 15 → of_z w16 l ≡ 0 → is_zero_literal l ≡ true
unfolding is_zero_literal same
zero-literal-yes l h e = let q : l ≡ pos 0 = sym (kept16 h) ∙ ap (to_z w16) e in rw q

zero-literal-no : (l : ℤ) → (of_z w16 l ≡ 0 → ⊥) → is_zero_literal l ≡ false
unfolding is_zero_literal same
zero-literal-no (pos n) h = ne_eqb n 0 (λ q. h (ap (λ k. of_z w16 (pos k)) q))
zero-literal-no (negsuc n) h = refl

pub zero-literal-told : (l : ℤ) → mag l < 2 ^ 15 → eqb (of_z w16 l) 0 ≡ is_zero_literal l
zero-literal-told l h = go (either (eqb (of_z w16 l) 0))
  where
    go : (eqb (of_z w16 l) 0 ≡ true) ⊎ (eqb (of_z w16 l) 0 ≡ false) → eqb (of_z w16 l) 0 ≡ is_zero_literal l
    go (inl e) = e ∙ sym (zero-literal-yes l h (eqb-true (of_z w16 l) 0 e))
    go (inr e) = e ∙ sym (zero-literal-no l (eqb-false (of_z w16 l) 0 e))

-- entries that equal 0, as the code compares them
pub zero-entries : (l : List ℕ) → all_of (λ x. nat_eq x 0) l ≡ all_of is_zero l
unfolding is_zero
zero-entries l = refl

zero-literal : (x : ℤ) → int_eq x (pos 0) ≡ is_zero_literal x
unfolding is_zero_literal same
zero-literal x = same_from_decides _ _ (Decides-int_eq x (pos 0)) (told x)
  where
    told : (x : ℤ) → Decides (is_zero_literal x) (x ≡ pos 0)
    told (pos n) = (λ e. ap pos (eqb-true n 0 e), λ e. eq-eqb n 0 (ap nat_abs e))
    told (negsuc n) = (λ e. absurd (cc e), λ e. absurd (cc e))

pub zero-literals : (l : List ℤ) → all_of (λ x. int_eq x (pos 0)) l ≡ all_of is_zero_literal l
unfolding all_of
zero-literals [] = refl
zero-literals (x ∷ l) = rw (zero-literals l, zero-literal x)

module _ {A : Type 0} (z : A) where
  pub cleared-next : (t t₀ : List A) (i : ℕ) → i < length t₀ → t ≡ replicate i z ++ drop i t₀ → set t i z ≡ replicate (i + 1) z ++ drop (i + 1) t₀
  cleared-next t t₀ i h e =
      rw (
        e,
        drop-cons t₀ i z h,
        set_at (replicate i z) (get_or t₀ i z) (drop (suc i) t₀) z i (length-replicate i z),
        ← replicate-append-replicate i 1 z,
        append_assoc (replicate i z) (z ∷ []) (drop (i + 1) t₀),
        add-one,
      )

  pub cleared-all : (t t₀ : List A) (size i : ℕ) → i ≤ size → size ≤ i → t ≡ replicate i z ++ drop i t₀ → t ≡ over size z [] t₀
  unfolding over
  cleared-all t t₀ size i h k e = let q : i ≡ size = omega arith in rw (e, q, sub-zero size)

-- all four tables cleared
pub cleared-tables : (t : Tables) (w : List ℕ) {l : List ℤ} {e k : List ℕ} → l ≡ over literal_limit (pos 0) [] t.literals → e ≡ over clause_limit 0 [] t.ends
    → as_sets words_each w ≡ over variable_limit 0 [] t.sets → spare_in words_each w ≡ t.spare → k ≡ over variable_limit 0 [] t.kinds → tables_of l e w k ≡ spread blank t
unfolding spread flat ends_from clauses set_row kind_row
cleared-tables t w p q r u v = λ i. record { literals = p i; ends = q i; sets = r i; spare = u i; kinds = v i }
