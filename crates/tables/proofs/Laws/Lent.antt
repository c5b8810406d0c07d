-- The sets table as it is lent, four words for each variable: what is read, tested and cleared in its words.
--     long-words, words_long, short-words, leb-words     it is long enough exactly if it has 2,048 words
--     zeros-told                              the words behind the variables in use are 0 exactly if the sets are empty
--     cleared-sets, cleared-spare             zeros over the stated size
--     taken-sets, set-none, set-some, set_past     the sets in use, and one of them
--     new-bit-wide, new-bit-told, lowest-is   the tests of a universal's set, and the lowest places, as the leaves of sets tell them
use mathlib.Core.Path.{◌≡◌, refl, ap, sym, ◌∙◌}
use mathlib.Core.Bool.{Bool, true, false}
use mathlib.Core.List.{List, [], ◌∷◌}
use Prim.Native.Nat.{ℕ, ◌-◌, ◌*◌, ◌/◌, ◌^◌, ◌≤◌, ◌<◌}
use native.Mathlib.Omega.{arith}
use mathlib.Core.Logic.{◌⊎◌, inl, inr}
use borrow.Author.Tests.{eq-eqb, ne_eqb, le-leb, lt-leb, leb-true, leb-false}
use lib.Dec.{eqb, leb, lit<}
use lib.ListN.{length, get_or, take, drop, length-drop}
use lib.Seq.{length-take-le}
use Rattle.dqbf.specs.Limits.{variable_limit}
use Rattle.dqbf.specs.Set.{Set, empty_set, common, size}
use Rattle.dqbf.proofs.Laws.Tests.{either}
use Rattle.tables.specs.declared.LentMut.{LentMut}
use Rattle.tables.specs.Lent.{SameLoans}
use Rattle.sets.specs.Words.{words_each, table_words, none_each, as_set, as_sets, spare_in}
use Rattle.sets.proofs.Laws.Sets.{sets-length, sets-take, sets-drop, sets-zeros, spare-zeros, sets-none}
use Rattle.tables.specs.Tables.{stretch, entry}
use Rattle.tables.specs.Spread.{over}
use Rattle.tables.specs.WellFormed.{all_of, is_zero, lowest, new_bit}
use Rattle.tables.proofs.Laws.Entries.{entry-none, entry-some, entry_past}

four : 0 < 4
four = lit< tt

pub long-words : (w : List ℕ) → variable_limit ≤ length (as_sets words_each w) → table_words ≤ length w
long-words w h = omega (arith, sets-length 4 four w)

pub words_long : (w : List ℕ) → table_words ≤ length w → variable_limit ≤ length (as_sets words_each w)
words_long w h = omega (arith, sets-length 4 four w)

pub short-words : (w : List ℕ) → length w < table_words → length (as_sets words_each w) < variable_limit
short-words w h = omega (arith, sets-length 4 four w)

pub leb-words : (w : List ℕ) → leb variable_limit (length (as_sets words_each w)) ≡ leb table_words (length w)
leb-words w = go (either (leb table_words (length w)))
  where
    go : (leb table_words (length w) ≡ true) ⊎ (leb table_words (length w) ≡ false) → leb variable_limit (length (as_sets words_each w)) ≡ leb table_words (length w)
    go (inl e) = le-leb _ _ (words_long w (leb-true _ _ e)) ∙ sym e
    go (inr e) = lt-leb _ _ (short-words w (leb-false _ _ e)) ∙ sym e

pub ruleset word_tests = (leb-words)

pub taken-sets : (w : List ℕ) (n : ℕ) → 4 * n ≤ length w → as_sets words_each (take (4 * n) w) ≡ take n (as_sets words_each w)
taken-sets w n h = sets-take 4 four w n (omega arith)

-- ---- one set

pub set-none : (w : List ℕ) {x : ℕ} → x ≡ 0 → as_set (0 ∷ 0 ∷ 0 ∷ 0 ∷ []) ≡ entry (as_sets words_each w) x
unfolding as_set
set-none w e = entry-none (as_sets words_each w) e

pub set-some : (w : List ℕ) (x : ℕ) → (x ≡ 0 → ⊥) → {s : Set} → s ≡ get_or (as_sets words_each w) (x - 1) 0 → s ≡ entry (as_sets words_each w) x
set-some w x n e = e ∙ entry-some (as_sets words_each w) x n

pub set_past : (w : List ℕ) (x : ℕ) → (x ≡ 0 → ⊥) → length w / 4 ≤ x - 1 → as_set (0 ∷ 0 ∷ 0 ∷ 0 ∷ []) ≡ entry (as_sets words_each w) x
unfolding as_set
set_past w x n h = entry_past (as_sets words_each w) x n (omega (arith, sets-length 4 four w))

pub set-place : (w : List ℕ) (i : ℕ) → i < length w / 4 → i < length (as_sets words_each w)
set-place w i h = omega (arith, sets-length 4 four w)

-- ---- the tests of a universal's set

module _ (seen s n : ℕ) (e : n ≡ size s) where
  pub new-bit-wide : (n ≡ 1 → ⊥) → new_bit seen s ≡ false
  unfolding new_bit
  new-bit-wide f = rw (ne_eqb (size s) 1 (λ z. f (e ∙ z)))

  pub new-bit-told : n ≡ 1 → {b : Bool} {c : Set} → c ≡ common seen s → b ≡ eqb c empty_set → b ≡ new_bit seen s
  unfolding new_bit
  new-bit-told f p q = rw (eq-eqb (size s) 1 (sym e ∙ f), ← p) q

pub lowest-is : (n : ℕ) {s : Set} → s ≡ 2 ^ n - 1 → s ≡ lowest n
unfolding lowest
lowest-is n e = e

-- ---- zeros

all_none : (l : List ℕ) → all_of is_zero l ≡ none_each l
unfolding all_of is_zero none_each
all_none [] = refl
all_none (x ∷ l) = rw (all_none l)

pub zeros-told : (w : List ℕ) (n : ℕ) → n ≤ variable_limit → table_words ≤ length w → all_of is_zero (stretch (4 * n) table_words w) ≡ all_of is_zero (stretch n variable_limit (as_sets words_each w))
zeros-told w n h k =
    let l = drop (4 * n) w in
    let e : table_words - 4 * n ≡ 4 * (512 - n) = omega arith in
    let room : 4 * (512 - n) ≤ length l = omega (arith, length-drop (4 * n) w) in
    let sets : take (512 - n) (drop n (as_sets 4 w)) ≡ as_sets 4 (take (4 * (512 - n)) l) =
    rw (← sets-drop 4 four w n (omega arith)) (sym (sets-take 4 four l (512 - n) (omega arith))) in
    all_none (take (table_words - 4 * n) l) ∙ ap (λ i. none_each (take i l)) e
    ∙ sym (sets-none 4 four (take (4 * (512 - n)) l) (512 - n) (length-take-le (4 * (512 - n)) l room))
    ∙ ap none_each (sym sets) ∙ sym (all_none (take (512 - n) (drop n (as_sets 4 w))))

module _ (w : List ℕ) (h : table_words ≤ length w) where
  pub cleared-sets : {v : List ℕ} → v ≡ over table_words 0 [] w → as_sets words_each v ≡ over variable_limit 0 [] (as_sets words_each w)
  unfolding over
  cleared-sets e = rw e (sets-zeros 4 four w 512 (omega arith))

  pub cleared-spare : {v : List ℕ} → v ≡ over table_words 0 [] w → spare_in words_each v ≡ spare_in words_each w
  unfolding over
  cleared-spare e = rw e (spare-zeros 4 four w 512 (omega arith))

-- ---- the caller's loans

pub same-loans : (a : LentMut) → SameLoans a a
same-loans a = record { literals = refl; ends = refl; sets = refl; kinds = refl }

pub loans-then : {a b c : LentMut} → SameLoans a b → SameLoans b c → SameLoans a c
loans-then p q = record { literals = q.literals ∙ p.literals; ends = q.ends ∙ p.ends; sets = q.sets ∙ p.sets; kinds = q.kinds ∙ p.kinds }
