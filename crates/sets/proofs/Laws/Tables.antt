-- Sets, their words and the words of a table, there and back.
--     table-length, table_fits     how many words sets have, each of 64 bits
--     table-append, table-zeros, table-drop     the words of sets behind others, of empty sets, and those behind the first sets
--     sets-again, spare-again      the sets are read back from their words, and no word is left
--     spare-none                   a table of the stated size has none to spare
--     sets-room, sets-kept         room for so many sets, in words; as many words have room for as many sets
use mathlib.Core.Path.{◌≡◌, refl, sym, ◌∙◌, ap}
use mathlib.Core.List.{List, [], ◌∷◌, ◌++◌, append_assoc}
use Prim.Native.Nat.{ℕ, zero, suc, ◌*◌, ◌/◌, ◌^◌, ◌<◌, ◌≤◌}
use native.Mathlib.Nat.{add_comm, mul-suc, mul-one, mul-zero, mul-div_right, zero-div, zero-mod}
use native.Mathlib.Omega.{arith}
use lib.Dec.{lit<}
use lib.ListN.{length, get_or, drop, replicate, length-append, drop_of_length-le, replicate-append-replicate}
use lib.Seq.{drop_at, drop-drop}
use lib.Pow.{pow_pos}
use Rattle.dqbf.specs.Set.{Set}
use Rattle.sets.specs.Words.{Words, words_each, table_words, words_of, first_sets, as_sets, spare_in, table_of}
use Rattle.sets.proofs.Laws.Words.{words-of, set_back}
use Rattle.sets.proofs.Laws.Sets.{sets-length, sets-append, sets-one}

words-length : (n : ℕ) (s : Set) → length (words_of n s) ≡ n
unfolding words_of
words-length zero s = refl
words-length (suc n) s = ap suc (words-length n (s / 2 ^ 64))

words-zeros : (n : ℕ) → words_of n 0 ≡ replicate n 0
unfolding words_of
words-zeros zero = refl
words-zeros (suc n) = rw (zero-mod (2 ^ 64), zero-div (2 ^ 64)) (ap (λ (l : List ℕ). 0 ∷ l) (words-zeros n))

words-fit : (n : ℕ) (ws : List ℕ) → Words n ws → (i : ℕ) → get_or ws i 0 < 2 ^ 64
unfolding Words
words-fit (suc n) [] h i = elim h [ ]
words-fit zero (w ∷ ws) h i = elim h [ ]
words-fit zero [] h i = pow_pos 64
words-fit (suc n) (w ∷ ws) h zero = h.0
words-fit (suc n) (w ∷ ws) h (suc i) = words-fit n ws h.1 i

behind : (xs ys : List ℕ) → ((i : ℕ) → get_or xs i 0 < 2 ^ 64) → ((i : ℕ) → get_or ys i 0 < 2 ^ 64) → (i : ℕ) → get_or (xs ++ ys) i 0 < 2 ^ 64
behind [] ys f g i = g i
behind (x ∷ xs) ys f g zero = f 0
behind (x ∷ xs) ys f g (suc i) = behind xs ys (λ j. f (suc j)) g i

module _ (n : ℕ) where
  pub table-length : (S : List Set) → length (table_of n S) ≡ n * length S
  unfolding table_of
  table-length [] = sym (mul-zero n)
  table-length (s ∷ S) = omega (arith, length-append (words_of n s) (table_of n S), words-length n s, table-length S, mul-suc n (length S))

  pub table_fits : (S : List Set) (i : ℕ) → get_or (table_of n S) i 0 < 2 ^ 64
  unfolding table_of
  table_fits [] i = pow_pos 64
  table_fits (s ∷ S) i = behind (words_of n s) (table_of n S) (words-fit n (words_of n s) (words-of n s)) (table_fits S) i

  pub table-append : (S T : List Set) → table_of n (S ++ T) ≡ table_of n S ++ table_of n T
  unfolding table_of
  table-append [] T = refl
  table-append (s ∷ S) T = rw (table-append S T) (sym (append_assoc (words_of n s) (table_of n S) (table_of n T)))

  pub table-zeros : (k : ℕ) → table_of n (replicate k 0) ≡ replicate (n * k) 0
  unfolding table_of
  table-zeros zero = rw (mul-zero n)
  table-zeros (suc k) = rw (words-zeros n, table-zeros k, mul-suc n k, add_comm (n * k) n) (replicate-append-replicate n (n * k) 0)

  pub table-drop : (k : ℕ) (S : List Set) → drop (n * k) (table_of n S) ≡ table_of n (drop k S)
  unfolding table_of
  table-drop zero S = rw (mul-zero n)
  table-drop (suc k) [] = drop_of_length-le {A = ℕ} [] {i = n * suc k} (omega arith)
  table-drop (suc k) (s ∷ S) =
      let front : drop n (words_of n s ++ table_of n S) ≡ table_of n S = drop_at (words_of n s) (table_of n S) n (words-length n s) in
      rw (mul-suc n k, add_comm (n * k) n, ← (drop-drop (n * k) n (words_of n s ++ table_of n S)), front) (table-drop k S)

  no-sets : as_sets n [] ≡ []
  unfolding as_sets first_sets
  no-sets = rw (zero-div n)

  module _ (some : 0 < n) where
    pub sets-again : (S : List Set) → ((i : ℕ) → get_or S i 0 < 2 ^ (64 * n)) → as_sets n (table_of n S) ≡ S
    unfolding table_of
    sets-again [] f = no-sets
    sets-again (s ∷ S) f =
        let one : length (words_of n s) ≡ n * 1 = words-length n s ∙ sym (mul-one n) in
        sets-append n some 1 (words_of n s) (table_of n S) one ∙ rw (sets-one n some (words_of n s) (words-length n s), set_back n s (f 0), sets-again S (λ i. f (suc i)))

    pub spare-again : (S : List Set) → spare_in n (table_of n S) ≡ []
    unfolding spare_in
    spare-again S =
        let whole : length (table_of n S) / n ≡ length S = rw (table-length S) (mul-div_right (length S) some) in
        rw whole (drop_of_length-le (table_of n S) {i = n * length S} (omega (arith, table-length S)))

pub spare-none : (w : List ℕ) → length w ≡ table_words → spare_in 4 w ≡ []
unfolding spare_in
spare-none w e = rw e (drop_of_length-le w {i = table_words} (omega arith))

pub sets-room : (w : List ℕ) → {n : ℕ} → n ≤ length (as_sets words_each w) → 4 * n ≤ length w
sets-room w h = omega (arith, sets-length 4 (lit< tt) w)

pub sets-kept : (w w₀ : List ℕ) → length w ≡ length w₀ → {n : ℕ} → n ≤ length (as_sets words_each w₀) → n ≤ length (as_sets words_each w)
sets-kept w w₀ e h = omega (arith, sets-length 4 (lit< tt) w, sets-length 4 (lit< tt) w₀)
