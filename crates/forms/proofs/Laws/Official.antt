-- The words of `tokens` are the calculus' tokens where a form is asked for: the form by words is the form by tokens (`form-words`).
use mathlib.Core.Path.{◌≡◌, refl, sym, ap}
use mathlib.Core.Bool.{Bool, true, false, cond, true≢false}
use mathlib.Core.List.{List, [], ◌∷◌}
use mathlib.Core.Option.{Option, none, some}
use Prim.Native.Nat.{ℕ}
use native.Mathlib.Nat.{suc-ne-zero}
use lib.ListN.{length, get_or}
use borrow.Author.Tests.{eq-eqb, ne_eqb}
use Rattle.dqbf.specs.Bytes.{bytes, same_bytes}
use Rattle.dqbf.specs.Text.{space, onto, pieces, is_empty, non_empty, last_of, parted, tokens, number_of, variable_of, literal_of, is_zero, prepend, closed}
use Rattle.dqbf.specs.Reading.{comment, no_form, header_of, header_form, prefix_form, clause_form, tokens_form, is_comment, form_of}
use Rattle.tokens.specs.Working.{is_nil, words, words_of}

-- ---- an empty token at the end has no form

unfoldable last_empty : List (List ℕ) → Bool
last_empty [] = false
last_empty (w ∷ []) = is_empty w
last_empty (w ∷ v ∷ vs) = last_empty (v ∷ vs)

closed-open : {A : Type 0} (read : List ℕ → Option A) (ws : List (List ℕ)) → last_empty ws ≡ true → closed read ws ≡ none
unfolding last_empty closed is_empty is_zero prepend
closed-open read [] h = refl
closed-open read ([] ∷ []) h = refl
closed-open read ((b ∷ bs) ∷ []) h = absurd (true≢false (sym h))
closed-open {A} read (w ∷ v ∷ vs) h = rw (closed-open read (v ∷ vs) h) (go (read w))
  where
    go : (o : Option A) → prepend o none ≡ none
    go none = refl
    go (some a) = refl

header-open : (ws : List (List ℕ)) → last_empty ws ≡ true → header_form ws ≡ no_form
unfolding last_empty header_form is_empty number_of header_of
header-open [] h = refl
header-open (w ∷ []) h = refl
header-open (w ∷ v ∷ []) h = refl
header-open (w ∷ v ∷ [] ∷ []) h = go (same_bytes w (bytes "cnf")) (number_of v)
  where
    go : (t : Bool) (o : Option ℕ) → cond t (header_of o none) no_form ≡ no_form
    go true none = refl
    go true (some n) = refl
    go false o = refl
header-open (w ∷ v ∷ (b ∷ bs) ∷ []) h = absurd (true≢false (sym h))
header-open (w ∷ v ∷ c ∷ t ∷ ts) h = refl

form-open : (w v : List ℕ) (vs : List (List ℕ)) → last_empty (v ∷ vs) ≡ true → tokens_form (some (w ∷ v ∷ vs)) ≡ no_form
unfolding tokens_form prefix_form clause_form last_empty
form-open w v vs h =
    rw (header-open (v ∷ vs) h, closed-open variable_of (v ∷ vs) h, closed-open literal_of (w ∷ v ∷ vs) h)
    (go (same_bytes w (bytes "p")) (same_bytes w (bytes "a")) (same_bytes w (bytes "e")) (same_bytes w (bytes "d")))
  where
    go : (p a e d : Bool) → cond p no_form (cond a no_form (cond e no_form (cond d no_form no_form))) ≡ no_form
    go true a e d = refl
    go false true e d = refl
    go false false true d = refl
    go false false false true = refl
    go false false false false = refl

-- ---- words are tokens

words-tokens : (w : List ℕ) (ws : List (List ℕ)) → is_empty (last_of w ws) ≡ false → words (w ∷ ws) ≡ non_empty (w ∷ ws)
unfolding words non_empty last_of is_nil
words-tokens w [] h = rw h
words-tokens w (v ∷ vs) h = ap (λ (r : List (List ℕ)). cond (is_empty w) r (w ∷ r)) (words-tokens v vs h)

words_open : (w : List ℕ) (ws : List (List ℕ)) → is_empty (last_of w ws) ≡ true → last_empty (words (w ∷ ws)) ≡ true
unfolding words last_of is_nil last_empty
words_open w [] h = h
words_open w (v ∷ vs) h = go (is_empty w) (words (v ∷ vs)) (words_open v vs h)
  where
    go : (t : Bool) (r : List (List ℕ)) → last_empty r ≡ true → last_empty (cond t r (w ∷ r)) ≡ true
    go true r h = h
    go false [] h = absurd (true≢false (sym h))
    go false (x ∷ xs) h = h

words-form : (b : ℕ) (bs : List ℕ) (ws : List (List ℕ)) → tokens_form (parted ((b ∷ bs) ∷ ws)) ≡ tokens_form (some (words ((b ∷ bs) ∷ ws)))
unfolding parted is_empty non_empty words last_of tokens_form is_nil last_empty
words-form b bs [] = refl
words-form b bs (v ∷ vs) = go (is_empty (last_of v vs)) refl
  where
    go : (t : Bool) → is_empty (last_of v vs) ≡ t → tokens_form (cond t none (some ((b ∷ bs) ∷ non_empty (v ∷ vs)))) ≡ tokens_form (some ((b ∷ bs) ∷ words (v ∷ vs)))
    go true e = sym (open-words (words (v ∷ vs)) (words_open v vs e))
      where
        open-words : (r : List (List ℕ)) → last_empty r ≡ true → tokens_form (some ((b ∷ bs) ∷ r)) ≡ no_form
        open-words [] h = absurd (true≢false (sym h))
        open-words (x ∷ xs) h = form-open (b ∷ bs) x xs h
    go false e = ap (λ (r : List (List ℕ)). tokens_form (some ((b ∷ bs) ∷ r))) (sym (words-tokens v vs e))

-- ---- the form of a line

pub form-empty : (l : List ℕ) → length l ≡ 0 → form_of l ≡ no_form
unfolding form_of is_comment tokens pieces parted is_empty tokens_form
form-empty [] h = refl
form-empty (b ∷ bs) h = absurd (suc-ne-zero _ h)

pub form-comment : (l : List ℕ) → (length l ≡ 0 → ⊥) → get_or l 0 0 ≡ 99 → form_of l ≡ comment
unfolding form_of is_comment
form-comment [] n h = absurd (n refl)
form-comment (b ∷ bs) n h = rw (eq-eqb b 99 h)

pub form-space : (l : List ℕ) → (length l ≡ 0 → ⊥) → (get_or l 0 0 ≡ 99 → ⊥) → get_or l 0 0 ≡ space → form_of l ≡ no_form
unfolding form_of is_comment tokens pieces parted is_empty tokens_form
form-space [] n k h = absurd (n refl)
form-space (b ∷ bs) n k h = rw (ne_eqb b 99 k, eq-eqb b space h)

pub form-words : (l : List ℕ) → (length l ≡ 0 → ⊥) → (get_or l 0 0 ≡ 99 → ⊥) → (get_or l 0 0 ≡ space → ⊥) → form_of l ≡ tokens_form (some (words_of l))
unfolding form_of is_comment tokens pieces words_of onto
form-words [] n k h = absurd (n refl)
form-words (b ∷ bs) n k h = rw (ne_eqb b 99 k, ne_eqb b space h) (go (pieces space bs))
  where
    go : (ps : List (List ℕ)) → tokens_form (parted (onto b ps)) ≡ tokens_form (some (words (onto b ps)))
    go [] = words-form b [] []
    go (w ∷ ws) = words-form b w ws
