-- Lines as the code writes them (specs/Listed.antt) are the lines of the spelling.
use mathlib.Core.Path.{◌≡◌, refl, sym, ◌∙◌, ap}
use mathlib.Core.List.{List, [], ◌∷◌, ◌++◌, map, append_assoc, append-nil}
use Prim.Native.Nat.{ℕ, suc, ◌+◌, ◌≤◌, ◌<◌}
use native.Mathlib.Numerals.{add-one}
use lib.IntN.{pos}
use lib.ListN.{length, drop, get_or, drop_of_length-le}
use lib.Seq.{append_snoc, drop-cons}
use Rattle.dqbf.specs.Bytes.{bytes}
use Rattle.dqbf.specs.Literal.{Clause}
use Rattle.dqbf.specs.Text.{line_feed, space}
use Rattle.dqbf.specs.Line.{digits_of}
use Rattle.dqbf.specs.Reading.{header, a_line, d_line, clause_line}
use Rattle.dqbf.specs.Spelling.{joined, literal_word, closed_words, line_words, line_text}
use Rattle.words.specs.Laid.{Fits, Wrote}
use Rattle.words.specs.Listed.{listed}
use Rattle.words.proofs.Laws.Laid.{Writing, writing_start, writing-next, writing-fits, writing-done}
use Rattle.words.proofs.Laws.Words.{with_space}

-- ---- listed

pub listed_more : (w : List ℕ) (ws : List (List ℕ)) → listed (w ∷ ws) ≡ with_space w ++ listed ws
unfolding listed
listed_more w ws = sym (append_snoc w space (listed ws))

closed-listed : (ws : List (List ℕ)) → joined (closed_words ws) ++ (line_feed ∷ []) ≡ listed ws
unfolding joined closed_words listed bytes
closed-listed [] = refl
closed-listed (w ∷ []) = append_assoc w (space ∷ 48 ∷ []) (line_feed ∷ [])
closed-listed (w ∷ v ∷ vs) = append_assoc w (space ∷ joined (closed_words (v ∷ vs))) (line_feed ∷ []) ∙ ap (λ (t : List ℕ). w ++ (space ∷ t)) (closed-listed (v ∷ vs))

keyword-first : (b : ℕ) (ws : List (List ℕ)) → joined ((b ∷ []) ∷ closed_words ws) ≡ b ∷ space ∷ joined (closed_words ws)
unfolding joined closed_words
keyword-first b [] = refl
keyword-first b (w ∷ ws) = refl

keyword-joined : (b : ℕ) (ws : List (List ℕ)) → joined ((b ∷ []) ∷ closed_words ws) ++ (line_feed ∷ []) ≡ (b ∷ space ∷ []) ++ listed ws
keyword-joined b ws = ap (λ (t : List ℕ). t ++ (line_feed ∷ [])) (keyword-first b ws) ∙ ap (λ (t : List ℕ). b ∷ space ∷ t) (closed-listed ws)

-- ---- the lines

pub clause-text : (C : Clause) → line_text (clause_line C) ≡ listed (map literal_word C)
unfolding line_text line_words
clause-text C = closed-listed (map literal_word C)

pub a-text : (xs : List ℕ) → line_text (a_line xs) ≡ bytes "a " ++ listed (map digits_of xs)
unfolding line_text line_words bytes
a-text xs = keyword-joined 97 (map digits_of xs)

pub d-text : (x : ℕ) (S : List ℕ) → line_text (d_line x S) ≡ bytes "d " ++ (with_space (digits_of x) ++ listed (map digits_of S))
unfolding line_text line_words bytes
d-text x S = keyword-joined 100 (map digits_of (x ∷ S)) ∙ ap (λ (t : List ℕ). 100 ∷ space ∷ t) (listed_more (digits_of x) (map digits_of S))

pub header-text : (v c : ℕ) → line_text (header v c) ≡ bytes "p cnf " ++ (with_space (digits_of v) ++ (digits_of c ++ (line_feed ∷ [])))
unfolding line_text line_words joined bytes
header-text v c = ap (λ (t : List ℕ). 112 ∷ space ∷ 99 ∷ 110 ∷ 102 ∷ space ∷ t) (append_assoc (digits_of v) (space ∷ digits_of c) (line_feed ∷ []) ∙ sym (append_snoc (digits_of v) space (digits_of c ++ (line_feed ∷ []))))

-- ---- a loop over a clause

clause-behind : (C : Clause) (i : ℕ) → i < length C → listed (map literal_word (drop i C)) ≡ with_space (literal_word (get_or C i (pos 0))) ++ listed (map literal_word (drop (i + 1) C))
clause-behind C i h = ap (λ (D : Clause). listed (map literal_word D)) (drop-cons C i (pos 0) h) ∙ rw (add-one i) (listed_more (literal_word (get_or C i (pos 0))) (map literal_word (drop (suc i) C)))

clause-end : (C : Clause) (i : ℕ) → length C ≤ i → listed (map literal_word (drop i C)) ≡ listed [] ++ []
clause-end C i h = ap (λ (D : Clause). listed (map literal_word D)) (drop_of_length-le C {i = i} h) ∙ sym (append-nil (listed []))

module _ (C : Clause) {text : List ℕ} {at₀ : ℕ} {out₀ : List ℕ} (i : ℕ) {at : ℕ} {out : List ℕ} (w : Writing text at₀ out₀ (listed (map literal_word (drop i C))) at out) where
  pub clause-fits : i < length C → Fits at₀ text → Fits at (with_space (literal_word (get_or C i (pos 0))))
  clause-fits h f = writing-fits (with_space (literal_word (get_or C i (pos 0)))) (listed (map literal_word (drop (i + 1) C))) (rw (clause-behind C i h) at w) f

  pub clause-next : i < length C → {out' : List ℕ} {r : ℕ} → Wrote (with_space (literal_word (get_or C i (pos 0)))) at out out' r → Writing text at₀ out₀ (listed (map literal_word (drop (i + 1) C))) r out'
  clause-next h u = writing-next (with_space (literal_word (get_or C i (pos 0)))) (listed (map literal_word (drop (i + 1) C))) (rw (clause-behind C i h) at w) u

  pub clause-closes : length C ≤ i → Fits at₀ text → Fits at (listed [])
  clause-closes h f = writing-fits (listed []) [] (rw (clause-end C i h) at w) f

  pub clause-done : length C ≤ i → {out' : List ℕ} {r : ℕ} → Wrote (listed []) at out out' r → Wrote text at₀ out₀ out' r
  clause-done h u = writing-done (writing-next (listed []) [] (rw (clause-end C i h) at w) u)

pub clause-start : (C : Clause) (at : ℕ) (out : List ℕ) → Writing (line_text (clause_line C)) at out (listed (map literal_word C)) at out
clause-start C at out = rw (clause-text C) (writing_start (listed (map literal_word C)) at out)
