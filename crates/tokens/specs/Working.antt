-- Working definitions: the calculus' definitions (dqbf, specs/Text.antt) in the shape that the loops walk.
-- One that is proved equal to an official definition says to which; the proofs are in proofs/Laws/Pieces.antt, of `words` in `forms`, proofs/Laws/Official.antt.
-- Offers `length_before`, `leading`, `is_nil`, `words`, `words_of`, `after`, `Cut`.
use Rattle.std.specs.Prelude.{◌≡◌, Bool, true, false, cond, List, [], ◌∷◌, ℕ, suc, ◌+◌, ◌-◌, ◌≤◌, ◌<◌, eqb, ltb, length, take, drop}
use Rattle.dqbf.specs.Text.{space, pieces, is_empty}
use Rattle.tokens.specs.declared.text.Token.{Token}

-- ---- pieces

-- how many bytes stand before the first s: the length of the first of `pieces s`
unfoldable pub length_before : ℕ → List ℕ → ℕ
length_before s [] = 0
length_before s (b ∷ bs) = cond (eqb b s) 0 (suc (length_before s bs))

-- how many bytes s lead
unfoldable pub leading : ℕ → List ℕ → ℕ
leading s [] = 0
leading s (b ∷ bs) = cond (eqb b s) (suc (leading s bs)) 0

unfoldable pub is_nil : {A : Type 0} → List A → Bool
is_nil [] = true
is_nil (a ∷ xs) = false

-- ---- tokens

-- The pieces that are not empty, and the last one in any case: a trailing space leaves an empty token, which no form has.
-- `tokens_form (some (words ps))` is `tokens_form (parted ps)` where the first piece is not empty.
unfoldable pub words : List (List ℕ) → List (List ℕ)
words [] = []
words (w ∷ ws) = let rest = words ws in cond (is_nil ws) (w ∷ []) (cond (is_empty w) rest (w ∷ rest))

unfoldable pub words_of : List ℕ → List (List ℕ)
words_of line = words (pieces space line)

-- the tokens behind the one that ends at i
unfoldable pub after : List ℕ → ℕ → List (List ℕ)
after line i = cond (ltb i (length line)) (words_of (drop (i + 1) line)) []

-- the first token of a line from i on, and the tokens behind it
pub record Cut (line : List ℕ) (i : ℕ) (t : Token) : Type 0 where
  pub low : i ≤ t.from
  pub mid : t.from ≤ t.to
  pub high : t.to ≤ length line
  pub some : t.to < length line → t.from < t.to
  pub rest : words_of (drop i line) ≡ take (t.to - t.from) (drop t.from line) ∷ after line t.to
