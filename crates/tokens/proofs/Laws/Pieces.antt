-- Lines and tokens: `pieces` from the left by `length_before`, and the token that `next_token` cuts.
-- For a loop over lines: `line-at-inside`, `line-at-last`, `line-at-more`.
use mathlib.Core.Path.{◌≡◌, refl, sym, ap, ap₂, ◌∙◌}
use mathlib.Core.Bool.{Bool, true, false, cond, not, ◌||◌}
use mathlib.Core.List.{List, [], ◌∷◌, ◌++◌}
use Prim.Native.Nat.{ℕ, zero, suc, ◌+◌, ◌-◌, ◌≤◌, ◌<◌}
use native.Mathlib.Nat.{suc_inj, suc-ne-zero, le_of_suc-le-suc, not-suc-le-zero}
use native.Mathlib.Numerals.{add-one}
use native.Mathlib.Omega.{arith}
use lib.Dec.{eqb, ltb}
use lib.ListN.{length, take, drop, length-drop}
use lib.Seq.{drop-drop, take_all, length-take-le, take-append_seam, drop-append_seam}
use Rattle.std.proofs.lemmas.List.{length-append}
use Rattle.std.specs.Option.{unwrap_or}
use Rattle.std.specs.List.{fold, position, position_or_len}
use Rattle.std.proofs.lemmas.List.Recursion.{is_position_or_len}
use Rattle.std.specs.Prelude.{Some, None}
use borrow.Author.Tests.{ltb-true, ltb-false, lt-ltb, le-ltb}
use Rattle.dqbf.specs.Text.{line_feed, space, onto, pieces, is_empty}
use Rattle.dqbf.proofs.Laws.Parts.{tail-lent}
use Rattle.tokens.specs.Lines.{first_of, line_length}
use Rattle.tokens.specs.Working.{length_before, leading, is_nil, words, words_of, after, Cut}

-- ---- length_before

-- with one more on either side
less_suc : (m n : ℕ) → ltb (suc m) (suc n) ≡ ltb m n
less_suc m n = go (ltb m n) refl
  where
    go : (t : Bool) → ltb m n ≡ t → ltb (suc m) (suc n) ≡ t
    go true e = let h = ltb-true m n e in lt-ltb (suc m) (suc n) (omega arith)
    go false e = let h = ltb-false m n e in le-ltb (suc m) (suc n) (omega arith)

pub before-le : (s : ℕ) (l : List ℕ) → length_before s l ≤ length l
unfolding length_before
before-le s [] = omega arith
before-le s (b ∷ bs) = go (eqb b s) (before-le s bs)
  where
    go : (t : Bool) → length_before s bs ≤ length bs → cond t 0 (suc (length_before s bs)) ≤ suc (length bs)
    go true h = omega arith
    go false h = omega arith

-- k bytes that are not s, and those behind them
before_split : (s : ℕ) (l : List ℕ) (k : ℕ) → k ≤ length_before s l → length_before s l ≡ k + length_before s (drop k l)
unfolding length_before
before_split s l zero h = omega arith
before_split s [] (suc k) h = absurd (omega arith)
before_split s (b ∷ bs) (suc k) h = go (eqb b s) h (before_split s bs k)
  where
    go : (t : Bool) → suc k ≤ cond t 0 (suc (length_before s bs)) → (k ≤ length_before s bs → length_before s bs ≡ k + length_before s (drop k bs))
        → cond t 0 (suc (length_before s bs)) ≡ suc k + length_before s (drop k bs)
    go true h r = absurd (omega arith)
    go false h r = let e = r (omega arith) in omega arith

-- whether s is among the n bytes in front
before_taken : (s : ℕ) (l : List ℕ) (n : ℕ) → ltb (length_before s (take n l)) n ≡ ltb (length_before s l) n
unfolding length_before
before_taken s l zero = le-ltb (length_before s (take 0 l)) 0 (omega arith) ∙ sym (le-ltb (length_before s l) 0 (omega arith))
before_taken s [] (suc n) = refl
before_taken s (b ∷ bs) (suc n) = go (eqb b s) (before_taken s bs n)
  where
    go : (t : Bool) → ltb (length_before s (take n bs)) n ≡ ltb (length_before s bs) n
        → ltb (cond t 0 (suc (length_before s (take n bs)))) (suc n) ≡ ltb (cond t 0 (suc (length_before s bs))) (suc n)
    go true e = refl
    go false e = less_suc _ n ∙ e ∙ sym (less_suc _ n)

pub before-pass : (s : ℕ) (l : List ℕ) (i k : ℕ) → k ≤ length_before s (drop i l) → length_before s (drop i l) ≡ k + length_before s (drop (i + k) l)
before-pass s l i k h = before_split s (drop i l) k h ∙ ap (λ (m : List ℕ). k + length_before s m) (drop-drop k i l)

-- ---- what `position` and `fold` find

first_is : (p : ℕ → Bool) (l : List ℕ) (n : ℕ) → position_or_len p l ≡ n → n ≤ length l → unwrap_or (position p l) (length l) ≡ n
first_is p l n e h = rw e (go (ltb n (length l)) refl)
  where
    go : (t : Bool) → ltb n (length l) ≡ t → unwrap_or (cond t (Some n) None) (length l) ≡ n
    go true f = refl
    go false f = let k = ltb-false n (length l) f in omega arith

pub before-first : (s : ℕ) (l : List ℕ) → unwrap_or (position (λ b. eqb b s) l) (length l) ≡ length_before s l
unfolding length_before
before-first s l = first_is (λ b. eqb b s) l (length_before s l) (sym (is_position_or_len (length_before s) (λ b. eqb b s) refl (λ b bs. go (eqb b s) (length_before s bs)) l)) (before-le s l)
  where
    go : (t : Bool) (n : ℕ) → cond t 0 (suc n) ≡ cond t 0 (1 + n)
    go true n = refl
    go false n = omega arith

pub before-any : (s : ℕ) (l : List ℕ) (found : Bool) → fold (λ (t : Bool) b. t || eqb b s) found l ≡ (found || ltb (length_before s l) (length l))
unfolding length_before
before-any s [] true = refl
before-any s [] false = refl
before-any s (b ∷ bs) found = before-any s bs (found || eqb b s) ∙ go found (eqb b s)
  where
    go : (t u : Bool) → ((t || u) || ltb (length_before s bs) (length bs)) ≡ (t || ltb (cond u 0 (suc (length_before s bs))) (suc (length bs)))
    go true u = refl
    go false true = sym (lt-ltb 0 (suc (length bs)) (omega arith))
    go false false = sym (less_suc (length_before s bs) (length bs))

-- the block of the n bytes from i on
pub before-block : (s : ℕ) (l : List ℕ) (i n : ℕ) → i + n ≤ length l → ltb (length_before s (take (i + n - i) (drop i l))) (length (take (i + n - i) (drop i l))) ≡ ltb (length_before s (drop i l)) n
before-block s l i n h =
    let e : i + n - i ≡ n = omega arith in
    rw (e, length-take-le n (drop i l) (omega (arith, length-drop i l))) (before_taken s (drop i l) n)

-- a piece of n bytes off what is left from i on, and what is left behind it
module _ (l : List ℕ) (i n : ℕ) (left piece next : List ℕ) (from : left ≡ drop i l) (cut : left ≡ piece ++ next) (size : length piece ≡ n) where
  pub piece-before : (s : ℕ) → ltb (length_before s piece) (length piece) ≡ ltb (length_before s (drop i l)) n
  piece-before s = ap₂ (λ (p : List ℕ) (k : ℕ). ltb (length_before s p) k) (sym front) size ∙ before_taken s (drop i l) n
    where
      front : take n (drop i l) ≡ piece
      front = ap₂ take (sym size) (sym from ∙ cut) ∙ take-append_seam piece next

  pub piece-next : next ≡ drop (i + n) l
  piece-next = sym (ap₂ drop (sym size) (sym from ∙ cut) ∙ drop-append_seam piece next) ∙ drop-drop n i l

  pub piece-inside : n ≤ length left
  piece-inside = let h : length left ≡ length piece + length next = ap length cut ∙ length-append piece next in omega (arith, h, size)

-- ---- leading

pub leading_le : (s : ℕ) (l : List ℕ) → leading s l ≤ length l
unfolding leading
leading_le s [] = omega arith
leading_le s (b ∷ bs) = go (eqb b s) (leading_le s bs)
  where
    go : (t : Bool) → leading s bs ≤ length bs → cond t (suc (leading s bs)) 0 ≤ suc (length bs)
    go true h = omega arith
    go false h = omega arith

pub leading-first : (s : ℕ) (l : List ℕ) → unwrap_or (position (λ b. not (eqb b s)) l) (length l) ≡ leading s l
unfolding leading
leading-first s l = first_is (λ b. not (eqb b s)) l (leading s l) (sym (is_position_or_len (leading s) (λ b. not (eqb b s)) refl (λ b bs. go (eqb b s) (leading s bs)) l)) (leading_le s l)
  where
    go : (t : Bool) (n : ℕ) → cond t (suc n) 0 ≡ cond (not t) 0 (1 + n)
    go true n = omega arith
    go false n = refl

-- behind what leads, a piece is not empty
leading-before : (s : ℕ) (l : List ℕ) → leading s l < length l → 0 < length_before s (drop (leading s l) l)
unfolding leading length_before
leading-before s [] h = h
leading-before s (b ∷ bs) h = go (eqb b s) refl h (leading-before s bs)
  where
    go : (t : Bool) → eqb b s ≡ t → cond t (suc (leading s bs)) 0 < suc (length bs) → (leading s bs < length bs → 0 < length_before s (drop (leading s bs) bs))
        → 0 < length_before s (drop (cond t (suc (leading s bs)) 0) (b ∷ bs))
    go true e h r = r (le_of_suc-le-suc h)
    go false e h r = rw e (omega arith)

-- ---- pieces

-- no s at all: one piece
pub pieces-last : (s : ℕ) (l : List ℕ) → length_before s l ≡ length l → pieces s l ≡ l ∷ []
unfolding length_before pieces onto
pieces-last s [] h = refl
pieces-last s (b ∷ bs) h = go (eqb b s) h (pieces-last s bs)
  where
    go : (t : Bool) → cond t 0 (suc (length_before s bs)) ≡ suc (length bs) → (length_before s bs ≡ length bs → pieces s bs ≡ bs ∷ [])
        → cond t ([] ∷ pieces s bs) (onto b (pieces s bs)) ≡ (b ∷ bs) ∷ []
    go true e r = absurd (suc-ne-zero _ (sym e))
    go false e r = rw (r (suc_inj e))

-- the piece before the first s, and the pieces behind it
pub pieces_more : (s : ℕ) (l : List ℕ) → length_before s l < length l → pieces s l ≡ take (length_before s l) l ∷ pieces s (drop (suc (length_before s l)) l)
unfolding length_before pieces onto
pieces_more s [] h = absurd (not-suc-le-zero h)
pieces_more s (b ∷ bs) h = go (eqb b s) h (pieces_more s bs)
  where
    go : (t : Bool) → cond t 0 (suc (length_before s bs)) < suc (length bs)
        → (length_before s bs < length bs → pieces s bs ≡ take (length_before s bs) bs ∷ pieces s (drop (suc (length_before s bs)) bs))
        → cond t ([] ∷ pieces s bs) (onto b (pieces s bs))
        ≡ take (cond t 0 (suc (length_before s bs))) (b ∷ bs) ∷ pieces s (drop (suc (cond t 0 (suc (length_before s bs)))) (b ∷ bs))
    go true e r = refl
    go false e r = rw (r (le_of_suc-le-suc e))

pub pieces-some : (s : ℕ) (l : List ℕ) → is_nil (pieces s l) ≡ false
unfolding pieces onto is_nil
pieces-some s [] = refl
pieces-some s (b ∷ bs) = go (eqb b s) (pieces s bs)
  where
    go : (t : Bool) (ps : List (List ℕ)) → is_nil (cond t ([] ∷ ps) (onto b ps)) ≡ false
    go true ps = refl
    go false [] = refl
    go false (w ∷ ws) = refl

-- ---- lines

pub before-is : (s : ℕ) (l : List ℕ) → length_before s l ≡ length (first_of (pieces s l))
unfolding length_before pieces onto first_of
before-is s [] = refl
before-is s (b ∷ bs) = go (eqb b s) (pieces s bs) (before-is s bs)
  where
    go : (t : Bool) (ps : List (List ℕ)) → length_before s bs ≡ length (first_of ps) → cond t 0 (suc (length_before s bs)) ≡ length (first_of (cond t ([] ∷ ps) (onto b ps)))
    go true ps e = refl
    go false [] e = ap suc e
    go false (w ∷ ws) e = ap suc e

pub line-is : (text : List ℕ) → length_before line_feed text ≡ line_length text
unfolding line_length
line-is text = before-is line_feed text

-- r bytes were passed, and n stand before the line feed behind them
pub line-passed : (text : List ℕ) (r n : ℕ) → length_before line_feed text ≡ r + length_before line_feed (drop r text) → n ≡ length_before line_feed (take (length text - r) (drop r text))
    → r + n ≡ line_length text
line-passed text r n e f = let g : n ≡ length_before line_feed (drop r text) = rw (tail-lent text r) at f in rw g (sym e ∙ line-is text)

pub line-behind : (text : List ℕ) (r n : ℕ) → r ≤ length text → n ≡ length_before line_feed (take (length text - r) (drop r text)) → r + n ≤ length text
line-behind text r n h f =
    let g : n ≡ length_before line_feed (drop r text) = rw (tail-lent text r) at f in
    omega (arith, before-le line_feed (drop r text), length-drop r text)

pub line-inside : (text : List ℕ) → line_length text ≤ length text
line-inside text = rw (← line-is text) (before-le line_feed text)

-- no line feed: the text is what stands behind the last one
pub line-last : (text : List ℕ) → line_length text ≡ length text → pieces line_feed text ≡ text ∷ []
line-last text h = pieces-last line_feed text (line-is text ∙ h)

-- the first line, and the lines behind its line feed
pub line-more : (text : List ℕ) → line_length text < length text
    → pieces line_feed text ≡ take (line_length text) text ∷ pieces line_feed (drop (line_length text + 1) text)
line-more text h =
    let e = line-is text in
    pieces_more line_feed text (rw e h) ∙ rw (e, add-one (line_length text))

-- the line at `at`, of the length r that `line_length` answers for the part from there on
module _ (text : List ℕ) (at r : ℕ) (inside : at ≤ length text) (length-is : r ≡ line_length (take (length text - at) (drop at text))) where
  r-is : r ≡ line_length (drop at text)
  r-is = rw (← tail-lent text at) length-is

  pub line-at-inside : at + r ≤ length text
  line-at-inside = let e = r-is in omega (arith, line-inside (drop at text), length-drop at text)

  pub line-at-last : at + r ≡ length text → pieces line_feed (drop at text) ≡ drop at text ∷ []
  line-at-last h = let e = r-is in line-last (drop at text) (omega (arith, length-drop at text))

  pub line-at-more : at + r < length text → pieces line_feed (drop at text) ≡ take (at + r - at) (drop at text) ∷ pieces line_feed (drop (at + r + 1) text)
  line-at-more h =
      let e = r-is in
      let m : line_length (drop at text) ≡ at + r - at = omega arith in
      let z : at + (line_length (drop at text) + 1) ≡ at + r + 1 = omega arith in
      line-more (drop at text) (omega (arith, length-drop at text))
      ∙ ap₂ (λ (n : ℕ) (l : List ℕ). take n (drop at text) ∷ pieces line_feed l) m (drop-drop (line_length (drop at text) + 1) at text ∙ ap (λ (k : ℕ). drop k text) z)

-- ---- words

pub some_words : (ps : List (List ℕ)) → is_nil ps ≡ false → is_nil (words ps) ≡ false
unfolding words is_nil is_empty
some_words [] h = h
some_words (w ∷ []) h = refl
some_words ([] ∷ v ∷ vs) h = some_words (v ∷ vs) refl
some_words ((b ∷ bs) ∷ v ∷ vs) h = refl

pub words-some : (l : List ℕ) → is_nil (words_of l) ≡ false
unfolding words_of
words-some l = some_words (pieces space l) (pieces-some space l)

words-leading : (l : List ℕ) → words_of (drop (leading space l) l) ≡ words_of l
unfolding words_of words pieces leading is_empty
words-leading [] = refl
words-leading (b ∷ bs) = go (eqb b space) refl (words-leading bs)
  where
    go : (t : Bool) → eqb b space ≡ t → words_of (drop (leading space bs) bs) ≡ words_of bs → words_of (drop (cond t (suc (leading space bs)) 0) (b ∷ bs)) ≡ words_of (b ∷ bs)
    go true e r = rw (e, pieces-some space bs) r
    go false e r = refl

words_last : (l : List ℕ) → length_before space l ≡ length l → words_of l ≡ l ∷ []
unfolding words_of words is_nil
words_last l h = rw (pieces-last space l h)

words_more : (l : List ℕ) → length_before space l < length l → 0 < length_before space l
    → words_of l ≡ take (length_before space l) l ∷ words_of (drop (suc (length_before space l)) l)
unfolding words_of words is_empty
words_more l h p = rw (pieces_more space l h, pieces-some space (drop (suc (length_before space l)) l)) (go (length_before space l) l p h _)
  where
    go : (n : ℕ) (m : List ℕ) → 0 < n → n < length m → (r : List (List ℕ)) → cond (is_empty (take n m)) r (take n m ∷ r) ≡ take n m ∷ r
    go zero m p h r = absurd (not-suc-le-zero p)
    go (suc n) [] p h r = absurd (not-suc-le-zero h)
    go (suc n) (x ∷ xs) p h r = refl

-- ---- the tokens behind one

pub after_none : (l : List ℕ) (i : ℕ) → i ≡ length l → after l i ≡ []
unfolding after
after_none l i h = rw (le-ltb i (length l) (omega arith))

pub after-some : (l : List ℕ) (i : ℕ) → i < length l → after l i ≡ words_of (drop (i + 1) l)
unfolding after
after-some l i h = rw (lt-ltb i (length l) h)

-- ---- the token that stands at f up to e, in a line read from i on

module _ (l : List ℕ) (i b : ℕ) (inside : i ≤ length l) (begins : b ≡ leading space (take (length l - i) (drop i l))) where
  pub token_begins : i + b ≤ length l
  token_begins = rw (begins, tail-lent l i) (omega (arith, leading_le space (drop i l), length-drop i l))

  module _ (n : ℕ) (ends : n ≡ length_before space (take (length l - (i + b)) (drop (i + b) l))) where
    n-is : n ≡ length_before space (drop (i + b) l)
    n-is = rw (← tail-lent l (i + b)) ends

    pub token-ends : i + b + n ≤ length l
    token-ends = let m = token_begins in let k = n-is in omega (arith, before-le space (drop (i + b) l), length-drop (i + b) l)

    behind : drop (leading space (drop i l)) (drop i l) ≡ drop (i + b) l
    behind = drop-drop (leading space (drop i l)) i l ∙ ap (λ (k : ℕ). drop (i + k) l) (sym (rw (tail-lent l i) at begins))

    same-words : words_of (drop i l) ≡ words_of (drop (i + b) l)
    same-words = sym (words-leading (drop i l)) ∙ ap words_of behind

    token-some : i + b + n < length l → 0 < n
    token-some h =
        let k = n-is in
        let e : b ≡ leading space (drop i l) = rw (tail-lent l i) at begins in
        rw (k, ← behind) (leading-before space (drop i l) (omega (arith, length-drop i l)))

    size : i + b + n - (i + b) ≡ n
    size = omega arith

    token-last : i + b + n ≡ length l → words_of (drop i l) ≡ take (i + b + n - (i + b)) (drop (i + b) l) ∷ []
    token-last h =
        let m = token_begins in
        let k = n-is in
        same-words ∙ words_last (drop (i + b) l) (omega (arith, length-drop (i + b) l))
        ∙ ap (λ (w : List ℕ). w ∷ []) (sym (take_all (i + b + n - (i + b)) (drop (i + b) l) (omega (arith, length-drop (i + b) l))))

    token-more : i + b + n < length l → words_of (drop i l) ≡ take (i + b + n - (i + b)) (drop (i + b) l) ∷ words_of (drop (i + b + n + 1) l)
    token-more h =
        let k = n-is in
        let q = token-some h in
        let m : length_before space (drop (i + b) l) ≡ i + b + n - (i + b) = omega arith in
        let z : i + b + suc (length_before space (drop (i + b) l)) ≡ i + b + n + 1 = omega arith in
        same-words
        ∙ words_more (drop (i + b) l) (omega (arith, length-drop (i + b) l)) (omega arith)
        ∙ ap₂ (λ (m : ℕ) (r : List ℕ). take m (drop (i + b) l) ∷ words_of r) m
        (drop-drop (suc (length_before space (drop (i + b) l))) (i + b) l ∙ ap (λ (m : ℕ). drop m l) z)

    pub token-cut : Cut l i (record { from = i + b; to = i + b + n })
    unfolding after
    token-cut = record { low = omega arith; mid = omega arith; high = token-ends; some = λ h. let q = token-some h in omega arith; rest = go (ltb (i + b + n) (length l)) refl }
      where
        go : (t : Bool) → ltb (i + b + n) (length l) ≡ t
            → words_of (drop i l) ≡ take (i + b + n - (i + b)) (drop (i + b) l) ∷ cond t (words_of (drop (i + b + n + 1) l)) []
        go true e = token-more (ltb-true (i + b + n) (length l) e)
        go false e = let h = ltb-false (i + b + n) (length l) e in let k = token-ends in token-last (omega arith)
