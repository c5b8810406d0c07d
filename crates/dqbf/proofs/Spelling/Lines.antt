-- Lines of the one clean spelling read back (specs/Spelling.antt against specs/Text.antt and specs/Reading.antt).
-- `form-back`: the form of a spelled line is the form that was spelled. `read-text`: reading a text of such lines is reading their forms (`read_forms`).
use mathlib.Core.Path.{◌≡◌, refl, sym, ◌∙◌, ap}
use mathlib.Core.Logic.{◌⊎◌, inl, inr, ◌≢◌}
use mathlib.Core.Bool.{Bool, true, false, cond}
use mathlib.Core.List.Memᴰ
use mathlib.Core.List.{List, [], ◌∷◌, ◌++◌, map, append_assoc}
use mathlib.Core.Option.{Option, some}
use Prim.Native.Nat.{ℕ, suc, ◌≤◌, ◌<◌}
use native.Mathlib.Omega.{arith}
use borrow.Author.Tests.{ne_eqb}
use lib.Dec.{eqb}
use lib.IntN.{ℤ}
use Rattle.dqbf.specs.Bytes.{bytes, same_bytes}
use Rattle.dqbf.specs.Refusal.{Refusal}
use Rattle.dqbf.specs.Refusal as Refusal
use Rattle.dqbf.specs.Literal.{Clause, ◌∈◌}
use Rattle.dqbf.specs.Text.{line_feed, space, onto, pieces, is_empty, non_empty, last_of, parted, tokens, variable_of, literal_of, is_zero, prepend, closed}
use Rattle.dqbf.specs.Reading.{Form, comment, header, a_line, e_line, d_line, clause_line, no_form, header_of, header_form, prefix_form, clause_form, tokens_form, is_comment, form_of, Reader, line_tests, taken, Loaded, at_end, unless, read_from}
use Rattle.dqbf.specs.Line.{digits_of}
use Rattle.dqbf.proofs.Laws.Tests.{eqb_same}
use Rattle.dqbf.specs.Spelling.{joined, literal_word, closed_words, line_words, line_text, text}
use Rattle.dqbf.proofs.Spelling.Words.{Word, Numeric, Small, Literal, number_digits, variable-digits, literal-word, digits-word, literal-bytes, literal-is-word}

-- ---- pieces

-- the byte s does not stand in w
abbrev pub Free : ℕ → List ℕ → Type 0
Free s w = (b : ℕ) → b ∈ w → b ≢ s

pub pieces-one : (s : ℕ) (w : List ℕ) → Free s w → pieces s w ≡ w ∷ []
unfolding pieces onto
pieces-one s [] h = refl
pieces-one s (b ∷ w) h = rw (ne_eqb b s (h b (Memᴰ.head refl)), pieces-one s w (λ c q. h c (Memᴰ.tail q)))

pub pieces_more : (s : ℕ) (w t : List ℕ) → Free s w → pieces s (w ++ (s ∷ t)) ≡ w ∷ pieces s t
unfolding pieces onto
pieces_more s [] t h = rw (eqb_same s)
pieces_more s (b ∷ w) t h = rw (ne_eqb b s (h b (Memᴰ.head refl)), pieces_more s w t (λ c q. h c (Memᴰ.tail q)))

pieces-some : (s : ℕ) (t : List ℕ) → (k : List ℕ) × (ls : List (List ℕ)) × (pieces s t ≡ k ∷ ls)
unfolding pieces onto
pieces-some s [] = ([], [], refl)
pieces-some s (b ∷ t) = go (eqb b s) (pieces-some s t)
  where
    go : (c : Bool) → (k : List ℕ) × (ls : List (List ℕ)) × (pieces s t ≡ k ∷ ls) → (k : List ℕ) × (ls : List (List ℕ)) × (cond c ([] ∷ pieces s t) (onto b (pieces s t)) ≡ k ∷ ls)
    go true r = ([], pieces s t, refl)
    go false (k, ls, e) = (b ∷ k, ls, rw e)

-- ---- words

abbrev pub Words : List (List ℕ) → Type 0
Words ws = (w : List ℕ) → w ∈ ws → Word w

pieces-joined : (w : List ℕ) (ws : List (List ℕ)) → Words (w ∷ ws) → pieces space (joined (w ∷ ws)) ≡ w ∷ ws
unfolding joined
pieces-joined w [] h = pieces-one space w (λ b q. let k = (h w (Memᴰ.head refl)).high b q in λ e. omega arith)
pieces-joined w (v ∷ vs) h =
    pieces_more space w (joined (v ∷ vs)) (λ b q. let k = (h w (Memᴰ.head refl)).high b q in λ e. omega arith)
    ∙ ap (w ∷◌) (pieces-joined v vs (λ u q. h u (Memᴰ.tail q)))

non_empty-all : (ws : List (List ℕ)) → Words ws → non_empty ws ≡ ws
unfolding non_empty
non_empty-all [] h = refl
non_empty-all (w ∷ ws) h = rw ((h w (Memᴰ.head refl)).filled, non_empty-all ws (λ u q. h u (Memᴰ.tail q)))

last-filled : (w : List ℕ) (ws : List (List ℕ)) → Words (w ∷ ws) → is_empty (last_of w ws) ≡ false
unfolding last_of
last-filled w [] h = (h w (Memᴰ.head refl)).filled
last-filled w (v ∷ vs) h = last-filled v vs (λ u q. h u (Memᴰ.tail q))

tokens-joined : (w : List ℕ) (ws : List (List ℕ)) → Words (w ∷ ws) → tokens (joined (w ∷ ws)) ≡ some (w ∷ ws)
unfolding tokens parted
tokens-joined w ws h = rw (pieces-joined w ws h, (h w (Memᴰ.head refl)).filled, last-filled w ws h, non_empty-all ws (λ u q. h u (Memᴰ.tail q)))

no-comment : (b : ℕ) (bs : List ℕ) (ws : List (List ℕ)) → b ≢ 99 → is_comment (joined ((b ∷ bs) ∷ ws)) ≡ false
unfolding is_comment joined
no-comment b bs [] h = ne_eqb b 99 h
no-comment b bs (v ∷ vs) h = ne_eqb b 99 h

form-joined : (b : ℕ) (bs : List ℕ) (ws : List (List ℕ)) → b ≢ 99 → Words ((b ∷ bs) ∷ ws) → form_of (joined ((b ∷ bs) ∷ ws)) ≡ tokens_form (some ((b ∷ bs) ∷ ws))
unfolding form_of
form-joined b bs ws h k = rw (no-comment b bs ws h, tokens-joined (b ∷ bs) ws k)

-- no byte of a line is a line feed
joined_bytes : (ws : List (List ℕ)) → Words ws → Free line_feed (joined ws)
unfolding joined
joined_bytes [] h b q = absurd (Memᴰ.not-nil q)
joined_bytes (w ∷ []) h b q = let k = (h w (Memᴰ.head refl)).high b q in λ e. omega arith
joined_bytes (w ∷ v ∷ vs) h b q = go (Memᴰ.append_cases w q) (joined_bytes (v ∷ vs) (λ u r. h u (Memᴰ.tail r)) b)
  where
    go : (b ∈ w) ⊎ (b ∈ space ∷ joined (v ∷ vs)) → (b ∈ joined (v ∷ vs) → b ≢ line_feed) → b ≢ line_feed
    go (inl p) ih = let k = (h w (Memᴰ.head refl)).high b p in λ e. omega arith
    go (inr (Memᴰ.head p)) ih = λ e. omega arith
    go (inr (Memᴰ.tail p)) ih = ih p

-- ---- lists with their closing 0

zero_word : Word (bytes "0")
unfolding bytes is_empty
zero_word = record { filled = refl; high = λ b q. let e = Memᴰ.eq_of_singleton q in omega arith }

closed-words : {A : Type 0} (spell : A → List ℕ) → ((a : A) → Word (spell a)) → (xs : List A) → Words (closed_words (map spell xs))
unfolding closed_words
closed-words spell h xs w q = go (Memᴰ.append_cases (map spell xs) q)
  where
    go : (w ∈ map spell xs) ⊎ (w ∈ bytes "0" ∷ []) → Word w
    go (inl p) = let d = Memᴰ.of_map spell xs p in rw (← d.2) (h d.0)
    go (inr p) = rw (Memᴰ.eq_of_singleton p) zero_word

closed-back : {A : Type 0} (read : List ℕ → Option A) (spell : A → List ℕ) (xs : List A) → ((x : A) → x ∈ xs → read (spell x) ≡ some x)
    → closed read (closed_words (map spell xs)) ≡ some xs
unfolding closed closed_words is_zero prepend bytes
closed-back read spell [] h = refl
closed-back read spell (x ∷ []) h = rw (h x (Memᴰ.head refl))
closed-back read spell (x ∷ y ∷ ys) h = rw (h x (Memᴰ.head refl), closed-back read spell (y ∷ ys) (λ z q. h z (Memᴰ.tail q)))

-- ---- the form of a spelled line

abbrev pub Variable : ℕ → Type 0
Variable x = (x ≢ 0) × Small x

-- a line that the spelling serves: it is one of document 01's forms, and its numbers are of at most five digits
unfoldable pub Spellable : Form → Type 0
Spellable comment = ⊥
Spellable (header v c) = Small v × Small c
Spellable (a_line xs) = (xs ≢ []) × ((x : ℕ) → x ∈ xs → Variable x)
Spellable (e_line xs) = (xs ≢ []) × ((x : ℕ) → x ∈ xs → Variable x)
Spellable (d_line x S) = (y : ℕ) → y ∈ x ∷ S → Variable y
Spellable (clause_line C) = (l : ℤ) → l ∈ C → Literal l
Spellable no_form = ⊥

keyword : (b : ℕ) (ws : List (List ℕ)) → space < b → Words ws → Words ((b ∷ []) ∷ ws)
unfolding is_empty
keyword b ws h k w (Memᴰ.head e) = rw e (record { filled = refl; high = λ c q. let r = Memᴰ.eq_of_singleton q in omega arith })
keyword b ws h k w (Memᴰ.tail q) = k w q

variables-back : (xs : List ℕ) → ((x : ℕ) → x ∈ xs → Variable x) → closed variable_of (closed_words (map digits_of xs)) ≡ some xs
variables-back xs h = closed-back variable_of digits_of xs (λ x q. variable-digits x (h x q).0 (h x q).1)

header-words : (v c : ℕ) → Words (line_words (header v c))
unfolding line_words bytes is_empty
header-words v c = keyword 112 (bytes "cnf" ∷ digits_of v ∷ digits_of c ∷ []) (omega arith) go
  where
    go : Words (bytes "cnf" ∷ digits_of v ∷ digits_of c ∷ [])
    go w (Memᴰ.tail (Memᴰ.tail (Memᴰ.tail x12))) = elim x12 [ ]
    go w (Memᴰ.head e) = rw e (record { filled = refl; high = high })
      where
        high : (b : ℕ) → b ∈ bytes "cnf" → space < b
        high b (Memᴰ.tail (Memᴰ.tail (Memᴰ.tail x14))) = elim x14 [ ]
        high b (Memᴰ.head e) = omega arith
        high b (Memᴰ.tail (Memᴰ.head e)) = omega arith
        high b (Memᴰ.tail (Memᴰ.tail (Memᴰ.head e))) = omega arith
    go w (Memᴰ.tail (Memᴰ.head e)) = rw e (digits-word v)
    go w (Memᴰ.tail (Memᴰ.tail (Memᴰ.head e))) = rw e (digits-word c)

digit-words : (xs : List ℕ) → Words (closed_words (map digits_of xs))
digit-words xs = closed-words digits_of digits-word xs

pub line-words : (f : Form) → Spellable f → Words (line_words f)
unfolding line_words Spellable bytes
line-words comment s = absurd s
line-words (header v c) s = header-words v c
line-words (a_line xs) s = keyword 97 (closed_words (map digits_of xs)) (omega arith) (digit-words xs)
line-words (e_line xs) s = keyword 101 (closed_words (map digits_of xs)) (omega arith) (digit-words xs)
line-words (d_line x S) s = keyword 100 (closed_words (map digits_of (x ∷ S))) (omega arith) (digit-words (x ∷ S))
line-words (clause_line C) s = closed-words literal_word literal-is-word C
line-words no_form s = absurd s

-- a line whose first word is no keyword is a clause
keyless : (b : ℕ) (bs : List ℕ) (ws : List (List ℕ)) → b ≤ 57 → tokens_form (some ((b ∷ bs) ∷ ws)) ≡ clause_form (closed literal_of ((b ∷ bs) ∷ ws))
unfolding tokens_form same_bytes bytes
keyless b bs ws h =
    rw (ne_eqb b 112 (λ e. omega arith), ne_eqb b 97 (λ e. omega arith), ne_eqb b 101 (λ e. omega arith), ne_eqb b 100 (λ e. omega arith))

clause-first : (w : List ℕ) (ws : List (List ℕ)) → Numeric w → Words (w ∷ ws) → form_of (joined (w ∷ ws)) ≡ clause_form (closed literal_of (w ∷ ws))
unfolding is_empty
clause-first [] ws n k = absurd (let e = (k [] (Memᴰ.head refl)).filled in let z : ◌≡◌ {A = ℕ} 0 1 = cc in omega arith)
clause-first (b ∷ bs) ws n k = let low = n b (Memᴰ.head refl) in form-joined b bs ws (λ e. omega arith) k ∙ keyless b bs ws low

zero-numeric : Numeric (bytes "0")
unfolding bytes
zero-numeric b q = let e = Memᴰ.eq_of_singleton q in omega arith

clause-back : (C : Clause) → ((l : ℤ) → l ∈ C → Literal l) → form_of (joined (closed_words (map literal_word C))) ≡ clause_line C
unfolding closed_words clause_form
clause-back [] s = clause-first (bytes "0") [] zero-numeric (closed-words literal_word literal-is-word []) ∙ ap clause_form (closed-back literal_of literal_word [] (λ l q. literal-word l (s l q)))
clause-back (l ∷ C) s =
    clause-first (literal_word l) (closed_words (map literal_word C)) (literal-bytes l) (closed-words literal_word literal-is-word (l ∷ C))
    ∙ ap clause_form (closed-back literal_of literal_word (l ∷ C) (λ k q. literal-word k (s k q)))

pub form-back : (f : Form) → Spellable f → form_of (joined (line_words f)) ≡ f
unfolding line_words Spellable bytes tokens_form same_bytes header_form header_of prefix_form
form-back comment s = absurd s
form-back (header v c) s =
    form-joined 112 [] (bytes "cnf" ∷ digits_of v ∷ digits_of c ∷ []) (λ e. omega arith) (line-words (header v c) s) ∙ rw (number_digits v s.0, number_digits c s.1)
form-back (a_line []) s = absurd (s.0 refl)
form-back (a_line (x ∷ xs)) s =
    form-joined 97 [] (closed_words (map digits_of (x ∷ xs))) (λ e. omega arith) (line-words (a_line (x ∷ xs)) s) ∙ rw (variables-back (x ∷ xs) s.1)
form-back (e_line []) s = absurd (s.0 refl)
form-back (e_line (x ∷ xs)) s =
    form-joined 101 [] (closed_words (map digits_of (x ∷ xs))) (λ e. omega arith) (line-words (e_line (x ∷ xs)) s) ∙ rw (variables-back (x ∷ xs) s.1)
form-back (d_line x S) s = form-joined 100 [] (closed_words (map digits_of (x ∷ S))) (λ e. omega arith) (line-words (d_line x S) s) ∙ rw (variables-back (x ∷ S) s)
form-back (clause_line C) s = clause-back C s
form-back no_form s = absurd s

-- ---- reading a text is reading its forms

unfoldable pub read_forms : List Form → ℕ → Reader → Loaded
read_forms [] n r = at_end r.phase r n
read_forms (f ∷ fs) n r = unless (Refusal.first (line_tests r f)) (suc n) (λ u. read_forms fs (suc n) (taken r f))

pub text-pieces : (f : Form) (fs : List Form) → Spellable f → pieces line_feed (text (f ∷ fs)) ≡ joined (line_words f) ∷ pieces line_feed (text fs)
unfolding text line_text
text-pieces f fs s = rw (append_assoc (joined (line_words f)) (line_feed ∷ []) (text fs)) (pieces_more line_feed (joined (line_words f)) (text fs) (joined_bytes (line_words f) (line-words f s)))

read-end : (n : ℕ) (r : Reader) → read_from (pieces line_feed (text [])) n r ≡ at_end r.phase r n
unfolding read_from text pieces is_empty
read-end n r = refl

read-line : (f : Form) (k : List ℕ) (ls : List (List ℕ)) (n : ℕ) (r : Reader) (rest : Loaded) → Spellable f → read_from (k ∷ ls) (suc n) (taken r f) ≡ rest
    → read_from (joined (line_words f) ∷ k ∷ ls) n r ≡ unless (Refusal.first (line_tests r f)) (suc n) (λ u. rest)
unfolding read_from
read-line f k ls n r rest s h =
    ap (λ (g : Form). unless (Refusal.first (line_tests r g)) (suc n) (λ u. read_from (k ∷ ls) (suc n) (taken r g))) (form-back f s)
    ∙ ap (λ (x : Loaded). unless (Refusal.first (line_tests r f)) (suc n) (λ u. x)) h

pub read-text : (fs : List Form) → ((f : Form) → f ∈ fs → Spellable f) → (n : ℕ) (r : Reader) → read_from (pieces line_feed (text fs)) n r ≡ read_forms fs n r
unfolding read_forms
read-text [] s n r = read-end n r
read-text (f ∷ fs) s n r =
    let own = s f (Memᴰ.head refl) in
    let e = pieces-some line_feed (text fs) in
    ap (λ (ls : List (List ℕ)). read_from ls n r) (text-pieces f fs own ∙ ap (joined (line_words f) ∷◌) e.2)
    ∙ read-line f e.0 e.1 n r (read_forms fs (suc n) (taken r f)) own
    (ap (λ (ls : List (List ℕ)). read_from ls (suc n) (taken r f)) (sym e.2) ∙ read-text fs (λ g q. s g (Memᴰ.tail q)) (suc n) (taken r f))

-- ---- texts one behind the other

pub text-append : (fs gs : List Form) → text (fs ++ gs) ≡ text fs ++ text gs
unfolding text
text-append [] gs = refl
text-append (f ∷ fs) gs = ap (line_text f ++◌) (text-append fs gs) ∙ sym (append_assoc (line_text f) (text fs) (text gs))
