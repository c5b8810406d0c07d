-- The form of a line by its words: one law for each answer of the functions of `form`.
use mathlib.Core.Path.{◌≡◌, refl, sym, ap, ◌∙◌}
use mathlib.Core.Bool.{Bool, true, false, cond, not, ◌&&◌, true≢false}
use mathlib.Core.List.{List, [], ◌∷◌, map}
use mathlib.Core.Option.{Option, none, some}
use Prim.Native.Nat.{ℕ, ◌+◌, ◌-◌, ◌<◌}
use native.Mathlib.Nat.{suc-ne-zero, suc_inj, not-suc-le-zero}
use native.Mathlib.Omega.{arith}
use Rattle.std.specs.Prelude.{None, Some}
use Rattle.std.specs.List.{slice_get}
use Rattle.std.specs.Cmp.Lexicographic.{pointwise}
use Rattle.std.specs.declared.option.Option as answer
use lib.Dec.{eqb}
use lib.ListN.{length, take, drop, get_or, length-map}
use borrow.Author.Tests.{eq-eqb, ne_eqb}
use Rattle.dqbf.specs.Bytes.{bytes, same_bytes}
use Rattle.dqbf.specs.Literal.{Clause, rank}
use Rattle.dqbf.specs.Text.{space, onto, pieces, is_empty, number_of, variable_of, literal_of, closed}
use Rattle.dqbf.specs.Reading.{Form, a_line, e_line, d_line, no_form, header_of, header_form, prefix_form, clause_form, tokens_form, form_of}
use Rattle.tokens.specs.Working.{is_nil, words, words_of, after, Cut}
use Rattle.tokens.specs.declared.text.Token.{Token}
use Rattle.tokens.proofs.Laws.Pieces.{pieces-some, words-some, after_none, after-some}
use Rattle.numerals.specs.Working.{answered, each, entry_of, entries, count_of, Gathered}
use Rattle.numerals.proofs.Laws.Official.{closed-variables, closed-ranks}
use Rattle.forms.specs.Shapes.{shape_of, numbers_of, Formed}
use Rattle.forms.specs.Working.{keyword, Listing}
use Rattle.forms.specs.declared.form.Shape.{Shape}
use Rattle.forms.specs.declared.form.Shape.TheVariants.{Comment, Header, Universals, Existentials, Dependent}
use Rattle.forms.specs.declared.form.Shape.TheVariants as shape
use Rattle.forms.proofs.Laws.Official.{form-empty, form-comment, form-space, form-words}

and-false : (t : Bool) → (t && false) ≡ false
and-false true = refl
and-false false = refl

and-true : (t : Bool) → (t && true) ≡ t
and-true true = refl
and-true false = refl

-- ---- `keyword_byte`

pub keyword-one : (l : List ℕ) → length l ≡ 1 → Some (get_or l 0 0) ≡ keyword l
unfolding keyword
keyword-one [] h = absurd (omega arith)
keyword-one (b ∷ []) h = refl
keyword-one (b ∷ d ∷ ds) h = absurd (suc-ne-zero _ (suc_inj h))

pub keyword-spaced : (l : List ℕ) → get_or l 1 0 ≡ space → Some (get_or l 0 0) ≡ keyword l
unfolding keyword
keyword-spaced [] e = absurd (omega arith)
keyword-spaced (b ∷ []) e = refl
keyword-spaced (b ∷ d ∷ ds) e = rw (eq-eqb d space e)

pub keyword-longer : (l : List ℕ) → (length l ≡ 1 → ⊥) → (get_or l 1 0 ≡ space → ⊥) → None ≡ keyword l
unfolding keyword
keyword-longer [] h n = refl
keyword-longer (b ∷ []) h n = absurd (h refl)
keyword-longer (b ∷ d ∷ ds) h n = rw (ne_eqb d space n)

-- ---- the numbers of a header, as `number` answers them

pub same-as : (xs ys : List ℕ) → pointwise eqb xs ys ≡ same_bytes xs ys
unfolding same_bytes
same-as [] [] = refl
same-as [] (y ∷ ys) = refl
same-as (x ∷ xs) [] = refl
same-as (x ∷ xs) (y ∷ ys) = ap (λ (t : Bool). eqb x y && t) (same-as xs ys)

not-is : (t u : Bool) → u ≡ not t → t ≡ not u
not-is true u e = rw e
not-is false u e = rw e

answered_none : {A : Type 0} (o : Option A) → None ≡ answered o → o ≡ none
unfolding answered
answered_none none e = refl
answered_none (some a) e = cc

answered-some : {A : Type 0} (o : Option A) (a : A) → Some a ≡ answered o → o ≡ some a
unfolding answered
answered-some none a e = cc
answered-some (some b) a e = cc

-- ---- `header_form`: the tokens behind the `p`, which ends at i

abbrev word_at : List ℕ → Token → List ℕ
word_at l t = take (t.to - t.from) (drop t.from l)

pub header-bare : (l : List ℕ) (i : ℕ) → i ≡ length l → None ≡ shape_of (header_form (after l i))
unfolding shape_of header_form
header-bare l i h = rw (after_none l i h)

module _ (l : List ℕ) (i : ℕ) (t : Token) (goes : (i < length l) × Cut l (i + 1) t) where
  one : after l i ≡ word_at l t ∷ after l t.to
  one = after-some l i goes.0 ∙ goes.1.rest

  pub header-one : t.to ≡ length l → None ≡ shape_of (header_form (after l i))
  unfolding shape_of header_form
  header-one h = rw (one, after_none l t.to h)

  module _ (t2 : Token) (goes2 : (t.to < length l) × Cut l (t.to + 1) t2) where
    two : after l i ≡ word_at l t ∷ word_at l t2 ∷ after l t2.to
    two = one ∙ ap (λ (ws : List (List ℕ)). word_at l t ∷ ws) (after-some l t.to goes2.0 ∙ goes2.1.rest)

    pub header-two : t2.to ≡ length l → None ≡ shape_of (header_form (after l i))
    unfolding shape_of header_form
    header-two h = rw (two, after_none l t2.to h)

    module _ (t3 : Token) (goes3 : (t2.to < length l) × Cut l (t2.to + 1) t3) where
      three : after l i ≡ word_at l t ∷ word_at l t2 ∷ word_at l t3 ∷ after l t3.to
      three = two ∙ ap (λ (ws : List (List ℕ)). word_at l t ∷ word_at l t2 ∷ ws) (after-some l t2.to goes3.0 ∙ goes3.1.rest)

      pub header-many : (t3.to ≡ length l → ⊥) → None ≡ shape_of (header_form (after l i))
      unfolding shape_of header_form is_nil
      header-many h =
          let k = goes3.1.high in
          let m : t3.to < length l = omega arith in
          rw (three, after-some l t3.to m) (go (words_of (drop (t3.to + 1) l)) (words-some (drop (t3.to + 1) l)))
        where
          go : (ws : List (List ℕ)) → is_nil ws ≡ false → None ≡ shape_of (header_form (word_at l t ∷ word_at l t2 ∷ word_at l t3 ∷ ws))
          go [] h = absurd (true≢false h)
          go (x ∷ xs) h = refl

      module _ (ends : t3.to ≡ length l) (cnf : List ℕ) (spelt : cnf ≡ 99 ∷ 110 ∷ 102 ∷ []) where
        pub header-other : true ≡ not (pointwise eqb (word_at l t) cnf) → None ≡ shape_of (header_form (after l i))
        unfolding shape_of header_form bytes
        header-other e = rw (three, after_none l t3.to ends, ← spelt, ← same-as (word_at l t) cnf, not-is (pointwise eqb (word_at l t) cnf) true e)

        module _ (format : false ≡ not (pointwise eqb (word_at l t) cnf)) where
          header-of : header_form (after l i) ≡ header_of (number_of (word_at l t2)) (number_of (word_at l t3))
          unfolding header_form bytes
          header-of = rw (three, after_none l t3.to ends, ← spelt, ← same-as (word_at l t) cnf, not-is (pointwise eqb (word_at l t) cnf) false format)

          pub header-no-v : None ≡ answered (number_of (word_at l t2)) → None ≡ shape_of (header_form (after l i))
          unfolding shape_of header_of
          header-no-v v = rw (header-of, answered_none (number_of (word_at l t2)) v)

          module _ (v : ℕ) (is-v : Some v ≡ answered (number_of (word_at l t2))) where
            pub header-no-c : None ≡ answered (number_of (word_at l t3)) → None ≡ shape_of (header_form (after l i))
            unfolding shape_of header_of
            header-no-c c = rw (header-of, answered-some (number_of (word_at l t2)) v is-v, answered_none (number_of (word_at l t3)) c)

            pub header_is : (c : ℕ) → Some c ≡ answered (number_of (word_at l t3)) → Some (Header v c) ≡ shape_of (header_form (after l i))
            unfolding shape_of header_of
            header_is c is-c = rw (header-of, answered-some (number_of (word_at l t2)) v is-v, answered-some (number_of (word_at l t3)) c is-c)

-- ---- `variables`

listing_none : (o : Option (List ℕ)) (out : List ℕ) → entries o ≡ [] → Listing o None out
listing_none o out e = record { count-is = rw e; positive = λ n h. cc; front = rw e }

pub variables-end : (l : List ℕ) (i : ℕ) (out : List ℕ) → i ≡ length l → Listing (closed variable_of (after l i)) None out
unfolding closed entries
variables-end l i out h = rw (after_none l i h) (listing_none none out refl)

listing-open : (o : Option (List ℕ)) (out : List ℕ) → Gathered o None out → Listing o None out
unfolding count_of entries
listing-open none out g = listing_none none out refl
listing-open (some xs) out g = let e = g.count-is in cc

listing-empty : (o : Option (List ℕ)) (n : ℕ) (out : List ℕ) → Gathered o (Some n) out → n ≡ 0 → Listing o None out
unfolding count_of entries
listing-empty none n out g z = let e = g.count-is in cc
listing-empty (some []) n out g z = listing_none (some []) out refl
listing-empty (some (x ∷ xs)) n out g z = let e = g.count-is in let k : n ≡ length (x ∷ xs) = cc in absurd (omega arith)

listing-some : (o : Option (List ℕ)) (n : ℕ) (out : List ℕ) → Gathered o (Some n) out → (n ≡ 0 → ⊥) → Listing o (Some n) out
unfolding count_of entries
listing-some none n out g z = let e = g.count-is in cc
listing-some (some xs) n out g z =
    let e = g.count-is in
    let k : n ≡ length xs = cc in
    record { count-is = k; positive = λ m h. let same : n ≡ m = cc in omega arith; front = rw k g.front }

module _ (l : List ℕ) (i : ℕ) (out : List ℕ) (inside : i < length l) where
  behind-is : closed (entry_of false) (words_of (drop (i + 1) l)) ≡ closed variable_of (after l i)
  behind-is = closed-variables (words_of (drop (i + 1) l)) ∙ ap (closed variable_of) (sym (after-some l i inside))

  pub variables-open : Gathered (closed (entry_of false) (words_of (drop (i + 1) l))) None out → Listing (closed variable_of (after l i)) None out
  variables-open g = listing-open (closed variable_of (after l i)) out (rw behind-is at g)

  pub variables-none : (n : ℕ) → Gathered (closed (entry_of false) (words_of (drop (i + 1) l))) (Some n) out → n ≡ 0 → Listing (closed variable_of (after l i)) None out
  variables-none n g z = listing-empty (closed variable_of (after l i)) n out (rw behind-is at g) z

  pub variables-some : (n : ℕ) → Gathered (closed (entry_of false) (words_of (drop (i + 1) l))) (Some n) out → (n ≡ 0 → ⊥) → Listing (closed variable_of (after l i)) (Some n) out
  variables-some n g z = listing-some (closed variable_of (after l i)) n out (rw behind-is at g) z

-- ---- `clause_form`

clause-none : (o : Option Clause) (out : List ℕ) → Gathered (each (map rank) o) None out → Formed (clause_form o) None out
unfolding each count_of clause_form shape_of numbers_of
clause-none none out g = record { shape = refl; front = refl }
clause-none (some C) out g = let e = g.count-is in cc

clause-some : (o : Option Clause) (n : ℕ) (out : List ℕ) → Gathered (each (map rank) o) (Some n) out → Formed (clause_form o) (Some (shape.Clause n)) out
unfolding each count_of entries clause_form shape_of numbers_of
clause-some none n out g = let e = g.count-is in cc
clause-some (some C) n out g =
    let e = g.count-is in
    let z : n ≡ length (map rank C) = cc in
    record { shape = ap (λ (m : ℕ). Some (shape.Clause m)) (z ∙ length-map C rank); front = g.front }

module _ (l : List ℕ) (out : List ℕ) where
  pub clause-open : Gathered (closed (entry_of true) (words_of l)) None out → Formed (clause_form (closed literal_of (words_of l))) None out
  clause-open g = clause-none (closed literal_of (words_of l)) out (rw closed-ranks at g)

  pub clause-count : (n : ℕ) → Gathered (closed (entry_of true) (words_of l)) (Some n) out → Formed (clause_form (closed literal_of (words_of l))) (Some (shape.Clause n)) out
  clause-count n g = clause-some (closed literal_of (words_of l)) n out (rw closed-ranks at g)

-- ---- `tokens_form`

header-numbers : (ts : List (List ℕ)) → numbers_of (header_form ts) ≡ []
unfolding numbers_of header_form header_of
header-numbers [] = refl
header-numbers (a ∷ []) = refl
header-numbers (a ∷ v ∷ []) = refl
header-numbers (a ∷ v ∷ c ∷ []) = go (same_bytes a (bytes "cnf")) (number_of v) (number_of c)
  where
    go : (t : Bool) (x y : Option ℕ) → numbers_of (cond t (header_of x y) no_form) ≡ []
    go true none y = refl
    go true (some x) none = refl
    go true (some x) (some y) = refl
    go false x y = refl
header-numbers (a ∷ v ∷ c ∷ d ∷ ds) = refl

prefix-none : (F : ℕ → List ℕ → Form) (o : Option (List ℕ)) (out : List ℕ) → Listing o None out → Formed (prefix_form F o) None out
unfolding entries prefix_form shape_of numbers_of
prefix-none F none out g = record { shape = refl; front = refl }
prefix-none F (some []) out g = record { shape = refl; front = refl }
prefix-none F (some (x ∷ xs)) out g = let e = g.count-is in absurd (omega arith)

prefix-some : (F : ℕ → List ℕ → Form) (S : ℕ → Shape) → ((x : ℕ) (xs : List ℕ) → shape_of (F x xs) ≡ Some (S (length (x ∷ xs)))) → ((x : ℕ) (xs : List ℕ) → numbers_of (F x xs) ≡ x ∷ xs)
    → (o : Option (List ℕ)) (n : ℕ) (out : List ℕ) → Listing o (Some n) out → Formed (prefix_form F o) (Some (S n)) out
unfolding entries prefix_form
prefix-some F S p q none n out g = let e = g.count-is in let h = g.positive n refl in absurd (omega arith)
prefix-some F S p q (some []) n out g = let e = g.count-is in let h = g.positive n refl in absurd (omega arith)
prefix-some F S p q (some (x ∷ xs)) n out g =
    let e : n ≡ length (x ∷ xs) = g.count-is in
    record { shape = ap (λ (m : ℕ). Some (S m)) e ∙ sym (p x xs); front = rw (q x xs) (ap (λ (m : ℕ). take m out) (sym e) ∙ g.front) }

-- whether a keyword is the byte x
unfoldable is_key : answer.Option ℕ → ℕ → Bool
is_key None x = false
is_key (Some b) x = eqb b x

other-key : (k : answer.Option ℕ) (x : ℕ) → (k ≡ Some x → ⊥) → is_key k x ≡ false
unfolding is_key
other-key None x n = refl
other-key (Some b) x n = ne_eqb b x (λ e. n (ap (λ (y : ℕ). Some y) e))

this-key : (k : answer.Option ℕ) (b x : ℕ) → k ≡ Some b → is_key k x ≡ eqb b x
unfolding is_key
this-key k b x e = rw e

-- the first token of a line, tested by the keyword, and the tokens behind it
record Keyed (l : List ℕ) : Type 0 where
  word : List ℕ
  others : List (List ℕ)
  all : words_of l ≡ word ∷ others
  tested : (x : ℕ) → same_bytes word (x ∷ []) ≡ is_key (keyword l) x
  behind : (x : ℕ) → keyword l ≡ Some x → others ≡ after l 1

keyed : (l : List ℕ) → 0 < length l → (get_or l 0 0 ≡ space → ⊥) → Keyed l
unfolding words_of words pieces onto is_nil is_empty keyword same_bytes after is_key
keyed [] h n = absurd (not-suc-le-zero h)
keyed (b ∷ []) h n = record { word = b ∷ []; others = []; all = rw (ne_eqb b space n); tested = λ x. and-true (eqb b x); behind = λ x z. refl }
keyed (b ∷ d ∷ ds) h n = go (eqb d space) refl
  where
    longer : eqb d space ≡ false → (w : List ℕ) (ws : List (List ℕ)) → words_of (b ∷ d ∷ ds) ≡ (b ∷ d ∷ w) ∷ ws → Keyed (b ∷ d ∷ ds)
    longer e w ws q = record { word = b ∷ d ∷ w; others = ws; all = q; tested = λ x. rw e (and-false (eqb b x)); behind = λ x z. let k : None ≡ Some x = rw e at z in cc }

    from : eqb d space ≡ false → (ps : List (List ℕ)) → pieces space ds ≡ ps → Keyed (b ∷ d ∷ ds)
    from e [] q = longer e [] [] (rw (ne_eqb b space n, e, q))
    from e (w ∷ []) q = longer e w [] (rw (ne_eqb b space n, e, q))
    from e (w ∷ v ∷ vs) q = longer e w (words (v ∷ vs)) (rw (ne_eqb b space n, e, q))

    go : (t : Bool) → eqb d space ≡ t → Keyed (b ∷ d ∷ ds)
    go true e =
        record {
          word = b ∷ [];
          others = words_of ds;
          all = rw (ne_eqb b space n, e, pieces-some space ds);
          tested = λ x. rw e (and-true (eqb b x));
          behind = λ x z. sym (after-some (b ∷ d ∷ ds) 1 (omega arith));
        }
    go false e = from e (pieces space ds) refl

module _ (l : List ℕ) (some_byte : 0 < length l) (no-space : get_or l 0 0 ≡ space → ⊥) (k : answer.Option ℕ) (key : k ≡ keyword l) where
  parts : Keyed l
  parts = keyed l some_byte no-space

  first_word : words_of l ≡ parts.word ∷ parts.others
  first_word = parts.all

  behind-it : (x : ℕ) → k ≡ Some x → parts.others ≡ after l 1
  behind-it x h = parts.behind x (sym key ∙ h)

  tests : (b : ℕ) → same_bytes parts.word (b ∷ []) ≡ is_key k b
  tests b = parts.tested b ∙ ap (λ (x : answer.Option ℕ). is_key x b) (sym key)

  pub p-line : k ≡ Some 112 → (r : answer.Option Shape) (out : List ℕ) → r ≡ shape_of (header_form (after l 1)) → Formed (tokens_form (some (words_of l))) r out
  unfolding tokens_form bytes is_key
  p-line e r out h = rw (first_word, behind-it 112 e, tests 112, this-key k 112 112 e) (record { shape = h; front = rw (header-numbers (after l 1)) })

  a-is : k ≡ Some 97 → tokens_form (some (words_of l)) ≡ prefix_form (λ x xs. a_line (x ∷ xs)) (closed variable_of (after l 1))
  unfolding tokens_form bytes is_key
  a-is e = rw (first_word, behind-it 97 e, tests 112, tests 97, this-key k 97 112 e, this-key k 97 97 e)

  e-is : k ≡ Some 101 → tokens_form (some (words_of l)) ≡ prefix_form (λ x xs. e_line (x ∷ xs)) (closed variable_of (after l 1))
  unfolding tokens_form bytes is_key
  e-is e = rw (first_word, behind-it 101 e, tests 112, tests 97, tests 101, this-key k 101 112 e, this-key k 101 97 e, this-key k 101 101 e)

  d-is : k ≡ Some 100 → tokens_form (some (words_of l)) ≡ prefix_form d_line (closed variable_of (after l 1))
  unfolding tokens_form bytes is_key
  d-is e = rw (first_word, behind-it 100 e, tests 112, tests 97, tests 101, tests 100, this-key k 100 112 e, this-key k 100 97 e, this-key k 100 101 e, this-key k 100 100 e)

  module _ (out : List ℕ) (none-listed : Listing (closed variable_of (after l 1)) None out) where
    pub a-none : k ≡ Some 97 → Formed (tokens_form (some (words_of l))) None out
    a-none e = rw (a-is e) (prefix-none (λ x xs. a_line (x ∷ xs)) (closed variable_of (after l 1)) out none-listed)

    pub e-none : k ≡ Some 101 → Formed (tokens_form (some (words_of l))) None out
    e-none e = rw (e-is e) (prefix-none (λ x xs. e_line (x ∷ xs)) (closed variable_of (after l 1)) out none-listed)

    pub d-none : k ≡ Some 100 → Formed (tokens_form (some (words_of l))) None out
    d-none e = rw (d-is e) (prefix-none d_line (closed variable_of (after l 1)) out none-listed)

  module _ (n : ℕ) (out : List ℕ) (listed : Listing (closed variable_of (after l 1)) (Some n) out) where
    pub a-some : k ≡ Some 97 → Formed (tokens_form (some (words_of l))) (Some (Universals n)) out
    unfolding shape_of numbers_of
    a-some e = rw (a-is e) (prefix-some (λ x xs. a_line (x ∷ xs)) Universals (λ x xs. refl) (λ x xs. refl) (closed variable_of (after l 1)) n out listed)

    pub e-some : k ≡ Some 101 → Formed (tokens_form (some (words_of l))) (Some (Existentials n)) out
    unfolding shape_of numbers_of
    e-some e = rw (e-is e) (prefix-some (λ x xs. e_line (x ∷ xs)) Existentials (λ x xs. refl) (λ x xs. refl) (closed variable_of (after l 1)) n out listed)

    pub d-some : k ≡ Some 100 → Formed (tokens_form (some (words_of l))) (Some (Dependent n)) out
    unfolding shape_of numbers_of
    d-some e = rw (d-is e) (prefix-some d_line Dependent (λ x xs. refl) (λ x xs. refl) (closed variable_of (after l 1)) n out listed)

  module _ (not-p : k ≡ Some 112 → ⊥) (not_a : k ≡ Some 97 → ⊥) (not-e : k ≡ Some 101 → ⊥) (not_d : k ≡ Some 100 → ⊥) where
    clause-is : tokens_form (some (words_of l)) ≡ clause_form (closed literal_of (words_of l))
    unfolding tokens_form bytes
    clause-is = rw (first_word, tests 112, tests 97, tests 101, tests 100, other-key k 112 not-p, other-key k 97 not_a, other-key k 101 not-e, other-key k 100 not_d)

    pub clause-line : (r : answer.Option Shape) (out : List ℕ) → Formed (clause_form (closed literal_of (words_of l))) r out → Formed (tokens_form (some (words_of l))) r out
    clause-line r out g = rw clause-is g

-- ---- `form`

pub first_none : (l : List ℕ) → None ≡ slice_get l 0 → length l ≡ 0
first_none [] e = refl
first_none (b ∷ bs) e = cc

pub first-some : (l : List ℕ) (b : ℕ) → Some b ≡ slice_get l 0 → (length l ≡ 0 → ⊥) × (get_or l 0 0 ≡ b)
first-some [] b e = cc
first-some (x ∷ xs) b e = (λ z. omega arith, cc)

pub formed-empty : (l out : List ℕ) → length l ≡ 0 → Formed (form_of l) None out
unfolding shape_of numbers_of
formed-empty l out h = rw (form-empty l h) (record { shape = refl; front = refl })

module _ (l out : List ℕ) (some_byte : length l ≡ 0 → ⊥) where
  pub formed-comment : get_or l 0 0 ≡ 99 → Formed (form_of l) (Some Comment) out
  unfolding shape_of numbers_of
  formed-comment h = rw (form-comment l some_byte h) (record { shape = refl; front = refl })

  pub formed-space : (get_or l 0 0 ≡ 99 → ⊥) → get_or l 0 0 ≡ 32 → Formed (form_of l) None out
  unfolding shape_of numbers_of
  formed-space n h = rw (form-space l some_byte n h) (record { shape = refl; front = refl })

  pub formed-tokens : (get_or l 0 0 ≡ 99 → ⊥) → (get_or l 0 0 ≡ 32 → ⊥) → (r : answer.Option Shape) → Formed (tokens_form (some (words_of l))) r out → Formed (form_of l) r out
  formed-tokens n k r g = rw (form-words l some_byte n k) g
