-- What is claimed of sets in words, for any number of words (document 02, Note 6: "Union, intersection and containment are proved for any number of words, and
-- the old width is one instance"). Proved in proofs/AnyWidth.antt; the instances of one word and of four in proofs/Widths.antt.
use Rattle.std.specs.Prelude.{◌≡◌, List, [], ◌∷◌, ◌++◌, ℕ, ◌*◌, ◌^◌, ◌<◌, eqb, get_or}
use Rattle.dqbf.specs.Set.{Set, empty_set, union, common, inside, size}
use Rattle.sets.specs.Words.{Words, as_set, words_of, union_each, common_each, inside_each, size_each, none_each, same_each, as_sets, spare_in, table_of}

-- The sets of n words are those below 2 ^ (64 * n), and a set has its words alone.
pub record HeldExactly (n : ℕ) : Type 0 where
  pub words-of : (s : Set) → Words n (words_of n s)
  pub set_back : (s : Set) → s < 2 ^ (64 * n) → as_set (words_of n s) ≡ s
  pub words_back : (ws : List ℕ) → Words n ws → words_of n (as_set ws) ≡ ws
  pub below : (ws : List ℕ) → Words n ws → as_set ws < 2 ^ (64 * n)

-- What is done word by word is done to the sets.
pub record ByWords (n : ℕ) : Type 0 where
  pub unions : (s t : List ℕ) → Words n s → Words n t → Words n (union_each s t) × (as_set (union_each s t) ≡ union (as_set s) (as_set t))
  pub commons : (s t : List ℕ) → Words n s → Words n t → Words n (common_each s t) × (as_set (common_each s t) ≡ common (as_set s) (as_set t))
  pub insides : (s t : List ℕ) → Words n s → Words n t → inside_each s t ≡ inside (as_set s) (as_set t)
  pub sizes : (s : List ℕ) → Words n s → size_each s ≡ size (as_set s)
  pub nones : (s : List ℕ) → Words n s → none_each s ≡ eqb (as_set s) empty_set
  pub sames : (s t : List ℕ) → Words n s → Words n t → same_each s t ≡ eqb (as_set s) (as_set t)

-- A table of n words for each set has its words alone: they follow from its sets and the words behind the last whole one, and sets are read back from their words.
pub record TableHeld (n : ℕ) : Type 0 where
  pub words-follow : (words : List ℕ) → ((i : ℕ) → get_or words i 0 < 2 ^ 64) → table_of n (as_sets n words) ++ spare_in n words ≡ words
  pub sets-back : (sets : List Set) → ((i : ℕ) → get_or sets i 0 < 2 ^ (64 * n)) → as_sets n (table_of n sets) ≡ sets
  pub none-spare : (sets : List Set) → spare_in n (table_of n sets) ≡ []

abbrev pub AnyWidth : Type 0
AnyWidth = (n : ℕ) → HeldExactly n × ByWords n × (0 < n → TableHeld n)

-- Of one word the set is the word itself, and a table of such sets is its words: document 01's width is the instance n = 1.
pub record OneWord : Type 0 where
  pub held : (w : ℕ) → as_set (w ∷ []) ≡ w
  pub table : (words : List ℕ) → as_sets 1 words ≡ words
  pub none-spare : (words : List ℕ) → spare_in 1 words ≡ []
