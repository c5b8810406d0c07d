-- Sets of universals in 64-bit words, the lowest bits first (document 02, Note 6, "Bigger pages"), for any number of words.
-- Document 01 has one word for a set, Note 6 has four: `words_each`. What a set is stands in dqbf's specs/Set.antt, and does not change with their number.
--     Words                              so many words of 64 bits
--     as_set, words_of                     the set that words hold; the words of a set
--     union_each, common_each, inside_each, size_each, none_each, same_each     union, intersection, containment, size, emptiness and equality, word by word
--     as_sets, spare_in, table_of           a table of sets, so many words for each: the sets in it, the words behind the last whole set, and back
use Rattle.std.specs.Prelude.{Bool, true, ◌&&◌, List, [], ◌∷◌, ◌++◌, ℕ, zero, suc, ◌+◌, ◌*◌, ◌/◌, ◌%◌, ◌^◌, ◌<◌, eqb, length, take, drop}
use Rattle.std.specs.Int.Bits.{bit_and, bit_or}
use Rattle.std.specs.Int.Count.{ones}
use Rattle.dqbf.specs.Set.{Set, empty_set}

-- the words of a set in the tables
abbrev pub words_each : ℕ
words_each = 4

-- the words of the sets table: "2,048 words, four for each variable"
abbrev pub table_words : ℕ
table_words = 2048

-- n words of 64 bits
unfoldable pub Words : ℕ → List ℕ → Type 0
Words zero [] = Unit {0}
Words zero (w ∷ ws) = ⊥
Words (suc n) [] = ⊥
Words (suc n) (w ∷ ws) = (w < 2 ^ 64) × Words n ws

-- the set that words hold, the lowest first
unfoldable pub as_set : List ℕ → Set
as_set [] = empty_set
as_set (w ∷ ws) = as_set ws * 2 ^ 64 + w

-- the n words of a set
unfoldable pub words_of : ℕ → Set → List ℕ
words_of zero s = []
words_of (suc n) s = s % 2 ^ 64 ∷ words_of n (s / 2 ^ 64)

-- ---- word by word

unfoldable pub union_each : List ℕ → List ℕ → List ℕ
union_each [] t = []
union_each (v ∷ s) [] = []
union_each (v ∷ s) (w ∷ t) = bit_or v w ∷ union_each s t

unfoldable pub common_each : List ℕ → List ℕ → List ℕ
common_each [] t = []
common_each (v ∷ s) [] = []
common_each (v ∷ s) (w ∷ t) = bit_and v w ∷ common_each s t

-- each word of t contains that of s
unfoldable pub inside_each : List ℕ → List ℕ → Bool
inside_each [] t = true
inside_each (v ∷ s) [] = true
inside_each (v ∷ s) (w ∷ t) = eqb (bit_and v w) v && inside_each s t

unfoldable pub size_each : List ℕ → ℕ
size_each [] = 0
size_each (w ∷ s) = ones w + size_each s

unfoldable pub none_each : List ℕ → Bool
none_each [] = true
none_each (w ∷ s) = eqb w 0 && none_each s

unfoldable pub same_each : List ℕ → List ℕ → Bool
same_each [] t = true
same_each (v ∷ s) [] = true
same_each (v ∷ s) (w ∷ t) = eqb v w && same_each s t

-- ---- a table of sets, n words for each

-- the first k sets
unfoldable pub first_sets : ℕ → ℕ → List ℕ → List Set
first_sets n zero words = []
first_sets n (suc k) words = as_set (take n words) ∷ first_sets n k (drop n words)

unfoldable pub as_sets : ℕ → List ℕ → List Set
as_sets n words = first_sets n (length words / n) words

-- the words behind the last whole set
unfoldable pub spare_in : ℕ → List ℕ → List ℕ
spare_in n words = drop (n * (length words / n)) words

-- the words of sets, one set behind the other
unfoldable pub table_of : ℕ → List Set → List ℕ
table_of n [] = []
table_of n (s ∷ sets) = words_of n s ++ table_of n sets
