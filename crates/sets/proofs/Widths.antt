-- The instances: document 01's one word for a set, and Note 6's four.
use mathlib.Core.Path.{◌≡◌}
use mathlib.Core.List.{[], ◌∷◌}
use Prim.Native.Nat.{ℕ, ◌^◌}
use native.Mathlib.Nat.{zero-add, zero-mul}
use lib.Dec.{lit<}
use Rattle.sets.specs.Words.{as_set, words_each}
use Rattle.sets.specs.Statements.{HeldExactly, ByWords, TableHeld, OneWord}
use Rattle.sets.proofs.Laws.Sets.{one_table, one-spare}
use Rattle.sets.proofs.AnyWidth.{any_width}

pub one_word : HeldExactly 1 × ByWords 1 × TableHeld 1
one_word = let a = any_width 1 in (a.0, a.1, a.2 (lit< tt))

-- the word is the set
one-held : (w : ℕ) → as_set (w ∷ []) ≡ w
unfolding as_set
one-held w = rw (zero-mul (2 ^ 64)) (zero-add w)

pub one-word-is : OneWord
one-word-is = record { held = one-held; table = one_table; none-spare = one-spare }

pub four-words : HeldExactly words_each × ByWords words_each × TableHeld words_each
four-words = let a = any_width words_each in (a.0, a.1, a.2 (lit< tt))
