-- Families that are left, as bits of words (document 02, Note 8): a clause at a setting asks that one of some bits of the family's number is 1, or one of others 0.
--     met          a number has a bit of `ones`, or lacks one of `zeros`
--     word_bits     so many families to a word
--     Marks        the bits of a word are a test's answers for the numbers below `word_bits`
--     is_left       the bit of a family in a table of words
--     all_left      every family is left
--     Narrowed     what is left of such a table after a test of families
use Rattle.std.specs.Prelude.{◌≡◌, Bool, not, ◌&&◌, ◌||◌, List, ℕ, ◌*◌, ◌/◌, ◌%◌, ◌<◌, eqb, length, get_or, replicate}
use Rattle.dqbf.specs.Set.{empty_set, bit, common, inside}

unfoldable pub met : (ones zeros number : ℕ) → Bool
met ones zeros n = not (eqb (common ones n) empty_set) || not (inside zeros n)

abbrev pub word_bits : ℕ
word_bits = 64

pub record Marks (word : ℕ) (P : ℕ → Bool) : Type 0 where
  pub at : (i : ℕ) → i < word_bits → bit word i ≡ P i

unfoldable pub is_left : List ℕ → ℕ → Bool
is_left words n = bit (get_or words (n / word_bits) 0) (n % word_bits)

abbrev pub all_left : (words : ℕ) → List ℕ
all_left n = replicate n 18446744073709551615

-- the families that were left and pass a test are left
pub record Narrowed (before after : List ℕ) (P : ℕ → Bool) : Type 0 where
  pub words : length after ≡ length before
  pub kept : (f : ℕ) → f < word_bits * length before → is_left after f ≡ (is_left before f && P f)
