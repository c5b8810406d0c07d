-- Tables of literals and the state, there and back: what is written and read again is the same, and so are bytes that are read and written again.
use mathlib.Core.Path.{◌≡◌, refl, ap, ◌∙◌}
use mathlib.Core.List.{List, [], ◌∷◌, map}
use Prim.Native.Nat.{ℕ, zero, suc, ◌*◌, ◌<◌, ◌≤◌, ◌^◌}
use lib.IntN.{ℤ, pos}
use lib.Signed.{mag}
use lib.ListN.{length, get_or, drop, length-map}
use Rattle.codec.specs.Bytes.{Bytes, entries, bytes_of, signed, bits, literals_in, literal_bytes, over}
use Rattle.codec.specs.State.{counts, state_with, state_in, state_bytes}
use Rattle.codec.proofs.Laws.Bytes.{Fits, bytes-length, entries-length, entries_fit, entries-back, bytes_back}
use Rattle.codec.proofs.Laws.Signed.{signed-bits, bits_fit, bits-signed}

-- ---- a table of numbers

pub table-back : (w n : ℕ) (xs b : List ℕ) → length xs ≡ n → Fits w xs → entries w n (over (bytes_of w xs) b) ≡ xs
unfolding over
table-back w n xs b e h = rw (← e) (entries-back w xs (drop (length (bytes_of w xs)) b) h)

pub table_same : (w n : ℕ) (b : List ℕ) → w * n ≤ length b → Bytes b → over (bytes_of w (entries w n b)) b ≡ b
unfolding over
table_same w n b h k = rw (bytes-length w (entries w n b), entries-length w n b) (bytes_back w n b h k)

-- ---- a table of literals

abbrev pub SmallLiterals : List ℤ → Type 0
SmallLiterals ls = (i : ℕ) → mag (get_or ls i (pos 0)) < 2 ^ 15

signed_all : (ls : List ℤ) → SmallLiterals ls → map signed (map bits ls) ≡ ls
signed_all [] h = refl
signed_all (l ∷ ls) h = rw (signed-bits l (h 0), signed_all ls (λ i. h (suc i)))

bits-all : (xs : List ℕ) → Fits 2 xs → map bits (map signed xs) ≡ xs
bits-all [] h = refl
bits-all (x ∷ xs) h = rw (bits-signed x (h 0), bits-all xs (λ i. h (suc i)))

bits_small : (ls : List ℤ) → SmallLiterals ls → Fits 2 (map bits ls)
unfolding bits
bits_small [] h i = bits_fit (pos 0) (h 0)
bits_small (l ∷ ls) h zero = bits_fit l (h 0)
bits_small (l ∷ ls) h (suc i) = bits_small ls (λ j. h (suc j)) i

pub literal-bytes-length : (ls : List ℤ) → length (literal_bytes ls) ≡ 2 * length ls
unfolding literal_bytes bits
literal-bytes-length ls = bytes-length 2 (map bits ls) ∙ ap (λ n. 2 * n) (length-map ls bits)

pub literals-back : (n : ℕ) (ls : List ℤ) (b : List ℕ) → length ls ≡ n → SmallLiterals ls → literals_in n (over (literal_bytes ls) b) ≡ ls
unfolding literals_in literal_bytes
literals-back n ls b e h = ap (map signed) (table-back 2 n (map bits ls) b (length-map ls bits ∙ e) (bits_small ls h)) ∙ signed_all ls h

pub literals-same : (n : ℕ) (b : List ℕ) → 2 * n ≤ length b → Bytes b → over (literal_bytes (literals_in n b)) b ≡ b
unfolding literals_in literal_bytes
literals-same n b h k = rw (bits-all (entries 2 n b) (entries_fit 2 n b k)) (table_same 2 n b h k)

-- ---- the state

pub state-same : (b : List ℕ) → 16 ≤ length b → Bytes b → over (state_bytes (state_in b)) b ≡ b
unfolding state_in state_bytes counts state_with entries
state-same b h k = table_same 2 8 b h k
