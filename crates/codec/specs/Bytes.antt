-- Tables in little-endian bytes (document 01, "The four lent tables": "each table is its entries in little-endian bytes"), over the width of an entry.
-- `number` of dqbf's specs/Bytes.antt is the number that bytes stand for.
--     Bytes                        a list of bytes: each entry is below 256
--     digits                       the bytes of a number, so many of them
--     entries, bytes_of             so many entries of a width, from bytes; and the bytes of entries
--     signed, bits                 a number of 16 bits as a signed one, and back
--     literals_in, literal_bytes     the same of a table of literals
--     over                         bytes at the front of a buffer, and what stands behind them as it was
use Rattle.std.specs.Prelude.{cond, List, [], ◌∷◌, ◌++◌, map, ℕ, zero, suc, ◌-◌, ◌/◌, ◌%◌, ◌<◌, ltb, ℤ, pos, negsuc, length, take, drop, get_or}
use Rattle.dqbf.specs.Bytes.{number}

-- the place past the end counts as 0
abbrev pub Bytes : List ℕ → Type 0
Bytes l = (i : ℕ) → get_or l i 0 < 256

-- the lowest byte first; what does not fit is left out
unfoldable pub digits : ℕ → ℕ → List ℕ
digits zero n = []
digits (suc w) n = n % 256 ∷ digits w (n / 256)

-- n entries of w bytes each
unfoldable pub entries : ℕ → ℕ → List ℕ → List ℕ
entries w zero bytes = []
entries w (suc n) bytes = number (take w bytes) ∷ entries w n (drop w bytes)

unfoldable pub bytes_of : ℕ → List ℕ → List ℕ
bytes_of w [] = []
bytes_of w (x ∷ xs) = digits w x ++ bytes_of w xs

-- in two's complement: 2 ^ 15 and above are negative, 2 ^ 16 - 1 is -1
unfoldable pub signed : ℕ → ℤ
signed n = cond (ltb n 32768) (pos n) (negsuc (65535 - n))

unfoldable pub bits : ℤ → ℕ
bits (pos n) = n
bits (negsuc n) = 65535 - n

unfoldable pub literals_in : ℕ → List ℕ → List ℤ
literals_in n bytes = map signed (entries 2 n bytes)

unfoldable pub literal_bytes : List ℤ → List ℕ
literal_bytes literals = bytes_of 2 (map bits literals)

unfoldable pub over : List ℕ → List ℕ → List ℕ
over front buffer = front ++ drop (length front) buffer
