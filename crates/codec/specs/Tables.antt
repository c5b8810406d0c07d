-- Tables over any kind of entry: what an entry's bytes stand for, and the bytes of an entry, are arguments.
--     table_in, table_bytes        so many entries of w bytes each, from bytes; and the bytes of entries
--     number, signed_number        what the bytes of an entry stand for
--     digits_2, digits_8, bit_digits    the bytes of an entry
-- `entries`, `bytes_of`, `literals_in` and `literal_bytes` of specs/Bytes.antt are these at each kind of entry: proofs/Laws/Tables.antt.
use Rattle.std.specs.Prelude.{◌≡◌, refl, List, [], ◌∷◌, ◌++◌, ℕ, zero, suc, ℤ, length, take, drop}
use Rattle.dqbf.specs.Bytes as Dqbf
use Rattle.codec.specs.Bytes.{digits, signed, bits}

unfoldable pub table_in : {A : Type 0} → (List ℕ → A) → ℕ → ℕ → List ℕ → List A
table_in decode w zero bytes = []
table_in decode w (suc n) bytes = decode (take w bytes) ∷ table_in decode w n (drop w bytes)

unfoldable pub table_bytes : {A : Type 0} → (A → List ℕ) → List A → List ℕ
table_bytes encode [] = []
table_bytes encode (x ∷ xs) = encode x ++ table_bytes encode xs

abbrev pub number : List ℕ → ℕ
number bytes = Dqbf.number bytes

abbrev pub signed_number : List ℕ → ℤ
signed_number bytes = signed (Dqbf.number bytes)

abbrev pub digits_2 : ℕ → List ℕ
digits_2 n = digits 2 n

abbrev pub digits_8 : ℕ → List ℕ
digits_8 n = digits 8 n

abbrev pub bit_digits : ℤ → List ℕ
bit_digits z = digits 2 (bits z)

-- each is as long as its entry is wide
pub exact_2 : (n : ℕ) → length (digits_2 n) ≡ 2
unfolding digits
exact_2 n = refl

pub exact_8 : (n : ℕ) → length (digits_8 n) ≡ 8
unfolding digits
exact_8 n = refl

pub exact_bits : (z : ℤ) → length (bit_digits z) ≡ 2
exact_bits z = exact_2 (bits z)
