-- Tables over any kind of entry (specs/Tables.antt): the turns of the two loops, and each kind of entry.
use mathlib.Core.Path.{◌≡◌, refl, ap, sym, ◌∙◌}
use mathlib.Core.List.{List, [], ◌∷◌, ◌++◌, append_assoc, append-nil}
use Prim.Native.Nat.{ℕ, zero, suc, ◌+◌, ◌-◌, ◌*◌, ◌/◌, ◌<◌, ◌≤◌}
use native.Mathlib.Nat.{mul-zero, mul-suc, add_comm, mul_comm, div-div-eq-div-mul, le-div_iff_mul-le, add-sub_cancel_left, le-add_right, le_of_lt}
use native.Mathlib.Numerals.{add-one}
use native.Mathlib.Omega.{arith}
use borrow.Rule.Slice.PartMut.{put_mid, Post-is}
use lib.IntN.{ℤ}
use lib.ListN.{length, get_or, set, take, drop, length-append, length-map, drop_of_length-le}
use lib.Seq.{take-suc, take_at, take_all, drop-drop, drop-append-add, drop-length, length-take-le}
use mir.Syntax.{w16, w64}
use mir.Val.{to_z, of_z, SFits}
use mir.Facts.{to_z-of_z}
use Rattle.std.specs.Int.{from_le_bytes, to_le_bytes}
use Rattle.std.specs.Simd.{first_chunks}
use Rattle.dqbf.specs.Bytes as Dqbf
use Rattle.dqbf.proofs.Laws.Parts.{copy_step, copy_done}
use Rattle.codec.proofs.Laws.Bytes.{entries-length}
use Rattle.codec.proofs.Laws.Signed.{cast-signed, cast-unsigned}
use Rattle.codec.specs.Bytes.{digits, entries, bytes_of, signed, bits, literals_in, literal_bytes, over}
use Rattle.codec.specs.Tables.{table_in, table_bytes, number, signed_number, digits_2, digits_8, bit_digits}

-- entry i stands behind the i before it
behind : (w i : ℕ) → w * suc i ≡ w + w * i
behind w i = mul-suc w i ∙ add_comm (w * i) w

-- ---- a table from bytes

module _ {A : Type 0} (decode : List ℕ → A) (w : ℕ) where
  pub table-length : (n : ℕ) (b : List ℕ) → length (table_in decode w n b) ≡ n
  unfolding table_in
  table-length zero b = refl
  table-length (suc n) b = ap suc (table-length n (drop w b))

  table-at : (n : ℕ) (b : List ℕ) (i : ℕ) (z : A) → i < n → decode (take w (drop (w * i) b)) ≡ get_or (table_in decode w n b) i z
  unfolding table_in
  table-at zero b i z h = absurd (omega arith)
  table-at (suc n) b zero z h = rw (mul-zero w)
  table-at (suc n) b (suc i) z h = rw (behind w i, ← drop-drop (w * i) w b) (table-at n (drop w b) i z (omega arith))

  chunk-at : (m : ℕ) (b : List ℕ) (i : ℕ) (z : List ℕ) → i < m → get_or (first_chunks w m b) i z ≡ take w (drop (w * i) b)
  chunk-at zero b i z h = absurd (omega arith)
  chunk-at (suc m) b zero z h = rw (mul-zero w)
  chunk-at (suc m) b (suc i) z h = rw (behind w i, ← drop-drop (w * i) w b) (chunk-at m (drop w b) i z (omega arith))

  -- the bytes have a chunk for each entry
  pub in-chunks : (i n m : ℕ) → 0 < w → i < n → w * n ≤ m → i < m / w
  in-chunks i n m h k room = let e = mul_comm n w in let p : n ≤ m / w = (le-div_iff_mul-le {k = w} {x = n} {y = m} h).1 (rw e room) in omega arith

  -- one more entry is read
  pub read-more : (table table₀ : List A) (b : List ℕ) (m i : ℕ) {chunk : List ℕ} {x : A} → i < length table₀ → i < m
      → table ≡ take i (table_in decode w (length table₀) b) ++ drop i table₀ → chunk ≡ get_or (first_chunks w m b) i chunk → x ≡ decode chunk
      → set table i x ≡ take (i + 1) (table_in decode w (length table₀) b) ++ drop (i + 1) table₀
  read-more table table₀ b m i {chunk} {x} h k e f g =
      let long = table-length (length table₀) b in
      let value : x ≡ get_or (table_in decode w (length table₀) b) i x = g ∙ ap decode (f ∙ chunk-at m b i chunk k) ∙ table-at (length table₀) b i x h in
      ap (set table i) value ∙ copy_step table table₀ (table_in decode w (length table₀) b) i x (omega arith) (omega arith) e

  pub read-end : (table table₀ : List A) (b : List ℕ) (i : ℕ) → i ≤ length table₀ → length table₀ ≤ i
      → table ≡ take i (table_in decode w (length table₀) b) ++ drop i table₀ → table ≡ table_in decode w (length table₀) b
  read-end table table₀ b i h k e =
      let long = table-length (length table₀) b in
      copy_done table table₀ (table_in decode w (length table₀) b) i (omega arith) (omega arith) e ∙ rw (long, drop-length table₀) (append-nil (table_in decode w (length table₀) b))

pub literals-length : (n : ℕ) (b : List ℕ) → length (literals_in n b) ≡ n
unfolding literals_in
literals-length n b = length-map (entries 2 n b) signed ∙ entries-length 2 n b

-- ---- the bytes of a table

module _ {A : Type 0} (encode : A → List ℕ) (w : ℕ) (exact : (x : A) → length (encode x) ≡ w) where
  pub bytes-long : (xs : List A) → length (table_bytes encode xs) ≡ w * length xs
  unfolding table_bytes
  bytes-long [] = sym (mul-zero w)
  bytes-long (x ∷ xs) = length-append (encode x) (table_bytes encode xs) ∙ rw (exact x, bytes-long xs) (sym (behind w (length xs)))

  bytes-more : (xs : List A) (x : A) → table_bytes encode (xs ++ (x ∷ [])) ≡ table_bytes encode xs ++ encode x
  unfolding table_bytes
  bytes-more [] x = append-nil (encode x)
  bytes-more (y ∷ xs) x = rw (bytes-more xs x) (sym (append_assoc (encode y) (table_bytes encode xs) (encode x)))

  -- bytes behind a front
  front-more : (out out₀ X ys : List ℕ) (i j : ℕ) → i ≡ length X → i ≤ j → length ys ≡ j - i → out ≡ over X out₀ → take i out ++ (ys ++ drop j out) ≡ over (X ++ ys) out₀
  unfolding over
  front-more out out₀ X ys i j e h l f =
      let front : take i out ≡ X = rw f (take_at X (drop (length X) out₀) i (sym e)) in
      let total : length (X ++ ys) ≡ j = length-append X ys ∙ omega arith in
      rw (front, rest-stays, total) (sym (append_assoc X ys (drop j out₀)))
    where
      more : length X + (j - length X) ≡ j
      more = omega arith

      rest-stays : drop j out ≡ drop j out₀
      rest-stays =
          ap (λ n. drop n out) (sym more) ∙ ap (drop (length X + (j - length X))) f ∙ drop-append-add X (drop (length X) out₀) (j - length X)
          ∙ drop-drop (j - length X) (length X) out₀ ∙ ap (λ n. drop n out₀) more

  pub write-start : (out : List ℕ) (xs : List A) → out ≡ over (table_bytes encode (take 0 xs)) out
  unfolding over table_bytes
  write-start out xs = refl

  -- one more entry is written, where its bytes are lent
  pub write-more : (out out₀ : List ℕ) (xs : List A) (i : ℕ) (x : A) {ys : List ℕ} → i < length xs → x ≡ get_or xs i x → out ≡ over (table_bytes encode (take i xs)) out₀
      → ys ≡ encode x → put_mid (w * i) (w * i + w - w * i) out ys ≡ over (table_bytes encode (take (i + 1) xs)) out₀
  write-more out out₀ xs i x {ys} h q e f =
      let front : w * i ≡ length (table_bytes encode (take i xs)) = sym (bytes-long (take i xs) ∙ ap (λ n. w * n) (length-take-le i xs (le_of_lt h))) in
      let long : length (encode x) ≡ w * i + w - w * i = exact x ∙ sym (add-sub_cancel_left (w * i) w) in
      let more : table_bytes encode (take i xs) ++ encode x ≡ table_bytes encode (take (i + 1) xs) = rw (add-one i, take-suc xs i x h, ← q) (sym (bytes-more (take i xs) x)) in
      rw (Post-is (w * i) (w * i + w) out (le-add_right (w * i) w), f)
      (front-more out out₀ (table_bytes encode (take i xs)) (encode x) (w * i) (w * i + w) front (le-add_right (w * i) w) long e ∙ ap (λ front. over front out₀) more)

  pub write-end : (out out₀ : List ℕ) (xs : List A) (i : ℕ) → length xs ≤ i → out ≡ over (table_bytes encode (take i xs)) out₀ → out ≡ over (table_bytes encode xs) out₀
  write-end out out₀ xs i k e = e ∙ ap (λ l. over (table_bytes encode l) out₀) (take_all i xs k)

-- ---- each kind of entry

pub entries-are : (w n : ℕ) (b : List ℕ) → table_in number w n b ≡ entries w n b
unfolding table_in entries
entries-are w zero b = refl
entries-are w (suc n) b = rw (entries-are w n (drop w b))

pub literals-are : (n : ℕ) (b : List ℕ) → table_in signed_number 2 n b ≡ literals_in n b
unfolding table_in entries literals_in signed
literals-are zero b = refl
literals-are (suc n) b = rw (literals-are n (drop 2 b))

pub bytes-are_2 : (xs : List ℕ) → table_bytes digits_2 xs ≡ bytes_of 2 xs
unfolding table_bytes bytes_of
bytes-are_2 [] = refl
bytes-are_2 (x ∷ xs) = rw (bytes-are_2 xs)

pub bytes-are_8 : (xs : List ℕ) → table_bytes digits_8 xs ≡ bytes_of 8 xs
unfolding table_bytes bytes_of
bytes-are_8 [] = refl
bytes-are_8 (x ∷ xs) = rw (bytes-are_8 xs)

pub literal_bytes-are : (ls : List ℤ) → table_bytes bit_digits ls ≡ literal_bytes ls
unfolding table_bytes bytes_of literal_bytes bits
literal_bytes-are [] = refl
literal_bytes-are (l ∷ ls) = rw (literal_bytes-are ls)

-- ---- the bytes of a number, as the machine has them

byte-at : (i : ℕ) (b : List ℕ) → number (drop i b) ≡ get_or b i 0 + 256 * number (drop (suc i) b)
unfolding Dqbf.number
byte-at zero [] = refl
byte-at zero (x ∷ b) = refl
byte-at (suc i) [] = refl
byte-at (suc i) (x ∷ b) = byte-at i b

no-more : (n : ℕ) (b : List ℕ) → length b ≡ n → number (drop n b) ≡ 0
unfolding Dqbf.number
no-more n b h = rw (drop_of_length-le b {i = n} (omega arith))

pub number-of_2 : (bs : List ℕ) → length bs ≡ 2 → from_le_bytes w16 bs ≡ number bs
number-of_2 bs h = omega (arith, byte-at 0 bs, byte-at 1 bs, no-more 2 bs h)

pub number-of_8 : (bs : List ℕ) → length bs ≡ 8 → from_le_bytes w64 bs ≡ number bs
number-of_8 bs h = omega (arith, byte-at 0 bs, byte-at 1 bs, byte-at 2 bs, byte-at 3 bs, byte-at 4 bs, byte-at 5 bs, byte-at 6 bs, byte-at 7 bs, no-more 8 bs h)

pub digits-of_2 : (n : ℕ) → to_le_bytes w16 n ≡ digits 2 n
unfolding digits
digits-of_2 n = refl

pub digits-of_8 : (n : ℕ) → to_le_bytes w64 n ≡ digits 8 n
unfolding digits
digits-of_8 n =
    rw (
      div-div-eq-div-mul n 256 256,
      div-div-eq-div-mul n 65536 256,
      div-div-eq-div-mul n 16777216 256,
      div-div-eq-div-mul n 4294967296 256,
      div-div-eq-div-mul n 1099511627776 256,
      div-div-eq-div-mul n 281474976710656 256,
    )

pub signed_number-of : (bs : List ℕ) → length bs ≡ 2 → {z : ℤ} → SFits w16 z → z ≡ to_z w16 (from_le_bytes w16 bs) → to_z w16 (of_z w16 z) ≡ signed_number bs
signed_number-of bs h {z} f e = to_z-of_z f ∙ e ∙ cast-signed (from_le_bytes w16 bs) ∙ ap signed (number-of_2 bs h)

pub signed_number-made : (bs : List ℕ) {z : ℤ} {n : ℕ} → SFits w16 z → z ≡ signed n → n ≡ number bs → to_z w16 (of_z w16 z) ≡ signed_number bs
signed_number-made bs f e q = to_z-of_z f ∙ e ∙ ap signed q

pub bit_digits-of : (z : ℤ) → SFits w16 z → {bs : List ℕ} → bs ≡ to_le_bytes w16 (of_z w16 (to_z w16 (of_z w16 z))) → bs ≡ bit_digits z
bit_digits-of z f {bs} e = e ∙ ap (to_le_bytes w16) (ap (of_z w16) (to_z-of_z f) ∙ cast-unsigned z f) ∙ digits-of_2 (bits z)
