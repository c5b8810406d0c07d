-- Laws of specs/Bytes.antt, in its order, over the width of an entry: lengths, and both round trips.
-- `Bytes b` says that a list is one of bytes, `Fits w xs` that w bytes hold each entry.
use mathlib.Core.Path.{◌≡◌, refl, ap, sym, ◌∙◌}
use mathlib.Core.List.{List, [], ◌∷◌, ◌++◌, append_assoc}
use Prim.Native.Nat.{ℕ, zero, suc, ◌+◌, ◌-◌, ◌*◌, ◌/◌, ◌%◌, ◌<◌, ◌≤◌, ◌^◌}
use native.Mathlib.Nat.{pow-suc, mul-zero, mul-suc, add_comm, one-le-pow, div-lt_iff_lt-mul}
use native.Mathlib.Omega.{arith}
use lib.ListN.{length, get_or, take, drop, length-append, length-drop, length-take, take-append-drop}
use lib.Seq.{take_at, drop_at, drop-drop, length-take-le, get_or-drop}
use Rattle.dqbf.specs.Bytes.{number}
use Rattle.codec.specs.Bytes.{Bytes, digits, entries, bytes_of, over}

abbrev pub Fits : ℕ → List ℕ → Type 0
Fits w xs = (i : ℕ) → get_or xs i 0 < 256 ^ w

pub front_bytes : (w : ℕ) (b : List ℕ) → Bytes b → Bytes (take w b)
front_bytes zero b k i = omega arith
front_bytes (suc w) [] k i = omega arith
front_bytes (suc w) (x ∷ b) k zero = k 0
front_bytes (suc w) (x ∷ b) k (suc i) = front_bytes w b (λ j. k (suc j)) i

pub rest-bytes : (w : ℕ) (b : List ℕ) → Bytes b → Bytes (drop w b)
rest-bytes w b k i = rw (get_or-drop w b i 0) (k (w + i))

-- ---- numbers and their bytes

some-power : (w : ℕ) → 0 < 256 ^ w
some-power w = one-le-pow w 256 (omega arith)

pub number_fits : (w : ℕ) (b : List ℕ) → length b ≤ w → Bytes b → number b < 256 ^ w
unfolding number
number_fits w [] h k = some-power w
number_fits zero (x ∷ b) h k = omega arith
number_fits (suc w) (x ∷ b) h k =
    let n = number_fits w b (omega arith) (λ i. k (suc i)) in
    let x-byte : x < 256 = k 0 in
    rw (pow-suc 256 w) (omega arith)

pub digits-length : (w n : ℕ) → length (digits w n) ≡ w
unfolding digits
digits-length zero n = refl
digits-length (suc w) n = ap suc (digits-length w (n / 256))

pub number_digits : (w n : ℕ) → n < 256 ^ w → number (digits w n) ≡ n
unfolding digits number
number_digits zero n h = omega arith
number_digits (suc w) n h =
    let k : n / 256 < 256 ^ w = (div-lt_iff_lt-mul {k = 256} {x = n} {y = 256 ^ w} (omega arith)).1 (rw (pow-suc 256 w) at h) in
    let e = number_digits w (n / 256) k in
    omega arith

pub digits_number : (b : List ℕ) → Bytes b → digits (length b) (number b) ≡ b
unfolding digits number
digits_number [] k = refl
digits_number (x ∷ b) k =
    let x-byte : x < 256 = k 0 in
    let low : (x + 256 * number b) % 256 ≡ x = omega arith in
    let high : (x + 256 * number b) / 256 ≡ number b = omega arith in
    rw (low, high, digits_number b (λ i. k (suc i)))

-- ---- entries

pub entries-length : (w n : ℕ) (b : List ℕ) → length (entries w n b) ≡ n
unfolding entries
entries-length w zero b = refl
entries-length w (suc n) b = ap suc (entries-length w n (drop w b))

pub entries_fit : (w n : ℕ) (b : List ℕ) → Bytes b → Fits w (entries w n b)
unfolding entries
entries_fit w zero b k i = some-power w
entries_fit w (suc n) b k zero = number_fits w (take w b) (omega (arith, length-take w b)) (front_bytes w b k)
entries_fit w (suc n) b k (suc i) = entries_fit w n (drop w b) (rest-bytes w b k) i

-- ---- bytes of entries

pub bytes-length : (w : ℕ) (xs : List ℕ) → length (bytes_of w xs) ≡ w * length xs
unfolding bytes_of
bytes-length w [] = sym (mul-zero w)
bytes-length w (x ∷ xs) = length-append (digits w x) (bytes_of w xs) ∙ rw (digits-length w x, bytes-length w xs, mul-suc w (length xs)) (add_comm w (w * length xs))

-- ---- round trips

pub entries-back : (w : ℕ) (xs rest : List ℕ) → Fits w xs → entries w (length xs) (bytes_of w xs ++ rest) ≡ xs
unfolding entries bytes_of
entries-back w [] rest h = refl
entries-back w (x ∷ xs) rest h =
    rw (
      append_assoc (digits w x) (bytes_of w xs) rest,
      take_at (digits w x) (bytes_of w xs ++ rest) w (digits-length w x),
      drop_at (digits w x) (bytes_of w xs ++ rest) w (digits-length w x),
      number_digits w x (h 0),
      entries-back w xs rest (λ i. h (suc i)),
    )

part-fits : (m w l : ℕ) → w + m ≤ l → w ≤ l
part-fits m w l h = omega arith

part-rest : (m w l : ℕ) → w + m ≤ l → m ≤ l - w
part-rest m w l h = omega arith

pub bytes_back : (w n : ℕ) (b : List ℕ) → w * n ≤ length b → Bytes b → bytes_of w (entries w n b) ++ drop (w * n) b ≡ b
unfolding entries bytes_of
bytes_back w zero b h k = rw (mul-zero w)
bytes_back w (suc n) b h k =
    let more : w * suc n ≡ w + w * n = mul-suc w n ∙ add_comm (w * n) w in
    let room : w + w * n ≤ length b = rw more at h in
    let front : length (take w b) ≡ w = length-take-le w b (part-fits (w * n) w (length b) room) in
    let rest : w * n ≤ length (drop w b) = rw (length-drop w b) (part-rest (w * n) w (length b) room) in
    let same : digits w (number (take w b)) ≡ take w b = rw front at (digits_number (take w b) (front_bytes w b k)) in
    rw (
      more,
      same,
      append_assoc (take w b) (bytes_of w (entries w n (drop w b))) (drop (w + w * n) b),
      ← drop-drop (w * n) w b,
      bytes_back w n (drop w b) rest (rest-bytes w b k),
    )
    (take-append-drop w b)

-- ---- over

pub over-length : (front buffer : List ℕ) → length front ≤ length buffer → length (over front buffer) ≡ length buffer
unfolding over
over-length front buffer h = omega (arith, length-append front (drop (length front) buffer), length-drop (length front) buffer)
