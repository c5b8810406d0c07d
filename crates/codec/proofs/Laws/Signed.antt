-- Signed numbers of 16 bits (specs/Bytes.antt), as the machine computes them.
use mathlib.Core.Path.{◌≡◌, refl, ap}
use mathlib.Core.Bool.{cond}
use Prim.Native.Nat.{ℕ, zero, suc, ◌-◌, ◌<◌, ◌≤◌, ◌^◌}
use native.Mathlib.Nat.{zero-add}
use native.Mathlib.Decide.{dec_lt}
use native.Mathlib.Omega.{arith}
use borrow.Author.Tests.{lt-ltb, le-ltb}
use lib.Dec.{ltb}
use lib.IntN.{ℤ, pos, negsuc, ◌-ℤ◌}
use lib.Signed.{mag}
use mir.Syntax.{w16}
use mir.Val.{to_z, of_z, SFits}
use mir.Facts.{to_z-of_z, to_z_pos}
use Rattle.codec.specs.Bytes.{signed, bits}

-- ---- there and back

pub signed-bits : (z : ℤ) → mag z < 2 ^ 15 → signed (bits z) ≡ z
unfolding signed bits
signed-bits (pos n) h = rw (lt-ltb n 32768 h)
signed-bits (negsuc n) h =
    let g : 32768 ≤ 65535 - n = omega arith in
    let e : 65535 - (65535 - n) ≡ n = omega arith in
    rw (le-ltb (65535 - n) 32768 g, e)

pub bits_fit : (z : ℤ) → mag z < 2 ^ 15 → bits z < 256 ^ 2
unfolding bits
bits_fit (pos n) h = omega arith
bits_fit (negsuc n) h = omega arith

pub bits-signed : (n : ℕ) → n < 256 ^ 2 → bits (signed n) ≡ n
unfolding signed bits
bits-signed n h = go (dec_lt n 32768)
  where
    go : Dec (n < 32768) → bits (cond (ltb n 32768) (pos n) (negsuc (65535 - n))) ≡ n
    go (yes k) = rw (lt-ltb n 32768 k)
    go (no k) = let g : 32768 ≤ n = omega arith in let e : 65535 - (65535 - n) ≡ n = omega arith in rw (le-ltb n 32768 g) e

-- ---- `signed_of`

-- -1 - m
minus-one-less : (m : ℕ) → negsuc 0 -ℤ pos m ≡ negsuc m
minus-one-less zero = refl
minus-one-less (suc m) = rw (zero-add m)

pub low_half : (n : ℕ) → n < 32768 → to_z w16 n ≡ signed n
unfolding signed
low_half n h = rw (lt-ltb n 32768 h)

pub high_fits : (m : ℕ) → m < 32768 → SFits w16 (negsuc 0 -ℤ to_z w16 m)
high_fits m h = rw (to_z_pos w16 h, minus-one-less m) (record { sfits = h })

pub high_half : (n : ℕ) → 32768 ≤ n → n < 2 ^ 16 → to_z w16 (of_z w16 (negsuc 0 -ℤ to_z w16 (65535 - n))) ≡ signed n
unfolding signed
high_half n h k =
    let m : 65535 - n < 32768 = omega arith in
    rw (to_z-of_z (high_fits (65535 - n) m), to_z_pos w16 m, minus-one-less (65535 - n), le-ltb n 32768 h)

-- ---- the machine's casts between i16 and u16

pub cast-signed : (n : ℕ) → to_z w16 n ≡ signed n
unfolding signed
cast-signed n =
    let e : 2 ^ 16 - suc n ≡ 65535 - n = omega arith in
    ap (λ k. cond (ltb n 32768) (pos n) (negsuc k)) e

pub cast-unsigned : (z : ℤ) → SFits w16 z → of_z w16 z ≡ bits z
unfolding bits
cast-unsigned (pos n) f = refl
cast-unsigned (negsuc n) f = let e : 2 ^ 16 - suc n ≡ 65535 - n = omega arith in e
