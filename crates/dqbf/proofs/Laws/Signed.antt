-- Signed numbers of 16 bits, as the machine holds them.
-- A signed value is a ℤ; one that is read, passed or stored appears as `to_z w (of_z w z)`, and is z where z fits. `omega` does not read ℤ.
use mathlib.Core.Path.{◌≡◌, ap}
use Prim.Native.Nat.{◌<◌, ◌≤◌, ◌^◌}
use native.Mathlib.Omega.{arith}
use lib.IntN.{ℤ, pos, negsuc, nat_abs}
use lib.Signed.{mag}
use mir.Syntax.{w16}
use mir.Val.{SFits, to_z, of_z}
use mir.Facts.{to_z-of_z}

-- ---- the range test before a 32-bit number is narrowed

pub range-fits : (z : ℤ) → nat_abs z ≤ 32767 → SFits w16 z
range-fits (pos n) h = record { sfits = omega arith }
range-fits (negsuc n) h = record { sfits = omega arith }

-- ---- an entry of 16 bits that is read or stored is itself

pub kept16 : {z : ℤ} → mag z < 2 ^ 15 → to_z w16 (of_z w16 z) ≡ z
kept16 h = to_z-of_z {w = w16} (record { sfits = h })

pub var-kept : (z : ℤ) → mag z < 2 ^ 15 → nat_abs (to_z w16 (of_z w16 z)) ≡ nat_abs z
var-kept z h = ap nat_abs (kept16 {z = z} h)
