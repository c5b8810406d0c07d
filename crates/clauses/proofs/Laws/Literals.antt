-- Literals as the machine compares them: by their 16 bits.
-- An entry that was read is e, with its range.
use mathlib.Core.Path.{◌≡◌, ap, sym, ◌∙◌}
use mathlib.Core.Logic.{◌≢◌}
use Prim.Native.Nat.{ℕ, ◌<◌, ◌^◌}
use lib.IntN.{ℤ}
use lib.Signed.{mag}
use mir.Syntax.{w16}
use mir.Val.{to_z, of_z}
use Rattle.dqbf.proofs.Laws.Signed.{kept16}

-- ---- bits

pub bits-same : {e : ℤ} {b : ℕ} → mag e < 2 ^ 15 → of_z w16 e ≡ b → e ≡ to_z w16 b
bits-same f q = sym (kept16 f) ∙ ap (to_z w16) q

-- ---- two entries that were read

module _ {l k : ℤ} where
  pub read_same : mag l < 2 ^ 15 → mag k < 2 ^ 15 → of_z w16 l ≡ of_z w16 k → l ≡ k
  read_same f g q = bits-same f q ∙ kept16 g

  pub read-differ : (of_z w16 l ≡ of_z w16 k → ⊥) → l ≢ k
  read-differ n q = n (ap (of_z w16) q)
