-- Literals as the code writes them: a minus if the number is negative, and the digits of the variable.
use mathlib.Core.Path.{◌≡◌, refl, sym, ◌∙◌, ap}
use mathlib.Core.Bool.{true, false}
use mathlib.Core.List.{List, [], ◌∷◌, ◌++◌}
use Prim.Native.Nat.{ℕ}
use native.Mathlib.Omega.{arith}
use borrow.Author.Tests.{ltb-true}
use lib.IntN.{ℤ, pos, negsuc, nat_abs}
use lib.Signed.{lt_z}
use mir.Syntax.{w16}
use mir.Val.{SFits, to_z, of_z}
use mir.Facts.{to_z-of_z}
use Rattle.dqbf.specs.Text.{space, minus}
use Rattle.dqbf.specs.Line.{digits_of}
use Rattle.dqbf.specs.Spelling.{literal_word}

pub literal-negative : (l : ℤ) → lt_z l (pos 0) ≡ true → literal_word l ≡ minus ∷ digits_of (nat_abs l)
unfolding literal_word
literal-negative (pos n) h = absurd (let t = ltb-true n 0 h in omega arith)
literal-negative (negsuc k) h = refl

pub literal-positive : (l : ℤ) → lt_z l (pos 0) ≡ false → literal_word l ≡ digits_of (nat_abs l)
unfolding literal_word
literal-positive (pos n) h = refl
literal-positive (negsuc k) h = absurd (let z : ◌≡◌ {A = ℕ} 0 1 = cc in omega arith)

-- ---- the parts of a literal and the space behind it

abbrev pub with_space : List ℕ → List ℕ
with_space w = w ++ (space ∷ [])

-- what is read and tested is the literal as the machine holds it
module _ (l : ℤ) (held : SFits w16 l) {x : ℕ} (variable : x ≡ nat_abs (to_z w16 (of_z w16 l))) where
  same : to_z w16 (of_z w16 l) ≡ l
  same = to_z-of_z held

  pub negative-text : lt_z (to_z w16 (of_z w16 l)) (pos 0) ≡ true → with_space (literal_word l) ≡ (minus ∷ []) ++ with_space (digits_of x)
  negative-text h = ap with_space (literal-negative l (rw same at h)) ∙ ap (λ (y : ℕ). minus ∷ with_space (digits_of y)) (sym (ap nat_abs same) ∙ sym variable)

  pub positive-text : lt_z (to_z w16 (of_z w16 l)) (pos 0) ≡ false → with_space (literal_word l) ≡ with_space (digits_of x)
  positive-text h = ap with_space (literal-positive l (rw same at h)) ∙ ap (λ (y : ℕ). with_space (digits_of y)) (sym (ap nat_abs same) ∙ sym variable)
