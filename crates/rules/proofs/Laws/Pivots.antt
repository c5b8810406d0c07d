-- A record's 32-bit literal against the 16-bit literals of a clause: `literal_in` (dqbf, specs/Literal.antt) is the literal itself where it stands in a kept
-- clause, and stands in none where it is not.
use mathlib.Core.Path.{◌≡◌, refl, sym, ◌∙◌, ap}
use mathlib.Core.Bool.{true, false}
use Prim.Native.Nat.{◌≤◌, ◌<◌}
use native.Mathlib.Decide.{dec_lt}
use native.Mathlib.Omega.{arith}
use borrow.Author.Tests.{le-leb, lt-leb}
use lib.IntN.{ℤ, pos, nat_abs}
use Rattle.dqbf.specs.Limits.{Room, literal_range}
use Rattle.dqbf.specs.Literal.{Clause, ◌∈◌, literal_in, holds}
use Rattle.dqbf.specs.Model.{Model, clauses, used, kind_of}
use Rattle.dqbf.specs.Valid.{Valid}
use Rattle.dqbf.proofs.Laws.Tests.{never}
use Rattle.dqbf.proofs.Laws.Clauses.{holds-in}
use Rattle.dqbf.proofs.Laws.Models.{in_use}

pub literal-in : (z : ℤ) → nat_abs z ≤ literal_range → literal_in z ≡ z
unfolding literal_in
literal-in z h = rw (le-leb (nat_abs z) literal_range h)

literal-out : (z : ℤ) → literal_range < nat_abs z → literal_in z ≡ pos 0
unfolding literal_in
literal-out z h = rw (lt-leb (nat_abs z) literal_range h)

-- it can be negated
pub literal-small : (z : ℤ) → nat_abs (literal_in z) ≤ literal_range
literal-small z = go (dec_lt literal_range (nat_abs z))
  where
    go : Dec (literal_range < nat_abs z) → nat_abs (literal_in z) ≤ literal_range
    go (yes h) = rw (literal-out z h) (omega arith)
    go (no h) = rw (literal-in z (omega arith)) (omega arith)

module _ (room : Room) (m : Model) (v : Valid room m) (few : used m ≤ literal_range) (C : Clause) (there : C ∈ clauses m) where
  -- a literal that a clause holds is in range, and is not 0
  held-range : (z : ℤ) → holds z C ≡ true → nat_abs z ≤ literal_range
  held-range z h = omega (arith, few, in_use m (nat_abs z) ((v.kept C there).over z (holds-in z C h)))

  held-some : holds (pos 0) C ≡ false
  unfolding kind_of
  held-some = never (holds (pos 0) C) (λ h. (v.kept C there).over (pos 0) (holds-in (pos 0) C h) refl)

  pub pivot-holds : (z : ℤ) → holds (literal_in z) C ≡ holds z C
  pivot-holds z = go (dec_lt literal_range (nat_abs z))
    where
      go : Dec (literal_range < nat_abs z) → holds (literal_in z) C ≡ holds z C
      go (yes h) = ap (λ (l : ℤ). holds l C) (literal-out z h) ∙ held-some ∙ sym (never (holds z C) (λ t. let r = held-range z t in omega arith))
      go (no h) = ap (λ (l : ℤ). holds l C) (literal-in z (omega arith))

  pub pivot-is : (z : ℤ) → holds (literal_in z) C ≡ true → literal_in z ≡ z
  pivot-is z h = literal-in z (held-range z (sym (pivot-holds z) ∙ h))
