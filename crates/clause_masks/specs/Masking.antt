-- What a clause asks of families at a setting (document 02, Note 8): a bit of `ones` in the family's number or one of `zeros` not in it, or nothing.
--     is_negated, signed     the sign of a literal; a value, or the opposite for a negated variable
--     masks_met              whether a family meets the masks
--     Asks, MasksOf         masks of one literal more; masks of a clause
--     Declared, Over, OverAll     a literal, a clause and clauses over declared variables
use Rattle.std.specs.Prelude.{◌≡◌, ◌≢◌, Bool, true, false, cond, not, ◌||◌, Option, Some, None, List, ℕ, ◌≤◌, ◌<◌, ℤ, pos, negsuc, nat_abs, length}
use Rattle.dqbf.specs.Literal.{Clause, ◌∈◌}
use Rattle.dqbf.specs.Set.{Set}
use Rattle.dqbf.specs.Model.{Model, kind_of}
use Rattle.deciding.specs.Deciding.{clause_at}
use Rattle.family_bits.specs.Left.{met}
use Rattle.clause_masks.specs.declared.Masks.{Masks}
pub use Rattle.clause_masks.specs.Small.{SmallBits}

unfoldable pub is_negated : ℤ → Bool
is_negated (pos n) = false
is_negated (negsuc n) = true

unfoldable pub signed : (negated value : Bool) → Bool
signed negated v = cond negated (not v) v

-- no masks: nothing is asked
unfoldable pub masks_met : Option Masks → ℕ → Bool
masks_met None f = true
masks_met (Some r) f = met r.ones r.zeros f

-- met too where the literal's test passes
pub record Asks (r before : Option Masks) (P : ℕ → Bool) : Type 0 where
  pub same : (f : ℕ) → masks_met r f ≡ (P f || masks_met before f)

pub record MasksOf (m : Model) (w : Set) (C : Clause) (r : Option Masks) : Type 0 where
  pub same : (f : ℕ) → clause_at m f w C ≡ masks_met r f

abbrev pub Declared : Model → ℤ → Type 0
Declared m l = (0 < nat_abs l) × (nat_abs l ≤ length m.kinds) × (kind_of m (nat_abs l) ≢ 0)

abbrev pub Over : Model → Clause → Type 0
Over m C = (l : ℤ) → l ∈ C → Declared m l

abbrev pub OverAll : Model → List Clause → Type 0
OverAll m Cs = (C : Clause) → C ∈ Cs → Over m C
