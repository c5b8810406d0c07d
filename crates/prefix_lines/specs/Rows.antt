-- Rows of the tables, as the loops walk them: the kinds and the sets of the variables 1 to V.
--     declarable, unless_12, Declared     one variable declared
--     is_universal, is_declared        the kind of a variable, or of the variable of a rank
--     union_of, members_told            the union of the sets of variables, which are all universals
-- proofs/Laws/Declaring.antt has what they are in the calculus.
use Rattle.std.specs.Prelude.{◌≡◌, Bool, true, false, cond, not, ◌&&◌, List, [], ◌∷◌, ℕ, ◌-◌, ◌/◌, leb, eqb, get_or, set}
use Rattle.std.specs.Prelude as Answer
use Rattle.std.proofs.Math.Option.{Option, none, some}
use Rattle.dqbf.specs.Refusal.{Refusal, refusal}
use Rattle.dqbf.specs.Set.{Set, empty_set, union}
use Rattle.sets.specs.Words.{as_set}
use Rattle.tables.specs.Tables.{entry}
use Rattle.tables.specs.WellFormed.{all_of}

-- a variable from 1 to V that has no kind yet
unfoldable pub declarable : ℕ → List ℕ → ℕ → Bool
declarable bound kinds x = leb x bound && eqb (get_or kinds (x - 1) 0) 0

-- none if a test passes, else 12
abbrev pub unless_12 : Bool → Option Refusal
unless_12 true = none
unless_12 false = some (refusal 12)

-- a variable is given its kind and its set, if it is declarable
pub record Declared (bound x kind : ℕ) (s : Set) (sets kinds : List ℕ) (a : Option Refusal) (sets' kinds' : List ℕ) : Type 0 where
  pub told : a ≡ unless_12 (declarable bound kinds x)
  pub sets-are : sets' ≡ cond (declarable bound kinds x) (set sets (x - 1) s) sets
  pub kinds-are : kinds' ≡ cond (declarable bound kinds x) (set kinds (x - 1) kind) kinds

unfoldable pub is_universal : List ℕ → ℕ → Bool
is_universal kinds x = eqb (entry kinds x) 1

unfoldable pub is_declared : List ℕ → ℕ → Bool
is_declared kinds rank = not (eqb (entry kinds (rank / 2)) 0)

unfoldable pub union_of : List Set → List ℕ → Set
union_of sets [] = empty_set
union_of sets (x ∷ xs) = union (entry sets x) (union_of sets xs)

-- the union of the members' sets in words, or none if one of them is no universal
abbrev pub members_told : List Set → List ℕ → List ℕ → Answer.Option (List ℕ) → Type 0
members_told sets kinds xs Answer.None = all_of (is_universal kinds) xs ≡ false
members_told sets kinds xs (Answer.Some u) = (all_of (is_universal kinds) xs ≡ true) × (as_set u ≡ union_of sets xs)
