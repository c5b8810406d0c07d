-- THE RULE OF `e` LINES COMPARED WITH THE ONE THAT STOOD BEFORE (document 02, Note 3): "some steps that gave 27 or 29 are accepted, and the accepted
-- beginning of every list run from its load stays accepted and adds the same clauses".
--
-- Both rules are instances of one parameter (`model_by`, specs/Model.antt). The claims hold for every accepted text, every list of records and every room;
-- they are about one list, from its load up to its first refusal: where a step is accepted only now, the clauses behind it get other numbers.
use Rattle.std.specs.Prelude.{◌≡◌, ◌⊎◌, ◌≢◌, Bool, true, ◌&&◌, List, [], ◌∷◌, ◌++◌, ℕ, ◌≤◌, pos, negsuc, length}
use Rattle.dqbf.specs.Limits.{Room, tables, records_limit}
use Rattle.dqbf.specs.Bytes.{bytes}
use Rattle.dqbf.specs.Refusal.{Refusal, refusal}
use Rattle.dqbf.specs.Literal.{Clause, ◌∈◌}
use Rattle.dqbf.specs.Set.{Set}
use Rattle.dqbf.specs.Formula.{Declaration, on_a, on_e, on_d, Formula, universals_of, universals, ERule, existential, var_by, var}
use Rattle.dqbf.specs.Text.{is_empty}
use Rattle.dqbf.specs.Reading.{load, accepted}
use Rattle.dqbf.specs.Model.{Model, model_by, model_of}
use Rattle.dqbf.specs.Record.{stretches}
use Rattle.dqbf.specs.Rules.{Addition, add}
use Rattle.dqbf.specs.Run.{Examined, accepts, refuses, examine_bytes, Ran, bad, run}
use Rattle.dqbf.specs.Cases.{hex}

-- the rule that document 01 had before it was mended: every universal of the file
unfoldable pub every_universal : ERule
every_universal earlier all = all

-- ---- what a variable is

-- Every variable is what it was, or was an existential with every universal of the file and has some of these now.
abbrev pub SetsShrink : Type 0
SetsShrink =
    (φ : Formula) (x : ℕ)
    → (var φ x ≡ var_by every_universal φ x)
    ⊎ ((S : List ℕ) × (var_by every_universal φ x ≡ existential (universals φ)) × (var φ x ≡ existential S) × ((u : ℕ) → u ∈ S → u ∈ universals φ))

-- no `a` line stands behind an `e` line
unfoldable pub universals_first : List Declaration → Bool
universals_first [] = true
universals_first (on_a x ∷ ds) = universals_first ds
universals_first (on_e x ∷ ds) = is_empty (universals_of ds) && universals_first ds
universals_first (on_d x S ∷ ds) = universals_first ds

-- Such a formula is what it was.
abbrev pub SameElsewhere : Type 0
SameElsewhere = (φ : Formula) → universals_first φ.prefix ≡ true → (x : ℕ) → var φ x ≡ var_by every_universal φ x

-- ---- the accepted beginning of a list of records

unfoldable pub onward : Examined → (Addition → List Addition) → List Addition
onward (accepts a) rest = a ∷ rest a
onward (refuses x) rest = []

-- what the records before the first refused one add, one after the other
unfoldable pub beginning : Room → Model → List (List ℕ) → List Addition
beginning room m [] = []
beginning room m (bs ∷ rest) = onward (examine_bytes room m bs) (λ a. beginning room (add m a) rest)

unfoldable pub add_all : Model → List Addition → Model
add_all m [] = m
add_all m (a ∷ rest) = add_all (add m a) rest

-- This beginning is what a run accepts, from any model.
abbrev pub BeginningRuns : Type 0
BeginningRuns =
    (room : Room) (m : Model) (records : List ℕ) → length records ≤ records_limit
    → (run room m records).model ≡ add_all m (beginning room m (stretches (length records) records))

-- The beginning accepted from the old model is accepted from the new one, and each of its steps adds the same clauses and fork sets.
abbrev pub BeginningStays : Type 0
BeginningStays =
    (room : Room) (text : List ℕ) (φ : Formula) → load text ≡ accepted φ → (records : List (List ℕ))
    → (more : List Addition) × (beginning room (model_of φ) records ≡ beginning room (model_by every_universal φ) records ++ more)

-- ---- the same of a run

-- the refusals that the new rule may lift
abbrev pub Lifted : Refusal → Type 0
Lifted x = (x ≡ refusal 27) ⊎ (x ≡ refusal 29)

pub record Stays (old new : Ran) : Type 0 where
  -- the old run's derived clauses and fork sets are a beginning of the new run's
  pub clauses : (Cs : List Clause) × (new.model.derived ≡ old.model.derived ++ Cs)
  pub forks : (ss : List Set) × (new.model.forks ≡ old.model.forks ++ ss)
  -- every verdict other than `bad` with 27 or 29 stays, and then nothing is added
  pub verdict :
      ((n : ℕ) (x : Refusal) → Lifted x → old.verdict ≢ bad n x)
      → (new.verdict ≡ old.verdict) × (new.model.derived ≡ old.model.derived) × (new.model.forks ≡ old.model.forks)
  -- a refused step is never an earlier one
  pub no-earlier : (n k : ℕ) (x y : Refusal) → old.verdict ≡ bad n x → new.verdict ≡ bad k y → n ≤ k
  -- where the same step is refused, the number is the same or 25, which is tested behind 27 and 29
  pub same_step : (n : ℕ) (x y : Refusal) → old.verdict ≡ bad n x → new.verdict ≡ bad n y → (y ≡ x) ⊎ (y ≡ refusal 25)

abbrev pub RunStays : Type 0
RunStays =
    (room : Room) (text : List ℕ) (φ : Formula) → load text ≡ accepted φ → (records : List ℕ)
    → Stays (run room (model_by every_universal φ) records) (run room (model_of φ) records)

-- ---- the rule by computation: `e 2 0`, `a 1 0`, `e 3 0`, `a 4 0`

unfoldable pub alternating : Formula
alternating = record { bound = 4; prefix = on_e 2 ∷ on_a 1 ∷ on_e 3 ∷ on_a 4 ∷ []; clauses = [] }

pub record EachLine : Type 0 where
  pub text : load (bytes "p cnf 4 0\ne 2 0\na 1 0\ne 3 0\na 4 0\n") ≡ accepted alternating
  -- 2 sees nothing, 3 sees 1
  pub sets : (var alternating 2 ≡ existential []) × (var alternating 3 ≡ existential (1 ∷ []))
  -- under the old rule both saw 1 and 4
  pub before : (var_by every_universal alternating 2 ≡ existential (1 ∷ 4 ∷ [])) × (var_by every_universal alternating 3 ≡ existential (1 ∷ 4 ∷ []))

-- ---- steps that gave 27 and 29 and are accepted

-- `a 1 0`, `e 2 0`, `a 3 0` with the clause {2, 3}
unfoldable pub between : Formula
between = record { bound = 3; prefix = on_a 1 ∷ on_e 2 ∷ on_a 3 ∷ []; clauses = (pos 2 ∷ pos 3 ∷ []) ∷ [] }

-- a step of a formula: refused under the old rule, and what it adds now
pub record Gained (φ : Formula) (record' : List ℕ) (number : ℕ) (a : Addition) : Type 0 where
  pub before : examine_bytes tables (model_by every_universal φ) record' ≡ refuses (refusal number)
  pub now : examine_bytes tables (model_of φ) record' ≡ accepts a

pub record SomeGained : Type 0 where
  pub text : load (bytes "p cnf 3 1\na 1 0\ne 2 0\na 3 0\n2 3 0\n") ≡ accepted between
  -- 3 reduced: the set of 2 had it
  pub reduction : Gained between (hex "02000000 01000000 00000000 03000000") 27 (record { clauses = (pos 2 ∷ []) ∷ []; forks = [] })
  -- 2 and 3 parted: the set of 2 had that of 3
  pub fork : Gained between (hex "03000000 01000000 01000000 02000000") 29
      (record { clauses = (pos 2 ∷ pos 4 ∷ []) ∷ (pos 3 ∷ negsuc 3 ∷ []) ∷ []; forks = 0 ∷ [] })
