-- THE CLASHING VARIABLE (document 02, Note 4: "the lowest variable that the resolvent holds in both signs").
--     InBothSigns, LowestInBothSigns      a clause holds a variable in both signs; and no lower one
--     ClashLowest                         `lowest_clash` (specs/Literal.antt) is that variable, 0 exactly if there is none
--     Clash, Named                        what 23, and what any refusal of a step with these bytes names
--     ClashingVariable                    23 comes of a resolution only and names that variable of its resolvent; no other refusal has a value
--     RunNamed                            a run passes on the refusal of the step that stops it
use Rattle.std.specs.Prelude.{◌≡◌, ◌⊎◌, ◌≢◌, true, false, List, [], ℕ, suc, ◌≤◌, ℤ, pos, neg_ℤ}
use Rattle.std.proofs.Math.Option.{some}
use Rattle.dqbf.specs.Limits.{Room}
use Rattle.dqbf.specs.Refusal.{Refusal, refusal, naming}
use Rattle.dqbf.specs.Literal.{Clause, ◌∈◌, clashes, lowest_clash}
use Rattle.dqbf.specs.Model.{Model, used}
use Rattle.dqbf.specs.Valid.{InOrder, Valid}
use Rattle.dqbf.specs.Record.{resolution, record_of, record_at}
use Rattle.dqbf.specs.Rules.{clause_at, resolvent}
use Rattle.dqbf.specs.Run.{refuses, examine_bytes, bad, run}

-- the variable x, which is not 0, and its negation
pub record InBothSigns (C : Clause) (x : ℕ) : Type 0 where
  pub some : x ≢ 0
  pub positive : pos x ∈ C
  pub negative : neg_ℤ (pos x) ∈ C

pub record LowestInBothSigns (C : Clause) (x : ℕ) : Type 0 where
  pub held : InBothSigns C x
  pub lowest : (y : ℕ) → InBothSigns C y → x ≤ y

-- of a clause in order: the test of 23 applies exactly if some variable is held in both signs, and then the lowest is named
abbrev pub ClashLowest : Type 0
ClashLowest =
    (C : Clause) → InOrder C
    → (clashes C ≡ true → LowestInBothSigns C (lowest_clash C)) × (clashes C ≡ false → (lowest_clash C ≡ 0) × ((x : ℕ) → InBothSigns C x → ⊥))

-- the bytes say a resolution, and its resolvent holds the variable that is named, which is in use, in both signs, and no lower one
pub record Clash (m : Model) (bytes : List ℕ) (r : Refusal) : Type 0 where
  pub first : ℕ
  pub second : ℕ
  pub pivot : ℤ
  pub variable : ℕ
  pub resolves : record_of bytes ≡ some (resolution first second pivot)
  pub names : r ≡ naming 23 variable
  pub lowest : LowestInBothSigns (resolvent (clause_at m first) (clause_at m second) pivot) variable
  pub in_use : variable ≤ used m

pub record Named (m : Model) (bytes : List ℕ) (r : Refusal) : Type 0 where
  pub clashing : r.number ≡ 23 → Clash m bytes r
  pub others : r.number ≢ 23 → r.values ≡ []

abbrev pub ClashingVariable : Type 0
ClashingVariable = (room : Room) (m : Model) → Valid room m → (bytes : List ℕ) (r : Refusal) → examine_bytes room m bytes ≡ refuses r → Named m bytes r

-- 11 for the whole list (step 0); or at step k + 1 what its record names on the model that the run leaves, which is valid
abbrev pub RunNamed : Type 0
RunNamed =
    (room : Room) (m : Model) → Valid room m → (records : List ℕ) (s : ℕ) (r : Refusal) → (run room m records).verdict ≡ bad s r
    → let left = (run room m records).model in
    ((s ≡ 0) × (r ≡ refusal 11)) ⊎ ((k : ℕ) × (s ≡ suc k) × Valid room left × Named left (record_at records k) r)
