-- The steps counted are those accepted, and the clause named is the lowest empty one (demand 2; document 01, "The line printed").
use Rattle.std.specs.Prelude.{◌≡◌, ◌⊎◌, ◌≢◌, List, [], ℕ, suc, ◌+◌, ◌≤◌, ◌<◌, length, get_or}
use Rattle.dqbf.specs.Limits.{Room, records_limit}
use Rattle.dqbf.specs.Refusal.{Refusal}
use Rattle.dqbf.specs.Model.{Model, clauses, steps, lowest_empty}
use Rattle.dqbf.specs.Valid.{Valid}
use Rattle.dqbf.specs.Record.{stretches}
use Rattle.dqbf.specs.Run.{Verdict, bad, verdict_of, run}

-- A run over k records from m to m' that is not stopped has counted every record, and its verdict is that of m'; a stopped one has counted those before
-- the step that it names. (A list over the limit is `bad 0 11`, and nothing is examined.)
abbrev pub Counted : Model → ℕ → Model → Verdict → Type 0
Counted m k m' w =
    ((w ≡ verdict_of m') × (steps m' ≡ steps m + k)) ⊎ ((i : ℕ) × (x : Refusal) × (i < k) × (w ≡ bad (suc i) x) × (steps m' ≡ steps m + i))

abbrev pub RunCount : Type 0
RunCount =
    (room : Room) (m : Model) → Valid room m → (bs : List ℕ) → length bs ≤ records_limit
    → Counted m (length (stretches (length bs) bs)) (run room m bs).model (run room m bs).verdict

-- none is empty and the number is 0; or clause j + 1 is empty, none before it is, and j + 1 is the number
abbrev pub Lowest : Model → ℕ → Type 0
Lowest m n =
    ((n ≡ 0) × ((i : ℕ) → i < length (clauses m) → get_or (clauses m) i [] ≢ []))
    ⊎ ((j : ℕ) × (n ≡ suc j) × (j < length (clauses m)) × (get_or (clauses m) j [] ≡ []) × ((i : ℕ) → i < j → get_or (clauses m) i [] ≢ []))

abbrev pub LowestEmpty : Type 0
LowestEmpty = (m : Model) → Lowest m (lowest_empty m)
