-- What is claimed of deciding small formulas (document 02, Note 8), and proved in proofs/.
--     NumbersAreFamilies, FamiliesAreNumbers    a number's functions are a family, and every family answers as a number's functions
--     RowsAscend, RowsFill                      the order of the settings of a set
--     DecidesByMeaning                          the answer means what it says
--     NumberSmall, RefusedOnly                  a family's number has at most 16 bits; 31 is the one refusal, above the limits
--     LoadExact, DecidesHeld                    of formulas of accepted texts, and of the formula that any valid model holds
--     behind                                    what is left behind calls
--     NeverTrue                                 no formula which a run calls refuted is called true
--     HeldDecides, HeldNeverTrue                the same for anything that holds a model: tables with their state, the driver's buffers
use Rattle.std.specs.Prelude.{◌≡◌, true, List, [], ◌∷◌, ℕ, ◌^◌, ◌<◌}
use Rattle.dqbf.specs.Limits.{Room, tables, small_bits}
use Rattle.dqbf.specs.Refusal.{Refusal, refusal}
use Rattle.dqbf.specs.Literal.{◌∈◌}
use Rattle.dqbf.specs.Set.{Set, common, size}
use Rattle.dqbf.specs.Formula.{Formula, universals, existential, var}
use Rattle.dqbf.specs.Meaning.{Setting, Functions, Family}
use Rattle.dqbf.specs.Reading.{load, accepted}
use Rattle.dqbf.specs.Model.{Model, model_of}
use Rattle.dqbf.specs.Spelled.{formula_part, formula_of}
use Rattle.dqbf.specs.Valid.{Valid}
use Rattle.dqbf.specs.Run.{refuted, Call, Answer, ran, next, answers}
use Rattle.dqbf.specs.Statements.Refutation.{Follows, all_said}
use Rattle.deciding.specs.Deciding.{total_bits, row, above, Decision, decide, true_by, undecided}
use Rattle.deciding.specs.Families.{functions_of, Exact, Meant}

-- ---- families and numbers

-- Every number's functions are a family.
abbrev pub NumbersAreFamilies : Type 0
NumbersAreFamilies = (φ : Formula) (f : ℕ) → Family φ (functions_of φ f)

-- Every family answers, for the existentials, as the functions of a number of so many bits.
abbrev pub FamiliesAreNumbers : Type 0
FamiliesAreNumbers = (φ : Formula) → Exact φ → (g : Functions φ) → Family φ g
    → (f : ℕ) × (f < 2 ^ total_bits (model_of φ)) × ((x : ℕ) (S : List ℕ) → var φ x ≡ existential S → (σ : Setting (universals φ)) → g x σ ≡ functions_of φ f x σ)

-- "settings of each set ascending as set words": of two settings the one that is less on the set has the lower place,
abbrev pub RowsAscend : Type 0
RowsAscend = (n : ℕ) (s v w : Set) → s < 2 ^ n → common v s < common w s → row n s v < row n s w

-- and there are no more places than settings of the set.
abbrev pub RowsFill : Type 0
RowsFill = (n : ℕ) (s w : Set) → row n s w < 2 ^ size s

-- ---- the answer

-- The answer means what it says, for every formula with this formula part as its model:
abbrev pub DecidesByMeaning : Type 0
DecidesByMeaning = (m : Model) (φ : Formula) → model_of φ ≡ formula_part m → Exact φ → Meant φ (decide m)

-- for those of accepted texts,
abbrev pub LoadExact : Type 0
LoadExact = (text : List ℕ) (φ : Formula) → load text ≡ accepted φ → Exact φ

-- and for the one that a valid model holds, also one that no load made: the formula that its tidy text (Note 1) says.
abbrev pub DecidesHeld : Type 0
DecidesHeld = (m : Model) → Valid tables m → let φ = formula_of (formula_part m) in (model_of φ ≡ formula_part m) × Exact φ × Meant φ (decide m)

-- a family's number has no more bits than the limit allows
abbrev pub NumberSmall : Type 0
NumberSmall = (m : Model) (f : ℕ) → decide m ≡ true_by f → f < 2 ^ small_bits

-- no other refusal, and none within the limits
abbrev pub RefusedOnly : Type 0
RefusedOnly = (m : Model) (r : Refusal) → decide m ≡ undecided r → (r ≡ refusal 31) × (above (formula_part m) ≡ true)

-- ---- behind calls

-- what calls leave, each acting on what the call before left
unfoldable pub behind : {T C : Type 0} → (T → C → T) → T → List C → T
behind go t [] = t
behind go t (c ∷ cs) = behind go (go t c) cs

-- "no formula which the run calls refuted is called true, on the refutation statement's premises": a run among calls behind an accepted load answered refuted;
-- the question stands behind any calls from the same load.
abbrev pub NeverTrue : Type 0
NeverTrue = (room : Room) (text : List ℕ) (φ : Formula) → load text ≡ accepted φ
    → (calls : List Call) (steps clause : ℕ) → ran (refuted steps clause) ∈ answers room (model_of φ) calls
    → (before : List Call) (f : ℕ) → decide (behind (next room) (model_of φ) before) ≡ true_by f → ⊥

-- For anything that holds a model and is asked what its model decides: behind any calls the answer means what it says of the text's formula,
abbrev pub HeldDecides : Type 1
HeldDecides =
    (T C : Type 0) (room : Room) (Holds : T → Model → Type 0) (call : C → Call) (go : T → C → T) (says : T → C → Answer) → Follows room Holds call go says
    → (asks : T → Decision) → ((t : T) (m : Model) → Holds t m → asks t ≡ decide m)
    → (text : List ℕ) (φ : Formula) → load text ≡ accepted φ → (t : T) → Holds t (model_of φ) → (before : List C) → Meant φ (asks (behind go t before))

-- and it is never true where a run answered refuted.
abbrev pub HeldNeverTrue : Type 1
HeldNeverTrue =
    (T C : Type 0) (room : Room) (Holds : T → Model → Type 0) (call : C → Call) (go : T → C → T) (says : T → C → Answer) → Follows room Holds call go says
    → (asks : T → Decision) → ((t : T) (m : Model) → Holds t m → asks t ≡ decide m)
    → (text : List ℕ) (φ : Formula) → load text ≡ accepted φ → (t : T) → Holds t (model_of φ)
    → (calls : List C) (steps clause : ℕ) → ran (refuted steps clause) ∈ all_said go says t calls
    → (before : List C) (f : ℕ) → asks (behind go t before) ≡ true_by f → ⊥
