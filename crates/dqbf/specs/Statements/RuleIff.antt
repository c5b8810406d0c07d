-- DEMAND 2, its second half: a record is accepted exactly if the published rule (002, section 4; specs/Published.antt) permits it within the limits, and
-- what is added is exactly that rule's.
use Rattle.std.specs.Prelude.{◌≡◌, ◌↔◌, false, List, [], ◌∷◌, ℕ, ℤ}
use Rattle.dqbf.specs.Limits.{Room, tables}
use Rattle.dqbf.specs.Refusal.{refusal}
use Rattle.dqbf.specs.Formula.{Formula}
use Rattle.dqbf.specs.Reading.{load, accepted}
use Rattle.dqbf.specs.Model.{Model, model_of}
use Rattle.dqbf.specs.Valid.{Valid}
use Rattle.dqbf.specs.Record.{Record, resolution}
use Rattle.dqbf.specs.Rules.{Addition, unknown, ResolutionTest, resolution_order}
use Rattle.dqbf.specs.Published.{Permits, Fits}
use Rattle.dqbf.specs.Run.{accepts, refuses, examine, Call, next_by}

-- on valid models, which are what well-formed tables hold
abbrev pub RuleIff : Type 0
RuleIff = (room : Room) (m : Model) → Valid room m → (r : Record) (a : Addition) → (examine room m r ≡ accepts a) ↔ (Permits m r a × Fits room m a)

-- the model that a list of calls comes to
unfoldable pub reached_by : List ResolutionTest → Room → Model → List Call → Model
reached_by order room m [] = m
reached_by order room m (c ∷ cs) = reached_by order room (next_by order room m c) cs

abbrev pub reached : Room → Model → List Call → Model
reached = reached_by resolution_order

-- so after any calls from an accepted load
abbrev pub AcceptedExactly : Type 0
AcceptedExactly =
    (text : List ℕ) (φ : Formula) → load text ≡ accepted φ → (calls : List Call) (r : Record) (a : Addition)
    → (examine tables (reached tables (model_of φ) calls) r ≡ accepts a) ↔ (Permits (reached tables (model_of φ) calls) r a × Fits tables (reached tables (model_of φ) calls) a)

-- a clause resolved with itself gives 22, whatever the pivot
abbrev pub WithItself : Type 0
WithItself = (room : Room) (m : Model) → Valid room m → (c : ℕ) (p : ℤ) → unknown m c ≡ false → examine room m (resolution c c p) ≡ refuses (refusal 22)
