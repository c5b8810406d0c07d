-- Any list of loads, steps, runs and calls that write neither tables nor state over the same tables, which may hold anything at first (document 01, "another load starts another
-- list"). A run's answer is about the text of the last load before it. If that load accepted and the run answers refuted, the text says a formula that no
-- family makes true.
use Rattle.std.specs.Prelude.{◌≡◌, List, [], ◌∷◌, ℕ}
use Rattle.std.proofs.Math.Option.{Option, none, some}
use Rattle.dqbf.specs.Literal.{◌∈◌}
use Rattle.dqbf.specs.Formula.{Formula}
use Rattle.dqbf.specs.Meaning.{Refuted}
use Rattle.dqbf.specs.Reading.{load, accepted}
use Rattle.dqbf.specs.Run.{refuted, Call, Answer, ran}
use Rattle.dqdimacs.specs.Loading.{LoadAnswer, load_of}
use Rattle.steps.specs.Statements.Refutation.{Lent, next, answer}
use Rattle.calls.specs.Statements.Refutation.{loaded}

-- a load with any bytes; a step, a run, or a call that writes neither tables nor state
pub data AnyCall : Type 0 where
  load_call : List ℕ → AnyCall
  later_call : Call → AnyCall

-- tables with their state, and the text of the last load, if it was accepted
pub record Standing : Type 0 where
  pub lent : Lent
  pub text : Option (List ℕ)

unfoldable pub text_if : LoadAnswer → List ℕ → Option (List ℕ)
text_if LoadAnswer.Accepted text = some text
text_if (LoadAnswer.Refused line number) text = none

unfoldable pub next_of : Standing → AnyCall → Standing
next_of x (load_call text) = record { lent = loaded x.lent.tables text; text = text_if (load_of x.lent.tables text).answer text }
next_of x (later_call c) = record { lent = next x.lent c; text = x.text }

-- an answer, and the text that it is about
pub record Told : Type 0 where
  pub text : Option (List ℕ)
  pub answer : Answer

unfoldable pub all_told : Standing → List AnyCall → List Told
all_told x [] = []
all_told x (load_call text ∷ cs) = all_told (next_of x (load_call text)) cs
all_told x (later_call c ∷ cs) = record { text = x.text; answer = answer x.lent c } ∷ all_told (next_of x (later_call c)) cs

abbrev pub Reloading : Type 0
Reloading =
    (x : Lent) (calls : List AnyCall) (text : List ℕ) (steps clause : ℕ)
    → ◌∈◌ {A = Told} (record { text = some text; answer = ran (refuted steps clause) }) (all_told (record { lent = x; text = none }) calls)
    → (φ : Formula) × (load text ≡ accepted φ) × Refuted φ
