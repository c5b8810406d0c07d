-- The tests of a line in order, and the answer of a line.
--     test-fails, test-passes, test-last      the first test of a list that applies
--     line_refused, line_taken                the answer of a line
-- Assumes nothing.
use mathlib.Core.Path.{◌≡◌, refl}
use mathlib.Core.Bool.{Bool, true, false, not}
use mathlib.Core.List.{List, [], ◌∷◌}
use mathlib.Core.Option.{none, some}
use Rattle.dqbf.specs.Refusal.{Refusal, refusal, Test, ◌when◌, first}
use Rattle.dqbf.specs.Reading.{Form, Reader, line_tests, taken}
use Rattle.tables.specs.Tables.{Tables}
use Rattle.prefix_lines.specs.Rows.{unless_12}
use Rattle.prefix_lines.specs.Lines.{Carried, ReadSoFar, Framed, LineRead}
use Rattle.prefix_lines.proofs.Laws.Reading.{framed}

pub test-fails : (x : Refusal) (b : Bool) (ts : List Test) → b ≡ true → first ((x when b) ∷ ts) ≡ some x
unfolding first
test-fails x b ts e = rw e

pub test-passes : (x : Refusal) (b : Bool) (ts : List Test) → b ≡ false → first ((x when b) ∷ ts) ≡ first ts
unfolding first
test-passes x b ts e = rw e

-- a last test that is the contrary of b
pub test-last : (b : Bool) → first ((refusal 12 when not b) ∷ []) ≡ unless_12 b
unfolding first
test-last true = refl
test-last false = refl

module _ {t : Tables} {r : Reader} {f : Form} {p : Carried} {now : Tables} where
  pub line_refused : (x : Refusal) → Framed t now → first (line_tests r f) ≡ some x → LineRead t r f (some x) p now
  line_refused x k e = record { told = e; held = λ z. cc; framed = k }

  pub line_taken : first (line_tests r f) ≡ none → ReadSoFar t (taken r f) p now → LineRead t r f none p now
  line_taken e h = record { told = e; held = λ z. h; framed = framed h }
