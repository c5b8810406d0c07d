-- DEMAND 3 for the printed line: where the line begins with "refuted", the text says a formula that no family makes true. The contract of `judge` promises
-- the line for every text, every list of records and all table contents. Proved in proofs/Refutation.antt.
use Rattle.std.specs.Prelude.{◌≡◌, List, ℕ, take}
use Rattle.dqbf.specs.Bytes.{bytes}
use Rattle.dqbf.specs.Formula.{Formula}
use Rattle.dqbf.specs.Meaning.{Refuted}
use Rattle.dqbf.specs.Reading.{load, accepted}
use Rattle.tables.specs.Tables.{Tables}
use Rattle.verdict.specs.Judging.{judged_line}

abbrev pub LineRefutes : Type 0
LineRefutes =
    (t : Tables) (text records : List ℕ) → take 7 (judged_line t text records) ≡ bytes "refuted" → (φ : Formula) × (load text ≡ accepted φ) × Refuted φ
