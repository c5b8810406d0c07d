-- The text of a formula part is read back as it (document 02, Note 1).
--     ReadsBack    line by line, of any length
--     LoadsBack    as a load reads it, of at most 32,768 bytes
use Rattle.std.specs.Prelude.{◌≡◌, ◌≤◌, length}
use Rattle.dqbf.specs.Limits.{tables, text_limit}
use Rattle.dqbf.specs.Text.{line_feed, pieces}
use Rattle.dqbf.specs.Reading.{start, read_from, load, accepted}
use Rattle.dqbf.specs.Model.{Model, model_of}
use Rattle.dqbf.specs.Valid.{Valid}
use Rattle.dqbf.specs.Spelled.{formula_part, spelled, formula_of}

-- The lines of the text are read as a formula whose model is the formula part: of any length.
abbrev pub ReadsBack : Type 0
ReadsBack = (m : Model) → Valid tables m
    → (read_from (pieces line_feed (spelled m)) 0 start ≡ accepted (formula_of (formula_part m))) × (model_of (formula_of (formula_part m)) ≡ formula_part m)

-- "A text of at most 32,768 bytes, read again, restores the formula's tables and counts."
abbrev pub LoadsBack : Type 0
LoadsBack = (m : Model) → Valid tables m → length (spelled m) ≤ text_limit
    → (load (spelled m) ≡ accepted (formula_of (formula_part m))) × (model_of (formula_of (formula_part m)) ≡ formula_part m)
