-- "Two accepted formulas have the same text only if V, kinds, set words and clauses agree, and then always" (document 02, Note 1): of any length.
--     SameFormula       V, kinds, set words and clauses agree
--     StepsUnwritten    the text is that of the formula part
--     Exact             the sentence
use Rattle.std.specs.Prelude.{◌≡◌, ◌↔◌}
use Rattle.dqbf.specs.Limits.{tables}
use Rattle.dqbf.specs.Model.{Model}
use Rattle.dqbf.specs.Valid.{Valid}
use Rattle.dqbf.specs.Rules.{Addition, add}
use Rattle.dqbf.specs.Spelled.{spelled}

pub record SameFormula (m m' : Model) : Type 0 where
  pub kinds : m.kinds ≡ m'.kinds  -- with their number V
  pub sets : m.sets ≡ m'.sets
  pub clauses : m.formula ≡ m'.formula

-- what an accepted step adds does not show
abbrev pub StepsUnwritten : Type 0
StepsUnwritten = (m : Model) (a : Addition) → spelled (add m a) ≡ spelled m

abbrev pub Exact : Type 0
Exact = (m m' : Model) → Valid tables m → Valid tables m' → (spelled m ≡ spelled m') ↔ SameFormula m m'
