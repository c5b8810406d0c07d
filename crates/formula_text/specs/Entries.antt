-- The entries of a formula in well-formed tables, as the code is given them: `kinds` and `sets` of the variables 1 to V, `ends` of the formula clauses.
use Rattle.std.specs.Prelude.{◌≡◌, List, ℕ, ◌≤◌, ℤ, length}
use Rattle.dqbf.specs.Limits.{clause_limit, variable_limit, universal_limit}
use Rattle.dqbf.specs.Set.{Set}
use Rattle.dqbf.specs.Model.{universals_in}
use Rattle.dqbf.specs.Spelling.{text}
use Rattle.dqbf.specs.Spelled.{formula_in, lines_of}
use Rattle.sets.specs.Words.{words_each, as_sets}
use Rattle.tables.specs.Tables.{cut}
use Rattle.formula_lines.specs.Working.{Rises}
use Rattle.formula_text.specs.declared.Formula.{Formula}

pub record Entries (literals : List ℤ) (ends : List ℕ) (sets : List Set) (kinds : List ℕ) : Type 0 where
  pub rise : Rises 0 ends (length literals)
  pub few-clauses : length ends ≤ clause_limit
  pub even : length sets ≡ length kinds
  pub few-variables : length kinds ≤ variable_limit
  pub few-universals : universals_in kinds ≤ universal_limit

-- of the code's entries: what is asked of them, and the text of their formula
abbrev pub EntriesOf : Formula → Type 0
EntriesOf f = Entries f.literals.now f.ends.now (as_sets words_each f.sets.now) f.kinds.now

abbrev pub text_of : Formula → List ℕ
text_of f = text (lines_of (formula_in f.kinds.now (as_sets words_each f.sets.now) (cut 0 f.ends.now f.literals.now)))
