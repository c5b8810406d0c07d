use mathlib.Core.Path.{sym}
use borrow.Author.Rules.{rules}
use denote.Enum.Bare.{differs_true, differs_false}
use Rattle.prefix_lines.specs.contracts.progress.Phase.{the_type}
use Rattle.texts.proofs.Laws.OpeningLines.{header-late, header-bound, header-count, header_read}
use Rattle.texts.proofs.lines.header_line.Goals as goal

pub returns-then-ne-clause-read : goal.returns-then-ne-clause-read
returns-then-ne-clause-read c =
    let late = differs_true the_type _ _ (sym c.if-ne.ensures) in
    λ t r h. header-late h late _ _

pub returns-then-bound-gt-VARIABLE_LIMIT-clause-read : goal.returns-then-bound-gt-VARIABLE_LIMIT-clause-read
returns-then-bound-gt-VARIABLE_LIMIT-clause-read c =
    let opening = differs_false the_type (search rules) _ _ (sym c.if-ne.ensures) in
    λ t r h. header-bound h opening _ _ c.if-bound-gt-VARIABLE_LIMIT.true

pub returns-then-count-gt-CLAUSE_LIMIT-clause-read : goal.returns-then-count-gt-CLAUSE_LIMIT-clause-read
returns-then-count-gt-CLAUSE_LIMIT-clause-read c =
    let opening = differs_false the_type (search rules) _ _ (sym c.if-ne.ensures) in
    λ t r h. header-count h opening _ _ c.if-count-gt-CLAUSE_LIMIT.true

pub returns-clause-read : goal.returns-clause-read
returns-clause-read c =
    let opening = differs_false the_type (search rules) _ _ (sym c.if-ne.ensures) in
    λ t r h. header_read h opening _ _ c.if-bound-gt-VARIABLE_LIMIT.false c.if-count-gt-CLAUSE_LIMIT.false c.empty_state-tables.ensures
