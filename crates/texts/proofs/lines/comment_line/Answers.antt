use mathlib.Core.Path.{sym}
use borrow.Author.Rules.{rules}
use denote.Enum.Bare.{differs_true, differs_false}
use Rattle.prefix_lines.specs.contracts.progress.Phase.{the_type}
use Rattle.texts.proofs.Laws.OpeningLines.{comment-late, comment-read}
use Rattle.texts.proofs.lines.comment_line.Goals as goal

pub returns-then-ne : goal.returns-then-ne
returns-then-ne c =
    let late = differs_true the_type _ _ (sym c.if-ne.ensures) in
    λ t r s now h. comment-late h late

pub returns : goal.returns
returns c =
    let opening = differs_false the_type (search rules) _ _ (sym c.if-ne.ensures) in
    λ t r s now h. comment-read h opening
