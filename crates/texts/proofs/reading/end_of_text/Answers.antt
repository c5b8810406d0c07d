use mathlib.Core.Path.{sym}
use borrow.Author.Rules.{rules}
use denote.Enum.Bare.{same_true, same_false}
use Rattle.prefix_lines.specs.contracts.progress.Phase.{the_type}
use Rattle.texts.proofs.Laws.Texts.{end-opening, end-few, end-accepted}
use Rattle.texts.proofs.reading.end_of_text.Goals as goal

pub returns-then-eq : goal.returns-then-eq
returns-then-eq c =
    let early = same_true the_type (search rules) _ _ (sym c.if-eq.ensures) in
    λ t r now h. end-opening h _ early

pub returns-then-state-progress : goal.returns-then-state-progress
returns-then-state-progress c =
    let begun = same_false the_type _ _ (sym c.if-eq.ensures) in
    λ t r now h. end-few h _ begun c.if-state-progress.true

pub returns : goal.returns
returns c =
    let begun = same_false the_type _ _ (sym c.if-eq.ensures) in
    λ t r now h. end-accepted h _ begun c.if-state-progress.false
