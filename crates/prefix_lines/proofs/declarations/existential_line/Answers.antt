use mathlib.Core.Path.{sym}
use borrow.Author.Rules.{rules}
use denote.Enum.Bare.{differs_true, differs_false}
use Rattle.prefix_lines.specs.contracts.progress.Phase.{the_type}
use Rattle.prefix_lines.proofs.Laws.PrefixLines.{e-late, e-read}
use Rattle.prefix_lines.proofs.declarations.existential_line.Goals as goal

pub returns-then-ne-clause-read : goal.returns-then-ne-clause-read
returns-then-ne-clause-read c =
    let late = differs_true the_type _ _ (sym c.if-ne.ensures) in
    λ t r h. e-late h late _

pub returns-clause-read : goal.returns-clause-read
returns-clause-read c =
    let inside = differs_false the_type (search rules) _ _ (sym c.if-ne.ensures) in
    λ t r h. e-read h inside _ (c.declare_all.ensures.read t r c.args.progress h)
