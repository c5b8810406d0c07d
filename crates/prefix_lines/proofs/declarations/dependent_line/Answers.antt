use mathlib.Core.Path.{sym}
use borrow.Author.Rules.{rules}
use native.Mathlib.Omega.{arith}
use denote.Enum.Bare.{differs_true, differs_false}
use lib.ListN.{drop, get_or}
use lib.Seq.{length-take-le}
use Rattle.sets.proofs.Laws.Tables.{sets-room}
use Rattle.dqbf.proofs.Laws.Parts.{tail-lent}
use Rattle.tables.proofs.Laws.Lent.{taken-sets}
use Rattle.prefix_lines.specs.contracts.progress.Phase.{the_type}
use Rattle.prefix_lines.proofs.Laws.PrefixLines.{d-late, d-stranger, d-read}
use Rattle.prefix_lines.proofs.declarations.dependent_line.Goals as goal

pub returns-then-ne-clause-read : goal.returns-then-ne-clause-read
returns-then-ne-clause-read c =
    let late = differs_true the_type _ _ (sym c.if-ne.ensures) in
    λ t r h. d-late h late (get_or c.args.numbers.now 0 0) (drop 1 c.args.numbers.now)

pub slice_bounds-members_of-end-2 : goal.slice_bounds-members_of-end-2
slice_bounds-members_of-end-2 c =
    let room = rw (← c.view-lent.ensures.sets, ← c.view-lent.ensures.state) at c.requires.2 in
    sym (length-take-le _ c.view-lent.result.sets.now (sets-room c.view-lent.result.sets.now room))

pub returns-in_default-clause-read : goal.returns-in_default-clause-read
returns-in_default-clause-read c =
    let xs = c.args.numbers.now in
    let inside = differs_false the_type (search rules) _ _ (sym c.if-ne.ensures) in
    let strange = rw (tail-lent xs 1, c.view-lent.ensures.kinds, c.view-lent.ensures.state) at c.in_default.ensures in
    λ t r h. d-stranger h inside (get_or xs 0 0) (drop 1 xs) strange

pub returns-clause-read : goal.returns-clause-read
returns-clause-read c =
    let xs = c.args.numbers.now in
    let d = c.declare.ensures in
    let inside = differs_false the_type (search rules) _ _ (sym c.if-ne.ensures) in
    let held = rw (tail-lent xs 1, c.view-lent.ensures.sets, c.view-lent.ensures.kinds, c.view-lent.ensures.state) at c.in-Some.ensures in
    let members = rw (taken-sets c.args.tables.now.sets.now c.args.tables.now.state.bound.0 (sets-room c.args.tables.now.sets.now c.requires.2)) at held in
    λ t r h. rw (d.rest.0, d.rest.1, d.rest.2) (d-read h inside (get_or xs 0 0) (drop 1 xs) members.0 members.1 (omega (arith, c.requires.1)) d.spare d.declared)
