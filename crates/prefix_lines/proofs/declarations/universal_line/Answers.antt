use mathlib.Core.Path.{sym}
use borrow.Author.Rules.{rules}
use native.Mathlib.Omega.{arith}
use denote.Enum.Bare.{differs_true, differs_false}
use Rattle.prefix_lines.specs.contracts.progress.Phase.{the_type}
use Rattle.prefix_lines.proofs.Laws.PrefixLines.{count-grows, a-late, a-over, a-repeated, a_read, a-known}
use Rattle.prefix_lines.proofs.declarations.universal_line.Goals as goal

pub returns-then-ne-clause-read : goal.returns-then-ne-clause-read
returns-then-ne-clause-read c =
    let late = differs_true the_type _ _ (sym c.if-ne.ensures) in
    λ t r h k. (a-late h late _, λ z. cc)

pub returns-in_default-clause-read : goal.returns-in_default-clause-read
returns-in_default-clause-read c =
    let a = c.args in
    let inside = differs_false the_type (search rules) _ _ (sym c.if-ne.ensures) in
    λ t r h k. (a-over h inside a.variables.now a.known.now k _ _ c.in_default.ensures.arranged (omega arith), λ z. cc)

pub overflow_sub-count : goal.overflow_sub-count
overflow_sub-count c = count-grows c.args.known.now _ _ _ _ _ c.requires.3 c.requires.4 c.in-Some.ensures.arranged

pub returns-then-count-before-clause-read : goal.returns-then-count-before-clause-read
returns-then-count-before-clause-read c =
    let a = c.args in
    let inside = differs_false the_type (search rules) _ _ (sym c.if-ne.ensures) in
    λ t r h k. (a-repeated h inside a.variables.now a.known.now k _ _ c.in-Some.ensures.arranged c.in-Some.ensures.within c.if-count-before.true, λ z. cc)

pub returns-clause-read : goal.returns-clause-read
returns-clause-read c =
    let a = c.args in
    let inside = differs_false the_type (search rules) _ _ (sym c.if-ne.ensures) in
    λ t r h k. (
      a_read h inside a.variables.now a.known.now k _ _ c.in-Some.ensures.arranged c.in-Some.ensures.within c.if-count-before.false (c.declare_all.ensures.read t r a.progress h),
      a-known h inside a.variables.now a.known.now k _ _ c.in-Some.ensures.arranged c.in-Some.ensures.within c.if-count-before.false (c.declare_all.ensures.read t r a.progress h),
    )
