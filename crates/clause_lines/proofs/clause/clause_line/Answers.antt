use Rattle.std.proofs.lemmas.Result.{err_from_is_err_and}
use mathlib.Core.Path.{sym, ◌∙◌}
use borrow.Author.Rules.{rules}
use Prim.Native.Nat.{◌≤◌}
use native.Mathlib.Omega.{arith}
use denote.Enum.Bare.{same_true, same_false}
use lib.ListN.{length}
use lib.Seq.{length-take-le}
use Rattle.prefix_lines.specs.Lines.{carried}
use Rattle.prefix_lines.specs.contracts.progress.Phase.{the_type}
use Rattle.clause_lines.proofs.Laws.ClauseLines.{passes-all, clause-front-told, c-late, c-wide, c-refused, c-taken, room, literals-low, formula-low, progress-added, literals-added}
use Rattle.clause_lines.proofs.clause.clause_line.Goals as goal

pub returns-then-eq-clause-read : goal.returns-then-eq-clause-read
returns-then-eq-clause-read c =
    let early = same_true the_type (search rules) _ _ (sym c.if-eq.ensures) in
    λ t r C h q. c-late h C early

pub returns-in_default-clause-read : goal.returns-in_default-clause-read
returns-in_default-clause-read c =
    let begun = same_false the_type _ _ (sym c.if-eq.ensures) in
    λ t r C h q. c-wide h C begun q _ _ c.in_default.ensures.arranged (omega arith)

pub returns-in_err-clause_refusal-clause-read : goal.returns-in_err-clause_refusal-clause-read
returns-in_err-clause_refusal-clause-read c =
    let p = err_from_is_err_and c.from_residual.result c.from_residual.ensures.1 in
    let fits : c.in-Some.width ≤ length c.insert_all.new.sorted = omega (arith, c.in-Some.ensures.within, c.insert_all.auto.sorted) in
    let begun = same_false the_type _ _ (sym c.if-eq.ensures) in
    let told = rw (c.view-lent.ensures.kinds, c.view-lent.ensures.state) at c.in_err-clause_refusal.ensures ∙ clause-front-told c.insert_all.new.sorted c.in-Some.width _ _ fits in
    λ t r C h q. rw (p.1, p.2) (c-refused h C begun q _ _ c.in-Some.ensures.arranged told)

pub write_literals-requires-clause-in_bounds : goal.write_literals-requires-clause-in_bounds
write_literals-requires-clause-in_bounds c =
    let fits : c.in-Some.width ≤ length c.insert_all.new.sorted = omega (arith, c.in-Some.ensures.within, c.insert_all.auto.sorted) in
    let told = rw (c.view-lent.ensures.kinds, c.view-lent.ensures.state) at c.in_ok-clause_refusal.ensures ∙ clause-front-told c.insert_all.new.sorted c.in-Some.width _ _ fits in
    let g = passes-all _ _ _ c.args.tables.now.kinds.now told in
    omega (arith, g.light, c.requires.1, length-take-le c.in-Some.width c.insert_all.new.sorted fits)

pub write_literals-requires-clause-by_index : goal.write_literals-requires-clause-by_index
write_literals-requires-clause-by_index c =
    let fits : c.in-Some.width ≤ length c.insert_all.new.sorted = omega (arith, c.in-Some.ensures.within, c.insert_all.auto.sorted) in
    let told = rw (c.view-lent.ensures.kinds, c.view-lent.ensures.state) at c.in_ok-clause_refusal.ensures ∙ clause-front-told c.insert_all.new.sorted c.in-Some.width _ _ fits in
    let g = passes-all _ _ _ c.args.tables.now.kinds.now told in
    literals-low c.requires.0 g fits

pub add_formula_clause-requires : goal.add_formula_clause-requires
add_formula_clause-requires c =
    let fits : c.in-Some.width ≤ length c.insert_all.new.sorted = omega (arith, c.in-Some.ensures.within, c.insert_all.auto.sorted) in
    let told = rw (c.view-lent.ensures.kinds, c.view-lent.ensures.state) at c.in_ok-clause_refusal.ensures ∙ clause-front-told c.insert_all.new.sorted c.in-Some.width _ _ fits in
    let g = passes-all _ _ _ c.args.tables.now.kinds.now told in
    (room c.requires.0 g, c.requires.2, formula-low c.requires.0 g)

pub returns-clause-read : goal.returns-clause-read
returns-clause-read c =
    let fits : c.in-Some.width ≤ length c.insert_all.new.sorted = omega (arith, c.in-Some.ensures.within, c.insert_all.auto.sorted) in
    let told = rw (c.view-lent.ensures.kinds, c.view-lent.ensures.state) at c.in_ok-clause_refusal.ensures ∙ clause-front-told c.insert_all.new.sorted c.in-Some.width _ _ fits in
    let g = passes-all _ _ _ c.args.tables.now.kinds.now told in
    let begun = same_false the_type _ _ (sym c.if-eq.ensures) in
    let d = c.add_formula_clause.ensures in
    let added = literals-added c.args.tables.now.literals.now c.insert_all.new.sorted c.args.tables.now.state.literals c.in-Some.width fits c.write_literals.ensures in
    λ t r C h q. rw (d.rest.1, d.rest.2) (c-taken h C begun q _ _ c.in-Some.ensures.arranged g (progress-added (carried c.args.progress.now c.args.tables.now.state) c.in-Some.width d.state) (d.rest.0 ∙ added) d.ends)
