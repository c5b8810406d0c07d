-- `adding::add_resolvent` meets its contract.
use mathlib.Core.Path.{refl, ◌∙◌}
use native.Mathlib.Omega.{arith}
use Rattle.dqbf.specs.Literal.{join}
use Rattle.tables.proofs.Laws.Formed.{formed-is, long-is}
use Rattle.additions.proofs.Laws.Adding.{zero-tail, resolvent-refused, resolvent-fitted, resolvent-fits, resolvent-stored, one-asked, one-added}
use Rattle.std.proofs.lemmas.Result.{err_from_is_err_and}
use Rattle.additions.proofs.adding.add_resolvent.Goals as goal

pub slice_bounds-write_resolvent-count : goal.slice_bounds-write_resolvent-count
slice_bounds-write_resolvent-count c = omega (arith, (formed-is _ _ c.requires.formed).counts.literals)

pub slice_bounds-write_resolvent-start : goal.slice_bounds-write_resolvent-start
slice_bounds-write_resolvent-start c = omega (arith, (formed-is _ _ c.requires.formed).counts.literals)

pub slice_bounds-write_resolvent-end : goal.slice_bounds-write_resolvent-end
slice_bounds-write_resolvent-end c = omega (arith, (long-is _ c.requires.lent).literals)

pub write_resolvent-requires : goal.write_resolvent-requires
write_resolvent-requires c = zero-tail _ _ c.requires

pub returns-in_err-count-clause-after : goal.returns-in_err-count-clause-after
returns-in_err-count-clause-after c =
    let p = err_from_is_err_and c.from_residual.result c.from_residual.ensures.1 in
    let written = c.in_err-count.ensures in
    rw (p.1, p.2) (resolvent-refused _ _ c.requires (join c.args.first.now c.args.second.now) written.refusal written.left)

pub overflow_cast-count : goal.overflow_cast-count
overflow_cast-count c =
    let written = c.in_ok-count.ensures in
    let fits = resolvent-fits _ _ c.requires (join c.args.first.now c.args.second.now) written.refusal in
    omega (arith, fits.0, written.left.0)

pub add_clause-requires : goal.add_clause-requires
add_clause-requires c =
    let written = c.in_ok-count.ensures in
    let clause = join c.args.first.now c.args.second.now in
    one-asked _ _ c.requires _ clause refl refl refl (resolvent-fits _ _ c.requires clause written.refusal).1 written.left.0

pub returns-clause-after : goal.returns-clause-after
returns-clause-after c =
    let written = c.in_ok-count.ensures in
    let clause = join c.args.first.now c.args.second.now in
    let fits = resolvent-fits _ _ c.requires clause written.refusal in
    let is = resolvent-fitted _ _ c.requires clause written.refusal in
    let added = c.add_clause.ensures in
    let literals = added.rest.0 ∙ resolvent-stored _ _ c.requires clause written.refusal written.left.1 in
    rw (added.rest.1, added.rest.2) (one-added _ _ c.requires _ clause is refl refl fits.1 written.left.0 literals added.ends added.state)
