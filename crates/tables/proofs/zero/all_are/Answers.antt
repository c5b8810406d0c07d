use mathlib.Core.Path.{refl, sym, ◌∙◌}
use Rattle.tables.proofs.Laws.Tests.{all-next, all_done}
use Rattle.tables.proofs.zero.all_are.Goals as goal

pub loop-entry-init : goal.loop-entry-init
loop-entry-init g c = refl

pub loop-entry-preserved : goal.loop-entry-preserved
loop-entry-preserved g c =
    let item = c.entry-item.result in
    c.loop-entry.invariant ∙ all-next (λ e. g.T.PartialEq.eq e c.args.value.now) c.args.entries.now c.loop-entry.entry-index item c.loop-entry-test.true c.loop-entry.same (rw (← c.entry-item.is) c.eq-same.ensures)

pub returns : goal.returns
returns g c = sym (c.loop-entry.invariant ∙ all_done (λ e. g.T.PartialEq.eq e c.args.value.now) c.args.entries.now c.loop-entry.entry-index c.loop-entry-test.false c.loop-entry.same)
