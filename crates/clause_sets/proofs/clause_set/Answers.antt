use mathlib.Core.Path.{sym, ◌∙◌}
use native.Mathlib.Omega.{arith}
use borrow.Author.Rules.{rules}
use lib.Bits.{or_zero_l}
use lib.IntN.{pos}
use Rattle.sets.specs.Words.{words_each, as_set, as_sets}
use Rattle.clauses.proofs.Laws.Places.{list-front, list-end}
use Rattle.clause_sets.proofs.Laws.Sets.{set_more, set-end, set_there}
use Rattle.clause_sets.proofs.clause_set.Goals as goal

pub loop-l-init : goal.loop-l-init
loop-l-init c = unfold as_set in sym (or_zero_l _)

pub set_of-requires : goal.set_of-requires
set_of-requires c = set_there (as_sets words_each c.args.sets.now) c.requires c.loop-l.l-index (omega arith) (search rules)

pub loop-l-preserved : goal.loop-l-preserved
loop-l-preserved c =
    c.loop-l.invariant ∙ set_more _ (list-front c.args.clause.now c.loop-l.l-index (pos 0) (omega arith)) (search rules) c.set_of.ensures (as_set c.loop-l.set) c.union-more.ensures

pub returns : goal.returns
returns c =
    sym (c.loop-l.invariant ∙ set-end _ (as_set c.loop-l.set) (list-end c.args.clause.now c.loop-l.l-index (omega arith)))
