-- `decider::decide_formula` meets its contract.
use mathlib.Core.Path.{◌∙◌, ap}
use Rattle.deciding.specs.Deciding.{decided}
use Rattle.tables.specs.Tables.{cut}
use Rattle.decider.proofs.Laws.Search.{all_left-front, all_room, search_is}
use Rattle.decider.proofs.Laws.Outcomes.{decide-above, decide-within}
use Rattle.decider.proofs.decide_formula.Goals as goal

pub returns-then-bits-gt-SMALL_BITS : goal.returns-then-bits-gt-SMALL_BITS
returns-then-bits-gt-SMALL_BITS c =
    let f = c.args.formula.now in
    decide-above f.kinds.now f.sets.now (cut 0 f.ends.now f.literals.now) c.lay_out-bits.result c.lay_out-bits.ensures.0 c.if-bits-gt-SMALL_BITS.true

pub returns : goal.returns
returns c =
    let f = c.args.formula.now in
    let Cs = cut 0 f.ends.now f.literals.now in
    let bits = c.lay_out-bits.result in
    let words = c.words_for.result in
    let fits = c.words_for.ensures.1 in
    let left = all_left-front words 1024 fits in
    let found = search_is f.kinds.now f.sets.now Cs bits _ _ c.lay_out-bits.ensures.0 (all_room words 1024 _ fits c.words_for.ensures.0) (rw left at c.keep_clauses.ensures) in
    decide-within f.kinds.now f.sets.now Cs bits f.universals c.lay_out-bits.ensures.0 c.if-bits-gt-SMALL_BITS.false f.small.counted f.small.few
    (c.first_left.ensures ∙ ap decided found)
