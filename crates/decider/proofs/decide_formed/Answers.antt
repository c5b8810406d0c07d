-- `decider::decide_formed` meets its contract.
use mathlib.Core.Path.{sym, ◌∙◌}
use Rattle.tables.specs.Lent.{tables_lent}
use Rattle.tables.proofs.Laws.FormulaEntries.{bound-kinds, bound-sets, bound-words, sets-declared, formula-ends}
use Rattle.decider.proofs.Laws.Search.{part_length}
use Rattle.decider.proofs.Laws.Outcomes.{few-variables, decide-part, many-universals, search-asks}
use Rattle.decider.proofs.decide_formed.Goals as goal

pub returns-then-universals-gt-SMALL_UNIVERSALS : goal.returns-then-universals-gt-SMALL_UNIVERSALS
returns-then-universals-gt-SMALL_UNIVERSALS c =
    many-universals (tables_lent c.args.tables.now) c.args.tables.now.state c.requires.0 c.requires.1 c.if-universals-gt-SMALL_UNIVERSALS.true

pub slice_bounds-bytes-end : goal.slice_bounds-bytes-end
slice_bounds-bytes-end c = few-variables (tables_lent c.args.tables.now) c.args.tables.now.state c.requires.0 c.requires.1

pub slice_bounds-small_sets-end : goal.slice_bounds-small_sets-end
slice_bounds-small_sets-end c =
    let few = few-variables (tables_lent c.args.tables.now) c.args.tables.now.state c.requires.0 c.requires.1 in
    part_length c.args.tables.now.state.bound.0 512 0 few

pub slice_bounds-small_sets-end-2 : goal.slice_bounds-small_sets-end-2
slice_bounds-small_sets-end-2 c =
    let t = c.args.tables.now in
    bound-words t.literals.now t.ends.now t.sets.now t.kinds.now t.state c.requires.0 c.requires.1

pub small_sets-sets-requires : goal.small_sets-sets-requires
small_sets-sets-requires c =
    let t = c.args.tables.now in
    let few = few-variables (tables_lent t) t.state c.requires.0 c.requires.1 in
    let declared = sets-declared t.literals.now t.ends.now t.sets.now t.kinds.now t.state c.requires.0 c.requires.1 in
    let asked = search-asks (tables_lent t) t.state c.requires.0 c.requires.1 c.if-universals-gt-SMALL_UNIVERSALS.false in
    rw declared (sym (part_length t.state.bound.0 512 0 few) ∙ bound-sets (tables_lent t) t.state c.requires.0 c.requires.1, asked.small.small)

pub slice_bounds-formula-end : goal.slice_bounds-formula-end
slice_bounds-formula-end c = formula-ends (tables_lent c.args.tables.now) c.args.tables.now.state c.requires.0 c.requires.1

pub slice_bounds-formula-end-2 : goal.slice_bounds-formula-end-2
slice_bounds-formula-end-2 c = bound-kinds (tables_lent c.args.tables.now) c.args.tables.now.state c.requires.0 c.requires.1

pub invariant_of-formula : goal.invariant_of-formula
invariant_of-formula c =
    let t = c.args.tables.now in
    let declared = sets-declared t.literals.now t.ends.now t.sets.now t.kinds.now t.state c.requires.0 c.requires.1 in
    let asked = search-asks (tables_lent t) t.state c.requires.0 c.requires.1 c.if-universals-gt-SMALL_UNIVERSALS.false in
    record { small = rw (c.from.ensures, c.small_sets-sets.ensures, declared) asked }

pub returns : goal.returns
returns c =
    let t = c.args.tables.now in
    let declared = sets-declared t.literals.now t.ends.now t.sets.now t.kinds.now t.state c.requires.0 c.requires.1 in
    rw (c.small_sets-sets.ensures, declared) at c.decide_formula.ensures ∙ sym (decide-part (tables_lent t) t.state c.requires.0 c.requires.1)
