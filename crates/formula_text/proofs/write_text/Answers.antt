-- `formula_text::write_text` meets its contract.
use Rattle.std.proofs.Common.{rules}
use Rattle.dqbf.specs.Spelled.{spelled}
use Rattle.words.specs.Laid.{Wrote}
use Rattle.tables.specs.Lent.{tables_lent}
use Rattle.tables.specs.Tables.{Tables, tables_of, model_in}
use Rattle.formula_text.proofs.Laws.Outcomes.{bound-kinds, bound-words, sets-declared, formula-ends, spelled-lines, entries-ask}
use Rattle.formula_text.proofs.write_text.Goals as goal

pub slice_bounds-entries-end : goal.slice_bounds-entries-end
slice_bounds-entries-end c =
    let lent = tables_of c.args.tables.now.literals.now c.args.tables.now.ends.now c.args.tables.now.sets.now c.args.tables.now.kinds.now in
    formula-ends lent c.args.tables.now.state c.requires.0 c.requires.1

pub slice_bounds-entries-end-2 : goal.slice_bounds-entries-end-2
slice_bounds-entries-end-2 c =
    bound-words c.args.tables.now.literals.now c.args.tables.now.ends.now c.args.tables.now.sets.now c.args.tables.now.kinds.now c.args.tables.now.state c.requires.0 c.requires.1

pub slice_bounds-entries-end-3 : goal.slice_bounds-entries-end-3
slice_bounds-entries-end-3 c =
    let lent = tables_of c.args.tables.now.literals.now c.args.tables.now.ends.now c.args.tables.now.sets.now c.args.tables.now.kinds.now in
    bound-kinds lent c.args.tables.now.state c.requires.0 c.requires.1

pub write_entries-requires : goal.write_entries-requires
write_entries-requires c =
    let lent = tables_of c.args.tables.now.literals.now c.args.tables.now.ends.now c.args.tables.now.sets.now c.args.tables.now.kinds.now in
    let declared = sets-declared c.args.tables.now.literals.now c.args.tables.now.ends.now c.args.tables.now.sets.now c.args.tables.now.kinds.now c.args.tables.now.state c.requires.0 c.requires.1 in
    rw declared (entries-ask lent c.args.tables.now.state c.requires.0 c.requires.1)

pub returns : goal.returns
returns c =
    let lent : Tables = tables_lent c.args.tables.now in
    let declared = sets-declared c.args.tables.now.literals.now c.args.tables.now.ends.now c.args.tables.now.sets.now c.args.tables.now.kinds.now c.args.tables.now.state c.requires.0 c.requires.1 in
    let writer = c.write_entries.new.writer in
    let done : Wrote (spelled (model_in lent c.args.tables.now.state)) 0 c.args.out.now writer.out.now writer.at =
    rw (spelled-lines lent c.args.tables.now.state c.requires.0 c.requires.1) (rw declared at c.write_entries.ensures.wrote) in
    search (rules, done)
