-- `formula_text::write_lines` meets its contract.
use mathlib.Core.List.{◌++◌}
use native.Mathlib.Omega.{arith}
use Rattle.formula_lines.proofs.Laws.Universals.{listed-few}
use Rattle.sets.specs.Words.{words_each, as_sets}
use Rattle.formula_text.proofs.Laws.Whole.{head_text, declared_text, depending_text, clauses_text, whole-text}
use Rattle.words.proofs.Laws.Laid.{fits-first, fits-second, fits-third, wrote-both}
use Rattle.formula_text.proofs.write_lines.Goals as goal

pub overflow_cast-variables : goal.overflow_cast-variables
overflow_cast-variables c = let e = c.requires.1 in omega (arith, e.few-variables)

pub overflow_cast-count : goal.overflow_cast-count
overflow_cast-count c = let e = c.requires.1 in omega (arith, e.few-clauses)

pub write_header-requires : goal.write_header-requires
write_header-requires c =
    let a = c.args in
    let K = a.formula.now.kinds.now in
    let S = as_sets words_each a.formula.now.sets.now in
    let E = a.formula.now.ends.now in
    let L = a.formula.now.literals.now in
    let N = a.names.now in
    let more = depending_text K S E L ++ clauses_text K S E L in
    fits-first (head_text K S E L) (declared_text K S E L N ++ more) (rw (whole-text K S E L c.requires.2) at c.requires.0)

pub write_a_line-requires : goal.write_a_line-requires
write_a_line-requires c =
    let a = c.args in
    let K = a.formula.now.kinds.now in
    let S = as_sets words_each a.formula.now.sets.now in
    let E = a.formula.now.ends.now in
    let L = a.formula.now.literals.now in
    let N = a.names.now in
    let more = depending_text K S E L ++ clauses_text K S E L in
    let fits = fits-second (head_text K S E L) (declared_text K S E L N ++ more) c.write_header.ensures.wrote (rw (whole-text K S E L c.requires.2) at c.requires.0) in
    (fits-first (declared_text K S E L N) more fits, listed-few K c.requires.2 c.requires.1.few-universals)

pub write_d_lines-requires : goal.write_d_lines-requires
write_d_lines-requires c =
    let a = c.args in
    let K = a.formula.now.kinds.now in
    let S = as_sets words_each a.formula.now.sets.now in
    let E = a.formula.now.ends.now in
    let L = a.formula.now.literals.now in
    let N = a.names.now in
    let whole = rw (whole-text K S E L c.requires.2) at c.requires.0 in
    let fits = fits-third (head_text K S E L) (declared_text K S E L N) (depending_text K S E L ++ clauses_text K S E L) c.write_header.ensures.wrote c.write_a_line.ensures.wrote whole in
    (fits-first (depending_text K S E L) (clauses_text K S E L) fits, c.requires.2, c.requires.1.even, c.requires.1.few-variables)

pub write_clauses-requires : goal.write_clauses-requires
write_clauses-requires c =
    let a = c.args in
    let K = a.formula.now.kinds.now in
    let S = as_sets words_each a.formula.now.sets.now in
    let E = a.formula.now.ends.now in
    let L = a.formula.now.literals.now in
    let N = a.names.now in
    let whole = rw (whole-text K S E L c.requires.2) at c.requires.0 in
    let fits = fits-third (head_text K S E L) (declared_text K S E L N) (depending_text K S E L ++ clauses_text K S E L) c.write_header.ensures.wrote c.write_a_line.ensures.wrote whole in
    (fits-second (depending_text K S E L) (clauses_text K S E L) c.write_d_lines.ensures.wrote fits, c.requires.1.rise)

pub returns-clause-wrote : goal.returns-clause-wrote
returns-clause-wrote c =
    let a = c.args in
    rw (whole-text a.formula.now.kinds.now (as_sets words_each a.formula.now.sets.now) a.formula.now.ends.now a.formula.now.literals.now c.requires.2)
    (wrote-both c.write_header.ensures.wrote (wrote-both c.write_a_line.ensures.wrote (wrote-both c.write_d_lines.ensures.wrote c.write_clauses.ensures.wrote)))
