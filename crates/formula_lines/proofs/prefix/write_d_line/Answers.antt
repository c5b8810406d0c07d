-- `formula_lines::prefix::write_d_line` meets its contract.
use mathlib.Core.List.{map, ◌++◌}
use Rattle.dqbf.specs.Line.{digits_of}
use Rattle.dqbf.specs.Bytes.{bytes}
use Rattle.words.specs.Listed.{listed}
use Rattle.sets.specs.Words.{words_each, as_set, as_sets}
use Rattle.formula_lines.specs.Working.{members_in}
use Rattle.words.proofs.Laws.Listed.{d-text}
use Rattle.words.proofs.Laws.Words.{with_space}
use Rattle.words.proofs.Laws.Laid.{fits-first, fits-second, wrote-both}
use Rattle.formula_lines.proofs.prefix.write_d_line.Goals as goal

pub word-requires : goal.word-requires
unfolding bytes
word-requires c =
    let a = c.args in
    let S = members_in a.names.now (as_sets words_each a.sets.now) (as_set a.set) in
    fits-first (bytes "d ") (with_space (digits_of a.variable) ++ listed (map digits_of S)) (rw (d-text a.variable S) at c.requires)

pub spaced-requires : goal.spaced-requires
unfolding bytes
spaced-requires c =
    let a = c.args in
    let S = members_in a.names.now (as_sets words_each a.sets.now) (as_set a.set) in
    let first = with_space (digits_of a.variable) in
    let rest = listed (map digits_of S) in
    fits-first first rest (fits-second (bytes "d ") (first ++ rest) c.word.ensures.wrote (rw (d-text a.variable S) at c.requires))

pub write_members-requires : goal.write_members-requires
unfolding bytes
write_members-requires c =
    let a = c.args in
    let S = members_in a.names.now (as_sets words_each a.sets.now) (as_set a.set) in
    let first = with_space (digits_of a.variable) in
    let rest = listed (map digits_of S) in
    let fits = fits-second (bytes "d ") (first ++ rest) c.word.ensures.wrote (rw (d-text a.variable S) at c.requires) in
    fits-second first rest c.spaced.ensures.wrote fits

pub returns-clause-wrote : goal.returns-clause-wrote
unfolding bytes
returns-clause-wrote c =
    let a = c.args in
    rw (d-text a.variable (members_in a.names.now (as_sets words_each a.sets.now) (as_set a.set))) (wrote-both c.word.ensures.wrote (wrote-both c.spaced.ensures.wrote c.write_members.ensures.wrote))
