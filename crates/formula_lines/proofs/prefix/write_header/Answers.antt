-- `formula_lines::prefix::write_header` meets its contract.
use mathlib.Core.List.{[], ◌∷◌, ◌++◌}
use Rattle.dqbf.specs.Line.{digits_of}
use Rattle.dqbf.specs.Text.{line_feed}
use Rattle.dqbf.specs.Bytes.{bytes}
use Rattle.words.proofs.Laws.Listed.{header-text}
use Rattle.words.proofs.Laws.Words.{with_space}
use Rattle.words.proofs.Laws.Laid.{fits-first, fits-second, wrote-both}
use Rattle.formula_lines.proofs.prefix.write_header.Goals as goal

pub word-requires : goal.word-requires
unfolding bytes
word-requires c =
    let a = c.args in
    let rest = with_space (digits_of a.variables) ++ (digits_of a.clauses ++ (line_feed ∷ [])) in
    fits-first (bytes "p cnf ") rest (rw (header-text a.variables a.clauses) at c.requires)

pub spaced-requires : goal.spaced-requires
unfolding bytes
spaced-requires c =
    let a = c.args in
    let first = with_space (digits_of a.variables) in
    let rest = digits_of a.clauses ++ (line_feed ∷ []) in
    fits-first first rest (fits-second (bytes "p cnf ") (first ++ rest) c.word.ensures.wrote (rw (header-text a.variables a.clauses) at c.requires))

pub number-requires : goal.number-requires
unfolding bytes
number-requires c =
    let a = c.args in
    let first = with_space (digits_of a.variables) in
    let rest = digits_of a.clauses ++ (line_feed ∷ []) in
    let fits = fits-second (bytes "p cnf ") (first ++ rest) c.word.ensures.wrote (rw (header-text a.variables a.clauses) at c.requires) in
    fits-first (digits_of a.clauses) (line_feed ∷ []) (fits-second first rest c.spaced.ensures.wrote fits)

pub byte-requires : goal.byte-requires
unfolding bytes
byte-requires c =
    let a = c.args in
    let first = with_space (digits_of a.variables) in
    let rest = digits_of a.clauses ++ (line_feed ∷ []) in
    let fits = fits-second (bytes "p cnf ") (first ++ rest) c.word.ensures.wrote (rw (header-text a.variables a.clauses) at c.requires) in
    fits-second (digits_of a.clauses) (line_feed ∷ []) c.number.ensures.wrote (fits-second first rest c.spaced.ensures.wrote fits)

pub returns-clause-wrote : goal.returns-clause-wrote
unfolding bytes
returns-clause-wrote c =
    let a = c.args in
    rw (header-text a.variables a.clauses)
    (wrote-both c.word.ensures.wrote (wrote-both c.spaced.ensures.wrote (wrote-both c.number.ensures.wrote c.byte.ensures.wrote)))
