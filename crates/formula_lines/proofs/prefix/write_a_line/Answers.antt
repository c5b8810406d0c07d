-- `formula_lines::prefix::write_a_line` meets its contract.
use native.Mathlib.Omega.{arith}
use Rattle.std.proofs.lemmas.Grind.{common_steps}
use Rattle.dqbf.specs.Bytes.{bytes}
use lib.ListN.{length}
use Rattle.sets.specs.Words.{words_each, as_sets}
use Rattle.formula_lines.specs.Working.{declared_from}
use Rattle.formula_lines.proofs.Laws.Prefix.{number_texts, a-none, a-some}
use Rattle.words.proofs.Laws.Laid.{fits-first, fits-second, wrote-both}
use Rattle.formula_lines.proofs.prefix.write_a_line.Goals as goal

pub returns-then-is_empty-clause-wrote : goal.returns-then-is_empty-clause-wrote
returns-then-is_empty-clause-wrote c = a-none _ _ _ _ _ (grind (arith, common_steps))

pub word-requires : goal.word-requires
unfolding bytes
word-requires c =
    let us = c.args.names.now in
    let sets = as_sets words_each c.args.sets.now in
    fits-first (bytes "a ") (number_texts (declared_from us sets 0 (length us))) (rw (a-some us sets (length us) (λ none. grind (arith, common_steps))) at c.requires.0)

pub write_universals-requires : goal.write_universals-requires
unfolding bytes
write_universals-requires c =
    let us = c.args.names.now in
    let sets = as_sets words_each c.args.sets.now in
    (fits-second (bytes "a ") (number_texts (declared_from us sets 0 (length us))) c.word.ensures.wrote (rw (a-some us sets (length us) (λ none. grind (arith, common_steps))) at c.requires.0), c.requires.1)

pub returns-clause-wrote : goal.returns-clause-wrote
unfolding bytes
returns-clause-wrote c =
    rw (a-some c.args.names.now (as_sets words_each c.args.sets.now) (length c.args.names.now) (λ none. grind (arith, common_steps))) (wrote-both c.word.ensures.wrote c.write_universals.ensures.wrote)
