-- `formula_lines::prefix::write_d_lines` meets its contract.
use mathlib.Core.Path.{refl, ◌∙◌}
use borrow.Author.Tests.{eq-eqb, ne_eqb}
use lib.ListN.{length}
use Rattle.dqbf.specs.Spelled.{is_existential}
use Rattle.dqbf.specs.Spelling.{text}
use Rattle.sets.specs.Words.{words_each, as_sets}
use Rattle.formula_lines.specs.Working.{declarations}
use Rattle.formula_lines.proofs.Laws.Walks.{variables-walk, each_fits, each_next, each-passed, each-end}
use Rattle.formula_lines.proofs.Laws.Prefix.{d_texts, d_text, d-more, d-line-is, existentials-start, existential-test}
use Rattle.words.proofs.Laws.Laid.{writing-done}
use Rattle.formula_lines.proofs.prefix.write_d_lines.Goals.{then-kind-eq-EXISTENTIAL, else-kind-eq-EXISTENTIAL}
use Rattle.formula_lines.proofs.prefix.write_d_lines.Goals as goal

pub loop-i-init : goal.loop-i-init
loop-i-init c = record { loan = refl; writing = existentials-start _ _ _ _ }

pub write_d_line-requires : goal.write_d_line-requires
write_d_line-requires c =
    let a = c.args in
    let d = declarations a.kinds.now (as_sets words_each a.sets.now) in
    let fits =
    each_fits (variables-walk (length a.kinds.now)) (is_existential d) (d_texts d) (d_text d) (d-more d) c.loop-i.i c.loop-i.invariant.writing c.loop-i-test.true
    (existential-test a.kinds.now (as_sets words_each a.sets.now) c.loop-i.i ∙ eq-eqb _ _ c.if-kind-eq-EXISTENTIAL.true) c.requires.0 in
    rw (d-line-is a.kinds.now (as_sets words_each a.sets.now) c.requires.1 c.loop-i.i, ← c.get-set.ensures) at fits

pub loop-i-preserved : goal.loop-i-preserved
loop-i-preserved c =
    let a = c.args in
    let l = c.loop-i in
    let sets = as_sets words_each a.sets.now in
    let d = declarations a.kinds.now sets in
    let walk = variables-walk (length a.kinds.now) in
    let test = existential-test a.kinds.now sets l.i in
    elim c.if-kind-eq-EXISTENTIAL.branch [
      | then-kind-eq-EXISTENTIAL w ↦ rw w.writer-is (record {
        loan = w.write_d_line.ensures.loan ∙ l.invariant.loan;
        writing = each_next walk (is_existential d) (d_texts d) (d_text d) (d-more d) l.i l.invariant.writing c.loop-i-test.true (test ∙ eq-eqb _ _ w.if-kind-eq-EXISTENTIAL.true)
            (rw (w.get-set.ensures, ← (d-line-is a.kinds.now sets c.requires.1 l.i)) at w.write_d_line.ensures.wrote);
      })
      | else-kind-eq-EXISTENTIAL w ↦ rw w.writer-is (record {
        loan = l.invariant.loan;
        writing = each-passed walk (is_existential d) (d_texts d) (d_text d) (d-more d) l.i l.invariant.writing c.loop-i-test.true (test ∙ ne_eqb _ _ w.if-kind-eq-EXISTENTIAL.false);
      })
    ]

pub returns-clause-wrote : goal.returns-clause-wrote
unfolding text
returns-clause-wrote c =
    let a = c.args in
    let d = declarations a.kinds.now (as_sets words_each a.sets.now) in
    writing-done (each-end (variables-walk (length a.kinds.now)) (is_existential d) (d_texts d) (d_text d) (d-more d) c.loop-i.i c.loop-i.invariant.writing c.loop-i-test.false)
