-- `formula_lines::prefix::write_members` meets its contract.
use mathlib.Core.Path.{refl, sym, ◌∙◌}
use Rattle.sets.specs.Words.{words_each, as_set, as_sets}
use Rattle.formula_lines.specs.Working.{is_in}
use Rattle.formula_lines.proofs.Laws.Walks.{list-walk, each_fits, each_next, each-passed, each-end, closing-fits, closing-done}
use Rattle.formula_lines.proofs.Laws.Prefix.{number_texts, number_text, number_more, members-start}
use Rattle.formula_lines.proofs.prefix.write_members.Goals.{then-is_in, else-is_in}
use Rattle.formula_lines.proofs.prefix.write_members.Goals as goal

pub loop-variable-init : goal.loop-variable-init
loop-variable-init c = record { loan = refl; writing = members-start _ _ _ _ _ }

pub spaced-requires : goal.spaced-requires
spaced-requires c =
    let a = c.args in
    each_fits (list-walk a.names.now) (is_in (as_sets words_each a.sets.now) (as_set a.set)) number_texts number_text number_more c.loop-variable.variable-index c.loop-variable.invariant.writing c.loop-variable-test.true
    (sym c.is_in.ensures ∙ c.if-is_in.true) c.requires

pub loop-variable-preserved : goal.loop-variable-preserved
loop-variable-preserved c =
    let a = c.args in
    let l = c.loop-variable in
    let inside = is_in (as_sets words_each a.sets.now) (as_set a.set) in
    elim c.if-is_in.branch [
      | then-is_in w ↦ rw w.writer-is (record {
        loan = w.spaced.ensures.loan ∙ l.invariant.loan;
        writing = each_next (list-walk a.names.now) inside number_texts number_text number_more l.variable-index l.invariant.writing c.loop-variable-test.true (sym c.is_in.ensures ∙ w.if-is_in.true) w.spaced.ensures.wrote;
      })
      | else-is_in w ↦ rw w.writer-is (record {
        loan = l.invariant.loan;
        writing = each-passed (list-walk a.names.now) inside number_texts number_text number_more l.variable-index l.invariant.writing c.loop-variable-test.true (sym c.is_in.ensures ∙ w.if-is_in.false);
      })
    ]

pub closing-requires : goal.closing-requires
closing-requires c =
    let a = c.args in
    closing-fits (each-end (list-walk a.names.now) (is_in (as_sets words_each a.sets.now) (as_set a.set)) number_texts number_text number_more c.loop-variable.variable-index c.loop-variable.invariant.writing c.loop-variable-test.false) c.requires

pub returns-clause-wrote : goal.returns-clause-wrote
returns-clause-wrote c =
    let a = c.args in
    closing-done (each-end (list-walk a.names.now) (is_in (as_sets words_each a.sets.now) (as_set a.set)) number_texts number_text number_more c.loop-variable.variable-index c.loop-variable.invariant.writing c.loop-variable-test.false) c.closing.ensures.wrote
