-- `formula_lines::clauses::write_clause` meets its contract.
use mathlib.Core.Path.{refl, ◌∙◌}
use borrow.Author.Rules.{rules}
use lib.IntN.{pos}
use lib.ListN.{get_or}
use Rattle.dqbf.proofs.Laws.Signed.{kept16}
use Rattle.words.proofs.Laws.Listed.{clause-start, clause-fits, clause-next, clause-closes, clause-done}
use Rattle.formula_lines.proofs.clauses.write_clause.Goals as goal

pub loop-literal-init : goal.loop-literal-init
loop-literal-init c = record { loan = refl; writing = clause-start _ _ _ }

pub literal-requires : goal.literal-requires
literal-requires c =
    rw (kept16 {z = get_or c.args.clause.now c.loop-literal.literal-index (pos 0)} (search rules)) (clause-fits _ _ c.loop-literal.invariant.writing c.loop-literal-test.true c.requires)

pub loop-literal-preserved : goal.loop-literal-preserved
loop-literal-preserved c = record {
  loan = c.literal.ensures.loan ∙ c.loop-literal.invariant.loan;
  writing = clause-next _ _ c.loop-literal.invariant.writing c.loop-literal-test.true (rw (kept16 {z = get_or c.args.clause.now c.loop-literal.literal-index (pos 0)} (search rules)) at c.literal.ensures.wrote);
}

pub closing-requires : goal.closing-requires
closing-requires c = clause-closes _ _ c.loop-literal.invariant.writing c.loop-literal-test.false c.requires

pub returns-clause-wrote : goal.returns-clause-wrote
returns-clause-wrote c =
    clause-done _ _ c.loop-literal.invariant.writing c.loop-literal-test.false c.closing.ensures.wrote
