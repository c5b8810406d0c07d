use mathlib.Core.Path.{refl, ◌∙◌}
use native.Mathlib.Omega.{arith}
use Rattle.tables.proofs.Laws.Lent.{same-loans, loans-then}
use Rattle.prefix_lines.proofs.Laws.Reading.{same-room, room-then}
use Rattle.prefix_lines.proofs.Laws.Declaring.{all_start, all-next, all-refused, all_done}
use Rattle.prefix_lines.proofs.declarations.declare_all.Goals as goal

pub loop-variable-init : goal.loop-variable-init
loop-variable-init c = record {
  loans = same-loans _;
  rest = (refl, refl);
  room = same-room _;
  bound = refl;
  more = omega arith;
  few = c.requires.4;
  read = λ t r p h inside. all_start c.args.universal c.args.variables.now t r inside h;
}

pub returns-in-Err-clause-read : goal.returns-in-Err-clause-read
returns-in-Err-clause-read c =
    λ t r q h inside. all-refused _ _ t r c.loop-variable.variable-index c.loop-variable-test.true (c.loop-variable.invariant.read t r q h inside) (λ r'. c.declare_one.ensures.read t r' q) (rw c.in-Err.is)

pub loop-variable-preserved : goal.loop-variable-preserved
loop-variable-preserved c =
    let i = c.loop-variable.invariant in
    let d = c.declare_one.ensures in
    record {
      loans = loans-then i.loans d.loans;
      rest = (d.rest.0 ∙ i.rest.0, d.rest.1 ∙ i.rest.1);
      room = room-then i.room d.room;
      bound = d.counts.bound ∙ i.bound;
      more = omega (arith, d.counts.universals, i.more);
      few = d.counts.few;
      read = λ t r p h inside. all-next _ _ t r c.loop-variable.variable-index c.loop-variable-test.true (i.read t r p h inside) (λ r'. d.read t r' p) (rw c.in_default.is);
    }

pub returns-clause-read : goal.returns-clause-read
returns-clause-read c = λ t r p h inside. all_done _ _ t r c.loop-variable.variable-index (omega (arith, c.loop-variable-test.false)) (c.loop-variable.invariant.read t r p h inside)
