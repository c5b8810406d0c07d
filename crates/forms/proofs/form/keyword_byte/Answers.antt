use mathlib.Core.Path.{sym, ◌∙◌}
use Rattle.std.proofs.Common.{length, get_or}
use borrow.Author.Tests.{eqb-true, eqb-false}
use Rattle.dqbf.specs.Text.{space}
use Rattle.forms.proofs.Laws.Forms.{keyword-one, keyword-longer, keyword-spaced}
use Rattle.forms.proofs.form.keyword_byte.Goals as goal
use Rattle.forms.proofs.form.keyword_byte.Goals.{then-line-eq1, else-line-eq1}

pub returns-then-line-eq32 : goal.returns-then-line-eq32
returns-then-line-eq32 c =
    elim c.if-line-eq1.branch [
      | then-line-eq1 w ↦ keyword-one c.args.line.now w.if-line-eq1.true
      | else-line-eq1 w ↦ keyword-spaced c.args.line.now (eqb-true (get_or c.args.line.now 1 0) space (sym w.value-is ∙ c.if-line-eq32.true))
    ]

pub returns-else-line-eq32 : goal.returns-else-line-eq32
returns-else-line-eq32 c =
    elim c.if-line-eq1.branch [
      | then-line-eq1 w ↦ absurd (eqb-false (length c.args.line.now) 1 (sym w.value-is ∙ c.if-line-eq32.false) w.if-line-eq1.true)
      | else-line-eq1 w ↦ keyword-longer c.args.line.now w.if-line-eq1.false (eqb-false (get_or c.args.line.now 1 0) space (sym w.value-is ∙ c.if-line-eq32.false))
    ]
