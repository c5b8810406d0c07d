-- `tables::formed::variable_fits` meets its contract.
use mathlib.Core.Path.{sym, ◌∙◌}
use Rattle.tables.proofs.Laws.Turns.{variable-high, variable-misplaced, variable-undeclared, variable-universal, variable-other}
use Rattle.tables.proofs.formed.variable_fits.Goals as goal

pub returns-then-kind-gt-FORK : goal.returns-then-kind-gt-FORK
returns-then-kind-gt-FORK c = sym (variable-high _ _ _ _ c.if-kind-gt-FORK.true)

pub returns-then-not-kind_stands : goal.returns-then-not-kind_stands
returns-then-not-kind_stands c = sym (variable-misplaced _ _ _ _ (sym c.kind_stands.ensures ∙ c.if-not-kind_stands.true))

pub returns-then-kind-eq-UNDECLARED : goal.returns-then-kind-eq-UNDECLARED
returns-then-kind-eq-UNDECLARED c = c.is_empty.ensures ∙ variable-undeclared _ _ _ _ c.if-kind-gt-FORK.false (sym c.kind_stands.ensures ∙ c.if-not-kind_stands.false) c.if-kind-eq-UNDECLARED.true

pub returns-then-kind-lt-EXISTENTIAL : goal.returns-then-kind-lt-EXISTENTIAL
returns-then-kind-lt-EXISTENTIAL c = sym (variable-universal _ _ _ _ c.if-kind-gt-FORK.false (sym c.kind_stands.ensures ∙ c.if-not-kind_stands.false) c.if-kind-eq-UNDECLARED.false c.if-kind-lt-EXISTENTIAL.true)

pub returns : goal.returns
returns c = c.inside.ensures ∙ variable-other _ _ _ _ c.if-kind-gt-FORK.false (sym c.kind_stands.ensures ∙ c.if-not-kind_stands.false) c.if-kind-lt-EXISTENTIAL.false
