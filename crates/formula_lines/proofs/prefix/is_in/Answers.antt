-- `formula_lines::prefix::is_in` meets its contract.
use mathlib.Core.Path.{◌∙◌, ap}
use Rattle.dqbf.specs.Set.{inside}
use Rattle.sets.specs.Words.{as_set}
use Rattle.formula_lines.specs.Working.{is_in}
use Rattle.formula_lines.proofs.prefix.is_in.Goals as goal

pub returns : goal.returns
unfolding is_in
returns c = c.inside.ensures ∙ ap (λ own. inside own (as_set c.args.set)) c.set_of-own.ensures
