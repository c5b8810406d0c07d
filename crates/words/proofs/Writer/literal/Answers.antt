-- `Writer::literal` meets its contract.
use mathlib.Core.List.{[], ◌∷◌}
use Rattle.dqbf.specs.Text.{minus}
use Rattle.dqbf.specs.Line.{digits_of}
use Rattle.words.proofs.Laws.Laid.{fits-first, fits-second, wrote-both}
use Rattle.words.proofs.Laws.Words.{with_space, negative-text, positive-text}
use Rattle.words.proofs.Writer.literal.Goals as goal

pub byte-requires : goal.byte-requires
byte-requires c =
    fits-first (minus ∷ []) (with_space (digits_of c.variable_of-variable.result)) (rw (negative-text c.args.literal c.ranges.literal c.variable_of-variable.ensures c.if-literal-lt0.true) at c.requires)

pub spaced-requires : goal.spaced-requires
spaced-requires c =
    fits-second (minus ∷ []) (with_space (digits_of c.variable_of-variable.result)) c.byte.ensures.wrote (rw (negative-text c.args.literal c.ranges.literal c.variable_of-variable.ensures c.if-literal-lt0.true) at c.requires)

pub returns-then-literal-lt0-clause-wrote : goal.returns-then-literal-lt0-clause-wrote
returns-then-literal-lt0-clause-wrote c =
    rw (negative-text c.args.literal c.ranges.literal c.variable_of-variable.ensures c.if-literal-lt0.true) (wrote-both c.byte.ensures.wrote c.spaced.ensures.wrote)

pub spaced-requires-2 : goal.spaced-requires-2
spaced-requires-2 c =
    rw (positive-text c.args.literal c.ranges.literal c.variable_of-variable.ensures c.if-literal-lt0.false) at c.requires

pub returns-clause-wrote : goal.returns-clause-wrote
returns-clause-wrote c =
    rw (positive-text c.args.literal c.ranges.literal c.variable_of-variable.ensures c.if-literal-lt0.false) c.spaced-2.ensures.wrote
