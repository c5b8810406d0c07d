-- `formula_text::is_short` meets its contract.
use mathlib.Core.Path.{◌∙◌, ap}
use native.Mathlib.Nat.{zero-add}
use lib.Dec.{ltb}
use Rattle.tables.specs.Tables.{tables_of}
use Rattle.formula_text.proofs.Laws.Outcomes.{long-is-enough}
use Rattle.formula_text.proofs.is_short.Goals as goal

pub returns-then-size-ge-TIDY_LIMIT : goal.returns-then-size-ge-TIDY_LIMIT
returns-then-size-ge-TIDY_LIMIT c =
    let a = c.args in
    long-is-enough (tables_of a.tables.now.literals.now a.tables.now.ends.now a.tables.now.sets.now a.tables.now.kinds.now) a.tables.now.state c.requires.0 c.requires.1 a.size c.if-size-ge-TIDY_LIMIT.true

pub write_text-needed-requires : goal.write_text-needed-requires
write_text-needed-requires c = c.requires

pub returns : goal.returns
returns c =
    let size = c.args.size in
    ap (ltb size) (c.write_text-needed.ensures.next ∙ zero-add _)
