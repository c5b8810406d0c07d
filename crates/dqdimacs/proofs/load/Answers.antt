use mathlib.Core.Path.{sym}
use Rattle.prefix_lines.proofs.Laws.Reading.{long-kept}
use Rattle.texts.proofs.Laws.Texts.{default-zero}
use Rattle.dqdimacs.proofs.Laws.Loading.{load-short, load-over, load-refused, load-accepted, lent-cleared, cleared-again}
use Rattle.dqdimacs.proofs.load.Goals as goal

pub returns-then-not-is_long-clause-after : goal.returns-then-not-is_long-clause-after
returns-then-not-is_long-clause-after c =
    let short = rw c.view.ensures.tables at c.if-not-is_long.ensures in
    load-short _ _ (sym short) (default-zero {s = c.default-tables.result} c.default-tables.ensures)

pub returns-then-text-gt-TEXT_LIMIT-clause-after : goal.returns-then-text-gt-TEXT_LIMIT-clause-after
returns-then-text-gt-TEXT_LIMIT-clause-after c =
    let long = rw c.view.ensures.tables at c.if-not-is_long.ensures in
    load-over _ _ (sym long) c.clear.ensures.tables c.if-text-gt-TEXT_LIMIT.true c.clear.ensures.state

pub read_lines-requires : goal.read_lines-requires
read_lines-requires c =
    let long = rw c.view.ensures.tables at c.if-not-is_long.ensures in
    (c.if-text-gt-TEXT_LIMIT.false, lent-cleared _ c.args.text.now (sym long) c.clear.ensures.tables, cleared-again _ c.args.text.now (sym long) c.clear.ensures.tables)

pub clear-requires-in-Err : goal.clear-requires-in-Err
clear-requires-in-Err c =
    let long = rw c.view.ensures.tables at c.if-not-is_long.ensures in
    long-kept _ c.read_lines.ensures.room (lent-cleared _ c.args.text.now (sym long) c.clear.ensures.tables)

pub returns-in-Err-clause-after : goal.returns-in-Err-clause-after
returns-in-Err-clause-after c =
    let long = rw c.view.ensures.tables at c.if-not-is_long.ensures in
    load-refused _ _ (sym long) c.clear.ensures.tables c.if-text-gt-TEXT_LIMIT.false c.read_lines.ensures.read c.in-Err.refusal c.in-Err.is c.clear-in-Err.ensures.tables c.clear-in-Err.ensures.state

pub returns-clause-after : goal.returns-clause-after
returns-clause-after c =
    let long = rw c.view.ensures.tables at c.if-not-is_long.ensures in
    load-accepted _ _ (sym long) c.clear.ensures.tables c.if-text-gt-TEXT_LIMIT.false c.read_lines.ensures.read c.in_default.is
