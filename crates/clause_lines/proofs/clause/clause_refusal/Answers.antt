use mathlib.Core.Path.{sym}
use lib.Seq.{take-length}
use Rattle.clause_lines.proofs.Laws.ClauseLines.{r-many, r-undeclared, r-clash, r-count, r-none}
use Rattle.clause_lines.proofs.clause.clause_refusal.Goals as goal

pub returns-then-lent-ranks-gt-LITERAL_LIMIT : goal.returns-then-lent-ranks-gt-LITERAL_LIMIT
returns-then-lent-ranks-gt-LITERAL_LIMIT c = let s = c.args in sym (r-many s.ranks.now _ _ s.lent.now.kinds.now c.requires.0 c.if-lent-ranks-gt-LITERAL_LIMIT.true)

pub returns-then-not-all_declared : goal.returns-then-not-all_declared
returns-then-not-all_declared c = let s = c.args in sym (r-undeclared s.ranks.now _ _ s.lent.now.kinds.now c.requires.0 c.if-lent-ranks-gt-LITERAL_LIMIT.false (rw (take-length s.ranks.now) (sym c.if-not-all_declared.ensures)))

pub returns-then-has_pair : goal.returns-then-has_pair
returns-then-has_pair c =
    let s = c.args in
    sym (r-clash s.ranks.now _ _ s.lent.now.kinds.now c.requires.0 c.if-lent-ranks-gt-LITERAL_LIMIT.false (rw (take-length s.ranks.now) (sym c.if-not-all_declared.ensures)) (rw (take-length s.ranks.now) (sym c.if-has_pair.ensures)))

pub returns-then-lent-progress : goal.returns-then-lent-progress
returns-then-lent-progress c =
    let s = c.args in
    sym (r-count s.ranks.now _ _ s.lent.now.kinds.now c.requires.0 c.if-lent-ranks-gt-LITERAL_LIMIT.false (rw (take-length s.ranks.now) (sym c.if-not-all_declared.ensures)) (rw (take-length s.ranks.now) (sym c.if-has_pair.ensures)) c.if-lent-progress.true)

pub returns : goal.returns
returns c =
    let s = c.args in
    sym (r-none s.ranks.now _ _ s.lent.now.kinds.now c.requires.0 c.if-lent-ranks-gt-LITERAL_LIMIT.false (rw (take-length s.ranks.now) (sym c.if-not-all_declared.ensures)) (rw (take-length s.ranks.now) (sym c.if-has_pair.ensures)) c.if-lent-progress.false)
