use borrow.Author.Rules.{rules}
use lib.IntN.{pos}
use lib.ListN.{get_or}
use mir.Facts.{to_z-of_z}
use Rattle.std.specs.Prelude.{None}
use Rattle.clauses.proofs.Laws.Literals.{bits-same}
use Rattle.clauses.proofs.Laws.Clauses.{Found, place-here, place-found}
use Rattle.clauses.proofs.tests.place_of.Goals as goal

pub returns-then-l-literal : goal.returns-then-l-literal
returns-then-l-literal c =
    let none = rw (to_z-of_z c.ranges.literal) at c.loop-i.invariant in
    place-here c.args.literal c.args.clause.now c.loop-i.i c.loop-i-test.true (rw (to_z-of_z c.ranges.literal) at (bits-same {e = get_or c.args.clause.now c.loop-i.i (pos 0)} (search rules) c.if-l-literal.true)) none

pub returns : goal.returns
returns c =
    let found : Found c.args.literal c.args.clause.now None = search rules in
    place-found c.args.literal c.args.clause.now None found
