-- `writing::write_without`: what is written and what is left make the clause without the literal at the place.
use Prim.Native.Nat.{◌-◌}
use native.Mathlib.Omega.{arith}
use borrow.Author.Rules.{rules}
use lib.IntN.{pos}
use lib.ListN.{length}
use mathlib.Core.Path.{◌≡◌}
use mir.Syntax.{w16}
use mir.Facts.{to_z-of_z}
use Rattle.clauses.specs.Places.{but_at}
use Rattle.clauses.proofs.Laws.Places.{list-end, but-length, but-front, skipped-within}
use Rattle.clauses.proofs.Laws.Writing.{writing_start, writing_more, writing-done}
use Rattle.clauses.proofs.writing.write_without.Goals as goal

pub loop-i-init : goal.loop-i-init
loop-i-init c = writing_start _ _

pub bounds-clause-i : goal.bounds-clause-i
bounds-clause-i c = skipped-within c.args.clause.now c.args.place c.loop-i.i c.from.ensures (omega arith)

pub loop-i-preserved : goal.loop-i-preserved
loop-i-preserved c =
    let l = c.loop-i in
    let next = but-front c.args.clause.now c.args.place l.i c.from.ensures (pos 0) c.requires.0 (omega arith) in
    writing_more l.invariant (omega (arith, l.invariant.copied.same)) next (to_z-of_z {w = w16} (search rules))

pub returns : goal.returns
returns c =
    let clause = c.args.clause.now in
    let place = c.args.place in
    let all : c.loop-i.i ≡ length c.args.clause.now - 1 = omega arith in
    rw all at (writing-done c.loop-i.invariant (list-end (but_at place clause) c.loop-i.i (omega (arith, but-length clause place c.requires.0))))
