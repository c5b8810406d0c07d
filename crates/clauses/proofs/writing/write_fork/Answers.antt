use borrow.Author.Rules.{rules}
use native.Mathlib.Omega.{arith}
use lib.ListN.{length-append}
use mir.Syntax.{w16}
use mathlib.Core.Path.{◌≡◌}
use mir.Val.{to_z, of_z}
use mir.Facts.{to_z-of_z}
use lib.IntN.{pos, ◌-ℤ◌, neg_ℤ}
use Rattle.std.proofs.lemmas.Int.{ints}
use Rattle.clauses.proofs.Laws.Writing.{written_behind, tail-room}
use mathlib.Core.List.{[], ◌∷◌}
use Rattle.dqbf.specs.Literal.{pick}
use Rattle.clauses.proofs.writing.write_fork.Goals as goal

pub offset_bounds-tail-count : goal.offset_bounds-tail-count
offset_bounds-tail-count c =
    let first = simp length-append at c.write_part-count.ensures.count in
    search rules

pub slice_bounds-write_part-count : goal.slice_bounds-write_part-count
slice_bounds-write_part-count c =
    let first = simp length-append at c.write_part-count.ensures.count in
    search rules

pub slice_bounds-write_part-start : goal.slice_bounds-write_part-start
slice_bounds-write_part-start c =
    let first = simp length-append at c.write_part-count.ensures.count in
    search rules

pub write_part-requires : goal.write_part-requires
write_part-requires c =
    let first = simp length-append at c.write_part-count.ensures.count in
    (c.requires.0, tail-room c.write_part-count.new.tail c.write_part-count.result (omega arith))

pub overflow_add-result : goal.overflow_add-result
overflow_add-result c =
    let first = simp length-append at c.write_part-count.ensures.count in
    let second = simp length-append at c.write_part.ensures.count in
    search rules

pub returns : goal.returns
returns c =
    let v = to_z-of_z c.ranges.variable in
    let left = rw v at c.write_part-count.ensures in
    let negated : to_z w16 (of_z w16 (pos 0 -ℤ to_z w16 (of_z w16 c.args.variable))) ≡ neg_ℤ c.args.variable = omega (arith, ints) in
    let right = rw negated at c.write_part.ensures in
    written_behind left (omega (arith, length-append (pick c.args.left c.args.clause.now) (c.args.variable ∷ []))) right
