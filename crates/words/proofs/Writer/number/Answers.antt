-- `Writer::number` meets its contract.
use mathlib.Core.Path.{sym}
use native.Mathlib.Omega.{arith}
use lib.Seq.{length-take-le}
use Rattle.dqbf.specs.Line.{digits_of}
use Rattle.dqbf.proofs.Laws.Digits.{digits-ten}
use Rattle.words.proofs.Laws.Laid.{front-word, front-inside, past_end}
use Rattle.words.proofs.Writer.number.Goals as goal

pub overflow_add-self : goal.overflow_add-self
overflow_add-self c = let f = c.requires in omega (arith, f.ends, c.digit_count.ensures)

pub returns-then-self-clause-wrote : goal.returns-then-self-clause-wrote
returns-then-self-clause-wrote c = past_end _ _ c.digit_count.ensures c.if-self.true

pub write_digits-count-requires : goal.write_digits-count-requires
write_digits-count-requires c = digits-ten c.args.n c.ranges.n.fits

pub slice_bounds-word-end : goal.slice_bounds-word-end
slice_bounds-word-end c =
    let n = c.args.n in
    let d = c.write_digits-count in
    front-inside (digits_of n) _ d.new.out d.result d.ensures.0 d.ensures.1

pub slice_bounds-word-end-2 : goal.slice_bounds-word-end-2
slice_bounds-word-end-2 c =
    let n = c.args.n in
    let d = c.write_digits-count in
    sym (length-take-le d.result d.new.out (front-inside (digits_of n) _ d.new.out d.result d.ensures.0 d.ensures.1))

pub word-requires : goal.word-requires
word-requires c =
    let d = c.write_digits-count in
    rw (front-word (digits_of c.args.n) _ d.new.out d.result d.ensures.0 d.ensures.1) c.requires

pub returns-clause-wrote : goal.returns-clause-wrote
returns-clause-wrote c =
    let n = c.args.n in
    let d = c.write_digits-count in
    rw (front-word (digits_of n) _ d.new.out d.result d.ensures.0 d.ensures.1) at c.word.ensures.wrote
