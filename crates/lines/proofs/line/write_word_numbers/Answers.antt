-- `line::write_word_numbers`: the numbers with the line feed in the part behind the word.
use native.Mathlib.Omega.{arith}
use lib.ListN.{length-append}
use Rattle.dqbf.specs.Line.{spaced}
use Rattle.dqbf.proofs.Laws.Parts.{front-part}
use Rattle.lines.proofs.line.write_word_numbers.Goals as goal

pub returns : goal.returns
returns c =
    let v = c.write_numbers in
    let w = c.write_word-at in
    let X = c.args.word.now in
    let Y = spaced c.args.numbers.now in (
      omega (arith, w.ensures.0, v.ensures.0, length-append X Y),
      front-part w.new.out c.args.out.now X Y v.new.out w.result w.ensures.0 (omega (arith, c.requires)) w.ensures.1 v.ensures.1,
    )
