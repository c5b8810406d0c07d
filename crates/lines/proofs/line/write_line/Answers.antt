-- `line::write_line`: each case writes its word and its numbers.
use mathlib.Core.Path.{ap}
use Rattle.dqbf.specs.Bytes.{bytes}
use Rattle.dqbf.specs.Line.{verdict_line, formula_line}
use Rattle.lines.specs.Lines.{line_of}
use Rattle.lines.specs.declared.line.Verdict.TheVariants.{Refuted, Open, Bad, Formula}
use Rattle.lines.proofs.Laws.Lines.{too_short, wrote, room-one, room-two}
use borrow.Author.Rules.{rules}
use Rattle.lines.proofs.line.write_line.Goals as goal

pub returns-then-out-lt-LINE_SIZE : goal.returns-then-out-lt-LINE_SIZE
returns-then-out-lt-LINE_SIZE c = too_short (line_of c.args.verdict) c.args.out.now c.if-out-lt-LINE_SIZE.true

pub write_word_numbers-requires : goal.write_word_numbers-requires
write_word_numbers-requires c = room-two c.if-out-lt-LINE_SIZE.false (search rules) _ _ (search rules) (search rules)

pub write_word_numbers-requires-in-Open : goal.write_word_numbers-requires-in-Open
write_word_numbers-requires-in-Open c = room-one c.if-out-lt-LINE_SIZE.false (search rules) _ (search rules)

pub write_word_numbers-requires-in-Formula : goal.write_word_numbers-requires-in-Formula
write_word_numbers-requires-in-Formula c = room-two c.if-out-lt-LINE_SIZE.false (search rules) _ _ (search rules) (search rules)

pub returns-in-Refuted : goal.returns-in-Refuted
unfolding line_of verdict_line formula_line bytes
returns-in-Refuted c =
    let w = c.write_word_numbers in
    let g = c.in-Refuted in
    let room = c.if-out-lt-LINE_SIZE.false in
    wrote (line_of c.args.verdict) c.args.out.now w.new.out (line_of (Refuted g.steps g.clause)) w.result room (ap line_of g.is) w.ensures.0 w.ensures.1

pub returns-in-Open : goal.returns-in-Open
unfolding line_of verdict_line formula_line bytes
returns-in-Open c =
    let w = c.write_word_numbers-in-Open in
    let g = c.in-Open in
    let room = c.if-out-lt-LINE_SIZE.false in
    wrote (line_of c.args.verdict) c.args.out.now w.new.out (line_of (Open g.steps)) w.result room (ap line_of g.is) w.ensures.0 w.ensures.1

pub returns-in-Bad : goal.returns-in-Bad
unfolding line_of verdict_line formula_line bytes
returns-in-Bad c =
    let w = c.write_bad in
    let g = c.in-Bad in
    let room = c.if-out-lt-LINE_SIZE.false in
    wrote (line_of c.args.verdict) c.args.out.now w.new.out (line_of (Bad g.step g.number g.variable)) w.result room (ap line_of g.is) w.ensures.0 w.ensures.1

pub returns-in-Formula : goal.returns-in-Formula
unfolding line_of verdict_line formula_line bytes
returns-in-Formula c =
    let w = c.write_word_numbers-in-Formula in
    let g = c.in-Formula in
    let room = c.if-out-lt-LINE_SIZE.false in
    wrote (line_of c.args.verdict) c.args.out.now w.new.out (line_of (Formula g.line g.number)) w.result room (ap line_of g.is) w.ensures.0 w.ensures.1
