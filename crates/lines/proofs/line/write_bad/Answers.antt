-- `line::write_bad`: a word, the step, the number, and the variable where there is one.
use borrow.Author.Rules.{rules}
use Rattle.dqbf.specs.Bytes.{bytes}
use Rattle.lines.proofs.Laws.Lines.{wrote-plain, wrote-naming, room-two, room-three}
use Rattle.lines.proofs.line.write_bad.Goals as goal

pub write_word_numbers-requires : goal.write_word_numbers-requires
write_word_numbers-requires c = room-two c.requires (search rules) _ _ (search rules) (search rules)

pub write_word_numbers-requires-in-Some : goal.write_word_numbers-requires-in-Some
write_word_numbers-requires-in-Some c = room-three c.requires (search rules) _ _ _ (search rules) (search rules) (search rules)

pub returns-in-None : goal.returns-in-None
unfolding bytes
returns-in-None c = wrote-plain _ _ _ c.in-None.is c.write_word_numbers.ensures

pub returns-in-Some : goal.returns-in-Some
unfolding bytes
returns-in-Some c = wrote-naming _ _ _ c.in-Some.named c.in-Some.is c.write_word_numbers-in-Some.ensures
