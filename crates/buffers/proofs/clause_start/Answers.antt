-- `buffers::clause_start` meets its contract.
use Rattle.std.proofs.Common.{arith, ◌∙◌, ◌≡◌, slice_index_or}
use Rattle.std.proofs.lemmas.Grind.{common_steps}
use Rattle.buffers.proofs.Laws.{start_first, start-at}
use Rattle.buffers.proofs.clause_start.Goals as goal

pub returns-in_default : goal.returns-in_default
returns-in_default c = start_first c.args.ends.now c.args.clause (grind (arith, common_steps))

pub returns : goal.returns
returns c =
    let read : c.unwrap_or.result ≡ slice_index_or c.args.ends.now c.in-Some.place 0 = grind (arith, common_steps) in
    read ∙ start-at c.args.ends.now c.args.clause c.in-Some.place (grind (arith, common_steps)) (grind (arith, common_steps))
