use Rattle.std.proofs.Common.{◌≡◌, ◌∙◌, ◌/◌, eqb, not, ℕ, rules}
use borrow.Author.Tests.{tests}
use Rattle.std.specs.List.{list_all}
use Rattle.std.proofs.lemmas.Iterator.{YieldsList-from_slice}
use Rattle.std.proofs.lemmas.Iterator.Search.{all_from_yields_List}
use Rattle.tables.specs.Tables.{entry}
use Rattle.clause_lines.proofs.Laws.ClauseLines.{declared-each}
use Rattle.clause_lines.proofs.clause.all_declared.Goals as goal

pub returns : goal.returns
returns c =
    let test = λ (x : ℕ). not (eqb (entry c.args.kinds.now (x / 2)) 0) in
    let found : c.all.result ≡ list_all test c.args.ranks.now =
    all_from_yields_List test _ _ c.all.result c.all.ensures.ran (YieldsList-from_slice c.args.ranks.now cc) (λ x b q k. search (rules, tests)) in
    found ∙ declared-each c.args.kinds.now c.args.ranks.now
