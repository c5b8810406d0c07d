use Rattle.std.proofs.Common.{◌≡◌, ◌∙◌, ap, eqb, not, ℕ, length, rules}
use borrow.Author.Tests.{tests}
use Rattle.std.specs.List.{position}
use Rattle.std.specs.Option.{unwrap_or}
use Rattle.std.proofs.lemmas.Iterator.{YieldsList-from_slice}
use Rattle.std.proofs.lemmas.Iterator.Search.{position_from_yields_List}
use Rattle.dqbf.specs.Text.{space}
use Rattle.tokens.proofs.Laws.Pieces.{leading-first}
use Rattle.tokens.proofs.text.leading_spaces.Goals as goal

pub returns : goal.returns
returns c =
    let test = λ (x : ℕ). not (eqb x space) in
    let found : c.position.result ≡ position test c.args.bytes.now =
    position_from_yields_List test _ _ c.position.result c.position.ensures.ran (YieldsList-from_slice c.args.bytes.now cc) (λ x b q k. search (rules, tests)) in
    c.unwrap_or.ensures ∙ ap (λ o. unwrap_or o (length c.args.bytes.now)) found ∙ leading-first space c.args.bytes.now
