use Rattle.std.proofs.Common.{◌≡◌, ◌∙◌, ap, eqb, ℕ, length, rules}
use borrow.Author.Tests.{tests}
use Rattle.std.specs.List.{position}
use Rattle.std.specs.Option.{unwrap_or}
use Rattle.std.proofs.lemmas.Iterator.{YieldsList-from_slice}
use Rattle.std.proofs.lemmas.Iterator.Search.{position_from_yields_List}
use Rattle.tokens.proofs.Laws.Pieces.{before-first}
use Rattle.tokens.proofs.text.length_before.Goals as goal

pub returns : goal.returns
returns c =
    let test = λ (x : ℕ). eqb x c.args.b in
    let found : c.position.result ≡ position test c.args.bytes.now =
    position_from_yields_List test _ _ c.position.result c.position.ensures.ran (YieldsList-from_slice c.args.bytes.now cc) (λ x b q k. search (rules, tests)) in
    c.unwrap_or.ensures ∙ ap (λ o. unwrap_or o (length c.args.bytes.now)) found ∙ before-first c.args.b c.args.bytes.now
