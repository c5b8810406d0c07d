use Rattle.std.proofs.Common.{◌≡◌, ◌∙◌, ◌||◌, Bool, eqb, false, arith}
use Rattle.std.specs.List.{fold}
use Rattle.std.proofs.lemmas.Grind.{common_steps}
use Rattle.tokens.proofs.Laws.Pieces.{before-any}
use Rattle.tokens.proofs.text.block_has.Goals as goal

pub returns : goal.returns
returns c =
    let f : c.fold.result ≡ fold (λ (t : Bool) x. t || eqb x c.args.b) false c.args.block.now = grind (arith, common_steps) in
    f ∙ before-any c.args.b c.args.block.now false
