use mathlib.Core.Path.{sym, ◌∙◌}
use native.Mathlib.Omega.{arith}
use Rattle.tokens.proofs.Laws.Pieces.{line-passed, line-behind, line-is}
use Rattle.tokens.proofs.text.line_length.Goals as goal

pub overflow_add-result : goal.overflow_add-result
overflow_add-result c =
    let passed = c.blocks_before-passed in
    omega (arith, line-behind c.args.text.now passed.result c.length_before.result passed.ensures.0 c.length_before.ensures)

pub returns-then-text-passed-lt16 : goal.returns-then-text-passed-lt16
returns-then-text-passed-lt16 c =
    let passed = c.blocks_before-passed in
    line-passed c.args.text.now passed.result c.length_before.result passed.ensures.1 c.length_before.ensures

pub place_in_block-requires : goal.place_in_block-requires
place_in_block-requires c = (omega arith, c.blocks_before-passed.ensures.2 (omega arith))

pub returns-else-text-passed-lt16 : goal.returns-else-text-passed-lt16
returns-else-text-passed-lt16 c = c.place_in_block.ensures ∙ sym c.blocks_before-passed.ensures.1 ∙ line-is c.args.text.now
