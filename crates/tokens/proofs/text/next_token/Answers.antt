use native.Mathlib.Omega.{arith}
use Rattle.tokens.proofs.Laws.Pieces.{token_begins, token-ends, token-cut}
use Rattle.tokens.proofs.text.next_token.Goals as goal

pub returns : goal.returns
returns c = token-cut c.args.line.now c.args.i c.leading_spaces.result c.requires c.leading_spaces.ensures c.length_before.result c.length_before.ensures

pub overflow_add-from : goal.overflow_add-from
overflow_add-from c = omega (arith, token_begins c.args.line.now c.args.i c.leading_spaces.result c.requires c.leading_spaces.ensures)

pub slice_bounds-length_before-count : goal.slice_bounds-length_before-count
slice_bounds-length_before-count c = omega (arith, token_begins c.args.line.now c.args.i c.leading_spaces.result c.requires c.leading_spaces.ensures)

pub slice_bounds-length_before-start : goal.slice_bounds-length_before-start
slice_bounds-length_before-start c = omega (arith, token_begins c.args.line.now c.args.i c.leading_spaces.result c.requires c.leading_spaces.ensures)

pub overflow_add-to : goal.overflow_add-to
overflow_add-to c = omega (arith, token-ends c.args.line.now c.args.i c.leading_spaces.result c.requires c.leading_spaces.ensures c.length_before.result c.length_before.ensures)
