use native.Mathlib.Omega.{arith}
use Rattle.tokens.proofs.text.place_in_block.Goals as goal

pub half_with-eight-requires : goal.half_with-eight-requires
half_with-eight-requires c = (omega arith, c.requires.1)

pub half_with-four-requires : goal.half_with-four-requires
half_with-four-requires c = (omega arith, c.half_with-eight.ensures.2)

pub half_with-two-requires : goal.half_with-two-requires
half_with-two-requires c = (omega arith, c.half_with-four.ensures.2)

pub half_with-requires : goal.half_with-requires
half_with-requires c = (omega arith, c.half_with-two.ensures.2)

pub returns : goal.returns
returns c =
    let less = c.half_with.ensures.2 in
    let e = c.half_with-eight.ensures.1 in
    let f = c.half_with-four.ensures.1 in
    let g = c.half_with-two.ensures.1 in
    let h = c.half_with.ensures.1 in omega arith
