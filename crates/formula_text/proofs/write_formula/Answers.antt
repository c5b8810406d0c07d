-- `formula_text::write_formula` meets its contract.
use Rattle.std.proofs.lemmas.Result.{err_from_is_err_and}
use Rattle.formula_text.proofs.Laws.Outcomes.{write-refused, formed-asks, write-short, write_done}
use Rattle.formula_text.proofs.write_formula.Goals as goal

pub returns-in_err-usable : goal.returns-in_err-usable
returns-in_err-usable c =
    let p = err_from_is_err_and c.from_residual.result c.from_residual.ensures.1 in
    rw (p.1, p.2) (write-refused _ _ _ c.in_err-usable.ensures)

pub is_short-requires : goal.is_short-requires
is_short-requires c = formed-asks _ _ c.args.out.now c.in_ok-usable.ensures

pub returns-then-is_short : goal.returns-then-is_short
returns-then-is_short c = write-short _ _ _ c.in_ok-usable.ensures c.is_short.ensures c.if-is_short.true

pub write_text-requires : goal.write_text-requires
write_text-requires c = formed-asks _ _ c.args.out.now c.in_ok-usable.ensures

pub returns : goal.returns
returns c = write_done _ _ _ c.in_ok-usable.ensures c.is_short.ensures c.if-is_short.false c.write_text.ensures
