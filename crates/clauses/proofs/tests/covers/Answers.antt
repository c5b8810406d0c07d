use mathlib.Core.Path.{sym}
use lib.Pow.{pow_pos}
use Rattle.clauses.proofs.Laws.Clauses.{covers-bits, shifted}
use Rattle.clauses.proofs.tests.covers.Goals as goal

pub overflow_sub-every : goal.overflow_sub-every
overflow_sub-every c = rw (shifted _ c.requires) (pow_pos _)

pub returns : goal.returns
returns c = rw (shifted _ c.requires, c.from.ensures) (sym (covers-bits _ _ _))
