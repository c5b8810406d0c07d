use lib.ListN.{length, drop}
use Rattle.tables.specs.Tables.{cut}
use Rattle.tables.specs.FormulaEntries.{Rises}
use Rattle.clause_masks.specs.Masking.{OverAll}
use Rattle.clause_masks.specs.Laid.{model_of}
use Rattle.clause_masks.proofs.Laws.Clauses.{Remains}
use Rattle.clause_masks.proofs.keep_clauses.Given as goal

abbrev pub invariant-loop-last : goal.invariant-loop-last
invariant-loop-last l =
    Rises l.start (drop l.last-index l.ends) (length l.literals) × OverAll (model_of l.layout) (cut l.start (drop l.last-index l.ends) l.literals)
    × Remains l.literals l.ends l.start l.last-index (model_of l.layout) (cut 0 l.ends l.literals) l.initial.left l.left
