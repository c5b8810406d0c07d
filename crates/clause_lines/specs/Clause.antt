-- The tests of a clause line behind its place in the text (document 01, "Formula text"), over its sorted ranks: the order is that of the calculus' `line_tests`
-- (dqbf, specs/Reading.antt).
-- Offers `clause_refusal`.
use Rattle.std.specs.Prelude.{cond, not, List, ℕ, ◌+◌, leb, ltb, take}
use Rattle.std.proofs.Math.Option.{Option, none, some}
use Rattle.dqbf.specs.Limits.{width_limit, literal_limit}
use Rattle.dqbf.specs.Refusal.{Refusal, refusal}
use Rattle.tables.specs.WellFormed.{all_of}
use Rattle.ranks.specs.Ranks.{side_by_side}
use Rattle.prefix_lines.specs.Rows.{is_declared}
use Rattle.prefix_lines.specs.Lines.{Carried}

-- the first test that the clause of the first w ranks fails, none where it passes
unfoldable pub clause_refusal : List ℕ → ℕ → Carried → List ℕ → Option Refusal
clause_refusal ranks w p kinds =
    cond (ltb width_limit w) (some (refusal 11))
    (cond (ltb literal_limit (p.state.literals + w)) (some (refusal 11))
    (cond (not (all_of (is_declared (take p.state.bound.0 kinds)) (take w ranks))) (some (refusal 12))
    (cond (side_by_side (take w ranks)) (some (refusal 13))
    (cond (leb p.count p.state.clauses.0) (some (refusal 14)) none))))
