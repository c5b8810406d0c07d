-- Two valid models have the same text exactly if V, kinds, set words and clauses agree (specs/Statements/Exact.antt), however long the text is:
-- the text is read back without the limit on its length.
use mathlib.Core.Path.{◌≡◌, refl, sym, ◌∙◌, ap}
use mathlib.Core.List.{List}
use Prim.Native.Nat.{ℕ}
use Rattle.dqbf.specs.Limits.{tables}
use Rattle.dqbf.specs.Text.{line_feed, pieces}
use Rattle.dqbf.specs.Reading.{start, read_from}
use Rattle.dqbf.specs.Model.{Model, model_of}
use Rattle.dqbf.specs.Valid.{Valid}
use Rattle.dqbf.specs.Rules.{add}
use Rattle.dqbf.specs.Spelled.{formula_part, lines_of, spelled, formula_of}
use Rattle.dqbf.specs.Spelling.{text}
use Rattle.dqbf.specs.Statements.Exact.{Exact, SameFormula, StepsUnwritten}
use Rattle.dqbf.proofs.Reading.Lines.{accepted-same}
use Rattle.dqbf.proofs.ReadsBack.{reads-back}

same_text : (m m' : Model) → Valid tables m → Valid tables m' → spelled m ≡ spelled m' → formula_part m ≡ formula_part m'
same_text m m' v w e =
    let r = reads-back m v in
    let s = reads-back m' w in
    let φ = formula_of (formula_part m) in
    let ψ = formula_of (formula_part m') in
    sym r.1 ∙ ap model_of (accepted-same φ ψ (sym r.0 ∙ ap (λ (t : List ℕ). read_from (pieces line_feed t) 0 start) e ∙ s.0)) ∙ s.1

part_same : (m m' : Model) → formula_part m ≡ formula_part m' → SameFormula m m'
unfolding formula_part
part_same m m' e = record { kinds = ap (λ (n : Model). n.kinds) e; sets = ap (λ (n : Model). n.sets) e; clauses = ap (λ (n : Model). n.formula) e }

same-part : (m m' : Model) → SameFormula m m' → formula_part m ≡ formula_part m'
unfolding formula_part
same-part m m' s = rw (s.kinds, s.sets, s.clauses)

pub steps-unwritten : StepsUnwritten
unfolding spelled formula_part add
steps-unwritten m a = refl

pub exact : Exact
unfolding spelled
exact m m' v w = (λ e. part_same m m' (same_text m m' v w e), λ s. ap (λ (p : Model). text (lines_of p)) (same-part m m' s))
