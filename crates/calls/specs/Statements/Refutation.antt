-- DEMAND 3 in one piece (document 01, "The refutation statement"): one claim about the whole list of calls behind a load, of any length.
--
-- Tables of any length and contents are lent with any bytes to `load`, which accepts. Steps and runs with any bytes follow, each on tables and state as the
-- call before left them, refused calls included; questions, shown clauses, written formulas and other calls that write neither tables nor state may stand between. If a run among them answers
-- refuted, the text says a formula that no family makes true.
--
-- `load_of`, `step_of` and `run_of` are the outcomes that the contracts of `load`, `step` and `run` promise; `run_told` gives the verdict for each case of a run's
-- answer. Another load starts another list: `t` is any tables, those that other calls left too. Lent and `answers` stand in specs/Statements/Refutation.antt of
-- the crate `steps`, Call and its answers in dqbf, specs/Run.antt.
use Rattle.std.specs.Prelude.{◌≡◌, List, ℕ}
use Rattle.dqbf.specs.Literal.{◌∈◌}
use Rattle.dqbf.specs.Formula.{Formula}
use Rattle.dqbf.specs.Meaning.{Refuted}
use Rattle.dqbf.specs.Reading.{load, accepted}
use Rattle.dqbf.specs.Run.{refuted, Call, ran}
use Rattle.tables.specs.Tables.{Tables}
use Rattle.dqdimacs.specs.Loading.{Accepted, load_of}
use Rattle.steps.specs.Statements.Refutation.{Lent, answers}

-- tables and state behind a load
unfoldable pub loaded : Tables → List ℕ → Lent
loaded t text = record { tables = (load_of t text).tables; state = (load_of t text).state }

abbrev pub Refutation : Type 0
Refutation =
    (t : Tables) (text : List ℕ) → (load_of t text).answer ≡ Accepted
    → (calls : List Call) (steps clause : ℕ) → ran (refuted steps clause) ∈ answers (loaded t text) calls
    → (φ : Formula) × (load text ≡ accepted φ) × Refuted φ
