-- DEMAND 3 for the driver's buffers (document 01, "The refutation statement": "The same is claimed of a list of the driver's calls over its buffers").
--
-- Whatever the buffers hold, if the first field of a load's result is 1, the text is a formula's; and for every list of the driver's calls after it, each getting
-- the buffers as the load or the call before left them, if the first field of a run's result is 1, no family makes the formula true. `load_bytes` and `run_bytes`
-- (specs/Calls.antt) are what the contracts of `kefthrun_load` and `kefthrun_run` promise. Calls that write neither buffers of
-- tables nor the state (questions, shown clauses, a written formula) may stand between.
use Rattle.std.specs.Prelude.{◌≡◌, List, [], ◌∷◌, ℕ}
use Rattle.dqbf.specs.Literal.{◌∈◌}
use Rattle.dqbf.specs.Formula.{Formula}
use Rattle.dqbf.specs.Meaning.{Refuted}
use Rattle.dqbf.specs.Reading.{load, accepted}
use Rattle.buffers.specs.Buffers.{Buffers}
use Rattle.results.specs.Results.{field}
use Rattle.exports.specs.Calls.{load_bytes, run_bytes}

-- a run with any bytes; a call that writes neither tables nor state
pub data Call : Type 0 where
  run_call : List ℕ → Call
  other_call : Call

unfoldable pub next : Buffers → Call → Buffers
next b (run_call records) = (run_bytes b records).buffers
next b other_call = b

-- what the runs of a list of calls return
unfoldable pub run_results : Buffers → List Call → List ℕ
run_results b [] = []
run_results b (run_call records ∷ calls) = (run_bytes b records).result ∷ run_results (next b (run_call records)) calls
run_results b (other_call ∷ calls) = run_results b calls

abbrev pub Refutation : Type 0
Refutation =
    (b : Buffers) (text : List ℕ) → field 0 (load_bytes b text).result ≡ 1
    → (φ : Formula) × (load text ≡ accepted φ)
    × ((calls : List Call) (r : ℕ) → r ∈ run_results (load_bytes b text).buffers calls → field 0 r ≡ 1 → Refuted φ)
