-- The functions of the fork variables (document 02, request 12, over places): a fork variable is true on a setting if some setting of all universals that
-- agrees with it on the variable's set makes the left part false (`fork`, proofs/Soundness/Forks.antt; `fork-is` of proofs/Soundness/Rules.antt). Under
-- functions that make the formula true, and these, taken in the order of the forks, every clause is true after any list of calls.
use mathlib.Core.List.{List}
use mathlib.Core.Path.{◌≡◌}
use mathlib.Core.Logic.{◌≢◌}
use Prim.Native.Nat.{ℕ}
use Rattle.dqbf.specs.Run.{Call}
use Rattle.dqbf.specs.Model.{Model}
use Rattle.dqbf.specs.Limits.{Room}
use Rattle.dqbf.specs.Statements.RuleIff.{reached}
use Rattle.dqbf.proofs.Soundness.Places.{Formula, Functions, Family, True, undeclared}
use Rattle.dqbf.proofs.Soundness.View.{Good, view}
use Rattle.dqbf.proofs.Soundness.Moves.{Move}
use Rattle.dqbf.proofs.Soundness.Forks.{extend_all}
use Rattle.dqbf.proofs.Soundness.Rules.{given-still, keeps-all}
use Rattle.dqbf.proofs.Soundness.Steps.{reached-to}

-- what the moves behind a list of calls are, and what they keep
pub record Extended {n : ℕ} (Φ Ψ : Formula n) (f : Functions n) : Type 0 where
  pub moves : List Move
  pub family : Family Ψ.var (extend_all Φ moves f)
  pub makes-true : True Ψ (extend_all Φ moves f)
  pub given : (v : ℕ) → Φ.var v ≢ undeclared → extend_all Φ moves f v ≡ f v

pub fork-functions : (n : ℕ) (room : Room) (m : Model) → Good n m → (calls : List Call) (f : Functions n) → Family (view n m).var f → True (view n m) f
    → Extended (view n m) (view n (reached room m calls)) f
fork-functions n room m g calls f F H =
    let t = (reached-to n room m g calls).1 in
    let k = keeps-all (view n m) t.0 t.1 f F H in
    record { moves = t.0; family = rw t.2 k.0; makes-true = rw t.2 k.1; given = given-still (view n m) t.0 t.1 f }
