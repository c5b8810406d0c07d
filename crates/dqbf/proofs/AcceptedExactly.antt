-- After any calls from an accepted load a record is accepted exactly if the published rule permits it within the limits.
use mathlib.Core.List.{List, [], ◌∷◌}
use Rattle.dqbf.specs.Limits.{Room, tables}
use Rattle.dqbf.specs.Model.{Model, model_of}
use Rattle.dqbf.specs.Run.{Call, next}
use Rattle.dqbf.specs.Valid.{Valid}
use Rattle.dqbf.specs.Statements.RuleIff.{AcceptedExactly, reached_by, reached}
use Rattle.dqbf.proofs.StepsKeepValid.{call-keeps}
use Rattle.dqbf.proofs.RuleIff.{rule-iff}
use Rattle.dqbf.proofs.LoadValid.{load-valid}

pub reached-valid : (room : Room) (m : Model) → Valid room m → (cs : List Call) → Valid room (reached room m cs)
unfolding reached_by
reached-valid room m v [] = v
reached-valid room m v (c ∷ cs) = reached-valid room (next room m c) (call-keeps room m v c) cs

pub accepted-exactly : AcceptedExactly
accepted-exactly text φ h calls r a =
    rule-iff tables (reached tables (model_of φ) calls) (reached-valid tables (model_of φ) (load-valid text φ h) calls) r a
