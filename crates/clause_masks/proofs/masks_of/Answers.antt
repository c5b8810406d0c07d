-- `clause_masks::masks_of` meets its contract.
use Prim.Native.Nat.{◌+◌}
use native.Mathlib.Omega.{arith}
use borrow.Author.Rules.{rules}
use mir.Syntax.{w16}
use mir.Facts.{to_z-of_z}
use Rattle.std.specs.Prelude.{Some, None}
use Rattle.clause_masks.specs.Laid.{model_of}
use Rattle.clause_masks.proofs.Laws.Masks.{collected-start, collected-next, collected-done, collected-true, literal-over}
use Rattle.clause_masks.proofs.masks_of.Goals as goal

pub loop-l-init : goal.loop-l-init
loop-l-init c = collected-start (model_of c.args.layout) c.args.setting c.args.clause.now

pub add_literal-requires : goal.add_literal-requires
add_literal-requires c = literal-over (model_of c.args.layout) c.args.setting c.args.clause.now c.requires c.loop-l.l-index _ (omega arith) (to_z-of_z {w = w16} (search rules))

pub loop-l-preserved : goal.loop-l-preserved
loop-l-preserved c =
    collected-next (model_of c.args.layout) c.args.setting c.args.clause.now (Some c.in_ok-masks.masks) (Some c.loop-l.masks) c.loop-l.l-index _ (omega arith) (to_z-of_z {w = w16} (search rules)) c.loop-l.invariant c.in_ok-masks.ensures

pub returns-in_err-masks : goal.returns-in_err-masks
returns-in_err-masks c =
    let next = collected-next (model_of c.args.layout) c.args.setting c.args.clause.now None (Some c.loop-l.masks) c.loop-l.l-index _ (omega arith) (to_z-of_z {w = w16} (search rules)) c.loop-l.invariant c.in_err-masks.ensures in
    rw c.from_residual.ensures (collected-true (model_of c.args.layout) c.args.setting c.args.clause.now (c.loop-l.l-index + 1) next)

pub returns : goal.returns
returns c = collected-done (model_of c.args.layout) c.args.setting c.args.clause.now (Some c.loop-l.masks) c.loop-l.l-index (omega arith) c.loop-l.invariant
