-- `adding::write_resolvent` meets its contract.
use mathlib.Core.Path.{◌∙◌}
use lib.IntN.{pos}
use Rattle.dqbf.specs.Literal.{join}
use Rattle.joins.proofs.Laws.Overlays.{overlaid-erased}
use Rattle.additions.proofs.Laws.Adding.{joined-told}
use Rattle.additions.proofs.adding.write_resolvent.Goals as goal

pub returns-in-Err : goal.returns-in-Err
returns-in-Err c =
    let joined = c.write_join-joined.ensures in
    record {
      refusal = c.in-Err.ensures ∙ joined-told c.args.state (join c.args.first.now c.args.second.now) c.write_join-joined.result.count c.write_join-joined.result.clash joined.count joined.clashes joined.lowest;
      left = overlaid-erased (pos 0) (join c.args.first.now c.args.second.now) c.args.tail.now c.requires joined.count joined.left c.erase.ensures;
    }

pub returns : goal.returns
returns c =
    let joined = c.write_join-joined.ensures in
    record {
      refusal = c.in_default.ensures ∙ joined-told c.args.state (join c.args.first.now c.args.second.now) c.write_join-joined.result.count c.write_join-joined.result.clash joined.count joined.clashes joined.lowest;
      left = (joined.count, joined.left);
    }
