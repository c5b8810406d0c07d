-- `codec::state::write_state` meets its contract.
use Rattle.codec.proofs.Laws.State.{state-written}
use Rattle.codec.proofs.state.write_state.Goals as goal

pub returns : goal.returns
returns c = state-written c.args.state _ _ c.low.ensures c.low-2.ensures c.low-3.ensures c.low-4.ensures c.low-5.ensures c.low-6.ensures c.write_table.ensures
