-- `codec::state::read_state` meets its contract.
use Rattle.codec.specs.State.{state_with}
use Rattle.codec.proofs.Laws.State.{state-read}
use Rattle.codec.proofs.state.read_state.Goals as goal

pub returns : goal.returns
unfolding state_with
returns c =
    rw (c.into.ensures, c.into-2.ensures, c.into-3.ensures, c.into-4.ensures, c.into-5.ensures, c.into-6.ensures)
    (state-read c.args.bytes.now c.read_table.ensures)
