-- `buffers::zero_state` meets its contract.
use Rattle.std.proofs.Common.{rules}
use Rattle.buffers.proofs.Laws.{zero-short, zero-whole}
use Rattle.buffers.proofs.zero_state.Goals as goal

pub returns-then-state-lt-STATE_BYTES : goal.returns-then-state-lt-STATE_BYTES
returns-then-state-lt-STATE_BYTES c = zero-short c.args.state.now c.if-state-lt-STATE_BYTES.true

pub returns : goal.returns
returns c = zero-whole c.args.state.now c.if-state-lt-STATE_BYTES.false (search rules)
