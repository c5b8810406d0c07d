-- `buffers::with_tables` meets its contract.
use Rattle.std.proofs.Common.{refl}
use Rattle.buffers.specs.Buffers.{buffers_of, tables_in, state_in}
use Rattle.buffers.proofs.with_tables.Goals as goal

pub returns : goal.returns
unfolding tables_in state_in
returns g c =
    let a = c.args in
    let decoded = c.read_tables.ensures in
    let held = tables_in (buffers_of a.literals.now a.ends.now a.sets.now a.kinds.now a.state.now) in
    (_, rw (decoded.0, decoded.1, decoded.2) (refl {a = held}), c.read_state.ensures, record { shown = _; shows = refl; called = c.call.ensures })
