-- `buffers::is_whole` meets its contract.
use Rattle.std.proofs.Common.{arith}
use Rattle.std.proofs.lemmas.Grind.{common_steps}
use Rattle.tables.specs.WellFormed.{every}
use Rattle.buffers.specs.Buffers.{whole, state_whole}
use Rattle.buffers.proofs.is_whole.Goals as goal

pub returns-then-kinds-ge-KIND_BYTES : goal.returns-then-kinds-ge-KIND_BYTES
unfolding whole state_whole every
returns-then-kinds-ge-KIND_BYTES c = grind (arith, common_steps)

pub returns-else-kinds-ge-KIND_BYTES : goal.returns-else-kinds-ge-KIND_BYTES
unfolding whole state_whole every
returns-else-kinds-ge-KIND_BYTES c = grind (arith, common_steps)
