-- `function_tables::table_bits` meets its contract.
use mathlib.Core.Path.{refl}
use Prim.Native.Nat.{◌≤◌}
use native.Mathlib.Omega.{arith}
use Rattle.dqbf.specs.Set.{size}
use Rattle.function_tables.proofs.Laws.Layout.{small_size, no_table, table_is}
use Rattle.function_tables.proofs.table_bits.Goals as goal

pub returns-then-kind-ne-EXISTENTIAL : goal.returns-then-kind-ne-EXISTENTIAL
returns-then-kind-ne-EXISTENTIAL c = no_table c.args.kind c.args.set c.if-kind-ne-EXISTENTIAL.true

pub overflow_shl-result : goal.overflow_shl-result
overflow_shl-result c = let k : size c.args.set ≤ 4 = small_size c.args.set c.requires in omega arith

pub returns : goal.returns
returns c = table_is c.args.kind (size c.args.set) c.args.set c.if-kind-ne-EXISTENTIAL.false c.requires refl
