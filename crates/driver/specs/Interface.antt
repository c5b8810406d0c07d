-- The number of the interface: one higher with each change of a function, a buffer's size or the fields of a result. KEFTHRUN_INTERFACE of include/kefthrun.h is the same.
-- (What the calls leave and return is specs/Calls.antt of the crate `exports`.)
use Rattle.std.specs.Prelude.{ℕ}

abbrev pub interface_number : ℕ
interface_number = 4
