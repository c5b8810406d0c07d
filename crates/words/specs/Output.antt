-- The writer's output is the caller's own slice.
use Rattle.std.specs.Prelude.{◌≡◌}
use Rattle.words.specs.declared.Writer.{Writer}

abbrev pub SameOutput : Writer → Writer → Type 0
SameOutput before after = after.out.ghost_name ≡ before.out.ghost_name
