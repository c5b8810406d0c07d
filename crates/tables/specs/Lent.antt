-- The tables as the code lends them: what they hold, and that a call leaves the caller's own loans in place.
use Rattle.std.specs.Prelude.{◌≡◌}
use Rattle.tables.specs.Tables.{Tables, tables_of}
use Rattle.tables.specs.declared.Lent.{Lent}
use Rattle.tables.specs.declared.LentMut.{LentMut}

abbrev pub tables_lent : Lent → Tables
tables_lent l = tables_of l.literals.now l.ends.now l.sets.now l.kinds.now

abbrev pub tables_held : LentMut → Tables
tables_held l = tables_of l.literals.now l.ends.now l.sets.now l.kinds.now

-- each field is the same slice of the caller's
pub record SameLoans (before after : LentMut) : Type 0 where
  pub literals : after.literals.ghost_name ≡ before.literals.ghost_name
  pub ends : after.ends.ghost_name ≡ before.ends.ghost_name
  pub sets : after.sets.ghost_name ≡ before.sets.ghost_name
  pub kinds : after.kinds.ghost_name ≡ before.kinds.ghost_name

-- each slice stands where the caller's own does
pub record SamePlaces (own : LentMut) (shown : Lent) : Type 0 where
  pub literals : shown.literals.ref_ptr ≡ own.literals.ref_ptr
  pub ends : shown.ends.ref_ptr ≡ own.ends.ref_ptr
  pub sets : shown.sets.ref_ptr ≡ own.sets.ref_ptr
  pub kinds : shown.kinds.ref_ptr ≡ own.kinds.ref_ptr
