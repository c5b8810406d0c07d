-- A shape's count of numbers lies inside the slice that holds them.
use Rattle.std.specs.Prelude.{ℕ, ◌≤◌}
use Rattle.forms.specs.declared.form.Shape.{Shape}
use Rattle.forms.specs.declared.form.Shape.TheVariants.{Comment, Header, Universals, Existentials, Dependent, Clause}

unfoldable pub count_of : Shape → ℕ
count_of Comment = 0
count_of (Header v c) = 0
count_of (Universals n) = n
count_of (Existentials n) = n
count_of (Dependent n) = n
count_of (Clause n) = n

abbrev pub Counted : Shape → ℕ → Type 0
Counted s size = count_of s ≤ size
