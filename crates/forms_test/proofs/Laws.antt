-- The count of a shape that `form` answers lies inside its slice.
use Prim.Native.Nat.{ℕ, ◌≤◌}
use mathlib.Core.Path.{◌≡◌}
use mathlib.Core.List.{List, ◌∷◌}
use Rattle.std.specs.Prelude.{Some}
use native.Mathlib.Omega.{arith}
use lib.ListN.{length, length-map}
use Rattle.dqbf.specs.Literal.{rank}
use Rattle.dqbf.specs.Reading.{Form, comment, header, a_line, e_line, d_line, clause_line, no_form}
use Rattle.forms.specs.Shapes.{shape_of, numbers_of, Formed}
use Rattle.forms.specs.declared.form.Shape.{Shape}
use Rattle.forms.specs.declared.form.Shape.TheVariants.{Comment, Header, Universals, Existentials, Dependent, Clause}
use Rattle.forms.proofs.Laws.Shapes.{front-inside}
use Rattle.forms_test.specs.Counted.{count_of, Counted}

-- the count of a form that has a shape
counts : (f : Form) (r : Shape) → Some r ≡ shape_of f → count_of r ≤ length (numbers_of f)
unfolding count_of shape_of numbers_of
counts comment r e = let p : r ≡ Comment = cc in rw p (omega arith)
counts (header v c) r e = let p : r ≡ Header v c = cc in rw p (omega arith)
counts (a_line xs) r e = let p : r ≡ Universals (length xs) = cc in rw p (omega arith)
counts (e_line xs) r e = let p : r ≡ Existentials (length xs) = cc in rw p (omega arith)
counts (d_line x S) r e = let p : r ≡ Dependent (length (x ∷ S)) = cc in rw p (omega arith)
counts (clause_line C) r e = let p : r ≡ Clause (length C) = cc in rw p (omega (arith, length-map C rank))
counts no_form r e = cc

pub counted : (f : Form) (r : Shape) (out : List ℕ) → Formed f (Some r) out → Counted r (length out)
counted f r out g = omega (arith, counts f r g.shape, front-inside (numbers_of f) out g.front)
