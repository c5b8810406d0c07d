-- What `form` answers for a line: its form (the calculus' `form_of`) as a shape with a count, if it has a form, and its numbers.
-- Offers `shape_of`, `numbers_of`, `Formed`.
use Rattle.std.specs.Prelude.{◌≡◌, List, [], ◌∷◌, map, ℕ, length, take, None, Some}
use Rattle.std.specs.declared.option.Option.{Option}
use Rattle.dqbf.specs.Literal.{rank}
use Rattle.dqbf.specs.Reading.{Form, comment, header, a_line, e_line, d_line, clause_line, no_form}
use Rattle.forms.specs.declared.form.Shape.{Shape}
use Rattle.forms.specs.declared.form.Shape.TheVariants.{Comment, Header, Universals, Existentials, Dependent, Clause}

unfoldable pub shape_of : Form → Option Shape
shape_of comment = Some Comment
shape_of (header v c) = Some (Header v c)
shape_of (a_line xs) = Some (Universals (length xs))
shape_of (e_line xs) = Some (Existentials (length xs))
shape_of (d_line x S) = Some (Dependent (length (x ∷ S)))
shape_of (clause_line C) = Some (Clause (length C))
shape_of no_form = None

-- the numbers of a line: variables, or literals as their ranks
unfoldable pub numbers_of : Form → List ℕ
numbers_of comment = []
numbers_of (header v c) = []
numbers_of (a_line xs) = xs
numbers_of (e_line xs) = xs
numbers_of (d_line x S) = x ∷ S
numbers_of (clause_line C) = map rank C
numbers_of no_form = []

-- the answer is the shape of a form, and its numbers stand at the front
pub record Formed (f : Form) (answer : Option Shape) (numbers : List ℕ) : Type 0 where
  pub shape : answer ≡ shape_of f
  pub front : take (length (numbers_of f)) numbers ≡ numbers_of f
