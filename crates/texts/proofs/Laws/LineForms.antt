-- A line by its shape: its form, that its numbers stand inside the slice, that variables are not 0, and the known universals behind it.
--     form-comment, form-header, form-malformed, form-universals, form-existentials, form-dependent, form-clause      the form, by the numbers at the front
--     inside-.., positive-..                                               where the numbers stand; variables are not 0
--     known-comment, known-header, known-e, known-d, known-clause          no line but an `a` line changes the universals
-- Assumes nothing.
use mathlib.Core.Path.{◌≡◌, refl, ap, sym, ◌∙◌}
use mathlib.Core.List.Memᴰ
use mathlib.Core.List.{List, [], ◌∷◌, ◌++◌, map, append-nil}
use Prim.Native.Nat.{ℕ, ◌≤◌, ◌<◌}
use native.Mathlib.Omega.{arith}
use lib.ListN.{length, take, drop, get_or}
use Rattle.dqbf.specs.Literal.{Clause, ◌∈◌, rank}
use Rattle.dqbf.specs.Formula.{on_e, on_d, universals, universals_of}
use Rattle.dqbf.specs.Reading.{Form, comment, header, a_line, e_line, d_line, clause_line, no_form, form_of, Reader, declaring, taken}
use Rattle.dqbf.proofs.Laws.Lists.{nth}
use Rattle.dqbf.proofs.Reading.Lines.{new_on, form-positive, universals-append, universals-e}
use Rattle.ranks.specs.Order.{all_inserted}
use Rattle.std.specs.Prelude.{None, Some}
use Rattle.forms.specs.Shapes.{Formed}
use Rattle.forms.specs.declared.form.Shape.{Shape}
use Rattle.forms.specs.declared.form.Shape.TheVariants.{Comment, Header, Universals, Existentials, Dependent}
use Rattle.forms.specs.declared.form.Shape.TheVariants as shape
use Rattle.forms.proofs.Laws.Shapes.{Front, shape-comment, shape-header, shape-malformed, shape-universals, shape-existentials, shape-dependent, shape-clause}
use Rattle.prefix_lines.specs.Lines.{Known}

-- ---- the form

module _ (line : List ℕ) {a : Shape} (out : List ℕ) (formed : Formed (form_of line) (Some a) out) where
  pub form-comment : a ≡ Comment → form_of line ≡ comment
  form-comment e = shape-comment (form_of line) out (rw e at formed)

  pub form-header : (v c : ℕ) → a ≡ Header v c → form_of line ≡ header v c
  form-header v c e = shape-header (form_of line) v c out (rw e at formed)

pub form-malformed : (line out : List ℕ) → Formed (form_of line) None out → form_of line ≡ no_form
form-malformed line out formed = shape-malformed (form_of line) out formed

module _ (line : List ℕ) {a : Shape} (n : ℕ) (out : List ℕ) (formed : Formed (form_of line) (Some a) out) where
  abbrev xs : List ℕ
  xs = take n out

  -- variables that a line declares are not 0
  positive : (f : List ℕ → Form) → ((ys : List ℕ) (x : ℕ) → x ∈ ys → x ∈ new_on (f ys)) → form_of line ≡ f xs → (i : ℕ) → i < length xs → 0 < get_or xs i 0
  positive f new e i h = let q = rw e at (form-positive line) in let z = q (get_or xs i 0) (new xs (get_or xs i 0) (nth xs i 0 h)) in omega arith

  module _ (e : a ≡ Universals n) where
    abbrev u : (ys : List ℕ) × (form_of line ≡ a_line ys) × Front n out ys
    u = shape-universals (form_of line) n out (rw e at formed)

    pub form-universals : form_of line ≡ a_line xs
    form-universals = u.1 ∙ ap a_line (sym u.2.front)

    pub inside-universals : n ≤ length out
    inside-universals = u.2.inside

    pub positive-universals : (i : ℕ) → i < length xs → 0 < get_or xs i 0
    unfolding new_on
    positive-universals = positive a_line (λ ys x q. q) form-universals

  module _ (e : a ≡ Existentials n) where
    abbrev v : (ys : List ℕ) × (form_of line ≡ e_line ys) × Front n out ys
    v = shape-existentials (form_of line) n out (rw e at formed)

    pub form-existentials : form_of line ≡ e_line xs
    form-existentials = v.1 ∙ ap e_line (sym v.2.front)

    pub inside-existentials : n ≤ length out
    inside-existentials = v.2.inside

    pub positive-existentials : (i : ℕ) → i < length xs → 0 < get_or xs i 0
    unfolding new_on
    positive-existentials = positive e_line (λ ys x q. q) form-existentials

  module _ (e : a ≡ Dependent n) where
    abbrev d : (x : ℕ) × (S : List ℕ) × (form_of line ≡ d_line x S) × Front n out (x ∷ S)
    d = shape-dependent (form_of line) n out (rw e at formed)

    pub form-dependent : form_of line ≡ d_line (get_or xs 0 0) (drop 1 xs)
    form-dependent = d.2 ∙ rw d.3.front

    pub inside-dependent : n ≤ length out
    inside-dependent = d.3.inside

    pub some-dependent : 0 < length xs
    some-dependent = rw d.3.front (omega arith)

    pub positive-dependent : 0 < get_or xs 0 0
    unfolding new_on
    positive-dependent = let q = rw form-dependent at (form-positive line) in let z = q (get_or xs 0 0) (Memᴰ.head refl) in omega arith

  module _ (e : a ≡ shape.Clause n) where
    pub form-clause : (C : Clause) × (form_of line ≡ clause_line C) × Front n out (map rank C)
    form-clause = shape-clause (form_of line) n out (rw e at formed)

-- ---- the known universals

module _ (r : Reader) (known : List ℕ) (knows : Known r known) where
  pub known-comment : Known (taken r comment) known
  unfolding taken
  known-comment = knows

  pub known-header : (v c : ℕ) → Known (taken r (header v c)) known
  unfolding taken universals_of all_inserted
  known-header v c = refl

  pub known-e : (xs : List ℕ) → Known (taken r (e_line xs)) known
  unfolding taken declaring
  known-e xs =
      let e : universals_of (r.formula.prefix ++ map on_e xs) ≡ universals r.formula =
      universals-append r.formula.prefix (map on_e xs) ∙ ap (universals r.formula ++◌) (universals-e xs) ∙ append-nil (universals r.formula) in
      rw e knows

  pub known-d : (x : ℕ) (S : List ℕ) → Known (taken r (d_line x S)) known
  unfolding taken declaring
  known-d x S =
      let e : universals_of (r.formula.prefix ++ (on_d x S ∷ [])) ≡ universals r.formula =
      universals-append r.formula.prefix (on_d x S ∷ []) ∙ (unfold universals_of in append-nil (universals r.formula)) in
      rw e knows

  pub known-clause : (C : Clause) → Known (taken r (clause_line C)) known
  unfolding taken
  known-clause C = knows
