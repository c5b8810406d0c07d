-- From the shape that `form` answers back to the calculus' form of the line, with what its numbers are: one law for each shape.
use mathlib.Core.Path.{◌≡◌, refl, sym, ap, ◌∙◌}
use mathlib.Core.List.{List, ◌∷◌, map}
use Prim.Native.Nat.{ℕ, ◌≤◌, min}
use native.Mathlib.Omega.{arith}
use Rattle.std.specs.Prelude.{None, Some}
use lib.ListN.{length, take, length-take, length-map}
use Rattle.dqbf.specs.Literal.{Clause, rank}
use Rattle.dqbf.specs.Reading.{Form, comment, header, a_line, e_line, d_line, clause_line, no_form}
use Rattle.forms.specs.Shapes.{shape_of, numbers_of, Formed}
use Rattle.forms.specs.declared.form.Shape.TheVariants.{Comment, Header, Universals, Existentials, Dependent}
use Rattle.forms.specs.declared.form.Shape.TheVariants as shape

pub front-inside : (xs out : List ℕ) → take (length xs) out ≡ xs → length xs ≤ length out
front-inside xs out e = let l : length (take (length xs) out) ≡ min (length xs) (length out) = length-take (length xs) out in let k = ap length e in omega arith

pub shape-comment : (f : Form) (out : List ℕ) → Formed f (Some Comment) out → f ≡ comment
unfolding shape_of
shape-comment comment out g = refl
shape-comment (header v c) out g = let e = g.shape in cc
shape-comment (a_line xs) out g = let e = g.shape in cc
shape-comment (e_line xs) out g = let e = g.shape in cc
shape-comment (d_line x S) out g = let e = g.shape in cc
shape-comment (clause_line C) out g = let e = g.shape in cc
shape-comment no_form out g = let e = g.shape in cc

pub shape-header : (f : Form) (v c : ℕ) (out : List ℕ) → Formed f (Some (Header v c)) out → f ≡ header v c
unfolding shape_of
shape-header comment v c out g = let e = g.shape in cc
shape-header (header w d) v c out g = let e = g.shape in let p : v ≡ w = cc in let q : c ≡ d = cc in rw (p, q)
shape-header (a_line xs) v c out g = let e = g.shape in cc
shape-header (e_line xs) v c out g = let e = g.shape in cc
shape-header (d_line x S) v c out g = let e = g.shape in cc
shape-header (clause_line C) v c out g = let e = g.shape in cc
shape-header no_form v c out g = let e = g.shape in cc

pub shape-malformed : (f : Form) (out : List ℕ) → Formed f None out → f ≡ no_form
unfolding shape_of
shape-malformed comment out g = let e = g.shape in cc
shape-malformed (header v c) out g = let e = g.shape in cc
shape-malformed (a_line xs) out g = let e = g.shape in cc
shape-malformed (e_line xs) out g = let e = g.shape in cc
shape-malformed (d_line x S) out g = let e = g.shape in cc
shape-malformed (clause_line C) out g = let e = g.shape in cc
shape-malformed no_form out g = refl

-- The front of n numbers inside the slice is the list of the line's numbers.
pub record Front (n : ℕ) (out xs : List ℕ) : Type 0 where
  pub count : n ≡ length xs
  pub inside : n ≤ length out
  pub front : take n out ≡ xs

made : (n : ℕ) (out xs : List ℕ) → n ≡ length xs → take (length xs) out ≡ xs → Front n out xs
made n out xs e f = record { count = e; inside = rw e (front-inside xs out f); front = rw e f }

pub shape-universals : (f : Form) (n : ℕ) (out : List ℕ) → Formed f (Some (Universals n)) out → (xs : List ℕ) × (f ≡ a_line xs) × Front n out xs
unfolding shape_of numbers_of
shape-universals comment n out g = let e = g.shape in cc
shape-universals (header v c) n out g = let e = g.shape in cc
shape-universals (a_line xs) n out g = let e = g.shape in let p : n ≡ length xs = cc in (xs, refl, made n out xs p g.front)
shape-universals (e_line xs) n out g = let e = g.shape in cc
shape-universals (d_line x S) n out g = let e = g.shape in cc
shape-universals (clause_line C) n out g = let e = g.shape in cc
shape-universals no_form n out g = let e = g.shape in cc

pub shape-existentials : (f : Form) (n : ℕ) (out : List ℕ) → Formed f (Some (Existentials n)) out → (xs : List ℕ) × (f ≡ e_line xs) × Front n out xs
unfolding shape_of numbers_of
shape-existentials comment n out g = let e = g.shape in cc
shape-existentials (header v c) n out g = let e = g.shape in cc
shape-existentials (a_line xs) n out g = let e = g.shape in cc
shape-existentials (e_line xs) n out g = let e = g.shape in let p : n ≡ length xs = cc in (xs, refl, made n out xs p g.front)
shape-existentials (d_line x S) n out g = let e = g.shape in cc
shape-existentials (clause_line C) n out g = let e = g.shape in cc
shape-existentials no_form n out g = let e = g.shape in cc

pub shape-dependent : (f : Form) (n : ℕ) (out : List ℕ) → Formed f (Some (Dependent n)) out → (x : ℕ) × (S : List ℕ) × (f ≡ d_line x S) × Front n out (x ∷ S)
unfolding shape_of numbers_of
shape-dependent comment n out g = let e = g.shape in cc
shape-dependent (header v c) n out g = let e = g.shape in cc
shape-dependent (a_line xs) n out g = let e = g.shape in cc
shape-dependent (e_line xs) n out g = let e = g.shape in cc
shape-dependent (d_line x S) n out g = let e = g.shape in let p : n ≡ length (x ∷ S) = cc in (x, S, refl, made n out (x ∷ S) p g.front)
shape-dependent (clause_line C) n out g = let e = g.shape in cc
shape-dependent no_form n out g = let e = g.shape in cc

pub shape-clause : (f : Form) (n : ℕ) (out : List ℕ) → Formed f (Some (shape.Clause n)) out → (C : Clause) × (f ≡ clause_line C) × Front n out (map rank C)
unfolding shape_of numbers_of
shape-clause comment n out g = let e = g.shape in cc
shape-clause (header v c) n out g = let e = g.shape in cc
shape-clause (a_line xs) n out g = let e = g.shape in cc
shape-clause (e_line xs) n out g = let e = g.shape in cc
shape-clause (d_line x S) n out g = let e = g.shape in cc
shape-clause (clause_line C) n out g = let e = g.shape in let p : n ≡ length C = cc in (C, refl, made n out (map rank C) (p ∙ sym (length-map C rank)) g.front)
shape-clause no_form n out g = let e = g.shape in cc
