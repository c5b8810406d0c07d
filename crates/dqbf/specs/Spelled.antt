-- The formula part of a model, as DQDIMACS (document 02, Note 1: "header, one `a` line in order of declaration (if there are universals), a `d` line for each
-- existential ascending with its set ascending, the clauses in order, literals ascending by variable").
-- A valid model keeps each clause ascending by variable, so that its literals are written as they stand. A set ascends by variable number.
--     formula_in, formula_part              a model that no step has added to; what is left of a model without what steps added
--     select, first_of, variables          the numbers of a list that pass a test; the first of them; the variables 1 to V
--     is_universal, is_existential          the kind of a variable
--     is_at, universal_at, universals_from   whether a variable is the universal at a place; that universal; some of them, by place
--     declaration_order                    the universals in order of declaration: places are given in that order
--     is_member, members_of                 whether a universal is in a set; those that are, ascending
--     existentials                        the existentials, ascending
--     a_lines, d_line_of, lines_of            the `a` line, the `d` line of an existential, all lines of a model
--     spelled                             the text of a model's formula part
--     formula_of                           the formula that the lines say
use Rattle.std.specs.Prelude.{Bool, cond, ◌&&◌, List, [], ◌∷◌, ◌++◌, map, ℕ, zero, suc, eqb, length}
use Rattle.dqbf.specs.Literal.{Clause}
use Rattle.dqbf.specs.Set.{Set, single, inside}
use Rattle.dqbf.specs.Model.{Model, universal_count, kind_of, set_of, numbers}
use Rattle.dqbf.specs.Formula.{Formula, on_a, on_d}
use Rattle.dqbf.specs.Reading.{Form, header, a_line, d_line, clause_line}
use Rattle.dqbf.specs.Spelling.{text}

-- no fork variable and no derived clause
abbrev pub formula_in : List ℕ → List Set → List Clause → Model
formula_in kinds sets Cs = record { kinds = kinds; sets = sets; formula = Cs; forks = []; derived = [] }

unfoldable pub formula_part : Model → Model
formula_part m = formula_in m.kinds m.sets m.formula

-- ---- variables that pass a test

-- all of them
unfoldable pub select : (ℕ → Bool) → List ℕ → List ℕ
select P [] = []
select P (x ∷ xs) = let rest = select P xs in cond (P x) (x ∷ rest) rest

-- the first; 0: there is none
unfoldable pub first_of : (ℕ → Bool) → List ℕ → ℕ
first_of P [] = 0
first_of P (x ∷ xs) = let rest = first_of P xs in cond (P x) x rest

-- the variables 1 to V
abbrev pub variables : Model → List ℕ
variables m = numbers 0 (length m.kinds)

-- ---- the universals

unfoldable pub is_universal : Model → ℕ → Bool
is_universal m x = eqb (kind_of m x) 1

unfoldable pub is_at : Model → ℕ → ℕ → Bool
is_at m i x = is_universal m x && eqb (set_of m x) (single i)

unfoldable pub universal_at : Model → ℕ → ℕ
universal_at m i = first_of (is_at m i) (variables m)

-- from place i on, n of them
unfoldable pub universals_from : Model → ℕ → ℕ → List ℕ
universals_from m i zero = []
universals_from m i (suc n) = universal_at m i ∷ universals_from m (suc i) n

unfoldable pub declaration_order : Model → List ℕ
declaration_order m = universals_from m 0 (universal_count m)

-- a universal is in a set that contains its own set, as in `members` of specs/Questions.antt
unfoldable pub is_member : Model → Set → ℕ → Bool
is_member m s u = is_universal m u && inside (set_of m u) s

unfoldable pub members_of : Model → Set → List ℕ
members_of m s = select (is_member m s) (variables m)

-- ---- the existentials

unfoldable pub is_existential : Model → ℕ → Bool
is_existential m x = eqb (kind_of m x) 2

unfoldable pub existentials : Model → List ℕ
existentials m = select (is_existential m) (variables m)

-- ---- the lines

-- one line, if there are universals
unfoldable pub a_lines : List ℕ → List Form
a_lines [] = []
a_lines (x ∷ xs) = a_line (x ∷ xs) ∷ []

-- the `d` line of an existential
unfoldable pub d_line_of : Model → ℕ → Form
d_line_of m x = d_line x (members_of m (set_of m x))

unfoldable pub lines_of : Model → List Form
lines_of m = header (length m.kinds) (length m.formula) ∷ (a_lines (declaration_order m) ++ (map (d_line_of m) (existentials m) ++ map clause_line m.formula))

unfoldable pub spelled : Model → List ℕ
spelled m = text (lines_of (formula_part m))

-- ---- the formula that these lines say

unfoldable pub formula_of : Model → Formula
formula_of m = record {
  bound = length m.kinds;
  prefix = map on_a (declaration_order m) ++ map (λ x. on_d x (members_of m (set_of m x))) (existentials m);
  clauses = m.formula;
}
