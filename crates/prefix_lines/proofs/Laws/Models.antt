-- The model of what was read so far (dqbf, `model_of`): its counts, and what one declaration, one clause or the header changes in it.
--     model-kinds, model-sets, ..          lengths and counts
--     kind-entry, set-entry                kind and set of a variable by their entries
--     kinds-declared, sets-declared        one declaration more: one entry changes
--     map_more, model-clause               one clause more
-- Assumes nothing.
use mathlib.Core.Path.{◌≡◌, refl, ap, ◌∙◌}
use mathlib.Core.Bool.{false}
use mathlib.Core.List.{List, [], ◌∷◌, ◌++◌, map, append-nil}
use Prim.Native.Nat.{ℕ, ◌-◌, ◌≤◌}
use native.Mathlib.Omega.{arith}
use lib.ListN.{length, set}
use Rattle.dqbf.specs.Literal.{Clause, ◌∈◌, sorted}
use Rattle.dqbf.specs.Formula.{Declaration, on_d, Formula, universals, universals_of, declared, Var, undeclared, var_by, var}
use Rattle.dqbf.specs.Model.{clauses, used, universal_count, numbers, kind_for, set_for, model_by, model_of}
use Rattle.dqbf.specs.Reading.{Reader, elem}
use Rattle.dqbf.proofs.Laws.Tests.{never}
use Rattle.dqbf.proofs.Laws.Counting.{count-members, elem_in}
use Rattle.dqbf.proofs.Reading.Lines.{Sane, once-universals, universals-declared, universals-append}
use Rattle.tables.specs.Tables.{entry}
use Rattle.tables.specs.Adding.{with_formula}
use Rattle.prefix_lines.proofs.Laws.Rows.{row-length, row-set, row-entry}
use Rattle.prefix_lines.proofs.Laws.Variables.{subject, made, declaring_to, kind-universal, var-other, var-new, var-none, set_grown}

-- ---- lengths

module _ (φ : Formula) where
  pub model-kinds : length (model_of φ).kinds ≡ φ.bound
  unfolding model_by
  model-kinds = row-length (λ x. kind_for (var φ x)) φ.bound

  pub model-sets : length (model_of φ).sets ≡ φ.bound
  unfolding model_by
  model-sets = row-length (λ x. set_for (universals φ) x (var φ x)) φ.bound

  pub model-clauses : clauses (model_of φ) ≡ map sorted φ.clauses
  unfolding clauses model_by
  model-clauses = append-nil (map sorted φ.clauses)

  pub model-used : used (model_of φ) ≡ φ.bound
  unfolding used model_by
  model-used = omega (arith, row-length (λ x. kind_for (var φ x)) φ.bound)

-- ---- kind and set of a variable

module _ (r : Reader) (s : Sane r) where
  abbrev φ : Formula
  φ = r.formula

  outside : (x : ℕ) → (x ∈ declared φ.prefix → ⊥) → var φ x ≡ undeclared
  outside x n = var-none φ x (never (elem x (declared φ.prefix)) (λ h. n (elem_in x (declared φ.prefix) h)))

  -- a row of what the variables are
  entry_of : (g : ℕ → Var → ℕ) → ((x : ℕ) → g x undeclared ≡ 0) → (x : ℕ) → entry (map (λ x. g x (var φ x)) (numbers 0 φ.bound)) x ≡ g x (var φ x)
  entry_of g none x =
      row-entry (λ x. g x (var φ x)) φ.bound x (rw (outside 0 (λ q. s.high 0 q refl)) (none 0)) (λ y h. rw (outside y (λ q. omega (arith, s.low y q))) (none y))

  pub kind-entry : (x : ℕ) → entry (model_of φ).kinds x ≡ kind_for (var φ x)
  unfolding model_by kind_for
  kind-entry x = entry_of (λ y v. kind_for v) (λ y. refl) x

  pub set-entry : (x : ℕ) → entry (model_of φ).sets x ≡ set_for (universals φ) x (var φ x)
  unfolding model_by set_for
  set-entry x = entry_of (set_for (universals φ)) (λ y. refl) x

  pub model-universals : universal_count (model_of φ) ≡ length (universals φ)
  unfolding universal_count model_by
  model-universals =
      count-members (λ x. kind_for (var φ x)) (universals φ) φ.bound (once-universals φ.prefix s.once)
      (λ u q. let d = universals-declared φ.prefix u q in (s.high u d, s.low u d)) (λ x. kind-universal φ x s.once)

-- ---- one declaration more

module _ (φ : Formula) (d : Declaration) (some : subject d ≡ 0 → ⊥) (low : subject d ≤ φ.bound) (new : elem (subject d) (declared φ.prefix) ≡ false) where
  pub kinds-declared : (model_of (declaring_to φ d)).kinds ≡ set (model_of φ).kinds (subject d - 1) (kind_for (made (universals φ) d))
  unfolding model_by
  kinds-declared =
      rw (var-new φ d new) at
      (row-set (λ x. kind_for (var φ x)) (λ x. kind_for (var (declaring_to φ d) x)) φ.bound (subject d) some low (λ x n. ap kind_for (var-other φ d x n)))

  pub sets-declared : ((y : ℕ) (S : List ℕ) → on_d y S ∈ φ.prefix → (u : ℕ) → u ∈ S → u ∈ universals φ)
      → (model_of (declaring_to φ d)).sets ≡ set (model_of φ).sets (subject d - 1) (set_for (universals φ ++ universals_of (d ∷ [])) (subject d) (made (universals φ) d))
  unfolding model_by
  sets-declared lists =
      let us = universals φ ++ universals_of (d ∷ []) in
      rw (universals-append φ.prefix (d ∷ []))
      (rw (var-new φ d new) at
      (row-set (λ x. set_for (universals φ) x (var φ x)) (λ x. set_for us x (var (declaring_to φ d) x)) φ.bound (subject d) some low
      (λ x n. ap (set_for us x) (var-other φ d x n) ∙ set_grown φ (universals_of (d ∷ [])) x lists)))

-- ---- one clause more

pub map_more : {A B : Type 0} (f : A → B) (xs : List A) (x : A) → map f (xs ++ (x ∷ [])) ≡ map f xs ++ (f x ∷ [])
map_more f [] x = refl
map_more f (y ∷ xs) x = ap (f y ∷◌) (map_more f xs x)

pub model-clause : (φ : Formula) (C : Clause) → model_of (record { bound = φ.bound; prefix = φ.prefix; clauses = φ.clauses ++ (C ∷ []) }) ≡ with_formula (model_of φ) (sorted C)
unfolding model_by var_by with_formula
model-clause φ C = rw (map_more sorted φ.clauses C)
