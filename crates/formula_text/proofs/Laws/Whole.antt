-- The lines of a formula one behind the other, and the formula part of well-formed tables.
use mathlib.Core.Path.{◌≡◌, refl, ◌∙◌, ap, ap₂}
use mathlib.Core.Bool.{Bool}
use mathlib.Core.List.{List, [], ◌∷◌, ◌++◌, map}
use Prim.Native.Nat.{ℕ, zero, suc, ◌≤◌}
use lib.IntN.{ℤ}
use lib.ListN.{length, take}
use lib.Seq.{take-take}
use Rattle.dqbf.specs.Set.{Set}
use Rattle.dqbf.specs.Literal.{Clause}
use Rattle.dqbf.specs.Reading.{Form, header, clause_line}
use Rattle.dqbf.specs.Model.{Model, universals_in, universal_count, kind_of, set_of, numbers}
use Rattle.dqbf.specs.Spelling.{line_text, text}
use Rattle.dqbf.specs.Spelled.{formula_in, formula_part, is_universal, select, first_of, is_at, universal_at, universals_from, declaration_order, is_member, members_of, is_existential, existentials, a_lines, d_line_of, lines_of}
use Rattle.tables.specs.declared.State.{State}
use Rattle.tables.specs.Tables.{Tables, cut, model_in}
use Rattle.tables.proofs.Laws.Cuts.{cut-length, take-cut}
use Rattle.formula_lines.specs.Working.{declarations, universal_names, declared_from}
use Rattle.formula_lines.proofs.Laws.Universals.{names-count, declared-in}
use Rattle.dqbf.proofs.Spelling.Lines.{text-append}

-- ---- all lines

-- tests that agree choose alike
first-same : (P Q : ℕ → Bool) → ((x : ℕ) → P x ≡ Q x) → (xs : List ℕ) → first_of P xs ≡ first_of Q xs
unfolding first_of
first-same P Q h [] = refl
first-same P Q h (x ∷ xs) = rw (h x, first-same P Q h xs)

select-same : (P Q : ℕ → Bool) → ((x : ℕ) → P x ≡ Q x) → (xs : List ℕ) → select P xs ≡ select Q xs
unfolding select
select-same P Q h [] = refl
select-same P Q h (x ∷ xs) = rw (h x, select-same P Q h xs)

map_same : (f g : ℕ → Form) → ((x : ℕ) → f x ≡ g x) → (xs : List ℕ) → map f xs ≡ map g xs
map_same f g h [] = refl
map_same f g h (x ∷ xs) = ap₂ {C = List Form} ◌∷◌ (h x) (map_same f g h xs)

-- the prefix lines do not depend on the clauses
module _ (kinds sets : List ℕ) (Cs : List Clause) where
  abbrev d : Model
  d = declarations kinds sets

  abbrev p : Model
  p = formula_in kinds sets Cs

  kind-same : (x : ℕ) → kind_of p x ≡ kind_of d x
  unfolding kind_of declarations
  kind-same zero = refl
  kind-same (suc i) = refl

  set_same : (x : ℕ) → set_of p x ≡ set_of d x
  unfolding set_of declarations
  set_same zero = refl
  set_same (suc i) = refl

  at_same : (i : ℕ) → universal_at p i ≡ universal_at d i
  unfolding universal_at is_at is_universal declarations
  at_same i = first-same (is_at p i) (is_at d i) (λ x. rw (kind-same x, set_same x)) (numbers 0 (length kinds))

  universals-same : (i n : ℕ) → universals_from p i n ≡ universals_from d i n
  unfolding universals_from
  universals-same i zero = refl
  universals-same i (suc n) = ap₂ {C = List ℕ} ◌∷◌ (at_same i) (universals-same (suc i) n)

  members-same : (s : Set) → members_of p s ≡ members_of d s
  unfolding members_of is_member is_universal declarations
  members-same s = select-same (is_member p s) (is_member d s) (λ x. rw (kind-same x, set_same x)) (numbers 0 (length kinds))

  existentials-same : existentials p ≡ existentials d
  unfolding existentials is_existential declarations
  existentials-same = select-same (is_existential p) (is_existential d) (λ x. rw (kind-same x)) (numbers 0 (length kinds))

  d-line-same : (x : ℕ) → d_line_of p x ≡ d_line_of d x
  unfolding d_line_of
  d-line-same x = rw (set_same x, members-same (set_of d x))

  lines_split : text (lines_of p)
      ≡ line_text (header (length kinds) (length Cs)) ++ (text (a_lines (universals_from p 0 (universals_in kinds))) ++ (text (map (d_line_of p) (existentials p)) ++ text (map clause_line Cs)))
  unfolding lines_of declaration_order universal_count text
  lines_split =
      ap (line_text (header (length kinds) (length Cs)) ++◌)
      (text-append (a_lines (universals_from p 0 (universals_in kinds))) (map (d_line_of p) (existentials p) ++ map clause_line Cs)
      ∙ ap (text (a_lines (universals_from p 0 (universals_in kinds))) ++◌) (text-append (map (d_line_of p) (existentials p)) (map clause_line Cs)))

  pub lines-text : text (lines_of (formula_in kinds sets Cs))
      ≡ line_text (header (length kinds) (length Cs)) ++ (text (a_lines (universals_from d 0 (universals_in kinds))) ++ (text (map (d_line_of d) (existentials d)) ++ text (map clause_line Cs)))
  lines-text = lines_split ∙ ap₂ {C = List ℕ} (λ (a b : List ℕ). line_text (header (length kinds) (length Cs)) ++ (a ++ (b ++ text (map clause_line Cs))))
      (ap (λ (us : List ℕ). text (a_lines us)) (universals-same 0 (universals_in kinds)))
      (ap text (map_same (d_line_of p) (d_line_of d) d-line-same (existentials p) ∙ ap (map (d_line_of d)) existentials-same))

-- with the ends of the clauses, and the universals listed
module _ (kinds sets ends : List ℕ) (literals : List ℤ) where
  abbrev pub head_text : List ℕ
  head_text = line_text (header (length kinds) (length ends))

  abbrev pub declared_text : List ℕ → List ℕ
  declared_text names = text (a_lines (declared_from names sets 0 (length names)))

  abbrev pub depending_text : List ℕ
  depending_text = text (map (d_line_of (declarations kinds sets)) (existentials (declarations kinds sets)))

  abbrev pub clauses_text : List ℕ
  clauses_text = text (map clause_line (cut 0 ends literals))

  pub whole-text : {names : List ℕ} → names ≡ universal_names kinds
      → text (lines_of (formula_in kinds sets (cut 0 ends literals))) ≡ head_text ++ (declared_text names ++ (depending_text ++ clauses_text))
  whole-text e =
      lines-text kinds sets (cut 0 ends literals)
      ∙ rw (cut-length 0 ends literals, e, names-count kinds, declared-in kinds sets 0 (universals_in kinds))

-- ---- the entries of well-formed tables

pub part_in : (t : Tables) (s : State) → s.bound.0 ≤ s.variables.0 → s.formula.0 ≤ s.clauses.0
    → formula_part (model_in t s) ≡ formula_in (take s.bound.0 t.kinds) (take s.bound.0 t.sets) (cut 0 (take s.formula.0 t.ends) t.literals)
unfolding formula_part model_in
part_in t s h k =
    rw (
      take-take s.bound.0 s.variables.0 t.kinds h,
      take-take s.bound.0 s.variables.0 t.sets h,
      take-cut s.formula.0 0 (take s.clauses.0 t.ends) t.literals,
      take-take s.formula.0 s.clauses.0 t.ends k,
    )
