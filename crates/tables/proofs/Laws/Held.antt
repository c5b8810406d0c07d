-- Well-formed tables hold one model, and nothing else.
--     held          the tables are that model's, spread over themselves
--     state-is      the state is the model's
--     kinds-is, sets-is, clauses-is     the model's rows are the entries in use
--     even_is       it has a set for each kind
--     count-kinds, count-formula, count-universals     its counts
use mathlib.Core.Path.{◌≡◌, refl, ap, sym, ◌∙◌}
use mathlib.Core.Bool.{true, not}
use mathlib.Core.List.{List, [], ◌∷◌, ◌++◌}
use Prim.Native.Nat.{ℕ, zero, suc, ◌+◌, ◌-◌}
use native.Mathlib.Nat.{sub-zero, zero-sub, zero-add, suc-sub-suc}
use native.Mathlib.Omega.{arith}
use borrow.Author.Tests.{eqb-true}
use lib.Dec.{eqb}
use lib.IntN.{ℤ, pos, negsuc}
use lib.ListN.{length, take, drop, replicate, length-drop, take-append-drop}
use lib.Seq.{length-take-le}
use Rattle.dqbf.specs.Limits.{clause_limit, literal_limit, variable_limit}
use Rattle.dqbf.specs.Literal.{total, same}
use Rattle.dqbf.specs.Model.{clauses, used, steps, universals_in, universal_count, lowest_empty}
use Rattle.dqbf.proofs.Laws.Tests.{and_left, and_right}
use Rattle.tables.specs.declared.State.{State}
use Rattle.tables.specs.Tables.{Tables, kinds_in, sets_in, ends_in, clauses_in, model_in}
use Rattle.tables.specs.Spread.{flat, ends_from, spread, state_of, kind_row, set_row}
use Rattle.tables.specs.WellFormed.{is_zero, is_zero_literal, forks_above, variables_fit}
use Rattle.tables.proofs.Laws.Tests.{every-at}
use Rattle.tables.proofs.Laws.Cuts.{flat-cut, flat-length, ends-cut, cut-length}
use Rattle.tables.proofs.Laws.Rows.{over-self}
use Rattle.tables.proofs.Laws.Formed.{Long, Formed, ends-in, kinds-in, sets-in}

pub zero_is : (x : ℕ) → is_zero x ≡ true → x ≡ 0
unfolding is_zero
zero_is x e = eqb-true x 0 e

pub zero-literal-is : (l : ℤ) → is_zero_literal l ≡ true → l ≡ pos 0
unfolding is_zero_literal same
zero-literal-is (pos n) e = ap pos (eqb-true n 0 e)
zero-literal-is (negsuc n) e = cc

-- ---- forks_above

pub forks-drop : (bound : ℕ) (kinds : List ℕ) → forks_above bound kinds ≡ true → drop bound kinds ≡ replicate (length kinds - bound) 3
unfolding forks_above
forks-drop zero [] e = refl
forks-drop (suc bound) [] e = rw zero-sub
forks-drop zero (k ∷ kinds) e =
    let r = forks-drop zero kinds (and_right (eqb k 3) (forks_above zero kinds) e) in
    rw (eqb-true k 3 (and_left (eqb k 3) (forks_above zero kinds) e), sub-zero (suc (length kinds))) (ap (λ (l : List ℕ). 3 ∷ l) (rw (sub-zero (length kinds)) at r))
forks-drop (suc bound) (k ∷ kinds) e = rw (suc-sub-suc (length kinds) bound) (forks-drop bound kinds (and_right (not (eqb k 3)) (forks_above bound kinds) e))

-- kinds that are all 3 are no universals
pub universals-threes : (kinds : List ℕ) (n : ℕ) → universals_in (kinds ++ replicate n 3) ≡ universals_in kinds
unfolding universals_in
universals-threes [] zero = refl
universals-threes [] (suc n) = rw zero-add (universals-threes [] n)
universals-threes (k ∷ kinds) n = rw (universals-threes kinds n)

module _ (t : Tables) (s : State) where
  pub clauses-is : clauses (model_in t s) ≡ clauses_in t s
  unfolding clauses model_in
  clauses-is = take-append-drop s.formula.0 (clauses_in t s)

  pub sets-is : set_row (model_in t s) ≡ sets_in t s
  unfolding set_row model_in
  sets-is = take-append-drop s.bound.0 (sets_in t s)

module _ (t : Tables) (s : State) (L : Long t) (F : Formed t s) where
  pub kinds-is : kind_row (model_in t s) ≡ kinds_in t s
  unfolding kind_row model_in variables_fit
  kinds-is =
      let forks : length (drop s.bound.0 (sets_in t s)) ≡ length (kinds_in t s) - s.bound.0 = omega (arith, length-drop s.bound.0 (sets_in t s), sets-in t s L F.counts, kinds-in t s L F.counts) in
      rw (forks, ← forks-drop s.bound.0 (kinds_in t s) (every-at _ F.variables 5))
      (take-append-drop s.bound.0 (kinds_in t s))

  flat-is : flat (clauses (model_in t s)) ≡ take s.literals t.literals
  flat-is = rw (clauses-is t s) (flat-cut 0 (ends_in t s) s.literals t.literals F.rise ∙ ap (λ i. take i t.literals) (sub-zero s.literals))

  ends_is : ends_from 0 (clauses (model_in t s)) ≡ ends_in t s
  ends_is = rw (clauses-is t s) (ends-cut 0 (ends_in t s) s.literals t.literals F.rise (omega (arith, F.counts.literals, L.literals)))

  pub held : spread (model_in t s) t ≡ t
  unfolding spread
  held =
      rw (flat-is, ends_is, sets-is t s, kinds-is) (λ i. record {
        literals = over-self (pos 0) literal_limit is_zero_literal zero-literal-is s.literals t.literals F.counts.literals L.literals F.zero-literals i;
        ends = over-self 0 clause_limit is_zero zero_is s.clauses.0 t.ends F.counts.clauses L.ends F.zero-ends i;
        sets = over-self 0 variable_limit is_zero zero_is s.variables.0 t.sets F.counts.variables L.sets F.zero-sets i;
        spare = t.spare;
        kinds = over-self 0 variable_limit is_zero zero_is s.variables.0 t.kinds F.counts.variables L.kinds F.zero-kinds i;
      })

  -- ---- the counts

  pub count-kinds : length (model_in t s).kinds ≡ s.bound.0
  unfolding model_in
  count-kinds = length-take-le s.bound.0 (kinds_in t s) (omega (arith, F.counts.in_use, kinds-in t s L F.counts))

  count-sets : length (model_in t s).sets ≡ s.bound.0
  unfolding model_in
  count-sets = length-take-le s.bound.0 (sets_in t s) (omega (arith, F.counts.in_use, sets-in t s L F.counts))

  pub even_is : length (model_in t s).sets ≡ length (model_in t s).kinds
  even_is = count-sets ∙ sym count-kinds

  count-forks : length (model_in t s).forks ≡ s.variables.0 - s.bound.0
  unfolding model_in
  count-forks = length-drop s.bound.0 (sets_in t s) ∙ ap (λ n. n - s.bound.0) (sets-in t s L F.counts)

  clauses-length : length (clauses_in t s) ≡ s.clauses.0
  clauses-length = cut-length 0 (ends_in t s) t.literals ∙ ends-in t s L F.counts

  pub count-formula : length (model_in t s).formula ≡ s.formula.0
  unfolding model_in
  count-formula = length-take-le s.formula.0 (clauses_in t s) (omega (arith, F.counts.adds, clauses-length))

  count-derived : length (model_in t s).derived ≡ s.clauses.0 - s.formula.0
  unfolding model_in
  count-derived = length-drop s.formula.0 (clauses_in t s) ∙ ap (λ n. n - s.formula.0) clauses-length

  count-literals : total (clauses (model_in t s)) ≡ s.literals
  count-literals =
      sym (flat-length (clauses (model_in t s))) ∙ ap length flat-is ∙ length-take-le s.literals t.literals (omega (arith, F.counts.literals, L.literals))

  pub count-universals : universal_count (model_in t s) ≡ s.universals
  unfolding universal_count variables_fit
  count-universals =
      sym (universals-threes (model_in t s).kinds (length (model_in t s).forks)) ∙ ap universals_in row ∙ eqb-true _ _ (every-at _ F.variables 0)
    where
      row : (model_in t s).kinds ++ replicate (length (model_in t s).forks) 3 ≡ kinds_in t s
      row = unfold kind_row in kinds-is

  pub state-is : state_of (model_in t s) ≡ s
  unfolding state_of steps used lowest_empty
  state-is =
      let a : length (model_in t s).kinds + length (model_in t s).forks ≡ s.variables.0 = omega (arith, count-kinds, count-forks, F.counts.in_use) in
      let b : length (model_in t s).derived - length (model_in t s).forks ≡ s.steps.0 = omega (arith, count-derived, count-forks, F.counts.adds) in
      let c : length (clauses (model_in t s)) ≡ s.clauses.0 = ap length (clauses-is t s) ∙ clauses-length in
      let d : lowest_empty (model_in t s) ≡ s.empty.0 = unfold lowest_empty in rw (clauses-is t s) (sym F.empty) in
      λ i. record {
        bound = record { 0 = count-kinds i };
        variables = record { 0 = a i };
        universals = count-universals i;
        formula = record { 0 = count-formula i };
        clauses = record { 0 = c i };
        literals = count-literals i;
        steps = record { 0 = b i };
        empty = record { 0 = d i };
      }
