-- What the tables and the counts say of the reader that they hold (`ReadSoFar`).
--     counts_of, model-state                    the state of a model that is read
--     bound-is, universals-is, ..              the counts
--     kinds-front, sets-front, ..              the entries in use
--     same-room, room-then, long-kept           tables that are as long as before
--     long-now, framed                         the tables are long enough, and their entries past the stated sizes as they were
-- Assumes nothing.
use mathlib.Core.Path.{◌≡◌, refl, ap, sym, ◌∙◌}
use mathlib.Core.Bool.{true, false}
use mathlib.Core.List.{List, map, append-nil}
use Prim.Native.Nat.{ℕ, ◌-◌, ◌^◌, ◌≤◌}
use native.Mathlib.Omega.{arith}
use lib.IntN.{pos}
use lib.ListN.{length, take, length-map}
use Rattle.dqbf.specs.Limits.{clause_limit, literal_limit, variable_limit}
use Rattle.dqbf.specs.Literal.{Clause, sorted, total}
use Rattle.dqbf.specs.Set.{Set}
use Rattle.dqbf.specs.Formula.{Formula, universals}
use Rattle.dqbf.specs.Model.{clauses, steps, universal_count, empty_from, lowest_empty, model_by, model_of, word_of}
use Rattle.dqbf.specs.Reading.{Reader, is_opening, takes_prefix, takes_clauses, Phase, opening, prefix_lines, clause_lines}
use Rattle.dqbf.proofs.Reading.Lines.{once-universals}
use Rattle.tables.specs.Tables.{Tables}
use Rattle.tables.specs.Spread.{flat, ends_from, over, spread, state_of, kind_row, set_row, blank}
use Rattle.tables.specs.declared.State.{State}
use Rattle.tables.proofs.Laws.Cuts.{flat-length, ends-length}
use Rattle.tables.proofs.Laws.Rows.{over-length, over-take, over-over}
use Rattle.tables.specs.WellFormed.{long}
use Rattle.tables.proofs.Laws.Formed.{Long, long-is, long-to}
use Rattle.prefix_lines.specs.Lines.{Carried, phase_told, carried_of, ReadSoFar, Framed, SameRoom}
use Rattle.prefix_lines.specs.declared.progress.Phase as Code
use Rattle.prefix_lines.specs.declared.progress.Phase.TheVariants.{Opening, PrefixLines}
use Rattle.prefix_lines.proofs.Laws.Variables.{places-full}
use Rattle.prefix_lines.proofs.Laws.Models.{model-kinds, model-sets, model-clauses, model-used, model-universals}

-- ---- the state

-- of V variables in use, so many universals, and formula clauses alone
abbrev pub counts_of : ℕ → ℕ → List Clause → State
counts_of v n Cs = record {
  bound = record { 0 = v };
  variables = record { 0 = v };
  universals = n;
  formula = record { 0 = length Cs };
  clauses = record { 0 = length Cs };
  literals = total Cs;
  steps = record { 0 = 0 };
  empty = record { 0 = empty_from 1 Cs };
}

pub model-state : (φ : Formula) → state_of (model_of φ) ≡ counts_of φ.bound (universal_count (model_of φ)) (map sorted φ.clauses)
unfolding state_of lowest_empty
model-state φ =
    let d : length (model_of φ).formula ≡ length (map sorted φ.clauses) = unfold model_by in refl in
    let e : steps (model_of φ) ≡ 0 = unfold steps model_by in refl in
    rw (model-kinds φ, model-used φ, model-clauses φ, d, e)

-- ---- the phase

module _ (r : Reader) {n : Code.Phase} (e : n ≡ phase_told r.phase) where
  pub phase-opening : n ≡ Opening → r.phase ≡ opening
  unfolding phase_told
  phase-opening z = go r.phase (sym e ∙ z)
    where
      go : (p : Phase) → phase_told p ≡ Opening → p ≡ opening
      go opening h = refl
      go prefix_lines h = cc
      go clause_lines h = cc

  pub phase-late : (n ≡ Opening → ⊥) → (is_opening r.phase ≡ false) × (takes_clauses r.phase ≡ true)
  unfolding phase_told is_opening takes_clauses
  phase-late z = go r.phase (λ h. z (e ∙ h))
    where
      go : (p : Phase) → (phase_told p ≡ Opening → ⊥) → (is_opening p ≡ false) × (takes_clauses p ≡ true)
      go opening h = absurd (h refl)
      go prefix_lines h = (refl, refl)
      go clause_lines h = (refl, refl)

  pub phase-prefix : n ≡ PrefixLines → r.phase ≡ prefix_lines
  unfolding phase_told
  phase-prefix z = go r.phase (sym e ∙ z)
    where
      go : (p : Phase) → phase_told p ≡ PrefixLines → p ≡ prefix_lines
      go opening h = cc
      go prefix_lines h = refl
      go clause_lines h = cc

  pub phase-other : (n ≡ PrefixLines → ⊥) → takes_prefix r.phase ≡ false
  unfolding phase_told takes_prefix
  phase-other z = go r.phase (λ h. z (e ∙ h))
    where
      go : (p : Phase) → (phase_told p ≡ PrefixLines → ⊥) → takes_prefix p ≡ false
      go opening h = refl
      go prefix_lines h = absurd (h refl)
      go clause_lines h = refl

-- ---- the lengths

pub same-room : (t : Tables) → SameRoom t t
same-room t = record { literals = refl; ends = refl; sets = refl; kinds = refl }

pub room-then : {a b c : Tables} → SameRoom a b → SameRoom b c → SameRoom a c
room-then p q = record { literals = q.literals ∙ p.literals; ends = q.ends ∙ p.ends; sets = q.sets ∙ p.sets; kinds = q.kinds ∙ p.kinds }

pub long-kept : (t : Tables) {t' : Tables} → SameRoom t t' → long t ≡ true → long t' ≡ true
long-kept t {t'} p e =
    let l = long-is t e in
    long-to t' (record { literals = omega (arith, p.literals, l.literals); ends = omega (arith, p.ends, l.ends); sets = omega (arith, p.sets, l.sets); kinds = omega (arith, p.kinds, l.kinds) })

-- ---- counts and entries

module _ {t : Tables} {r : Reader} {p : Carried} {now : Tables} (h : ReadSoFar t r p now) where
  abbrev φ : Formula
  φ = r.formula

  pub phase-is : p.phase ≡ phase_told r.phase
  unfolding carried_of
  phase-is = ap (λ (q : Carried). q.phase) h.progress

  pub count-is : p.count ≡ r.count
  unfolding carried_of
  count-is = ap (λ (q : Carried). q.count) h.progress

  pub state-is : p.state ≡ counts_of φ.bound (length (universals φ)) (map sorted φ.clauses)
  unfolding carried_of
  state-is =
      ap (λ (q : Carried). q.state) h.progress ∙ model-state φ
      ∙ ap (λ n. counts_of φ.bound n (map sorted φ.clauses)) (model-universals r h.sane)

  pub bound-is : p.state.bound.0 ≡ φ.bound
  bound-is = ap (λ (s : State). s.bound.0) state-is

  pub universals-is : p.state.universals ≡ length (universals φ)
  universals-is = ap (λ (s : State). s.universals) state-is

  -- the places of the universals so far
  pub places_is : 2 ^ p.state.universals - 1 ≡ word_of (universals φ) (universals φ)
  places_is = rw universals-is (sym (places-full (universals φ) (once-universals φ.prefix h.sane.once)))

  pub clauses-is : p.state.clauses.0 ≡ length φ.clauses
  clauses-is = ap (λ (s : State). s.clauses.0) state-is ∙ length-map φ.clauses sorted

  pub formula-is : p.state.formula.0 ≡ length φ.clauses
  formula-is = ap (λ (s : State). s.formula.0) state-is ∙ length-map φ.clauses sorted

  pub literals-is : p.state.literals ≡ total (map sorted φ.clauses)
  literals-is = ap (λ (s : State). s.literals) state-is

  -- ---- rows

  kinds-fit : length (kind_row (model_of φ)) ≤ variable_limit
  unfolding kind_row model_by
  kinds-fit = rw (append-nil (model_of φ).kinds) (omega (arith, model-kinds φ, h.sane.small))

  sets-fit : length (set_row (model_of φ)) ≤ variable_limit
  unfolding set_row model_by
  sets-fit = rw (append-nil (model_of φ).sets) (omega (arith, model-sets φ, h.sane.small))

  literals-fit : length (flat (clauses (model_of φ))) ≤ literal_limit
  literals-fit = omega (arith, flat-length (clauses (model_of φ)), ap total (model-clauses φ), h.sane.light)

  ends-fit : length (ends_from 0 (clauses (model_of φ))) ≤ clause_limit
  ends-fit = omega (arith, ends-length 0 (clauses (model_of φ)), ap (λ (Cs : List Clause). length Cs) (model-clauses φ), length-map φ.clauses sorted, h.few, h.sane.few)

  pub long-now : Long now
  unfolding spread
  long-now =
      let l = long-is t h.lent in
      rw h.tables (record {
        literals = omega (arith, over-length (pos 0) literal_limit (flat (clauses (model_of φ))) t.literals literals-fit l.literals);
        ends = omega (arith, over-length 0 clause_limit (ends_from 0 (clauses (model_of φ))) t.ends ends-fit l.ends);
        sets = omega (arith, over-length 0 variable_limit (set_row (model_of φ)) t.sets sets-fit l.sets);
        kinds = omega (arith, over-length 0 variable_limit (kind_row (model_of φ)) t.kinds kinds-fit l.kinds);
      })

  pub framed : Framed t now
  unfolding spread
  framed =
      rw h.tables (λ i. record {
        literals = over-over (pos 0) literal_limit (flat (clauses blank)) (flat (clauses (model_of φ))) t.literals literals-fit i;
        ends = over-over 0 clause_limit (ends_from 0 (clauses blank)) (ends_from 0 (clauses (model_of φ))) t.ends ends-fit i;
        sets = over-over 0 variable_limit (set_row blank) (set_row (model_of φ)) t.sets sets-fit i;
        spare = t.spare;
        kinds = over-over 0 variable_limit (kind_row blank) (kind_row (model_of φ)) t.kinds kinds-fit i;
      })

  pub spare-is : now.spare ≡ t.spare
  unfolding spread
  spare-is = ap (λ (x : Tables). x.spare) h.tables

  pub kinds-over : now.kinds ≡ over variable_limit 0 (model_of φ).kinds t.kinds
  unfolding spread kind_row model_by
  kinds-over = ap (λ (x : Tables). x.kinds) h.tables ∙ ap (λ (l : List ℕ). over variable_limit 0 l t.kinds) (append-nil (model_of φ).kinds)

  pub sets_over : now.sets ≡ over variable_limit 0 (model_of φ).sets t.sets
  unfolding spread set_row model_by
  sets_over = ap (λ (x : Tables). x.sets) h.tables ∙ ap (λ (l : List Set). over variable_limit 0 l t.sets) (append-nil (model_of φ).sets)

  -- the entries of the variables 1 to V
  pub kinds-front : take p.state.bound.0 now.kinds ≡ (model_of φ).kinds
  kinds-front = let e : p.state.bound.0 ≡ length (model_of φ).kinds = bound-is ∙ sym (model-kinds φ) in rw (e, kinds-over) (over-take 0 variable_limit (model_of φ).kinds t.kinds)

  pub sets-front : take p.state.bound.0 now.sets ≡ (model_of φ).sets
  sets-front = let e : p.state.bound.0 ≡ length (model_of φ).sets = bound-is ∙ sym (model-sets φ) in rw (e, sets_over) (over-take 0 variable_limit (model_of φ).sets t.sets)
