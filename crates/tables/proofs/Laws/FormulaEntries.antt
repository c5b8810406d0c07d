-- The entries of a formula in tables (specs/FormulaEntries.antt).
--     kind-declared, set-declared         a variable is what it is without the clauses
--     rises-up, -more, -take, -from       ends that never fall
--     ends-split, end-rises, end-between, cut-next     a loop over the ends: what is left starts where the last clause ended
--     bound-kinds, bound-sets, formula-ends, part-is, universals-are, entries-are     the formula part of well-formed tables
--     bound-words, sets-declared          the declared sets, by their words
use mathlib.Core.Path.{◌≡◌, refl, sym, ◌∙◌, ap}
use mathlib.Core.Bool.{true}
use mathlib.Core.List.{List, [], ◌∷◌}
use Prim.Native.Nat.{ℕ, zero, suc, ◌+◌, ◌*◌, ◌≤◌, ◌<◌}
use native.Mathlib.Numerals.{add-one}
use native.Mathlib.Omega.{arith}
use lib.Dec.{leb}
use lib.IntN.{ℤ}
use lib.ListN.{length, take, drop, get_or}
use lib.Seq.{drop-cons, length-take-le, take-take}
use Rattle.dqbf.specs.Literal.{Clause}
use Rattle.dqbf.specs.Set.{Set}
use Rattle.dqbf.specs.Model.{universals_in, universal_count, kind_of, set_of}
use Rattle.dqbf.specs.Spelled.{formula_in, formula_part}
use Rattle.dqbf.proofs.Laws.Tests.{and_left, and_right, eqb_is, leb_yes}
use Rattle.sets.specs.Words.{words_each, as_sets}
use Rattle.tables.specs.declared.State.{State}
use Rattle.tables.specs.Tables.{Tables, tables_of, stretch, cut, model_in}
use Rattle.tables.specs.WellFormed.{long, well_formed, ends_rise}
use Rattle.tables.specs.FormulaEntries.{declarations, Rises, Entries}
use Rattle.tables.proofs.Laws.Cuts.{take-cut}
use Rattle.tables.proofs.Laws.Formed.{Long, Formed, long-is, formed-is}
use Rattle.tables.proofs.Laws.Held.{count-universals}
use Rattle.tables.proofs.Laws.Lent.{long-words, taken-sets}

-- ---- variables

module _ (kinds : List ℕ) (sets : List Set) (Cs : List Clause) where
  pub kind-declared : (x : ℕ) → kind_of (formula_in kinds sets Cs) x ≡ kind_of (declarations kinds sets) x
  unfolding kind_of declarations
  kind-declared zero = refl
  kind-declared (suc i) = refl

  pub set-declared : (x : ℕ) → set_of (formula_in kinds sets Cs) x ≡ set_of (declarations kinds sets) x
  unfolding set_of declarations
  set-declared zero = refl
  set-declared (suc i) = refl

-- ---- ends that never fall

pub rises-up : (from : ℕ) (ends : List ℕ) (n : ℕ) → Rises from ends n → from ≤ n
unfolding Rises
rises-up from [] n r = r
rises-up from (end ∷ ends) n r = let k = rises-up end ends n r.1 in omega (arith, r.0)

pub rises-more : (from : ℕ) (ends : List ℕ) (n m : ℕ) → n ≤ m → Rises from ends n → Rises from ends m
unfolding Rises
rises-more from [] n m h r = omega arith
rises-more from (end ∷ ends) n m h r = (r.0, rises-more end ends n m h r.1)

pub rises-take : (k from : ℕ) (ends : List ℕ) (n : ℕ) → Rises from ends n → Rises from (take k ends) n
unfolding Rises
rises-take zero from ends n r = rises-up from ends n r
rises-take (suc k) from [] n r = r
rises-take (suc k) from (end ∷ ends) n r = (r.0, rises-take k end ends n r.1)

pub rises-from : (from : ℕ) (ends : List ℕ) (n : ℕ) → ends_rise from ends n ≡ true → Rises from ends n
unfolding Rises ends_rise
rises-from from [] n h = let e = eqb_is from n h in omega arith
rises-from from (end ∷ ends) n h = (leb_yes from end (and_left (leb from end) (ends_rise end ends n) h), rises-from end ends n (and_right (leb from end) (ends_rise end ends n) h))

-- ---- a loop over the ends: what is left starts where the last clause ended

module _ (literals : List ℤ) (ends : List ℕ) (from i : ℕ) where
  abbrev end : ℕ
  end = get_or ends i 0

  pub ends-split : i < length ends → drop i ends ≡ end ∷ drop (i + 1) ends
  ends-split h = rw (add-one i) (drop-cons ends i 0 h)

  pub end-rises : i < length ends → Rises from (drop i ends) (length literals) → (from ≤ end) × Rises end (drop (i + 1) ends) (length literals)
  unfolding Rises
  end-rises h r = rw (ends-split h) at r

  pub end-between : i < length ends → Rises from (drop i ends) (length literals) → (from ≤ end) × (end ≤ length literals)
  end-between h r = let k = end-rises h r in (k.0, rises-up end (drop (i + 1) ends) (length literals) k.1)

  pub cut-next : i < length ends → cut from (drop i ends) literals ≡ stretch from end literals ∷ cut end (drop (i + 1) ends) literals
  unfolding cut
  cut-next h = ap (λ (es : List ℕ). cut from es literals) (ends-split h)

-- ---- the formula part of well-formed tables

module _ (t : Tables) (s : State) (lent : long t ≡ true) (formed : well_formed t s ≡ true) where
  abbrev kinds : List ℕ
  kinds = take s.bound.0 t.kinds

  abbrev sets : List Set
  sets = take s.bound.0 t.sets

  abbrev ends : List ℕ
  ends = take s.formula.0 t.ends

  L : Long t
  L = long-is t lent

  F : Formed t s
  F = formed-is t s formed

  formula-in-use : s.formula.0 ≤ s.clauses.0
  formula-in-use = omega (arith, F.counts.adds)

  pub bound-kinds : s.bound.0 ≡ length kinds
  bound-kinds = sym (length-take-le s.bound.0 t.kinds (omega (arith, F.counts.bound, L.kinds)))

  pub bound-sets : s.bound.0 ≡ length sets
  bound-sets = sym (length-take-le s.bound.0 t.sets (omega (arith, F.counts.bound, L.sets)))

  pub formula-ends : s.formula.0 ≡ length ends
  formula-ends = sym (length-take-le s.formula.0 t.ends (omega (arith, F.counts.formula, L.ends)))

  pub part-is : formula_part (model_in t s) ≡ formula_in kinds sets (cut 0 ends t.literals)
  unfolding formula_part model_in
  part-is =
      rw (
        take-take s.bound.0 s.variables.0 t.kinds F.counts.in_use,
        take-take s.bound.0 s.variables.0 t.sets F.counts.in_use,
        take-cut s.formula.0 0 (take s.clauses.0 t.ends) t.literals,
        take-take s.formula.0 s.clauses.0 t.ends formula-in-use,
      )

  pub universals-are : s.universals ≡ universals_in kinds
  unfolding universal_count model_in
  universals-are = sym (count-universals t s L F) ∙ ap universals_in (take-take s.bound.0 s.variables.0 t.kinds F.counts.in_use)

  rise : Rises 0 ends (length t.literals)
  rise =
      let r = rises-take s.formula.0 0 (take s.clauses.0 t.ends) s.literals (rises-from 0 (take s.clauses.0 t.ends) s.literals F.rise) in
      rises-more 0 ends s.literals (length t.literals) (omega (arith, F.counts.literals, L.literals))
      (rw (take-take s.formula.0 s.clauses.0 t.ends formula-in-use) at r)

  pub entries-are : Entries t.literals ends sets kinds
  entries-are = record {
    rise = rise;
    few-clauses = omega (arith, formula-ends, F.counts.formula);
    even = omega (arith, bound-kinds, bound-sets);
    few-variables = omega (arith, bound-kinds, F.counts.bound);
    few-universals = omega (arith, universals-are, F.counts.universals);
  }

-- ---- the declared sets, by their words

module _ (l : List ℤ) (e w k : List ℕ) (s : State) (lent : long (tables_of l e w k) ≡ true) (formed : well_formed (tables_of l e w k) s ≡ true) where
  bound-room : 4 * s.bound.0 ≤ length w
  bound-room = omega (arith, (formed-is (tables_of l e w k) s formed).counts.bound, long-words w (long-is (tables_of l e w k) lent).sets)

  pub bound-words : 4 * s.bound.0 ≡ length (take (4 * s.bound.0) w)
  bound-words = sym (length-take-le (4 * s.bound.0) w bound-room)

  pub sets-declared : as_sets words_each (take (4 * s.bound.0) w) ≡ take s.bound.0 (as_sets words_each w)
  sets-declared = taken-sets w s.bound.0 bound-room
