-- Entries by number, and what they are of well-formed tables: a clause's range, a variable's kind and set.
--     entry-none, entry-some, entry_past      an entry by its number
--     unknown-told, clause-at, clause-there, range-rises, range-ends, range_length, range-narrow     a clause of the model, and its range in the literals
--     kind-told, set_told, literal-in-use     kind and set of a variable in use
use mathlib.Core.Path.{◌≡◌, refl, ap, sym, ◌∙◌}
use mathlib.Core.Bool.{true, ◌||◌}
use mathlib.Core.List.{List, [], ◌∷◌}
use Prim.Native.Nat.{ℕ, zero, suc, ◌-◌, ◌≤◌, ◌<◌}
use native.Mathlib.Nat.{not-suc-le-zero, le_of_suc-le-suc}
use native.Mathlib.Numerals.{sub-one}
use native.Mathlib.Omega.{arith}
use borrow.Author.Tests.{leb-true}
use lib.Dec.{leb, ltb, eqb}
use lib.IntN.{ℤ, nat_abs}
use lib.ListN.{length, get_or, take, get_or-eq_default}
use lib.Seq.{get_or-take}
use Rattle.dqbf.specs.Limits.{width_limit}
use Rattle.dqbf.specs.Literal.{Clause, ◌∈◌}
use Rattle.dqbf.specs.Model.{Model, clauses, kind_of, set_of}
use Rattle.dqbf.specs.Rules.{clause_at, unknown}
use Rattle.dqbf.proofs.Laws.Tests.{and_left, and_right}
use Rattle.dqbf.proofs.Laws.Lists.{nth}
use Rattle.dqbf.proofs.Laws.Models.{in_use}
use Rattle.tables.specs.declared.State.{State}
use Rattle.tables.specs.Tables.{Tables, stretch, cut, entry, ends_in, model_in}
use Rattle.tables.specs.WellFormed.{ends_rise, long, well_formed}
use Rattle.tables.proofs.Laws.Cuts.{stretch-length, rise-le}
use Rattle.tables.proofs.Laws.Formed.{long-is, formed-is, ends-in}
use Rattle.tables.proofs.Laws.Held.{clauses-is, kinds-is, sets-is}
use Rattle.tables.proofs.Laws.Valid.{kind-entry, set-entry}
use Rattle.tables.proofs.Laws.Spread.{valid-held}
use Rattle.tables.proofs.Laws.Adding.{clause-count, variable-count}

-- ---- entry

pub entry-none : (l : List ℕ) {x : ℕ} → x ≡ 0 → 0 ≡ entry l x
unfolding entry
entry-none l e = rw e

pub entry-some : (l : List ℕ) (x : ℕ) → (x ≡ 0 → ⊥) → get_or l (x - 1) 0 ≡ entry l x
unfolding entry
entry-some l zero n = absurd (n refl)
entry-some l (suc i) n = rw sub-one

pub entry_past : (l : List ℕ) (x : ℕ) → (x ≡ 0 → ⊥) → length l ≤ x - 1 → 0 ≡ entry l x
entry_past l x n h = sym (get_or-eq_default l 0 h) ∙ entry-some l x n

pub entry-take : (n : ℕ) (l : List ℕ) (x : ℕ) → x ≤ n → entry (take n l) x ≡ entry l x
unfolding entry
entry-take n l zero h = refl
entry-take n l (suc i) h = get_or-take n l i 0 h

-- ---- a clause between two ends

-- the clause at a place, where those before it start at `from`
start_at : ℕ → List ℕ → ℕ → ℕ
start_at from ends zero = from
start_at from ends (suc i) = get_or ends i 0

cut-place : (from : ℕ) (ends : List ℕ) (l : List ℤ) (i : ℕ) → i < length ends → get_or (cut from ends l) i [] ≡ stretch (start_at from ends i) (get_or ends i 0) l
unfolding cut start_at
cut-place from [] l i h = absurd (not-suc-le-zero h)
cut-place from (e ∷ ends) l zero h = refl
cut-place from (e ∷ ends) l (suc zero) h = cut-place e ends l zero (le_of_suc-le-suc h)
cut-place from (e ∷ ends) l (suc (suc i)) h = cut-place e ends l (suc i) (le_of_suc-le-suc h)

rise-place : (from : ℕ) (ends : List ℕ) (n : ℕ) → ends_rise from ends n ≡ true → (i : ℕ) → i < length ends → (start_at from ends i ≤ get_or ends i 0) × (get_or ends i 0 ≤ n)
unfolding ends_rise start_at
rise-place from [] n r i h = absurd (not-suc-le-zero h)
rise-place from (e ∷ ends) n r zero h = (leb-true from e (and_left (leb from e) (ends_rise e ends n) r), rise-le e ends n (and_right (leb from e) (ends_rise e ends n) r))
rise-place from (e ∷ ends) n r (suc zero) h = rise-place e ends n (and_right (leb from e) (ends_rise e ends n) r) zero (le_of_suc-le-suc h)
rise-place from (e ∷ ends) n r (suc (suc i)) h = rise-place e ends n (and_right (leb from e) (ends_rise e ends n) r) (suc i) (le_of_suc-le-suc h)

start-entry : (ends : List ℕ) (i : ℕ) → start_at 0 ends i ≡ entry ends i
unfolding start_at entry
start-entry ends zero = refl
start-entry ends (suc i) = refl

-- ---- of well-formed tables

module _ (t : Tables) (s : State) (lent : long t ≡ true) (formed : well_formed t s ≡ true) where
  abbrev m : Model
  m = model_in t s

  ends-count : length (ends_in t s) ≡ s.clauses.0
  ends-count = ends-in t s (long-is t lent) (formed-is t s formed).counts

  pub unknown-told : (c : ℕ) → unknown m c ≡ (eqb c 0 || ltb s.clauses.0 c)
  unfolding unknown
  unknown-told c = rw (clause-count t s lent formed)

  module _ (c : ℕ) (some : c ≡ 0 → ⊥) (known : c ≤ s.clauses.0) where
    place : c - 1 < length (ends_in t s)
    place = omega (arith, ends-count, some)

    start-told : start_at 0 (ends_in t s) (c - 1) ≡ entry t.ends (c - 1)
    start-told = start-entry (ends_in t s) (c - 1) ∙ entry-take s.clauses.0 t.ends (c - 1) (omega arith)

    end-told : get_or (ends_in t s) (c - 1) 0 ≡ entry t.ends c
    end-told = entry-some (ends_in t s) c some ∙ entry-take s.clauses.0 t.ends c known

    rises : (start_at 0 (ends_in t s) (c - 1) ≤ get_or (ends_in t s) (c - 1) 0) × (get_or (ends_in t s) (c - 1) 0 ≤ s.literals)
    rises = rise-place 0 (ends_in t s) s.literals (formed-is t s formed).rise (c - 1) place

    pub range-rises : entry t.ends (c - 1) ≤ entry t.ends c
    range-rises = rw (start-told, end-told) at rises.0

    pub range-ends : entry t.ends c ≤ length t.literals
    range-ends = omega (arith, rises.1, end-told, (formed-is t s formed).counts.literals, (long-is t lent).literals)

    at_place : clause_at m c ≡ get_or (clauses m) (c - 1) []
    at_place = go c some
      where
        go : (c : ℕ) → (c ≡ 0 → ⊥) → clause_at m c ≡ get_or (clauses m) (c - 1) []
        go zero n = absurd (n refl)
        go (suc i) n = unfold clause_at in rw sub-one

    pub clause-at : clause_at m c ≡ stretch (entry t.ends (c - 1)) (entry t.ends c) t.literals
    clause-at = at_place ∙ rw (clauses-is t s, cut-place 0 (ends_in t s) t.literals (c - 1) place, start-told, end-told)

    pub range_length : length (clause_at m c) ≡ entry t.ends c - entry t.ends (c - 1)
    range_length = ap (λ (C : Clause). length C) clause-at ∙ stretch-length (entry t.ends (c - 1)) (entry t.ends c) t.literals range-ends

    pub clause-there : clause_at m c ∈ clauses m
    clause-there = rw at_place (nth (clauses m) (c - 1) [] (omega (arith, some, clause-count t s lent formed)))

    pub range-narrow : entry t.ends c - entry t.ends (c - 1) ≤ width_limit
    range-narrow = omega (arith, range_length, ((valid-held t s lent formed).kept (clause_at m c) clause-there).narrow)

  -- ---- kind and set

  pub kind-told : (x : ℕ) → x ≤ s.variables.0 → entry t.kinds x ≡ kind_of m x
  kind-told x h =
      sym (entry-take s.variables.0 t.kinds x h) ∙ ap (λ (l : List ℕ). entry l x) (sym (kinds-is t s (long-is t lent) (formed-is t s formed))) ∙ kind-entry m x

  pub set_told : (x : ℕ) → x ≤ s.variables.0 → entry t.sets x ≡ set_of m x
  set_told x h = sym (entry-take s.variables.0 t.sets x h) ∙ ap (λ (l : List ℕ). entry l x) (sym (sets-is t s)) ∙ set-entry m x

  -- a clause's literals are over variables in use
  pub literal-in-use : (C : Clause) → C ∈ clauses m → (l : ℤ) → l ∈ C → nat_abs l ≤ s.variables.0
  literal-in-use C q l w = omega (arith, in_use m (nat_abs l) (((valid-held t s lent formed).kept C q).over l w), variable-count t s lent formed)
