-- What the search asks of well-formed tables, and each outcome of `decide` by the tests that lead to it (specs/Decisions.antt).
use mathlib.Core.Path.{◌≡◌, refl, sym, ◌∙◌, ap}
use mathlib.Core.Logic.{◌≢◌}
use mathlib.Core.Bool.{Bool, true, false, cond}
use mathlib.Core.Option.{none, some}
use mathlib.Core.List.Memᴰ
use mathlib.Core.List.{List, []}
use Prim.Native.Nat.{ℕ, zero, suc, ◌≤◌, ◌<◌}
use native.Mathlib.Omega.{arith}
use borrow.Author.Tests.{lt-ltb, le-ltb}
use lib.Dec.{ltb}
use lib.IntN.{ℤ, nat_abs}
use lib.ListN.{take, get_or}
use Rattle.dqbf.specs.Limits.{tables, small_universals, small_bits}
use Rattle.dqbf.specs.Refusal.{Refusal, refusal}
use Rattle.dqbf.specs.Literal.{Clause}
use Rattle.dqbf.specs.Set.{Set}
use Rattle.dqbf.specs.Model.{Model, clauses, universal_count, kind_of, set_of}
use Rattle.dqbf.specs.Spelled.{formula_in, formula_part}
use Rattle.dqbf.specs.Valid.{Valid}
use Rattle.dqbf.proofs.Laws.Tests.{no_or, or_left, or_right}
use Rattle.dqbf.proofs.SetSize.{below}
use Rattle.dqbf.proofs.Spelling.Part.{part-valid}
use Rattle.tables.specs.declared.State.{State}
use Rattle.tables.specs.Tables.{Tables, cut, model_in}
use Rattle.tables.specs.FormulaEntries.{declarations}
use Rattle.tables.specs.WellFormed.{long, well_formed}
use Rattle.tables.specs.Unusable.{unusable, unless_refused}
use Rattle.tables.proofs.Laws.FormulaEntries.{bound-kinds, kind-declared, set-declared, part-is, universals-are, entries-are}
use Rattle.tables.proofs.Laws.Spread.{valid-held}
use Rattle.tables.proofs.Laws.Unusable.{none_lent, none-formed}
use Rattle.deciding.specs.Deciding.{total_bits, first_family, Decision, undecided, decided, above, decide}
use Rattle.function_tables.specs.Layout.{AllSmall}
use Rattle.function_tables.proofs.Laws.Layout.{set_at}
use Rattle.clause_masks.specs.Masking.{OverAll}
use Rattle.decider.specs.Decisions.{decision_answer}
use Rattle.decider.specs.Entries.{SmallFormula}
use Rattle.decider.proofs.Laws.Search.{total-same}

-- ---- the limits

module _ (kinds : List ℕ) (sets : List Set) (Cs : List Clause) where
  abbrev n : Model
  n = formula_in kinds sets Cs

  part_same : formula_part n ≡ n
  unfolding formula_part
  part_same = refl

  decide-is : (b : Bool) → above n ≡ b → decide n ≡ cond b (undecided (refusal 31)) (decided (first_family n))
  unfolding decide
  decide-is b e = ap (λ (p : Model). cond (above p) (undecided (refusal 31)) (decided (first_family p))) part_same ∙ rw e

  pub decide-above : (bits : ℕ) → bits ≡ total_bits (declarations kinds sets) → 16 < bits → undecided (refusal 31) ≡ decide n
  unfolding above
  decide-above bits e h =
      sym (decide-is true (or_right (ltb small_universals (universal_count n)) (ltb small_bits (total_bits n)) (lt-ltb 16 (total_bits n) (rw (← (total-same kinds sets Cs), ← e) h))))

  pub decide-within : (bits u : ℕ) → bits ≡ total_bits (declarations kinds sets) → bits ≤ 16 → u ≡ universal_count (declarations kinds sets) → u ≤ 4
      → {d : Decision} → d ≡ decided (first_family n) → d ≡ decide n
  unfolding above universal_count declarations
  decide-within bits u e h c k q =
      q ∙ sym (decide-is false (no_or (ltb small_universals (universal_count n)) (ltb small_bits (total_bits n)) (le-ltb 4 (universal_count n) (rw c at k))
      (le-ltb 16 (total_bits n) (let z = total-same kinds sets Cs in omega arith))))

-- ---- the entries of well-formed tables

module _ (t : Tables) (s : State) (lent : long t ≡ true) (formed : well_formed t s ≡ true) where
  abbrev kinds : List ℕ
  kinds = take s.bound.0 t.kinds

  abbrev sets : List Set
  sets = take s.bound.0 t.sets

  abbrev ends : List ℕ
  ends = take s.formula.0 t.ends

  abbrev Cs : List Clause
  Cs = cut 0 ends t.literals

  abbrev p : Model
  p = formula_in kinds sets Cs

  pub few-variables : s.bound.0 ≤ 512
  few-variables = let n = bound-kinds t s lent formed in let e = entries-are t s lent formed in omega (arith, e.few-variables)

  pub decide-part : decide (model_in t s) ≡ decide p
  unfolding decide
  decide-part = ap (λ (q : Model). cond (above q) (undecided (refusal 31)) (decided (first_family q))) (part-is t s lent formed ∙ sym (part_same kinds sets Cs))

  counted : s.universals ≡ universal_count p
  unfolding universal_count
  counted = universals-are t s lent formed

  pub many-universals : 4 < s.universals → undecided (refusal 31) ≡ decide (model_in t s)
  unfolding above
  many-universals h =
      sym (decide-part ∙ decide-is kinds sets Cs true (or_left (ltb small_universals (universal_count p)) (ltb small_bits (total_bits p)) (lt-ltb 4 (universal_count p) (rw counted at h))))

  -- ---- what the search asks

  ok : Valid tables p
  ok = rw (part-is t s lent formed) at (part-valid tables (model_in t s) (valid-held t s lent formed))

  set_is : (i : ℕ) → set_of p (suc i) ≡ get_or sets i 0
  set_is i = set-declared kinds sets Cs (suc i) ∙ set_at kinds sets i

  module _ (few : s.universals ≤ 4) where
    small : AllSmall sets
    small i = below 4 (get_or sets i 0) (λ j b. let w = ok.within (suc i) j (rw (set_is i) b) in let c = counted in omega arith)

    declared : (l : ℤ) → kind_of p (nat_abs l) ≢ 0 → (0 < nat_abs l) × (kind_of (declarations kinds sets) (nat_abs l) ≢ 0)
    unfolding kind_of
    declared l d = (positive (nat_abs l) d, λ e. d (kind-declared kinds sets Cs (nat_abs l) ∙ e))
      where
        positive : (x : ℕ) → kind_of p x ≢ 0 → 0 < x
        positive zero h = absurd (h refl)
        positive (suc x) h = omega arith

    over : OverAll (declarations kinds sets) Cs
    unfolding clauses declarations
    over C q l o = let k = declared l ((ok.kept C (Memᴰ.append_left [] q)).over l o) in (k.0, ok.own C q l o, k.1)

    pub search-asks : SmallFormula t.literals ends sets kinds s.universals
    unfolding declarations universal_count
    search-asks =
        let e = entries-are t s lent formed in
        record { small = record { even = e.even; few = e.few-variables; small = small }; counted = counted; few = few; rises = e.rise; over = over }

-- ---- the outcomes

module _ (t : Tables) (s : State) where
  pub decide-refused : {r : Refusal} → some r ≡ unusable t s → undecided r ≡ decision_answer t s
  unfolding decision_answer unless_refused
  decide-refused e = rw (← e)

  module _ (z : none ≡ unusable t s) where
    pub formed-asks : (long t ≡ true) × (well_formed t s ≡ true)
    formed-asks = (none_lent t s (sym z), none-formed t s (sym z))

    pub decide-told : {d : Decision} → d ≡ decide (model_in t s) → d ≡ decision_answer t s
    unfolding decision_answer unless_refused
    decide-told e = e ∙ rw (← z)
