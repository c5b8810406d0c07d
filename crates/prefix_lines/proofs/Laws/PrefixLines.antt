-- The prefix lines: one law for each return of `existential_line`, `dependent_line` and `universal_line`.
--     e-late, e-read                       an `e` line
--     d-late, d-stranger, d-read           a `d` line
--     a-late, a-over, a-repeated, a_read         an `a` line
--     universals-told, union-told                what the rows say of variables
-- Assumes nothing.
use mathlib.Core.Path.{◌≡◌, refl, ap, ap₂, sym, ◌∙◌}
use mathlib.Core.Bool.{Bool, true, false, cond, not, ◌&&◌, ◌||◌}
use mathlib.Core.List.Memᴰ
use mathlib.Core.List.{List, [], ◌∷◌, ◌++◌, map, append-nil}
use mathlib.Core.Logic.{◌⊎◌, inl, inr}
use mathlib.Core.Option.{Option, none, some}
use Prim.Native.Nat.{ℕ, ◌+◌, ◌-◌, ◌≤◌, ◌<◌, min}
use native.Mathlib.Omega.{arith}
use borrow.Author.Tests.{lt-ltb, le-ltb}
use lib.Dec.{ltb}
use lib.ListN.{length, take, set, length-append}
use lib.Seq.{length-take-le}
use Rattle.dqbf.specs.Limits.{universal_limit}
use Rattle.dqbf.specs.Refusal.{Refusal, refusal, first}
use Rattle.dqbf.specs.Literal.{◌∈◌}
use Rattle.dqbf.specs.Set.{Set, single, union}
use Rattle.dqbf.specs.Formula.{on_a, on_d, universals, universals_of, declared, var}
use Rattle.dqbf.specs.Model.{place, word_of, kind_for, set_for}
use Rattle.dqbf.specs.Reading.{a_line, e_line, d_line, prefix_lines, Reader, takes_prefix, elem, all_in, different, fresh, undeclarable, line_tests, declaring, taken}
use Rattle.dqbf.proofs.Laws.Tests.{either, and_left, and_right, eqb_is, never, pass, no-not, no_or, or_left, or_right}
use Rattle.dqbf.proofs.Reading.Lines.{new_on, universals-append, universals-a}
use Rattle.ranks.specs.Order.{all_inserted, Arranged}
use Rattle.ranks.proofs.Laws.Insertion.{all-grows}
use Rattle.ranks.proofs.Laws.Sorting.{universals-count, universals-front}
use Rattle.tables.specs.Tables.{Tables, rows_of, entry}
use Rattle.tables.specs.WellFormed.{all_of}
use Rattle.prefix_lines.specs.Rows.{declarable, unless_12, Declared, is_universal, union_of}
use Rattle.prefix_lines.specs.Lines.{Carried, on_line, ReadSoFar, Known, LineRead, DeclaredAll}
use Rattle.prefix_lines.specs.declared.progress.Phase.TheVariants.{PrefixLines}
use Rattle.prefix_lines.proofs.Laws.Variables.{subject, made, kind-universal, set-universal}
use Rattle.prefix_lines.proofs.Laws.Models.{kind-entry, set-entry}
use Rattle.prefix_lines.proofs.Laws.Reading.{phase-is, phase-prefix, phase-other, universals-is, framed, kinds-front, sets-front}
use Rattle.prefix_lines.proofs.Laws.Fresh.{fresh-low, fresh-new, many-fresh}
use Rattle.prefix_lines.proofs.Laws.Declaring.{declarable-told, read-declared, progress-other, no-tests, inside-prefix, passed-told}
use Rattle.prefix_lines.proofs.Laws.LineTests.{test-fails, test-passes, test-last, line_refused, line_taken}

-- numbers put in are never fewer than before
pub count-grows : (known xs : List ℕ) (u most n : ℕ) (out : List ℕ) → u ≤ most → most < length known → Arranged (all_inserted (take u known) xs) most n out → u ≤ n
count-grows known xs u most n out h k a = omega (arith, a.count, all-grows (take u known) xs, length-take-le u known (omega arith))

-- ---- members

module _ (r : Reader) where
  abbrev us : List ℕ
  us = universals r.formula

module _ {t : Tables} {r : Reader} {p : Carried} {now : Tables} (h : ReadSoFar t r p now) where
  universal-told : (x : ℕ) → is_universal (take p.state.bound.0 now.kinds) x ≡ elem x (us r)
  unfolding is_universal
  universal-told x = rw (kinds-front h, kind-entry r h.sane x) (kind-universal r.formula x h.sane.once)

  pub universals-told : (S : List ℕ) → all_of (is_universal (take p.state.bound.0 now.kinds)) S ≡ all_in (us r) S
  unfolding all_of all_in
  universals-told [] = refl
  universals-told (x ∷ S) = ap₂ ◌&&◌ (universal-told x) (universals-told S)

  set_told : (x : ℕ) → elem x (us r) ≡ true → entry (take p.state.bound.0 now.sets) x ≡ single (place (us r) x)
  set_told x e =
      let k = eqb_is (kind_for (var r.formula x)) 1 (kind-universal r.formula x h.sane.once ∙ e) in
      rw (sets-front h, set-entry r h.sane x) (set-universal (us r) x (var r.formula x) k)

  pub union-told : (S : List ℕ) → all_in (us r) S ≡ true → union_of (take p.state.bound.0 now.sets) S ≡ word_of (us r) S
  unfolding union_of word_of all_in
  union-told [] e = refl
  union-told (x ∷ S) e =
      ap₂ union (set_told x (and_left (elem x (us r)) (all_in (us r) S) e)) (union-told S (and_right (elem x (us r)) (all_in (us r) S) e))

  -- ---- an `e` line

  late : (p.phase ≡ PrefixLines → ⊥) → not (takes_prefix r.phase) ≡ true
  late n = rw (phase-other r (phase-is h) n)

  pub e-late : (p.phase ≡ PrefixLines → ⊥) → (xs : List ℕ) → LineRead t r (e_line xs) (some (refusal 10)) p now
  unfolding line_tests
  e-late n xs = line_refused (refusal 10) (framed h) (test-fails (refusal 10) _ _ (late n))

  pub e-read : p.phase ≡ PrefixLines → (xs : List ℕ) {a : Option Refusal} {p' : Carried} {now' : Tables} → (r.phase ≡ prefix_lines → DeclaredAll false xs t r a p' now') → LineRead t r (e_line xs) a p' now'
  unfolding line_tests undeclarable taken on_line
  e-read e xs call =
      let inside = phase-prefix r (phase-is h) e in
      let d = call inside in
      record {
        told = test-passes (refusal 10) _ _ (inside-prefix inside) ∙ test-last (fresh r.formula.bound (declared r.formula.prefix) xs) ∙ sym d.told;
        held = d.held;
        framed = d.framed;
      }

  -- ---- a `d` line

  pub d-late : (p.phase ≡ PrefixLines → ⊥) → (x : ℕ) (S : List ℕ) → LineRead t r (d_line x S) (some (refusal 10)) p now
  unfolding line_tests
  d-late n x S = line_refused (refusal 10) (framed h) (test-fails (refusal 10) _ _ (late n))

  module _ (e : p.phase ≡ PrefixLines) (x : ℕ) (S : List ℕ) where
    abbrev inside : r.phase ≡ prefix_lines
    inside = phase-prefix r (phase-is h) e

    d-12 : (undeclarable r.formula (x ∷ []) || not (all_in (us r) S)) ≡ true → LineRead t r (d_line x S) (some (refusal 12)) p now
    unfolding line_tests
    d-12 q = line_refused (refusal 12) (framed h) (test-passes (refusal 10) _ _ (inside-prefix inside) ∙ test-fails (refusal 12) _ _ q)

    pub d-stranger : all_of (is_universal (take p.state.bound.0 now.kinds)) S ≡ false → LineRead t r (d_line x S) (some (refusal 12)) p now
    d-stranger n = d-12 (or_right (undeclarable r.formula (x ∷ [])) (not (all_in (us r) S)) (rw (← universals-told S, n)))

    module _ (all : all_of (is_universal (take p.state.bound.0 now.kinds)) S ≡ true) {s : Set} (word : s ≡ union_of (take p.state.bound.0 now.sets) S) (some-x : x ≡ 0 → ⊥) where
      abbrev a : Bool
      a = declarable p.state.bound.0 now.kinds x

      is-fresh : a ≡ fresh r.formula.bound (declared r.formula.prefix) (x ∷ [])
      is-fresh = declarable-told h x some-x

      d-refused : a ≡ false → {sets spare kinds : List ℕ} → sets ≡ cond a (set now.sets (x - 1) s) now.sets → spare ≡ now.spare → kinds ≡ cond a (set now.kinds (x - 1) 2) now.kinds
          → LineRead t r (d_line x S) (some (refusal 12)) p (rows_of now.literals now.ends sets spare kinds)
      unfolding undeclarable
      d-refused n m o k = rw (rw n at m, o, rw n at k) (d-12 (or_left (not (fresh r.formula.bound (declared r.formula.prefix) (x ∷ []))) (not (all_in (us r) S)) (rw (← is-fresh, n))))

      module _ (new : a ≡ true) where
        ok : fresh r.formula.bound (declared r.formula.prefix) (x ∷ []) ≡ true
        ok = sym is-fresh ∙ new

        known : all_in (us r) S ≡ true
        known = sym (universals-told S) ∙ all

        passes : first (line_tests r (d_line x S)) ≡ none
        unfolding line_tests undeclarable
        passes =
            pass _ _ _ (inside-prefix inside)
            (pass _ _ _ (no_or (not (fresh r.formula.bound (declared r.formula.prefix) (x ∷ []))) (not (all_in (us r) S)) (no-not _ ok) (no-not _ known)) no-tests)

        positive : (y : ℕ) → y ∈ x ∷ [] → y ≡ 0 → ⊥
        positive y q z = some-x (sym (Memᴰ.eq_of_singleton q) ∙ z)

        low : x ≤ r.formula.bound
        low = fresh-low r.formula.bound (declared r.formula.prefix) x ok

        apart : elem x (declared r.formula.prefix) ≡ false
        apart = fresh-new r.formula.bound (declared r.formula.prefix) x ok

        d-taken : {sets spare kinds : List ℕ} → sets ≡ cond a (set now.sets (x - 1) s) now.sets → spare ≡ now.spare → kinds ≡ cond a (set now.kinds (x - 1) 2) now.kinds
            → LineRead t r (d_line x S) none p (rows_of now.literals now.ends sets spare kinds)
        unfolding taken subject made set_for kind_for universals_of new_on
        d-taken m o k =
            let own : s ≡ word_of (us r ++ []) S = word ∙ union-told S known ∙ ap (λ (l : List ℕ). word_of l S) (sym (append-nil (us r))) in
            line_taken passes
            (read-declared h (on_d x S) (d_line x S) refl passes positive some-x low apart
            (progress-other h (on_d x S) (d_line x S) refl passes positive some-x low apart refl inside) (rw new at m ∙ rw own) o (rw new at k))

      pub d-read : {A : Option Refusal} {sets spare kinds : List ℕ} → spare ≡ now.spare → Declared p.state.bound.0 x 2 s now.sets now.kinds A sets kinds
          → LineRead t r (d_line x S) A p (rows_of now.literals now.ends sets spare kinds)
      d-read {A} {sets} {spare} {kinds} o d = rw d.told (go (either a))
        where
          go : (a ≡ true) ⊎ (a ≡ false) → LineRead t r (d_line x S) (unless_12 a) p (rows_of now.literals now.ends sets spare kinds)
          go (inl new) = rw (ap unless_12 new) (d-taken new d.sets-are o d.kinds-are)
          go (inr old) = rw (ap unless_12 old) (d-refused old d.sets-are o d.kinds-are)

  -- ---- an `a` line

  pub a-late : (p.phase ≡ PrefixLines → ⊥) → (xs : List ℕ) → LineRead t r (a_line xs) (some (refusal 10)) p now
  unfolding line_tests
  a-late n xs = line_refused (refusal 10) (framed h) (test-fails (refusal 10) _ _ (late n))

  module _ (e : p.phase ≡ PrefixLines) (xs known : List ℕ) (knows : Known r known) (n : ℕ) (out : List ℕ)
      (arranged : Arranged (all_inserted (take p.state.universals known) xs) universal_limit n out) where
    abbrev within : r.phase ≡ prefix_lines
    within = phase-prefix r (phase-is h) e

    put : Arranged (all_inserted (all_inserted [] (us r)) xs) universal_limit n out
    put = rw (universals-is h, knows) at arranged

    counted : n ≡ min (length (different (us r ++ xs))) (universal_limit + 1)
    counted = universals-count (us r) xs universal_limit n out put

    -- 11: more than 256 different numbers
    pub a-over : universal_limit < n → LineRead t r (a_line xs) (some (refusal 11)) p now
    unfolding line_tests
    a-over w =
        line_refused (refusal 11) (framed h)
        (test-passes (refusal 10) _ _ (inside-prefix within) ∙ test-fails (refusal 11) _ _ (lt-ltb universal_limit (length (different (us r ++ xs))) (omega (arith, counted))))

    module _ (few : n ≤ universal_limit) where
      total : n ≡ length (different (us r ++ xs))
      total = omega (arith, counted)

      eleven : ltb universal_limit (length (different (us r ++ xs))) ≡ false
      eleven = le-ltb universal_limit (length (different (us r ++ xs))) (omega (arith, total))

      -- 12: a number stands twice on the line, or is a universal already
      pub a-repeated : (n - p.state.universals ≡ length xs → ⊥) → LineRead t r (a_line xs) (some (refusal 12)) p now
      unfolding line_tests undeclarable
      a-repeated d =
          let stale : fresh r.formula.bound (declared r.formula.prefix) xs ≡ false =
          never _ (λ k. d (omega (arith, many-fresh r.formula.bound r.formula.prefix xs h.sane.once k, total, universals-is h))) in
          line_refused (refusal 12) (framed h)
          (test-passes (refusal 10) _ _ (inside-prefix within) ∙ test-passes (refusal 11) _ _ eleven ∙ test-fails (refusal 12) _ _ (rw stale))

      module _ (all : n - p.state.universals ≡ length xs) {a : Option Refusal} {p' : Carried} {now' : Tables} (call : r.phase ≡ prefix_lines → DeclaredAll true xs t r a p' now') where
        pub a_read : LineRead t r (a_line xs) a p' now'
        unfolding line_tests undeclarable taken on_line
        a_read =
            let d = call within in
            record {
              told = test-passes (refusal 10) _ _ (inside-prefix within) ∙ test-passes (refusal 11) _ _ eleven
                  ∙ test-last (fresh r.formula.bound (declared r.formula.prefix) xs) ∙ sym d.told;
              held = d.held;
              framed = d.framed;
            }

        pub a-known : a ≡ none → Known (taken r (a_line xs)) out
        unfolding taken declaring
        a-known z =
            let ok = passed-told (fresh r.formula.bound (declared r.formula.prefix) xs) (sym z ∙ (call within).told) in
            let grown : universals_of (r.formula.prefix ++ map on_a xs) ≡ us r ++ xs = universals-append r.formula.prefix (map on_a xs) ∙ ap (us r ++◌) (universals-a xs) in
            let long : length (us r ++ xs) ≡ n = length-append (us r) xs ∙ sym (total ∙ many-fresh r.formula.bound r.formula.prefix xs h.sane.once ok) in
            rw (grown, long) (universals-front (us r) xs universal_limit n out put few)
