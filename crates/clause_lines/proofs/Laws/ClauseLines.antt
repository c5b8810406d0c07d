-- Clause lines: one law for each return of `clause_refusal` and of `clause_line`, and what their parts ask.
--     within                             the counts of what was read are within the limits
--     declared-each                      the chain of `all_declared`
--     ranks-low                          declared variables have literals of 16 bits
--     Passes, passes-all                 what a clause with no refusal passed
--     r-wide, r-many, r-undeclared, r-clash, r-count, r-none      `clause_refusal` by the first test that fails
--     c-late, c-wide, c-many, c-undeclared, c-clash, c-count, c_read      the line by the first test that fails
--     clause-front-told, c-refused, c-taken     the line by `clause_refusal`
--     room, literals-low, formula-low, progress-added, literals-added      a clause that passes, added
-- Assumes nothing.
use mathlib.Core.Path.{◌≡◌, refl, ap, ap₂, sym, ◌∙◌}
use mathlib.Core.Logic.{◌⊎◌, inl, inr}
use mathlib.Core.Bool.{Bool, true, false, not, ◌&&◌, ◌||◌, true≢false, not-not}
use mathlib.Core.List.Memᴰ
use mathlib.Core.List.{List, [], ◌∷◌, ◌++◌, map}
use mathlib.Core.Option.{Option, none, some}
use Prim.Native.Nat.{ℕ, ◌+◌, ◌-◌, ◌*◌, ◌/◌, ◌≤◌, ◌<◌}
use native.Mathlib.Omega.{arith}
use borrow.Author.Tests.{lt-ltb, le-ltb, le-leb, lt-leb, ltb-true, ltb-false, leb-true, leb-false}
use borrow.Rule.Slice.PartMut.{put_mid}
use lib.Dec.{leb, ltb, eqb}
use Rattle.std.specs.List.{list_all}
use lib.IntN.{ℤ, nat_abs}
use lib.ListN.{length, get_or, take, drop, set, length-map, length-append, length-take}
use lib.Seq.{length-take-le, get_or-take, take_all}
use Rattle.dqbf.specs.Limits.{clause_limit, literal_limit, variable_limit, width_limit, literal_range}
use Rattle.dqbf.specs.Refusal.{Refusal, refusal, first}
use Rattle.dqbf.specs.Literal.{Clause, ◌∈◌, rank, sorted, clashes, total}
use Rattle.dqbf.specs.Formula.{Formula, declared}
use Rattle.dqbf.specs.Model.{clauses, model_by, model_of}
use Rattle.dqbf.specs.Reading.{clause_line, Reader, takes_clauses, elem, all_in, line_tests, taken}
use Rattle.dqbf.proofs.Laws.Tests.{either, both, pass, no_or, or_left, or_right}
use Rattle.dqbf.proofs.Laws.Counting.{in-elem}
use Rattle.dqbf.proofs.Laws.Clauses.{sorted-holds, sorted-in}
use Rattle.dqbf.proofs.Reading.Lines.{new_on, all_in-each, sane-form}
use Rattle.ranks.specs.Order.{all_inserted, Arranged}
use Rattle.ranks.specs.Ranks.{literal_of_rank, side_by_side}
use Rattle.ranks.proofs.Laws.Ranks.{rank-variable}
use Rattle.ranks.proofs.Laws.Sorting.{clause-count, clause-front, clause-literals, clause-pair}
use Rattle.tables.specs.Tables.{Tables, rows_of, entry}
use Rattle.tables.specs.Spread.{spread, state_of}
use Rattle.tables.specs.WellFormed.{all_of}
use Rattle.tables.specs.Adding.{stored, clause_ended, formula_counted, RoomFor}
use Rattle.tables.specs.declared.State.{State}
use Rattle.dqbf.proofs.Laws.Lists.{nth}
use Rattle.tables.proofs.Laws.Tests.{all-member}
use Rattle.tables.proofs.Laws.Rows.{stored-tail}
use Rattle.tables.proofs.Laws.Entries.{entry_past}
use Rattle.tables.proofs.Laws.Adding.{formula-state, formula-tables}
use Rattle.clause_lines.specs.Clause.{clause_refusal}
use Rattle.prefix_lines.specs.Rows.{is_declared}
use Rattle.prefix_lines.specs.Lines.{Carried, phase_told, carried_of, ReadSoFar, LineRead, Within, clause_added}
use Rattle.prefix_lines.specs.declared.progress.Phase.TheVariants.{Opening, ClauseLines}
use Rattle.prefix_lines.proofs.Laws.Variables.{kind-declared}
use Rattle.prefix_lines.proofs.Laws.Models.{kind-entry, model-clauses, model-clause}
use Rattle.prefix_lines.proofs.Laws.Reading.{phase-is, phase-opening, phase-late, count-is, state-is, bound-is, universals-is, clauses-is, formula-is, literals-is, framed, kinds-front}
use Rattle.prefix_lines.proofs.Laws.Declaring.{no-tests}
use Rattle.prefix_lines.proofs.Laws.LineTests.{test-fails, test-passes, line_refused, line_taken}

-- ---- the counts

pub within : {t : Tables} {r : Reader} {p : Carried} {now : Tables} → ReadSoFar t r p now → Within p
within {p = p} h = record {
  bound = omega (arith, bound-is h, h.sane.small);
  variables = rw (state-is h) h.sane.small;
  universals = omega (arith, universals-is h, h.sane.limit);
  formula = omega (arith, formula-is h, clauses-is h);
  clauses = omega (arith, clauses-is h, count-is h, h.few);
  count = omega (arith, count-is h, h.sane.few);
  literals = omega (arith, literals-is h, h.sane.light);
}

-- ---- declared variables by their ranks

pub declared-each : (kinds ranks : List ℕ) → list_all (λ x. not (eqb (entry kinds (x / 2)) 0)) ranks ≡ all_of (is_declared kinds) ranks
unfolding all_of is_declared
declared-each kinds [] = refl
declared-each kinds (x ∷ xs) = ap (λ b. not (eqb (entry kinds (x / 2)) 0) && b) (declared-each kinds xs)

declared-low : (kinds : List ℕ) (x : ℕ) → is_declared kinds x ≡ true → x / 2 ≤ length kinds
unfolding is_declared
declared-low kinds x e = go (either (leb (x / 2) (length kinds)))
  where
    go : (leb (x / 2) (length kinds) ≡ true) ⊎ (leb (x / 2) (length kinds) ≡ false) → x / 2 ≤ length kinds
    go (inl q) = leb-true (x / 2) (length kinds) q
    go (inr q) =
        let h = leb-false (x / 2) (length kinds) q in
        let z = entry_past kinds (x / 2) (λ y. omega arith) (omega arith) in
        absurd (true≢false (sym e ∙ rw (← z)))

pub ranks-low : (kinds out : List ℕ) (bound width : ℕ) → bound ≤ variable_limit → width ≤ length out → all_of (is_declared (take bound kinds)) (take width out) ≡ true
    → (i : ℕ) → i < width → get_or out i 0 ≤ 2 * literal_range + 1
ranks-low kinds out bound width few fits all i h =
    let w = length-take-le width out fits in
    let here = nth (take width out) i 0 (omega arith) in
    let low = declared-low (take bound kinds) (get_or (take width out) i 0) (all-member (is_declared (take bound kinds)) (take width out) all (get_or (take width out) i 0) here) in
    omega (arith, low, length-take bound kinds, get_or-take width out i 0 h)

-- ---- a clause and its sorted clause

same_truth : (a b : Bool) → (a ≡ true → b ≡ true) → (b ≡ true → a ≡ true) → a ≡ b
same_truth true b f g = sym (f refl)
same_truth false true f g = g refl
same_truth false false f g = refl

in_all : (xs : List ℕ) (C : Clause) → ((l : ℤ) → l ∈ C → nat_abs l ∈ xs) → all_in xs (map nat_abs C) ≡ true
unfolding all_in
in_all xs [] f = refl
in_all xs (l ∷ C) f = both _ _ (in-elem (nat_abs l) (f l (Memᴰ.head refl))) (in_all xs C (λ k q. f k (Memᴰ.tail q)))

sorted_all : (xs : List ℕ) (C : Clause) → all_in xs (map nat_abs (sorted C)) ≡ all_in xs (map nat_abs C)
sorted_all xs C =
    same_truth (all_in xs (map nat_abs (sorted C))) (all_in xs (map nat_abs C)) (λ e. in_all xs C (λ l q. all_in-each xs (sorted C) e l (sorted-holds C l q)))
    (λ e. in_all xs (sorted C) (λ l q. all_in-each xs C e l (sorted-in C l q)))

-- ---- the tests of a clause line

-- the clause of the first w ranks passes all tests
pub record Passes (ranks : List ℕ) (w : ℕ) (p : Carried) (kinds : List ℕ) : Type 0 where
  pub narrow : w ≤ width_limit
  pub light : p.state.literals + w ≤ literal_limit
  pub all : all_of (is_declared (take p.state.bound.0 kinds)) (take w ranks) ≡ true
  pub calm : side_by_side (take w ranks) ≡ false
  pub few : p.state.clauses.0 < p.count

module _ (ranks : List ℕ) (w : ℕ) (p : Carried) (kinds : List ℕ) where
  abbrev told : Option Refusal
  told = clause_refusal ranks w p kinds

  abbrev known : Bool
  known = all_of (is_declared (take p.state.bound.0 kinds)) (take w ranks)

  abbrev pair : Bool
  pair = side_by_side (take w ranks)

  pub r-wide : width_limit < w → told ≡ some (refusal 11)
  unfolding clause_refusal
  r-wide q = rw (lt-ltb width_limit w q)

  module _ (narrow : w ≤ width_limit) where
    pub r-many : literal_limit < p.state.literals + w → told ≡ some (refusal 11)
    unfolding clause_refusal
    r-many q = rw (le-ltb width_limit w narrow, lt-ltb literal_limit (p.state.literals + w) q)

    module _ (light : p.state.literals + w ≤ literal_limit) where
      pub r-undeclared : known ≡ false → told ≡ some (refusal 12)
      unfolding clause_refusal
      r-undeclared q = rw (le-ltb width_limit w narrow, le-ltb literal_limit (p.state.literals + w) light, q)

      module _ (all : known ≡ true) where
        pub r-clash : pair ≡ true → told ≡ some (refusal 13)
        unfolding clause_refusal
        r-clash q = rw (le-ltb width_limit w narrow, le-ltb literal_limit (p.state.literals + w) light, all, q)

        module _ (calm : pair ≡ false) where
          pub r-count : p.count ≤ p.state.clauses.0 → told ≡ some (refusal 14)
          unfolding clause_refusal
          r-count q = rw (le-ltb width_limit w narrow, le-ltb literal_limit (p.state.literals + w) light, all, calm, le-leb p.count p.state.clauses.0 q)

          pub r-none : p.state.clauses.0 < p.count → told ≡ none
          unfolding clause_refusal
          r-none q = rw (le-ltb width_limit w narrow, le-ltb literal_limit (p.state.literals + w) light, all, calm, lt-leb p.count p.state.clauses.0 q)

  -- what holds of the refusal in each case holds of it
  told-by : (P : Option Refusal → Type 0) → (width_limit < w → P (some (refusal 11))) → (w ≤ width_limit → literal_limit < p.state.literals + w → P (some (refusal 11)))
      → (w ≤ width_limit → p.state.literals + w ≤ literal_limit → known ≡ false → P (some (refusal 12)))
      → (w ≤ width_limit → p.state.literals + w ≤ literal_limit → known ≡ true → pair ≡ true → P (some (refusal 13)))
      → (w ≤ width_limit → p.state.literals + w ≤ literal_limit → known ≡ true → pair ≡ false → p.count ≤ p.state.clauses.0 → P (some (refusal 14)))
      → (Passes ranks w p kinds → P none) → P told
  told-by P wide many undeclared clash count passed =
      go (either (ltb width_limit w)) (either (ltb literal_limit (p.state.literals + w))) (either known) (either pair) (either (leb p.count p.state.clauses.0))
    where
      go : (ltb width_limit w ≡ true) ⊎ (ltb width_limit w ≡ false)
          → (ltb literal_limit (p.state.literals + w) ≡ true) ⊎ (ltb literal_limit (p.state.literals + w) ≡ false)
          → (known ≡ true) ⊎ (known ≡ false) → (pair ≡ true) ⊎ (pair ≡ false)
          → (leb p.count p.state.clauses.0 ≡ true) ⊎ (leb p.count p.state.clauses.0 ≡ false) → P told
      go (inl a) b k d e = let x = ltb-true _ _ a in rw (r-wide x) (wide x)
      go (inr a) (inl b) k d e = let x = ltb-false _ _ a in let y = ltb-true _ _ b in rw (r-many x y) (many x y)
      go (inr a) (inr b) (inr k) d e = let x = ltb-false _ _ a in let y = ltb-false _ _ b in rw (r-undeclared x y k) (undeclared x y k)
      go (inr a) (inr b) (inl k) (inl d) e = let x = ltb-false _ _ a in let y = ltb-false _ _ b in rw (r-clash x y k d) (clash x y k d)
      go (inr a) (inr b) (inl k) (inr d) (inl e) =
          let x = ltb-false _ _ a in let y = ltb-false _ _ b in let z = leb-true _ _ e in rw (r-count x y k d z) (count x y k d z)
      go (inr a) (inr b) (inl k) (inr d) (inr e) =
          let x = ltb-false _ _ a in let y = ltb-false _ _ b in let z = leb-false _ _ e in
          rw (r-none x y k d z) (passed (record { narrow = x; light = y; all = k; calm = d; few = z }))

  pub passes-all : none ≡ told → Passes ranks w p kinds
  passes-all = told-by (λ n. none ≡ n → Passes ranks w p kinds) (λ a e. cc) (λ a b e. cc) (λ a b k e. cc) (λ a b k d e. cc) (λ a b k d f e. cc) (λ all e. all)

-- the tests of the front alone
pub clause-front-told : (out : List ℕ) (w : ℕ) (p : Carried) (kinds : List ℕ) → w ≤ length out → clause_refusal (take w out) (length (take w out)) p kinds ≡ clause_refusal out w p kinds
unfolding clause_refusal
clause-front-told out w p kinds h =
    let long : length (take w out) ≡ w = length-take-le w out h in
    let all : take w (take w out) ≡ take w out = take_all w (take w out) (omega (arith, long)) in
    rw (long, all)

-- ---- a clause line

module _ {t : Tables} {r : Reader} {p : Carried} {now : Tables} (h : ReadSoFar t r p now) where
  abbrev φ : Formula
  φ = r.formula

  rank-told : (l : ℤ) → is_declared (take p.state.bound.0 now.kinds) (rank l) ≡ elem (nat_abs l) (declared φ.prefix)
  unfolding is_declared
  rank-told l =
      rw (rank-variable l, kinds-front h, kind-entry r h.sane (nat_abs l), kind-declared φ (nat_abs l)) (not-not (elem (nat_abs l) (declared φ.prefix)))

  ranks-told : (C : Clause) → all_of (is_declared (take p.state.bound.0 now.kinds)) (map rank C) ≡ all_in (declared φ.prefix) (map nat_abs C)
  unfolding all_of all_in
  ranks-told [] = refl
  ranks-told (l ∷ C) = ap₂ ◌&&◌ (rank-told l) (ranks-told C)

  module _ (C : Clause) where
    pub c-late : p.phase ≡ Opening → LineRead t r (clause_line C) (some (refusal 10)) p now
    unfolding line_tests takes_clauses
    c-late e = line_refused (refusal 10) (framed h) (test-fails (refusal 10) _ _ (rw (phase-opening r (phase-is h) e)))

    module _ (begun : p.phase ≡ Opening → ⊥) {ranks : List ℕ} (is : ranks ≡ map rank C) (w : ℕ) (out : List ℕ)
        (arranged : Arranged (all_inserted [] ranks) width_limit w out) where
      ten : not (takes_clauses r.phase) ≡ false
      ten = rw (phase-late r (phase-is h) begun).1

      put : Arranged (all_inserted [] (map rank C)) width_limit w out
      put = rw is at arranged

      abbrev wide : Bool
      wide = ltb width_limit (length (sorted C))

      abbrev heavy : Bool
      heavy = ltb literal_limit (total (map sorted φ.clauses) + length (sorted C))

      c-11 : (wide || heavy) ≡ true → LineRead t r (clause_line C) (some (refusal 11)) p now
      unfolding line_tests
      c-11 q = line_refused (refusal 11) (framed h) (test-passes (refusal 10) _ _ ten ∙ test-fails (refusal 11) _ _ q)

      pub c-wide : width_limit < w → LineRead t r (clause_line C) (some (refusal 11)) p now
      c-wide q = c-11 (or_left wide heavy (lt-ltb width_limit (length (sorted C)) (omega (arith, clause-count C width_limit w out put))))

      module _ (narrow : w ≤ width_limit) where
        width_is : w ≡ length (sorted C)
        width_is = omega (arith, clause-count C width_limit w out put)

        pub c-many : literal_limit < p.state.literals + w → LineRead t r (clause_line C) (some (refusal 11)) p now
        c-many q = c-11 (or_right wide heavy (lt-ltb literal_limit (total (map sorted φ.clauses) + length (sorted C)) (omega (arith, width_is, literals-is h))))

        module _ (light : p.state.literals + w ≤ literal_limit) where
          eleven : (wide || heavy) ≡ false
          eleven =
              no_or wide heavy (le-ltb width_limit (length (sorted C)) (omega (arith, width_is)))
              (le-ltb literal_limit (total (map sorted φ.clauses) + length (sorted C)) (omega (arith, width_is, literals-is h)))

          known_is : known out w p now.kinds ≡ all_in (declared φ.prefix) (map nat_abs C)
          known_is = rw (clause-front C width_limit w out put narrow) (ranks-told (sorted C) ∙ sorted_all (declared φ.prefix) C)

          pub c-undeclared : known out w p now.kinds ≡ false → LineRead t r (clause_line C) (some (refusal 12)) p now
          unfolding line_tests
          c-undeclared q =
              line_refused (refusal 12) (framed h)
              (test-passes (refusal 10) _ _ ten ∙ test-passes (refusal 11) _ _ eleven ∙ test-fails (refusal 12) _ _ (rw (← known_is, q)))

          module _ (all : known out w p now.kinds ≡ true) where
            twelve : not (all_in (declared φ.prefix) (map nat_abs C)) ≡ false
            twelve = rw (← known_is, all)

            pair_is : side_by_side (take w out) ≡ clashes (sorted C)
            pair_is = clause-pair C width_limit w out put narrow

            pub c-clash : side_by_side (take w out) ≡ true → LineRead t r (clause_line C) (some (refusal 13)) p now
            unfolding line_tests
            c-clash q =
                line_refused (refusal 13) (framed h)
                (test-passes (refusal 10) _ _ ten ∙ test-passes (refusal 11) _ _ eleven ∙ test-passes (refusal 12) _ _ twelve ∙ test-fails (refusal 13) _ _ (sym pair_is ∙ q))

            module _ (calm : side_by_side (take w out) ≡ false) where
              thirteen : clashes (sorted C) ≡ false
              thirteen = sym pair_is ∙ calm

              pub c-count : p.count ≤ p.state.clauses.0 → LineRead t r (clause_line C) (some (refusal 14)) p now
              unfolding line_tests
              c-count q =
                  line_refused (refusal 14) (framed h)
                  (test-passes (refusal 10) _ _ ten ∙ test-passes (refusal 11) _ _ eleven ∙ test-passes (refusal 12) _ _ twelve ∙ test-passes (refusal 13) _ _ thirteen
                  ∙ test-fails (refusal 14) _ _ (le-leb r.count (length φ.clauses) (omega (arith, count-is h, clauses-is h))))

              module _ (few : p.state.clauses.0 < p.count) where
                passes : first (line_tests r (clause_line C)) ≡ none
                unfolding line_tests
                passes =
                    pass _ _ _ ten (pass _ _ _ eleven (pass _ _ _ twelve (pass _ _ _ thirteen (pass _ _ _ (lt-leb r.count (length φ.clauses) (omega (arith, count-is h, clauses-is h))) no-tests))))

                abbrev ψ : Formula
                ψ = record { bound = φ.bound; prefix = φ.prefix; clauses = φ.clauses ++ (C ∷ []) }

                no-derived : (model_of φ).derived ≡ []
                unfolding model_by
                no-derived = refl

                state-more : formula_counted (clause_ended p.state w) ≡ state_of (model_of ψ)
                state-more =
                    let s : p.state ≡ state_of (model_of φ) = unfold carried_of in ap (λ (q : Carried). q.state) h.progress in
                    rw (s, width_is, model-clause φ C) (formula-state (model_of φ) (sorted C) no-derived)

                progress-more : {q : Carried} → q ≡ clause_added p w → q ≡ carried_of (taken r (clause_line C))
                unfolding clause_added carried_of taken phase_told
                progress-more e = e ∙ (λ i. record { phase = ClauseLines; count = count-is h i; state = state-more i })

                tables_more : {ls : List ℤ} {es : List ℕ} → ls ≡ stored now.literals p.state.literals (map literal_of_rank (take w out))
                    → es ≡ set now.ends p.state.clauses.0 (p.state.literals + w) → rows_of ls es now.sets now.spare now.kinds ≡ spread (model_of ψ) t
                tables_more e f =
                    let m = model_of φ in
                    let n : p.state.literals ≡ total (clauses m) = literals-is h ∙ ap total (sym (model-clauses φ)) in
                    let k : p.state.clauses.0 ≡ length (clauses m) = clauses-is h ∙ sym (length-map φ.clauses sorted) ∙ ap (λ (Cs : List Clause). length Cs) (sym (model-clauses φ)) in
                    rw (e, f, clause-literals C width_limit w out put narrow, width_is, n, k, h.tables, model-clause φ C)
                    (formula-tables m (sorted C) no-derived t (omega (arith, k, few, count-is h, h.sane.few)) (omega (arith, n, width_is, light)))

                pub c_read : {q : Carried} {ls : List ℤ} {es : List ℕ} → q ≡ clause_added p w → ls ≡ stored now.literals p.state.literals (map literal_of_rank (take w out))
                    → es ≡ set now.ends p.state.clauses.0 (p.state.literals + w)
                    → LineRead t r (clause_line C) none q (rows_of ls es now.sets now.spare now.kinds)
                unfolding taken new_on
                c_read d e f =
                    line_taken passes (record {
                      lent = h.lent;
                      sane = sane-form r (clause_line C) (λ x q. absurd (Memᴰ.not-nil q)) passes h.sane;
                      opened = λ z. cc;
                      few = omega (arith, length-append φ.clauses (C ∷ []), few, count-is h, clauses-is h);
                      progress = progress-more d;
                      tables = tables_more e f;
                    })

      -- the line by its first test
      pub c-refused : {x : Refusal} → some x ≡ clause_refusal out w p now.kinds → LineRead t r (clause_line C) (some x) p now
      c-refused {x} e = go e
        where
          go : some x ≡ clause_refusal out w p now.kinds → LineRead t r (clause_line C) (some x) p now
          go q = rw q (told-by out w p now.kinds (λ n. some x ≡ n → LineRead t r (clause_line C) n p now)
              (λ a z. c-wide a) (λ a b z. c-many a b) (λ a b k z. c-undeclared a b k) (λ a b k d z. c-clash a b k d) (λ a b k d f z. c-count a b k d f) (λ all z. cc) q)

      pub c-taken : {q : Carried} {ls : List ℤ} {es : List ℕ} → Passes out w p now.kinds → q ≡ clause_added p w
          → ls ≡ stored now.literals p.state.literals (map literal_of_rank (take w out)) → es ≡ set now.ends p.state.clauses.0 (p.state.literals + w)
          → LineRead t r (clause_line C) none q (rows_of ls es now.sets now.spare now.kinds)
      c-taken g = c_read g.narrow g.light g.all g.calm g.few

-- ---- what a clause that passes needs and leaves

module _ {p : Carried} (counts : Within p) {ranks : List ℕ} {w : ℕ} {kinds : List ℕ} (g : Passes ranks w p kinds) where
  pub room : RoomFor p.state 1 w 0
  room = record { clauses-fit = omega (arith, counts, g.few); literals-fit = g.light; variables-fit = omega (arith, counts) }

  pub literals-low : w ≤ length ranks → (i : ℕ) → i < length (take w ranks) → get_or (take w ranks) i 0 ≤ 2 * literal_range + 1
  literals-low fits i h =
      let inside : i < w = omega (arith, length-take-le w ranks fits) in
      rw (get_or-take w ranks i 0 inside) (ranks-low kinds ranks p.state.bound.0 w counts.bound fits g.all i inside)

  pub formula-low : p.state.formula.0 < clause_limit
  formula-low = omega (arith, counts, g.few)

pub progress-added : (p : Carried) (w : ℕ) {n : State} → n ≡ formula_counted (clause_ended p.state w) → ◌≡◌ {A = Carried} (record { phase = ClauseLines; count = p.count; state = n }) (clause_added p w)
unfolding clause_added
progress-added p w q = rw q

pub literals-added : (literals : List ℤ) (ranks : List ℕ) (place w : ℕ) {z : List ℤ} → w ≤ length ranks → z ≡ map literal_of_rank (take w ranks) ++ drop (length (take w ranks)) (take (length literals - place) (drop place literals))
    → put_mid place (length literals - place) literals z ≡ stored literals place (map literal_of_rank (take w ranks))
literals-added literals ranks place w h e =
    let n : length (map literal_of_rank (take w ranks)) ≡ w = length-map (take w ranks) literal_of_rank ∙ length-take-le w ranks h in
    rw (e, length-take-le w ranks h) (rw n at (stored-tail literals place (map literal_of_rank (take w ranks))))
