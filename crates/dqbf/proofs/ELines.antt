-- The rule of `e` lines compared with the one that stood before (specs/Statements/ELines.antt). proofs/Narrowing.antt has the comparison of two models; here, that
-- the two rules make such models.
use mathlib.Core.Path.{◌≡◌, refl, sym, ◌∙◌, ap, ap₂}
use mathlib.Core.Logic.{◌⊎◌, inl, inr}
use mathlib.Core.Bool.{Bool, true, false, cond, false≢true}
use mathlib.Core.List.Memᴰ
use mathlib.Core.List.{List, [], ◌∷◌, ◌++◌, map, append-nil, append_assoc}
use Prim.Native.Nat.{ℕ, suc, ◌^◌}
use native.Mathlib.Omega.{arith}
use lib.Dec.{eqb, ltb}
use lib.ListN.{length}
use Rattle.dqbf.specs.Limits.{Room, records_limit}
use Rattle.dqbf.specs.Bytes.{bytes, same_bytes, number}
use Rattle.dqbf.specs.Refusal.{refusal, first}
use Rattle.dqbf.specs.Literal.{◌∈◌, same, rank, holds, without, join, sorted, clashes, lowest_clash, total, pick, covers}
use Rattle.dqbf.specs.Set.{Set, inside, single}
use Rattle.dqbf.specs.Formula.{Declaration, on_a, on_e, on_d, Formula, universals_of, universals, declared, e_set, Var, undeclared, universal, existential, declared_as, var_by}
use Rattle.dqbf.specs.Text.{onto, pieces, is_empty, non_empty, last_of, parted, tokens, all_digits, value_from, number_of, not_zero, variable_of, literal_of, is_zero, prepend, closed}
use Rattle.dqbf.specs.Reading.{accepted, header_of, header_form, prefix_form, clause_form, tokens_form, is_comment, form_of, is_opening, takes_clauses, takes_prefix, elem, all_in, different, fresh, undeclarable, line_tests, declaring, taken, at_end, unless, read_from, load}
use Rattle.dqbf.specs.Model.{Model, clauses, used, kind_of, set_of, clause_set, place, word_of, kind_for, set_for, numbers, model_by, model_of}
use Rattle.dqbf.specs.Record.{zeros, signed, record_of, stretches}
use Rattle.dqbf.specs.Rules.{Addition, add, no_room, clause_at, unknown, reducing, reads, reduction_tests, forking, fork_tests, rule_tests_by, added, tests_by}
use Rattle.dqbf.specs.Run.{Examined, accepts, refuses, judged, examine_by, examine_or20_by, examine_bytes, examine_bytes_by, bad, go_on, run_from, run_from_by, run_by}
use Rattle.dqbf.specs.Cases.{hex_digits, paired, hex}
use Rattle.dqbf.specs.Statements.ELines.{every_universal, SetsShrink, universals_first, SameElsewhere, onward, beginning, add_all, BeginningRuns, BeginningStays, Stays, RunStays, alternating, EachLine, between, SomeGained}
use Rattle.dqbf.proofs.Laws.Tests.{and_left, and_right, eqb_is, ltb-not}
use Rattle.dqbf.proofs.Laws.Words.{bit-inside, bit-single}
use Rattle.dqbf.proofs.Laws.Containment.{none_inside}
use Rattle.dqbf.proofs.Laws.Counting.{word-has, word_in}
use Rattle.dqbf.proofs.Reading.Lines.{load-sane}
use Rattle.dqbf.proofs.LoadValid.{Names, set-in}
use Rattle.dqbf.proofs.Soundness.Link.{universal-in}
use Rattle.dqbf.proofs.Narrowing.{with_sets, Narrower, Entries, done, more, AllInside, beginning-stays, ends-alike, run-stays}

-- ---- a formula under the two rules

-- what a variable is: the same, or every universal of the file and some of them
abbrev Alike : List ℕ → Var → Var → Type 0
Alike all v w = (w ≡ v) ⊎ ((S : List ℕ) × (v ≡ existential all) × (w ≡ existential S) × ((u : ℕ) → u ∈ S → u ∈ all))

alike : (earlier all : List ℕ) (ds : List Declaration) → ((u : ℕ) → u ∈ earlier → u ∈ all) → ((u : ℕ) → u ∈ universals_of ds → u ∈ all) → (x : ℕ)
    → Alike all (declared_as every_universal earlier all ds x) (declared_as e_set earlier all ds x)
unfolding declared_as universals_of every_universal e_set
alike earlier all [] a b x = inl refl
alike earlier all (on_a y ∷ ds) a b x = go (eqb x y) (alike (earlier ++ (y ∷ [])) all ds grow (λ u q. b u (Memᴰ.tail q)) x)
  where
    grow : (u : ℕ) → u ∈ earlier ++ (y ∷ []) → u ∈ all
    grow u q = two (Memᴰ.append_cases earlier q)
      where
        two : (u ∈ earlier) ⊎ (u ∈ y ∷ []) → u ∈ all
        two (inl k) = a u k
        two (inr k) = b u (Memᴰ.head (Memᴰ.eq_of_singleton k))

    go : (t : Bool) {v w : Var} → Alike all v w → Alike all (cond t universal v) (cond t universal w)
    go true h = inl refl
    go false h = h
alike earlier all (on_e y ∷ ds) a b x = go (eqb x y) (alike earlier all ds a b x)
  where
    go : (t : Bool) {v w : Var} → Alike all v w → Alike all (cond t (existential all) v) (cond t (existential earlier) w)
    go true h = inr (earlier, refl, refl, a)
    go false h = h
alike earlier all (on_d y S ∷ ds) a b x = go (eqb x y) (alike earlier all ds a b x)
  where
    go : (t : Bool) {v w : Var} → Alike all v w → Alike all (cond t (existential S) v) (cond t (existential S) w)
    go true h = inl refl
    go false h = h

-- a set of universals lies inside the set of all
word-inside : (us S : List ℕ) → ((u : ℕ) → u ∈ S → u ∈ us) → inside (word_of us S) (word_of us us) ≡ true
word-inside us S h = (bit-inside (word_of us S) (word_of us us)).1 (λ i b. let w = word_in us S i b in rw (← w.2) (word-has us us w.0 (h w.0 w.1)))

single-inside-all : (us : List ℕ) (x : ℕ) → x ∈ us → inside (single (place us x)) (word_of us us) ≡ true
single-inside-all us x q =
    (bit-inside (2 ^ place us x) (word_of us us)).1 (λ i b. rw (← (eqb_is (place us x) i (sym (bit-single (place us x) i) ∙ b))) (word-has us us x q))

every-names : Names every_universal
unfolding every_universal
every-names earlier all u q = inr q

pub sets-shrink : SetsShrink
unfolding var_by
sets-shrink φ x = alike [] (universals φ) φ.prefix (λ u q. absurd (Memᴰ.not-nil q)) (λ u q. q) x

-- where no `a` line stands behind an `e` line, the universals before it are all
first_alike : (earlier all : List ℕ) (ds : List Declaration) → universals_first ds ≡ true → all ≡ earlier ++ universals_of ds → (x : ℕ)
    → declared_as e_set earlier all ds x ≡ declared_as every_universal earlier all ds x
unfolding declared_as universals_of universals_first every_universal e_set is_empty
first_alike earlier all [] f e x = refl
first_alike earlier all (on_a y ∷ ds) f e x = rw (first_alike (earlier ++ (y ∷ [])) all ds f (e ∙ sym (append_assoc earlier (y ∷ []) (universals_of ds))) x)
first_alike earlier all (on_e y ∷ ds) f e x =
    let none = nothing (universals_of ds) (and_left (is_empty (universals_of ds)) (universals_first ds) f) in
    let same : all ≡ earlier = e ∙ ap (λ (us : List ℕ). earlier ++ us) none ∙ append-nil earlier in
    rw (first_alike earlier all ds (and_right (is_empty (universals_of ds)) (universals_first ds) f) e x, same)
  where
    nothing : (us : List ℕ) → is_empty us ≡ true → us ≡ []
    nothing [] h = refl
    nothing (u ∷ us) h = absurd (false≢true h)
first_alike earlier all (on_d y S ∷ ds) f e x = rw (first_alike earlier all ds f e x)

pub same-elsewhere : SameElsewhere
unfolding var_by
same-elsewhere φ f x = first_alike [] (universals φ) φ.prefix f refl x

module _ (text : List ℕ) (φ : Formula) (ok : load text ≡ accepted φ) where
  abbrev us : List ℕ
  us = universals φ

  abbrev all : Set
  all = word_of us us

  lists : (v : ℕ) (S : List ℕ) → var_by every_universal φ v ≡ existential S → (u : ℕ) → u ∈ S → u ∈ us
  unfolding var_by
  lists v S e u q =
      let r = load-sane text φ ok in
      set-in every_universal every-names us [] us φ.prefix (λ w p. absurd (Memᴰ.not-nil p)) (λ w p. p) (λ w p. p)
      (λ y T p. rw r.3 at (r.1.lists y T (rw r.3 p))) v S e u q

  variable-narrower : (x : ℕ) → Narrower all (kind_for (var_by every_universal φ x)) (set_for us x (var_by every_universal φ x)) (set_for us x (var_by e_set φ x))
  unfolding kind_for set_for var_by
  variable-narrower x = record { within = within (var_by every_universal φ x) refl; kept = kept; smaller = smaller (sets-shrink φ x) }
    where
      within : (v : Var) → var_by every_universal φ x ≡ v → inside (set_for us x v) all ≡ true
      within undeclared e = none_inside all
      within universal e = single-inside-all us x (universal-in every_universal [] us φ.prefix x e)
      within (existential S) e = word-inside us S (lists x S e)

      smaller : Alike us (var_by every_universal φ x) (var_by e_set φ x)
          → (set_for us x (var_by e_set φ x) ≡ set_for us x (var_by every_universal φ x))
          ⊎ ((set_for us x (var_by every_universal φ x) ≡ all) × (inside (set_for us x (var_by e_set φ x)) all ≡ true))
      smaller (inl e) = inl (ap (set_for us x) e)
      smaller (inr h) = inr (ap (set_for us x) h.1, rw h.2 (word-inside us h.0 h.3))

      kept : kind_for (var_by every_universal φ x) ≡ 1 → set_for us x (var_by e_set φ x) ≡ set_for us x (var_by every_universal φ x)
      kept k = go (sets-shrink φ x)
        where
          go : Alike us (var_by every_universal φ x) (var_by e_set φ x) → set_for us x (var_by e_set φ x) ≡ set_for us x (var_by every_universal φ x)
          go (inl e) = ap (set_for us x) e
          go (inr h) = absurd (let z : 2 ≡ 1 = sym (ap kind_for h.1) ∙ k in omega arith)

  same-kinds : (x : ℕ) → kind_for (var_by e_set φ x) ≡ kind_for (var_by every_universal φ x)
  unfolding kind_for
  same-kinds x = go (sets-shrink φ x)
    where
      go : Alike us (var_by every_universal φ x) (var_by e_set φ x) → kind_for (var_by e_set φ x) ≡ kind_for (var_by every_universal φ x)
      go (inl e) = ap kind_for e
      go (inr h) = ap kind_for h.2 ∙ sym (ap kind_for h.1)

  rows : (xs : List ℕ) → Entries all (map (λ x. kind_for (var_by every_universal φ x)) xs) (map (λ x. set_for us x (var_by every_universal φ x)) xs) (map (λ x. set_for us x (var_by e_set φ x)) xs)
  rows [] = done
  rows (x ∷ xs) = more (variable-narrower x) (rows xs)

  kind-rows : (xs : List ℕ) → map (λ x. kind_for (var_by e_set φ x)) xs ≡ map (λ x. kind_for (var_by every_universal φ x)) xs
  kind-rows [] = refl
  kind-rows (x ∷ xs) = ap₂ {C = List ℕ} ◌∷◌ (same-kinds x) (kind-rows xs)

  abbrev old : Model
  old = model_by every_universal φ

  new_is : model_of φ ≡ with_sets old (model_of φ).sets
  unfolding model_by with_sets
  new_is = λ i. record { kinds = kind-rows (numbers 0 φ.bound) i; sets = (model_of φ).sets; formula = (model_of φ).formula; forks = []; derived = [] }

  entries : Entries all old.kinds old.sets (model_of φ).sets
  unfolding model_by
  entries = rows (numbers 0 φ.bound)

  no-forks : AllInside all old.forks
  unfolding model_by
  no-forks s q = absurd (Memᴰ.not-nil q)

-- ---- the beginning of a run

begun : (room : Room) (rs : List (List ℕ)) (k : ℕ) (m : Model) → (run_from room rs k m).model ≡ add_all m (beginning room m rs)
unfolding run_from_by go_on beginning onward add_all
begun room [] k m = refl
begun room (bs ∷ rs) k m = go (examine_bytes room m bs) (λ a. begun room rs (suc k) (add m a))
  where
    go : (e : Examined) → ((a : Addition) → (run_from room rs (suc k) (add m a)).model ≡ add_all (add m a) (beginning room (add m a) rs))
        → (go_on e m (suc k) (λ m'. run_from room rs (suc k) m')).model ≡ add_all m (onward e (λ a. beginning room (add m a) rs))
    go (accepts a) ih = ih a
    go (refuses x) ih = refl

pub beginning-runs : BeginningRuns
unfolding run_by
beginning-runs room m bs short = rw (ltb-not records_limit (length bs) short) (begun room (stretches (length bs) bs) 0 m)

-- ---- lists and runs from the load

pub beginning-stays-accepted : BeginningStays
beginning-stays-accepted room text φ ok rs =
    let h = beginning-stays room (all text φ ok) (model_of φ).sets rs (old text φ ok) (entries text φ ok) (no-forks text φ ok) in
    (h.0, ap (λ (m : Model). beginning room m rs) (new_is text φ ok) ∙ h.1)

pub run-stays-accepted : RunStays
unfolding run_by with_sets
run-stays-accepted room text φ ok bs = rw (new_is text φ ok) (go (ltb records_limit (length bs)) (run-stays room (all text φ ok) sets' (stretches (length bs) bs) 0 m (entries text φ ok) (no-forks text φ ok)))
  where
    m : Model
    m = model_by every_universal φ

    sets' : List Set
    sets' = (model_of φ).sets

    n : Model
    n = with_sets m sets'

    go : (b : Bool) → Stays (run_from room (stretches (length bs) bs) 0 m) (run_from room (stretches (length bs) bs) 0 n)
        → Stays (cond b (record { model = m; verdict = bad 0 (refusal 11) }) (run_from room (stretches (length bs) bs) 0 m))
        (cond b (record { model = n; verdict = bad 0 (refusal 11) }) (run_from room (stretches (length bs) bs) 0 n))
    go true s = ends-alike room (all text φ ok) sets' m (bad 0 (refusal 11))
    go false s = s

pub each_line : EachLine
unfolding
    bytes same_bytes number first universals_of declared e_set every_universal declared_as var_by
    onto pieces is_empty non_empty last_of parted tokens all_digits value_from number_of not_zero variable_of literal_of is_zero prepend closed
    header_of header_form prefix_form clause_form tokens_form is_comment form_of is_opening takes_clauses takes_prefix elem all_in different fresh undeclarable line_tests declaring taken at_end unless read_from load
    alternating
each_line = record { text = refl; sets = (refl, refl); before = (refl, refl) }

pub some-gained : SomeGained
unfolding
    bytes same_bytes number first same rank holds without join sorted clashes lowest_clash total pick covers universals_of declared e_set every_universal declared_as var_by
    onto pieces is_empty non_empty last_of parted tokens all_digits value_from number_of not_zero variable_of literal_of is_zero prepend closed
    header_of header_form prefix_form clause_form tokens_form is_comment form_of is_opening takes_clauses takes_prefix elem all_in different fresh undeclarable line_tests declaring taken at_end unless read_from load
    clauses used kind_of set_of clause_set place word_of kind_for set_for numbers model_by zeros signed record_of
    no_room clause_at unknown reducing reads reduction_tests forking fork_tests rule_tests_by added tests_by
    judged examine_by examine_or20_by examine_bytes_by hex_digits paired hex between
some-gained = record { text = refl; reduction = record { before = refl; now = refl }; fork = record { before = refl; now = refl } }
