-- Variables declared in tables that hold what was read so far: what the functions of src/declarations.rt leave.
--     declarable-told                              the test of one variable is the calculus'
--     read-declared, progress-universal, progress-other     one declaration more
--     one-refused, one-universal, existential-read      the returns of `declare_one`
--     all-refused, all_start, all-next, all_done            the loop of `declare_all`
-- Assumes nothing.
use mathlib.Core.Path.{◌≡◌, refl, ap, sym, ◌∙◌}
use mathlib.Core.Logic.{◌⊎◌, inl, inr}
use mathlib.Core.Bool.{Bool, true, false, cond, not, ◌&&◌, true≢false}
use mathlib.Core.List.Memᴰ
use mathlib.Core.List.{List, [], ◌∷◌, ◌++◌, map, append-nil, append_assoc}
use mathlib.Core.Option.{Option, none, some}
use Prim.Native.Nat.{ℕ, zero, suc, ◌+◌, ◌-◌, ◌^◌, ◌≤◌, ◌<◌}
use native.Mathlib.Numerals.{add-one, sub-one}
use native.Mathlib.Omega.{arith}
use borrow.Author.Tests.{le-ltb}
use lib.Dec.{leb, eqb}
use lib.ListN.{length, get_or, take, set, length-append, get_or-append}
use lib.Seq.{take-suc, take_all}
use Rattle.dqbf.specs.Limits.{variable_limit, universal_limit}
use Rattle.dqbf.specs.Refusal.{Refusal, refusal, first}
use Rattle.dqbf.specs.Literal.{◌∈◌, sorted}
use Rattle.dqbf.specs.Set.{Set, single}
use Rattle.dqbf.specs.Formula.{Declaration, on_a, on_e, Formula, universals, universals_of, declared, var}
use Rattle.dqbf.specs.Model.{clauses, place, word_of, kind_for, set_for, model_by, model_of, universal_count}
use Rattle.dqbf.specs.Reading.{Form, a_line, e_line, Phase, prefix_lines, Reader, takes_prefix, elem, different, fresh, undeclarable, line_tests, declaring, taken}
use Rattle.dqbf.proofs.Laws.Tests.{either, leb_yes, never, pass, no-not}
use Rattle.dqbf.proofs.Laws.Counting.{in-elem, elem_in}
use Rattle.dqbf.proofs.Reading.Lines.{Sane, Positive, new_on, sane-form, universals-declared, universals-append, declared-append, declared-a, declared-e}
use Rattle.tables.specs.Tables.{Tables, rows_of}
use Rattle.tables.specs.Spread.{over, spread, state_of, kind_row, set_row}
use Rattle.tables.specs.declared.State.{State}
use Rattle.tables.proofs.Laws.Rows.{over-set}
use Rattle.prefix_lines.specs.Rows.{declarable, unless_12}
use Rattle.prefix_lines.specs.Rows as Row
use Rattle.prefix_lines.specs.Lines.{Carried, phase_told, carried_of, universal_added, on_line, ReadSoFar, DeclaredAll, OneMore}
use Rattle.prefix_lines.specs.declared.progress.Phase.TheVariants.{PrefixLines}
use Rattle.prefix_lines.proofs.Laws.Rows.{row_at}
use Rattle.prefix_lines.proofs.Laws.Variables.{subject, made, declaring_to, kind-declared, place-new}
use Rattle.prefix_lines.proofs.Laws.Models.{model-kinds, model-sets, model-universals, kinds-declared, sets-declared, map_more}
use Rattle.prefix_lines.proofs.Laws.Reading.{counts_of, model-state, phase-is, count-is, state-is, bound-is, universals-is, places_is, framed, spare-is, kinds-over, sets_over}
use Rattle.prefix_lines.proofs.Laws.Fresh.{fresh-one, fresh-low, fresh-new, fresh-next, fresh-stop, many-fresh}

-- ---- the test of one variable

module _ {t : Tables} {r : Reader} {p : Carried} {now : Tables} (h : ReadSoFar t r p now) (x : ℕ) (nonzero : x ≡ 0 → ⊥) where
  kind_at : x ≤ r.formula.bound → get_or now.kinds (x - 1) 0 ≡ kind_for (var r.formula x)
  kind_at low = go x nonzero low
    where
      go : (x : ℕ) → (x ≡ 0 → ⊥) → x ≤ r.formula.bound → get_or now.kinds (x - 1) 0 ≡ kind_for (var r.formula x)
      go zero n l = absurd (n refl)
      go (suc i) n l =
          rw (sub-one, kinds-over h)
          (unfold over model_by in get_or-append (model_of r.formula).kinds _ 0 i (omega (arith, model-kinds r.formula)) ∙ row_at (λ y. kind_for (var r.formula y)) r.formula.bound i l)

  pub declarable-told : declarable p.state.bound.0 now.kinds x ≡ fresh r.formula.bound (declared r.formula.prefix) (x ∷ [])
  unfolding declarable
  declarable-told = rw (bound-is h, fresh-one r.formula.bound (declared r.formula.prefix) x) (go (leb x r.formula.bound) refl)
    where
      go : (b : Bool) → leb x r.formula.bound ≡ b → (b && eqb (get_or now.kinds (x - 1) 0) 0) ≡ (b && not (elem x (declared r.formula.prefix)))
      go true e = ap (λ k. eqb k 0) (kind_at (leb_yes x r.formula.bound e)) ∙ kind-declared r.formula x
      go false e = refl

-- an undeclared variable is no universal
not-universal : (ds : List Declaration) (x : ℕ) → elem x (declared ds) ≡ false → elem x (universals_of ds) ≡ false
not-universal ds x n = never (elem x (universals_of ds)) (λ q. true≢false (sym (in-elem x (universals-declared ds x (elem_in x (universals_of ds) q))) ∙ n))

-- ---- one declaration more, which a line of the form f makes

module _ {t : Tables} {r : Reader} {p : Carried} {now : Tables} (h : ReadSoFar t r p now) (d : Declaration) (f : Form) (is : taken r f ≡ declaring r (d ∷ []))
    (passes : first (line_tests r f) ≡ none) (positive : Positive f) (nonzero : subject d ≡ 0 → ⊥) (low : subject d ≤ r.formula.bound)
    (new : elem (subject d) (declared r.formula.prefix) ≡ false) where
  abbrev φ : Formula
  φ = r.formula

  abbrev us : List ℕ
  us = universals φ ++ universals_of (d ∷ [])

  sane : Sane (declaring r (d ∷ []))
  sane = rw is at (sane-form r f positive passes h.sane)

  declared-tables : {sets spare kinds : List ℕ} → sets ≡ set now.sets (subject d - 1) (set_for us (subject d) (made (universals r.formula) d)) → spare ≡ now.spare
      → kinds ≡ set now.kinds (subject d - 1) (kind_for (made (universals r.formula) d)) → rows_of now.literals now.ends sets spare kinds ≡ spread (model_of (declaring_to φ d)) t
  unfolding spread
  declared-tables {sets} {spare} {kinds} e o k = λ i. record {
    literals = (ap (λ (x : Tables). x.literals) h.tables ∙ rows) i;
    ends = (ap (λ (x : Tables). x.ends) h.tables ∙ ends) i;
    sets = sets-now i;
    spare = (o ∙ spare-is h) i;
    kinds = kinds-now i;
  }
    where
      place : subject d - 1 < φ.bound
      place = omega (arith, nonzero)

      rows : (spread (model_of φ) t).literals ≡ (spread (model_of (declaring_to φ d)) t).literals
      rows = unfold spread clauses model_by in refl

      ends : (spread (model_of φ) t).ends ≡ (spread (model_of (declaring_to φ d)) t).ends
      ends = unfold spread clauses model_by in refl

      sets-now : sets ≡ over variable_limit 0 (set_row (model_of (declaring_to φ d))) t.sets
      sets-now =
          e ∙ rw (sets_over h, over-set 0 variable_limit (model_of φ).sets t.sets (subject d - 1) (set_for us (subject d) (made (universals r.formula) d)) (omega (arith, model-sets φ)), ← sets-declared φ d nonzero low new h.sane.lists)
          (ap (λ (l : List Set). over variable_limit 0 l t.sets) (unfold set_row model_by in sym (append-nil (model_of (declaring_to φ d)).sets)))

      kinds-now : kinds ≡ over variable_limit 0 (kind_row (model_of (declaring_to φ d))) t.kinds
      kinds-now =
          k ∙ rw (kinds-over h, over-set 0 variable_limit (model_of φ).kinds t.kinds (subject d - 1) (kind_for (made (universals r.formula) d)) (omega (arith, model-kinds φ)), ← kinds-declared φ d nonzero low new)
          (ap (λ (l : List ℕ). over variable_limit 0 l t.kinds) (unfold kind_row model_by in sym (append-nil (model_of (declaring_to φ d)).kinds)))

  progress-declared : {q : Carried} → q.phase ≡ PrefixLines → q.count ≡ r.count → q.state ≡ counts_of φ.bound (length us) (map sorted φ.clauses)
      → q ≡ carried_of (declaring r (d ∷ []))
  unfolding carried_of declaring phase_told
  progress-declared {q} a b e =
      let n : length us ≡ universal_count (model_of (declaring_to φ d)) = ap length (sym (universals-append φ.prefix (d ∷ []))) ∙ sym (model-universals (declaring r (d ∷ [])) sane) in
      let s : q.state ≡ state_of (model_of (declaring_to φ d)) = e ∙ ap (λ m. counts_of φ.bound m (map sorted φ.clauses)) n ∙ sym (model-state (declaring_to φ d)) in
      λ i. record { phase = a i; count = b i; state = s i }

  pub read-declared : {q : Carried} {sets spare kinds : List ℕ} → q ≡ carried_of (declaring r (d ∷ [])) → sets ≡ set now.sets (subject d - 1) (set_for us (subject d) (made (universals r.formula) d)) → spare ≡ now.spare
      → kinds ≡ set now.kinds (subject d - 1) (kind_for (made (universals r.formula) d)) → ReadSoFar t (declaring r (d ∷ [])) q (rows_of now.literals now.ends sets spare kinds)
  unfolding declaring
  read-declared a e o k = record {
    lent = h.lent;
    sane = sane;
    opened = λ z. cc;
    few = h.few;
    progress = a;
    tables = declared-tables e o k;
  }

  -- a universal more
  pub progress-universal : (x : ℕ) → d ≡ on_a x → r.phase ≡ prefix_lines → universal_added p ≡ carried_of (declaring r (d ∷ []))
  unfolding universal_added subject universals_of phase_told
  progress-universal x e inside =
      progress-declared (phase-is h ∙ rw inside) (count-is h)
      (rw (state-is h, e) (ap (λ n. counts_of φ.bound n (map sorted φ.clauses)) (sym (length-append (universals φ) (x ∷ [])))))

  -- no universal more
  pub progress-other : universals_of (d ∷ []) ≡ [] → r.phase ≡ prefix_lines → p ≡ carried_of (declaring r (d ∷ []))
  progress-other e inside =
      let same : us ≡ universals φ = rw e (append-nil (universals φ)) in
      progress-declared (phase-is h ∙ rw inside (unfold phase_told in refl)) (count-is h) (state-is h ∙ rw same)

-- ---- one variable of an `a` line or an `e` line

pub no-tests : first [] ≡ none
unfolding first
no-tests = refl

pub inside-prefix : {ph : Phase} → ph ≡ prefix_lines → not (takes_prefix ph) ≡ false
inside-prefix e = unfold takes_prefix in rw e

module _ {t : Tables} {r : Reader} {p : Carried} {now : Tables} (h : ReadSoFar t r p now) (inside : r.phase ≡ prefix_lines) (x : ℕ) (nonzero : x ≡ 0 → ⊥) where
  abbrev b : Bool
  b = declarable p.state.bound.0 now.kinds x

  is-fresh : b ≡ fresh r.formula.bound (declared r.formula.prefix) (x ∷ [])
  is-fresh = declarable-told h x nonzero

  pub one-refused : (universal : Bool) (kind : ℕ) (s : Set) {sets spare kinds : List ℕ} → b ≡ false → sets ≡ cond b (set now.sets (x - 1) s) now.sets → spare ≡ now.spare
      → kinds ≡ cond b (set now.kinds (x - 1) kind) now.kinds → DeclaredAll universal (x ∷ []) t r (some (refusal 12)) p (rows_of now.literals now.ends sets spare kinds)
  one-refused universal kind s e m o k = record {
    told = rw (← is-fresh, e);
    held = λ z. cc;
    framed = rw (rw e at m, o, rw e at k) (framed h);
  }

  module _ (e : b ≡ true) where
    ok : fresh r.formula.bound (declared r.formula.prefix) (x ∷ []) ≡ true
    ok = sym is-fresh ∙ e

    positive : (y : ℕ) → y ∈ x ∷ [] → y ≡ 0 → ⊥
    positive y q z = nonzero (sym (Memᴰ.eq_of_singleton q) ∙ z)

    passes-a : p.state.universals < universal_limit → first (line_tests r (a_line (x ∷ []))) ≡ none
    unfolding line_tests undeclarable
    passes-a u =
        pass _ _ _ (inside-prefix inside)
        (pass _ _ _ (le-ltb universal_limit (length (different (universals r.formula ++ (x ∷ [])))) (omega (arith, many-fresh r.formula.bound r.formula.prefix (x ∷ []) h.sane.once ok, universals-is h)))
        (pass _ _ _ (no-not _ ok) no-tests))

    passes-e : first (line_tests r (e_line (x ∷ []))) ≡ none
    unfolding line_tests undeclarable
    passes-e = pass _ _ _ (inside-prefix inside) (pass _ _ _ (no-not _ ok) no-tests)

    pub one-universal : {q : Carried} {s : Set} {sets spare kinds : List ℕ} → p.state.universals < universal_limit → s ≡ single p.state.universals → sets ≡ cond b (set now.sets (x - 1) s) now.sets → spare ≡ now.spare
        → kinds ≡ cond b (set now.kinds (x - 1) 1) now.kinds → q ≡ universal_added p → DeclaredAll true (x ∷ []) t r none q (rows_of now.literals now.ends sets spare kinds)
    unfolding on_line taken subject made set_for kind_for universals_of new_on
    one-universal {q} {s} u w m o k f =
        let own : s ≡ single (place (universals r.formula ++ (x ∷ [])) x) =
        w ∙ ap single (universals-is h ∙ sym (place-new (universals r.formula) x (not-universal r.formula.prefix x new))) in
        let done = read-declared h (on_a x) (a_line (x ∷ [])) refl (passes-a u) positive nonzero low new
        (progress-universal h (on_a x) (a_line (x ∷ [])) refl (passes-a u) positive nonzero low new x refl inside) (rw e at m ∙ rw own) o (rw e at k) in
        rw f (record { told = rw ok; held = λ z. done; framed = framed done })
      where
        low : x ≤ r.formula.bound
        low = fresh-low r.formula.bound (declared r.formula.prefix) x ok

        new : elem x (declared r.formula.prefix) ≡ false
        new = fresh-new r.formula.bound (declared r.formula.prefix) x ok

    pub one-existential : {s : Set} {sets spare kinds : List ℕ} → s ≡ 2 ^ p.state.universals - 1 → sets ≡ cond b (set now.sets (x - 1) s) now.sets → spare ≡ now.spare
        → kinds ≡ cond b (set now.kinds (x - 1) 2) now.kinds → DeclaredAll false (x ∷ []) t r none p (rows_of now.literals now.ends sets spare kinds)
    unfolding on_line taken subject made set_for kind_for universals_of new_on
    one-existential {s} w m o k =
        let us = universals r.formula in
        let own : s ≡ word_of (us ++ []) us = w ∙ places_is h ∙ ap (λ (l : List ℕ). word_of l us) (sym (append-nil us)) in
        let done = read-declared h (on_e x) (e_line (x ∷ [])) refl passes-e positive nonzero low new
        (progress-other h (on_e x) (e_line (x ∷ [])) refl passes-e positive nonzero low new refl inside) (rw e at m ∙ rw own) o (rw e at k) in
        record { told = rw ok; held = λ z. done; framed = framed done }
      where
        low : x ≤ r.formula.bound
        low = fresh-low r.formula.bound (declared r.formula.prefix) x ok

        new : elem x (declared r.formula.prefix) ≡ false
        new = fresh-new r.formula.bound (declared r.formula.prefix) x ok

  pub existential-read : {a : Option Refusal} {s : Set} {sets spare kinds : List ℕ} → s ≡ 2 ^ p.state.universals - 1 → spare ≡ now.spare → Row.Declared p.state.bound.0 x 2 s now.sets now.kinds a sets kinds
      → DeclaredAll false (x ∷ []) t r a p (rows_of now.literals now.ends sets spare kinds)
  existential-read {a} {s} {sets} {spare} {kinds} w o d = rw d.told (go (either b))
    where
      go : (b ≡ true) ⊎ (b ≡ false) → DeclaredAll false (x ∷ []) t r (unless_12 b) p (rows_of now.literals now.ends sets spare kinds)
      go (inl e) = rw (ap unless_12 e) (one-existential e w d.sets-are o d.kinds-are)
      go (inr e) = rw (ap unless_12 e) (one-refused false 2 s e d.sets-are o d.kinds-are)

-- the counts
pub one_same : (s : State) → s.universals ≤ universal_limit → OneMore s s
one_same s few = record { bound = refl; universals = omega arith; few = few }

pub one-added : (p : Carried) {q : Carried} → p.state.universals < universal_limit → q ≡ universal_added p → OneMore p.state q.state
unfolding universal_added
one-added p few e = rw e (record { bound = refl; universals = omega arith; few = omega arith })

-- ---- the variables of a line, one after the other

declaring-none : (r : Reader) → r.phase ≡ prefix_lines → declaring r [] ≡ r
unfolding declaring
declaring-none r e = λ i. record {
  phase = sym e i;
  count = r.count;
  formula = record { bound = r.formula.bound; prefix = append-nil r.formula.prefix i; clauses = r.formula.clauses };
}

declaring-more : (r : Reader) (ds es : List Declaration) → declaring (declaring r ds) es ≡ declaring r (ds ++ es)
unfolding declaring
declaring-more r ds es = rw (append_assoc r.formula.prefix ds es)

declared-on : (universal : Bool) (xs : List ℕ) → declared (map (on_line universal) xs) ≡ xs
unfolding on_line
declared-on true xs = declared-a xs
declared-on false xs = declared-e xs

pub passed-told : (b : Bool) → none ≡ unless_12 b → b ≡ true
passed-told true e = refl
passed-told false e = cc

pub refused-told : (b : Bool) {x : Refusal} → some x ≡ unless_12 b → (b ≡ false) × (x ≡ refusal 12)
refused-told true e = cc
refused-told false e = (refl, cc)

module _ (universal : Bool) (xs : List ℕ) (t : Tables) (r : Reader) where
  -- after the first i variables
  abbrev pub Declared : ℕ → Carried → Tables → Type 0
  Declared i p now = (fresh r.formula.bound (declared r.formula.prefix) (take i xs) ≡ true) × ReadSoFar t (declaring r (map (on_line universal) (take i xs))) p now

  pub all_start : {p : Carried} {now : Tables} → r.phase ≡ prefix_lines → ReadSoFar t r p now → Declared 0 p now
  unfolding fresh
  all_start inside h = (refl, rw (declaring-none r inside) h)

  module _ (i : ℕ) (more : i < length xs) {p p' : Carried} {now now' : Tables} (h : Declared i p now) {a : Option Refusal}
      (call : (reader : Reader) → ReadSoFar t reader p now → reader.phase ≡ prefix_lines → DeclaredAll universal (get_or xs i 0 ∷ []) t reader a p' now') where
    d : DeclaredAll universal (get_or xs i 0 ∷ []) t (declaring r (map (on_line universal) (take i xs))) a p' now'
    unfolding declaring
    d = call (declaring r (map (on_line universal) (take i xs))) h.1 refl

    told : a ≡ unless_12 (fresh r.formula.bound (declared r.formula.prefix ++ take i xs) (get_or xs i 0 ∷ []))
    unfolding declaring
    told = rw (declared-append r.formula.prefix (map (on_line universal) (take i xs)), declared-on universal (take i xs)) at d.told

    pub all-next : a ≡ none → Declared (i + 1) p' now'
    all-next z = (
      fresh-next r.formula.bound (declared r.formula.prefix) xs i more h.0 (passed-told _ (sym z ∙ told)),
      rw (add-one, take-suc xs i 0 more, map_more (on_line universal) (take i xs) (get_or xs i 0), ← declaring-more r (map (on_line universal) (take i xs)) (on_line universal (get_or xs i 0) ∷ [])) (d.held z),
    )

    pub all-refused : {x : Refusal} {left : Carried} → a ≡ some x → DeclaredAll universal xs t r (some x) left now'
    all-refused {x} n =
        let w = refused-told (fresh r.formula.bound (declared r.formula.prefix ++ take i xs) (get_or xs i 0 ∷ [])) (sym n ∙ told) in
        record {
          told = rw (w.1, fresh-stop r.formula.bound (declared r.formula.prefix) xs i more h.0 w.0);
          held = λ z. cc;
          framed = d.framed;
        }

  pub all_done : (i : ℕ) → length xs ≤ i → {p : Carried} {now : Tables} → Declared i p now → DeclaredAll universal xs t r none p now
  all_done i e h = let w : take i xs ≡ xs = take_all i xs e in record { told = rw (rw w at h.0); held = λ z. rw w at h.1; framed = framed h.1 }
