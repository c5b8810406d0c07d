-- The three rules over tables that hold a model: clauses by number, and each test as the code comes to it, one law for each outcome.
use mathlib.Core.Path.{◌≡◌, refl, sym, ◌∙◌, ap}
use mathlib.Core.Logic.{◌⊎◌, inl, inr, ◌≢◌}
use mathlib.Core.Bool.{Bool, true, false, not, ◌&&◌, ◌||◌, true≢false}
use mathlib.Core.List.{List, [], ◌∷◌, ◌++◌}
use Prim.Native.Nat.{ℕ, zero, suc, ◌-◌, ◌*◌, ◌≤◌, ◌<◌}
use native.Mathlib.Omega.{arith}
use borrow.Author.Tests.{eq-eqb, ne_eqb, lt-ltb, le-ltb}
use lib.Dec.{eqb, ltb}
use lib.IntN.{ℤ, pos, negsuc, neg_ℤ, nat_abs}
use lib.ListN.{length, take, drop, length-take}
use lib.Seq.{length-take-le}
use Rattle.dqbf.specs.Limits.{tables, width_limit, literal_range}
use Rattle.dqbf.specs.Literal.{Clause, ◌∈◌, literal_in, holds, without, join, clashes, pick, covers}
use Rattle.dqbf.specs.Set.{Set, single, inside, common}
use Rattle.dqbf.specs.Model.{Model, used, kind_of, set_of, clause_set}
use Rattle.dqbf.specs.Record.{resolution, reduction, fork}
use Rattle.dqbf.specs.Rules.{unknown, clause_at, no_room, resolvent, resolving, reads, reducing, forking}
use Rattle.dqbf.specs.Run.{Examined, examine}
use Rattle.dqbf.proofs.Laws.Tests.{or_no, or_left, or_right, no_or, eqb_same, ltb_no}
use Rattle.dqbf.proofs.Laws.Clauses.{holds-in, pick-short}
use Rattle.dqbf.proofs.Laws.Outcomes.{resolution-first, resolution-second, resolution-22, resolution-24, resolution-23, resolution-25, resolution-accepted, reduction-21, reduction-22, reduction-26, reduction-27, reduction-25, reduction-accepted, fork-21, fork-28, fork-29, fork-25, fork-accepted}
use Rattle.sets.specs.Words.{words_each, as_sets}
use Rattle.tables.specs.Tables.{Tables, tables_of, model_in, stretch, entry}
use Rattle.tables.specs.declared.State.{State}
use Rattle.dqbf.specs.Valid.{Ascending}
use Rattle.clauses.specs.Places.{place_of, but_at}
use Rattle.clauses.proofs.Laws.Clauses.{place-holds, without-place}
use Rattle.clause_sets.specs.Sets.{clause_set_in, InUse}
use Rattle.clause_sets.proofs.Laws.Sets.{model-clause-set, reads-single}
use Rattle.tables.specs.Spread.{set_row}
use Rattle.tables.proofs.Laws.Adding.{variable-count}
use Rattle.tables.proofs.Laws.Held.{sets-is}
use Rattle.tables.proofs.Laws.Formed.{long-is, formed-is}
use Rattle.tables.proofs.Laws.Lent.{long-words, taken-sets}
use Rattle.tables.proofs.Laws.Spread.{valid-held}
use Rattle.tables.proofs.Laws.Entries.{unknown-told, range-rises, range-ends, range-narrow, clause-at, clause-there, kind-told, set_told, literal-in-use}
use Rattle.additions.specs.Adding.{Holding, After, One, Two, fitted, tested}
use Rattle.rules.specs.Clauses.{is_unknown, Ranged}
use Rattle.dqbf.specs.Refusal.{refusal}
use mathlib.Core.Option as Option
use Rattle.additions.proofs.Laws.Adding.{after-refused}
use Rattle.rules.proofs.Laws.Pivots.{pivot-holds, pivot-is}

kind-some : (m : Model) (v : ℕ) → kind_of m v ≢ 0 → 0 < v
unfolding kind_of
kind-some m zero n = absurd (n refl)
kind-some m (suc i) n = omega arith

not-true : (b : Bool) → not b ≡ true → b ≡ false
not-true true h = sym h
not-true false h = refl

not-false : (b : Bool) → not b ≡ false → b ≡ true
not-false true h = refl
not-false false h = sym h

and-false : (b : Bool) → (b && false) ≡ false
and-false true = refl
and-false false = refl

-- ---- a literal by its place

module _ (l : ℤ) (C : Clause) where
  pub place-absent : place_of l C ≡ length C → not (holds l C) ≡ true
  place-absent e = rw (place-holds l C, le-ltb (place_of l C) (length C) (omega arith))

  pub place-present : {i : ℕ} → (i ≡ place_of l C) × (i < length C) → not (holds l C) ≡ false
  place-present {i} (e, h) = rw (place-holds l C, ← e, lt-ltb i (length C) h)

-- ---- clauses by number

module _ (t : Tables) (s : State) (h : Holding t s) where
  pub unknown-is : (c : ℕ) {f : Bool} → f ≡ is_unknown s c → unknown (model_in t s) c ≡ f
  unfolding is_unknown
  unknown-is c e = unknown-told t s h.lent h.formed c ∙ sym e

  few-variables : used (model_in t s) ≤ literal_range
  few-variables = omega (arith, variable-count t s h.lent h.formed, (formed-is t s h.formed).counts.variables)

  module _ (c : ℕ) {f : Bool} (told : f ≡ is_unknown s c) (known : f ≡ false) where
    parts : (eqb c 0 ≡ false) × (ltb s.clauses.0 c ≡ false)
    unfolding is_unknown
    parts = or_no (eqb c 0) (ltb s.clauses.0 c) (sym told ∙ known)

    some : c ≡ 0 → ⊥
    some e = true≢false (sym (eqb_same 0) ∙ (rw e at parts.0))

    low : c ≤ s.clauses.0
    low = ltb_no s.clauses.0 c parts.1

    pub known_is : unknown (model_in t s) c ≡ false
    known_is = unknown-is c told ∙ known

    pub ranged : Ranged t.literals t.ends c
    ranged = record {
      some = positive c some;
      in-ends = omega (arith, low, (formed-is t s h.formed).counts.clauses, (long-is t h.lent).ends);
      rises = range-rises t s h.lent h.formed c some low;
      in-literals = range-ends t s h.lent h.formed c some low;
      narrow = range-narrow t s h.lent h.formed c some low;
    }
      where
        positive : (c : ℕ) → (c ≡ 0 → ⊥) → 0 < c
        positive zero n = absurd (n refl)
        positive (suc c) n = omega arith

    pub ranged-clause : {C : Clause} → C ≡ stretch (entry t.ends (c - 1)) (entry t.ends c) t.literals → C ≡ clause_at (model_in t s) c
    ranged-clause e = e ∙ sym (clause-at t s h.lent h.formed c some low)

    -- a clause has at most 32 literals
    pub ranged-narrow : {C : Clause} → C ≡ stretch (entry t.ends (c - 1)) (entry t.ends c) t.literals → length C ≤ width_limit
    ranged-narrow e =
        let from = entry t.ends (c - 1) in
        let to = entry t.ends c in
        rw e (omega (arith, length-take (to - from) (drop from t.literals), ranged.narrow))

    -- without the literal at its place
    pub clause-without : {C : Clause} → C ≡ stretch (entry t.ends (c - 1)) (entry t.ends c) t.literals → (l : ℤ) {i : ℕ} → i ≡ place_of l C → i < length C
        → but_at i C ≡ without l C
    clause-without {C} e l is_i within =
        let ascends : Ascending C = rw (ranged-clause e) ((valid-held t s h.lent h.formed).kept (clause_at (model_in t s) c) (clause-there t s h.lent h.formed c some low)).ascends in
        rw is_i (without-place l C ascends (rw is_i at within))

    -- a record's literal in this clause
    pub in-clause : {C : Clause} → C ≡ clause_at (model_in t s) c → (z : ℤ) {b : Bool} → b ≡ holds (literal_in z) C → holds z (clause_at (model_in t s) c) ≡ b
    in-clause e z p = sym (p ∙ rw e (pivot-holds tables (model_in t s) (valid-held t s h.lent h.formed) few-variables (clause_at (model_in t s) c) (clause-there t s h.lent h.formed c some low) z))

    pub in-clause-is : {C : Clause} → C ≡ clause_at (model_in t s) c → (z : ℤ) {b : Bool} → b ≡ holds (literal_in z) C → b ≡ true → literal_in z ≡ z
    in-clause-is e z p q =
        pivot-is tables (model_in t s) (valid-held t s h.lent h.formed) few-variables (clause_at (model_in t s) c) (clause-there t s h.lent h.formed c some low) z (rw e at (sym p ∙ q))

    -- the variables of its literals are in use
    pub clause-variable : (l : ℤ) → l ∈ clause_at (model_in t s) c → (0 < nat_abs l) × (nat_abs l ≤ s.variables.0)
    clause-variable l q =
        let there = clause-there t s h.lent h.formed c some low in
        let some = ((valid-held t s h.lent h.formed).kept (clause_at (model_in t s) c) there).over l q in
        (kind-some (model_in t s) (nat_abs l) some, literal-in-use t s h.lent h.formed (clause_at (model_in t s) c) there l q)

    -- so that each literal has a set
    pub clause-in-use : {C : Clause} → C ≡ stretch (entry t.ends (c - 1)) (entry t.ends c) t.literals → {n : ℕ} → n ≡ s.variables.0 → InUse (take n t.sets) C
    clause-in-use e is_n l q =
        let r = clause-variable l (rw (ranged-clause e) at q) in
        let inside : s.variables.0 ≤ length t.sets = omega (arith, (formed-is t s h.formed).counts.variables, (long-is t h.lent).sets) in
        (r.0, rw (is_n, length-take-le s.variables.0 t.sets inside) r.1)

-- the sets in use, by their words
pub sets-taken : (l : List ℤ) (e w k : List ℕ) (s : State) → Holding (tables_of l e w k) s → as_sets words_each (take (4 * s.variables.0) w) ≡ take s.variables.0 (as_sets words_each w)
sets-taken l e w k s h =
    taken-sets w s.variables.0 (omega (arith, (formed-is (tables_of l e w k) s h.formed).counts.variables, long-words w (long-is (tables_of l e w k) h.lent).sets))

-- ---- resolution: what is left of its tests behind 22 is the resolvent's

module _ (m : Model) (c d : ℕ) (z : ℤ) (known : unknown m c ≡ false) (known' : unknown m d ≡ false)
    (held : (holds z (clause_at m c) && holds (neg_ℤ z) (clause_at m d)) ≡ true) where
  abbrev A : Clause
  A = without z (clause_at m c)

  abbrev B : Clause
  B = without (neg_ℤ z) (clause_at m d)

  pub resolution-tested : examine tables m (resolution c d z) ≡ tested m (join A B)
  unfolding tested fitted resolvent resolving
  resolution-tested = calm (clashes (join A B)) refl
    where
      room : (b : Bool) → no_room tables m (One (join A B)) ≡ b → clashes (join A B) ≡ false → ltb width_limit (length (join A B)) ≡ false
          → examine tables m (resolution c d z) ≡ tested m (join A B)
      room true e k n = rw (k, n, e) (resolution-25 tables m c d z known known' held k n e)
      room false e k n = rw (k, n, e) (resolution-accepted tables m c d z known known' held k n e)

      wide : (b : Bool) → ltb width_limit (length (join A B)) ≡ b → clashes (join A B) ≡ false → examine tables m (resolution c d z) ≡ tested m (join A B)
      wide true e k = rw (k, e) (resolution-24 tables m c d z known known' held k e)
      wide false e k = room (no_room tables m (One (join A B))) refl k e

      calm : (b : Bool) → clashes (join A B) ≡ b → examine tables m (resolution c d z) ≡ tested m (join A B)
      calm true e = rw e (resolution-23 tables m c d z known known' held e)
      calm false e = wide (ltb width_limit (length (join A B))) refl e

module _ (t : Tables) (s : State) (h : Holding t s) (c d : ℕ) (z : ℤ) {f g : Bool} (told : f ≡ is_unknown s c) (told' : g ≡ is_unknown s d) where
  abbrev E : Examined
  E = examine tables (model_in t s) (resolution c d z)

  pub resolve-first : f ≡ true → After t s E t s (Option.some (refusal 21))
  resolve-first b = after-refused t s h E (refusal 21) (resolution-first tables (model_in t s) c d z (unknown-is t s h c told ∙ b))

  module _ (known : f ≡ false) where
    pub resolve-second : g ≡ true → After t s E t s (Option.some (refusal 21))
    resolve-second b = after-refused t s h E (refusal 21) (resolution-second tables (model_in t s) c d z (known_is t s h c told known) (unknown-is t s h d told' ∙ b))

    module _ (known' : g ≡ false) {X Y : Clause} (is_x : X ≡ stretch (entry t.ends (c - 1)) (entry t.ends c) t.literals)
        (is_y : Y ≡ stretch (entry t.ends (d - 1)) (entry t.ends d) t.literals) {P Q : ℤ} (p : P ≡ literal_in z) (q : Q ≡ neg_ℤ P) {a : Bool} (in_x : a ≡ holds P X) where
      X-is : X ≡ clause_at (model_in t s) c
      X-is = ranged-clause t s h c told known is_x

      Y-is : Y ≡ clause_at (model_in t s) d
      Y-is = ranged-clause t s h d told' known' is_y

      first-in : holds z (clause_at (model_in t s) c) ≡ a
      first-in = in-clause t s h c told known X-is z (rw p at in_x)

      -- 22, if the test of the first or of the second clause fails
      not-held : (holds z (clause_at (model_in t s) c) && holds (neg_ℤ z) (clause_at (model_in t s) d)) ≡ false → After t s E t s (Option.some (refusal 22))
      not-held b =
          after-refused t s h E (refusal 22) (resolution-22 tables (model_in t s) c d z (known_is t s h c told known) (known_is t s h d told' known') b)

      pub resolve-pivot : not a ≡ true → After t s E t s (Option.some (refusal 22))
      resolve-pivot b = not-held (rw (first-in, not-true a b))

      module _ (held : not a ≡ false) {b : Bool} (in_y : b ≡ holds Q Y) where
        P-is : P ≡ z
        P-is = p ∙ in-clause-is t s h c told known X-is z (rw p at in_x) (not-false a held)

        second-in : holds (neg_ℤ z) (clause_at (model_in t s) d) ≡ b
        second-in = sym (in_y ∙ rw (q, P-is, Y-is))

        pub resolve-complement : not b ≡ true → After t s E t s (Option.some (refusal 22))
        resolve-complement k = not-held (rw (second-in, not-true b k) (and-false (holds z (clause_at (model_in t s) c))))

        pub resolve-tested : not b ≡ false → {W : Clause} → W ≡ join (without P X) (without Q Y) → E ≡ tested (model_in t s) W
        resolve-tested k is_w =
            resolution-tested (model_in t s) c d z (known_is t s h c told known) (known_is t s h d told' known') (rw (first-in, not-false a held, second-in, not-false b k))
            ∙ rw (is_w, q, P-is, X-is, Y-is)

-- ---- universal reduction

module _ (t : Tables) (s : State) (h : Holding t s) where
  -- the sets of the variables in use are the model's
  pub sets-are : take s.variables.0 t.sets ≡ (model_in t s).sets ++ (model_in t s).forks
  unfolding set_row
  sets-are = sym (sets-is t s)

module _ (t : Tables) (s : State) (h : Holding t s) (c : ℕ) (z : ℤ) {f : Bool} (told : f ≡ is_unknown s c) where
  abbrev U : Examined
  U = examine tables (model_in t s) (reduction c z)

  pub reduce-unknown : f ≡ true → After t s U t s (Option.some (refusal 21))
  reduce-unknown b = after-refused t s h U (refusal 21) (reduction-21 tables (model_in t s) c z (unknown-is t s h c told ∙ b))

  module _ (known : f ≡ false) {X : Clause} (is_x : X ≡ stretch (entry t.ends (c - 1)) (entry t.ends c) t.literals) {P : ℤ} (p : P ≡ literal_in z) {a : Bool}
      (in_x : a ≡ holds P X) where
    C-is : X ≡ clause_at (model_in t s) c
    C-is = ranged-clause t s h c told known is_x

    literal-in-clause : holds z (clause_at (model_in t s) c) ≡ a
    literal-in-clause = in-clause t s h c told known C-is z (rw p at in_x)

    pub reduce-absent : not a ≡ true → After t s U t s (Option.some (refusal 22))
    reduce-absent b =
        after-refused t s h U (refusal 22) (reduction-22 tables (model_in t s) c z (known_is t s h c told known) (literal-in-clause ∙ not-true a b))

    module _ (held : not a ≡ false) where
      L-is : P ≡ z
      L-is = p ∙ in-clause-is t s h c told known C-is z (rw p at in_x) (not-false a held)

      there : holds z (clause_at (model_in t s) c) ≡ true
      there = literal-in-clause ∙ not-false a held

      -- its variable is in use
      pub reduce-used : nat_abs P ≤ s.variables.0
      reduce-used = rw L-is (clause-variable t s h c told known z (holds-in z (clause_at (model_in t s) c) there)).1

      module _ {k : ℕ} (is_k : k ≡ entry t.kinds (nat_abs P)) where
        kind-is : kind_of (model_in t s) (nat_abs z) ≡ k
        kind-is = sym (is_k ∙ kind-told t s h.lent h.formed (nat_abs P) reduce-used ∙ ap (λ (l : ℤ). kind_of (model_in t s) (nat_abs l)) L-is)

        pub reduce-other : k ≢ 1 → After t s U t s (Option.some (refusal 26))
        reduce-other b =
            after-refused t s h U (refusal 26) (reduction-26 tables (model_in t s) c z (known_is t s h c told known) there (rw kind-is (ne_eqb k 1 b)))

        module _ (universal : k ≡ 1) {w : Set} (is_w : w ≡ entry t.sets (nat_abs P)) {n : ℕ} (is_n : n ≡ s.variables.0) {b : Bool} {x : Set}
            (is_set : x ≡ clause_set_in (take n t.sets) (without P X)) (is_read : b ≡ inside w x) where
          w-is : w ≡ set_of (model_in t s) (nat_abs z)
          w-is = is_w ∙ set_told t s h.lent h.formed (nat_abs P) reduce-used ∙ ap (λ (l : ℤ). set_of (model_in t s) (nat_abs l)) L-is

          x-is : x ≡ clause_set (model_in t s) (without z (clause_at (model_in t s) c))
          x-is = is_set ∙ rw (is_n, sets-are t s h, L-is, C-is) (model-clause-set (model_in t s) (without z (clause_at (model_in t s) c)))

          -- the variable is universal, so that its set is one place
          one_place : (i : ℕ) × (set_of (model_in t s) (nat_abs z) ≡ single i)
          one_place = let r = (valid-held t s h.lent h.formed).sole (nat_abs z) (kind-is ∙ universal) in (r.0, r.2)

          contained : reads (model_in t s) (set_of (model_in t s) (nat_abs z)) (without z (clause_at (model_in t s) c))
              ≡ inside (set_of (model_in t s) (nat_abs z)) (clause_set (model_in t s) (without z (clause_at (model_in t s) c)))
          contained = rw one_place.1 (reads-single (model_in t s) one_place.0 (without z (clause_at (model_in t s) c)))

          read_is : reads (model_in t s) (set_of (model_in t s) (nat_abs z)) (without z (clause_at (model_in t s) c)) ≡ b
          read_is = contained ∙ sym (is_read ∙ rw (w-is, x-is))

          pub reduce-read : b ≡ true → After t s U t s (Option.some (refusal 27))
          reduce-read q =
              after-refused t s h U (refusal 27) (reduction-27 tables (model_in t s) c z (known_is t s h c told known) there (rw kind-is (eq-eqb k 1 universal)) (read_is ∙ q))

          pub reduce-fitted : b ≡ false → U ≡ fitted (model_in t s) (One (without P X))
          unfolding fitted reducing
          reduce-fitted q = rw (L-is, C-is) (room (no_room tables (model_in t s) (reducing (clause_at (model_in t s) c) z)) refl)
            where
              u : eqb (kind_of (model_in t s) (nat_abs z)) 1 ≡ true
              u = rw kind-is (eq-eqb k 1 universal)

              room : (x : Bool) → no_room tables (model_in t s) (One (without z (clause_at (model_in t s) c))) ≡ x
                  → U ≡ fitted (model_in t s) (One (without z (clause_at (model_in t s) c)))
              room true e = rw e (reduction-25 tables (model_in t s) c z (known_is t s h c told known) there u (read_is ∙ q) e)
              room false e = rw e (reduction-accepted tables (model_in t s) c z (known_is t s h c told known) there u (read_is ∙ q) e)

-- ---- fork

module _ (t : Tables) (s : State) (h : Holding t s) (c left right : ℕ) {f : Bool} (told : f ≡ is_unknown s c) where
  abbrev K : Examined
  K = examine tables (model_in t s) (fork c left right)

  pub fork-unknown : f ≡ true → After t s K t s (Option.some (refusal 21))
  fork-unknown b = after-refused t s h K (refusal 21) (fork-21 tables (model_in t s) c left right (unknown-is t s h c told ∙ b))

  module _ (known : f ≡ false) {X : Clause} (is_x : X ≡ stretch (entry t.ends (c - 1)) (entry t.ends c) t.literals) {a : Bool} (covered : a ≡ covers left right X) where
    X-clause : X ≡ clause_at (model_in t s) c
    X-clause = ranged-clause t s h c told known is_x

    covers-is : covers left right (clause_at (model_in t s) c) ≡ a
    covers-is = sym (covered ∙ rw X-clause)

    pub fork-masks : not a ≡ true → After t s K t s (Option.some (refusal 28))
    fork-masks b = after-refused t s h K (refusal 28) (fork-28 tables (model_in t s) c left right (known_is t s h c told known) (covers-is ∙ not-true a b))

    -- each part has at most 32 literals
    pub part-narrow : (mask : ℕ) → length (pick mask X) ≤ width_limit
    part-narrow mask = go (pick-short mask X)
      where
        go : (pick mask X ≡ X) ⊎ (length (pick mask X) < length X) → length (pick mask X) ≤ width_limit
        go (inl e) = rw e (ranged-narrow t s h c told known is_x)
        go (inr q) = omega (arith, ranged-narrow t s h c told known is_x)

    module _ (whole : not a ≡ false) {n : ℕ} (is_n : n ≡ s.variables.0) {x y : Set} (is_left : x ≡ clause_set_in (take n t.sets) (pick left X))
        (is_right : y ≡ clause_set_in (take n t.sets) (pick right X)) {p q : Bool} (lies : p ≡ inside x y) (around : q ≡ inside y x) where
      left-set : clause_set (model_in t s) (pick left (clause_at (model_in t s) c)) ≡ x
      left-set = sym (is_left ∙ rw (is_n, sets-are t s h, X-clause) (model-clause-set (model_in t s) (pick left (clause_at (model_in t s) c))))

      right-set : clause_set (model_in t s) (pick right (clause_at (model_in t s) c)) ≡ y
      right-set = sym (is_right ∙ rw (is_n, sets-are t s h, X-clause) (model-clause-set (model_in t s) (pick right (clause_at (model_in t s) c))))

      compared : (inside (clause_set (model_in t s) (pick left (clause_at (model_in t s) c))) (clause_set (model_in t s) (pick right (clause_at (model_in t s) c)))
          || inside (clause_set (model_in t s) (pick right (clause_at (model_in t s) c))) (clause_set (model_in t s) (pick left (clause_at (model_in t s) c)))) ≡ (p || q)
      compared = rw (left-set, right-set, lies, around)

      covered_whole : covers left right (clause_at (model_in t s) c) ≡ true
      covered_whole = covers-is ∙ not-false a whole

      comparable : (p || q) ≡ true → After t s K t s (Option.some (refusal 29))
      comparable b =
          after-refused t s h K (refusal 29) (fork-29 tables (model_in t s) c left right (known_is t s h c told known) covered_whole (compared ∙ b))

      pub fork-inside : p ≡ true → After t s K t s (Option.some (refusal 29))
      fork-inside b = comparable (or_left p q b)

      pub fork-around : q ≡ true → After t s K t s (Option.some (refusal 29))
      fork-around b = comparable (or_right p q b)

      pub fork-fitted : p ≡ false → q ≡ false → {w : Set} → w ≡ common x y
          → K ≡ fitted (model_in t s) (Two (pick left X ++ (pos (suc s.variables.0) ∷ [])) (pick right X ++ (negsuc s.variables.0 ∷ [])) w)
      unfolding fitted forking
      fork-fitted u v is_w =
          room (no_room tables (model_in t s) (forking (model_in t s) (pick left (clause_at (model_in t s) c)) (pick right (clause_at (model_in t s) c)))) refl
          ∙ ap (λ (k : ℕ). fitted (model_in t s) (Two (pick left (clause_at (model_in t s) c) ++ (pos (suc k) ∷ [])) (pick right (clause_at (model_in t s) c) ++ (negsuc k ∷ []))
          (common (clause_set (model_in t s) (pick left (clause_at (model_in t s) c))) (clause_set (model_in t s) (pick right (clause_at (model_in t s) c))))))
          (variable-count t s h.lent h.formed)
          ∙ rw (is_w, left-set, right-set, X-clause)
        where
          apart : (inside (clause_set (model_in t s) (pick left (clause_at (model_in t s) c))) (clause_set (model_in t s) (pick right (clause_at (model_in t s) c)))
              || inside (clause_set (model_in t s) (pick right (clause_at (model_in t s) c))) (clause_set (model_in t s) (pick left (clause_at (model_in t s) c)))) ≡ false
          apart = compared ∙ no_or p q u v

          room : (k : Bool) → no_room tables (model_in t s) (forking (model_in t s) (pick left (clause_at (model_in t s) c)) (pick right (clause_at (model_in t s) c))) ≡ k
              → K ≡ fitted (model_in t s) (forking (model_in t s) (pick left (clause_at (model_in t s) c)) (pick right (clause_at (model_in t s) c)))
          room true e = rw e (fork-25 tables (model_in t s) c left right (known_is t s h c told known) covered_whole apart e)
          room false e = rw e (fork-accepted tables (model_in t s) c left right (known_is t s h c told known) covered_whole apart e)
