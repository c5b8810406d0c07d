-- A model passes the test `valid` exactly if it is valid in the calculus (dqbf, specs/Valid.antt).
--     ascending-is, ascending-from     a clause in ascending order, both ways
--     over-is, over-from               a clause over some kinds, both ways
--     kind-entry, set-entry            kind and set of a variable are entries of the model's rows
--     valid-is, valid-from             the test gives the record of facts, and back
use mathlib.Core.Path.{◌≡◌, refl, ap, sym, ◌∙◌}
use mathlib.Core.Bool.{Bool, true, false, cond, not, true≢false}
use mathlib.Core.List.Memᴰ
use mathlib.Core.List.{List, [], ◌∷◌, ◌++◌}
use mathlib.Core.Logic.{◌⊎◌, inl, inr, ⊎_elim}
use Prim.Native.Nat.{ℕ, zero, suc, ◌≤◌, ◌<◌}
use native.Mathlib.Nat.{le_of_suc-le-suc}
use native.Mathlib.Omega.{arith}
use borrow.Author.Tests.{eqb-true, eqb-false, leb-true, ltb-true, ltb-false, eq-eqb, ne_eqb, le-leb, lt-ltb, not-true}
use lib.Dec.{eqb, leb, ltb}
use lib.IntN.{ℤ, nat_abs}
use lib.ListN.{length, get_or, take, replicate, length-append, length-replicate, get_or-eq_default, get_or-append}
use lib.Seq.{take-append_seam}
use Rattle.dqbf.specs.Limits.{tables}
use Rattle.dqbf.specs.Literal.{Clause, ◌∈◌}
use Rattle.dqbf.specs.Set.{bit, single, empty_set, inside}
use Rattle.dqbf.specs.Model.{Model, clauses, used, steps, universal_count, universals_in, kind_of, set_of}
use Rattle.dqbf.specs.Valid.{Ascending, Kept, Valid}
use Rattle.dqbf.proofs.Laws.Tests.{and_left, and_right, both}
use Rattle.dqbf.proofs.Laws.Words.{bit-zero, bit-single, bit-inside}
use Rattle.tables.specs.Tables.{entry}
use Rattle.tables.specs.Spread.{kind_row, set_row, state_of}
use Rattle.tables.specs.WellFormed.{all_of, ascending, narrow, over_kinds, clauses_fit, lowest, other_inside, is_kind, bare_if_undeclared, forks_above, variables_fit, valid}
use Rattle.tables.proofs.Laws.Tests.{every-at, every-from, all-member, all_get_d, all_from, variables-at, variables-from}
use Rattle.tables.proofs.Laws.Formed.{Counts, counts-is, counts-to}
use Rattle.tables.proofs.Laws.Held.{universals-threes}
use Rattle.tables.proofs.Laws.Universals.{Bits, Taken, bits_is, bits-from, lowest-bit}

-- ---- ascending

pub ascending-is : (x : ℕ) (C : Clause) → ascending x C ≡ true → ((k : ℤ) → k ∈ C → x < nat_abs k) × Ascending C
unfolding ascending Ascending
ascending-is x [] e = ((λ k q. absurd (Memᴰ.not-nil q)), tt)
ascending-is x (l ∷ C) e =
    let first = ltb-true x (nat_abs l) (and_left (ltb x (nat_abs l)) (ascending (nat_abs l) C) e) in
    let rest = ascending-is (nat_abs l) C (and_right (ltb x (nat_abs l)) (ascending (nat_abs l) C) e) in
    ((λ k q. ⊎_elim (λ w. rw w first) (λ w. omega (arith, rest.0 k w)) (Memᴰ.cases_cons q)), rest)

pub ascending-from : (x : ℕ) (C : Clause) → ((k : ℤ) → k ∈ C → x < nat_abs k) → Ascending C → ascending x C ≡ true
unfolding ascending Ascending
ascending-from x [] f a = refl
ascending-from x (l ∷ C) f a = both _ _ (lt-ltb x (nat_abs l) (f l (Memᴰ.head refl))) (ascending-from (nat_abs l) C a.0 a.1)

-- ---- the rows of a model

module _ (m : Model) where
  pub kind-entry : (x : ℕ) → entry (kind_row m) x ≡ kind_of m x
  unfolding entry kind_row kind_of
  kind-entry zero = refl
  kind-entry (suc i) = refl

  pub set-entry : (x : ℕ) → entry (set_row m) x ≡ set_of m x
  unfolding entry set_row set_of
  set-entry zero = refl
  set-entry (suc i) = refl

  pub kinds-used : length (kind_row m) ≡ used m
  unfolding kind_row used
  kinds-used = omega (arith, length-append m.kinds (replicate (length m.forks) 3), length-replicate {A = ℕ} (length m.forks) 3)

  pub sets-used : length m.sets ≡ length m.kinds → length (set_row m) ≡ used m
  unfolding set_row used
  sets-used e = omega (arith, length-append m.sets m.forks)

inside-row : (l : List ℕ) (i k : ℕ) → get_or l i 0 ≡ suc k → i < length l
inside-row [] i k e = absurd (omega arith)
inside-row (x ∷ l) zero k e = omega arith
inside-row (x ∷ l) (suc i) k e = let h = inside-row l i k e in omega arith

-- ---- over_kinds

pub over-is : (k : ℕ) (kinds : List ℕ) (C : Clause) → over_kinds k kinds C ≡ true → (l : ℤ) → l ∈ C → (0 < entry kinds (nat_abs l)) × (entry kinds (nat_abs l) ≤ k)
unfolding over_kinds
over-is k kinds C e l q =
    let x = entry kinds (nat_abs l) in
    let b = all-member _ C e l q in
    (ltb-true 0 x (and_left (ltb 0 x) (leb x k) b), leb-true x k (and_right (ltb 0 x) (leb x k) b))

pub over-from : (k : ℕ) (kinds : List ℕ) (C : Clause) → ((l : ℤ) → l ∈ C → (0 < entry kinds (nat_abs l)) × (entry kinds (nat_abs l) ≤ k)) → over_kinds k kinds C ≡ true
unfolding over_kinds
over-from k kinds C f = all_from _ C (λ l q. both _ _ (lt-ltb _ _ (f l q).0) (le-leb _ _ (f l q).1))

-- ---- forks_above

forks-front : (kinds rest : List ℕ) → forks_above (length kinds) (kinds ++ rest) ≡ true → (k : ℕ) → k ∈ kinds → k ≡ 3 → ⊥
unfolding forks_above
forks-front [] rest e k x3 q = elim x3 [ ]
forks-front (x ∷ kinds) rest e k (Memᴰ.head w) q =
    eqb-false x 3 (not-true (eqb x 3) (and_left (not (eqb x 3)) (forks_above (length kinds) (kinds ++ rest)) e)) (sym w ∙ q)
forks-front (x ∷ kinds) rest e k (Memᴰ.tail w) q =
    forks-front kinds rest (and_right (not (eqb x 3)) (forks_above (length kinds) (kinds ++ rest)) e) k w q

forks-from : (kinds : List ℕ) (n : ℕ) → ((k : ℕ) → k ∈ kinds → k ≤ 2) → forks_above (length kinds) (kinds ++ replicate n 3) ≡ true
unfolding forks_above
forks-from [] zero f = refl
forks-from [] (suc n) f = forks-from [] n f
forks-from (k ∷ kinds) n f =
    both _ _ (ap not (ne_eqb k 3 (λ e. absurd (omega (arith, f k (Memᴰ.head refl)))))) (forks-from kinds n (λ k q. f k (Memᴰ.tail q)))

-- a number above V has kind 3, or none
kind-above : (kinds : List ℕ) (n i : ℕ) → length kinds ≤ i → (get_or (kinds ++ replicate n 3) i 0 ≡ 0) ⊎ (get_or (kinds ++ replicate n 3) i 0 ≡ 3)
kind-above [] zero i h = inl refl
kind-above [] (suc n) zero h = inr refl
kind-above [] (suc n) (suc i) h = kind-above [] n i (omega arith)
kind-above (k ∷ kinds) n zero h = absurd (omega arith)
kind-above (k ∷ kinds) n (suc i) h = kind-above kinds n i (le_of_suc-le-suc h)

-- ---- the test gives the facts

module _ (m : Model) (e : valid m ≡ true) where
  even : length m.sets ≡ length m.kinds
  unfolding valid
  even = eqb-true _ _ (every-at _ e 0)

  counts : Counts (state_of m)
  unfolding valid
  counts = counts-is (state_of m) (every-at _ e 1)

  clause-test : clauses_fit (length m.formula) (kind_row m) (clauses m) ≡ true
  unfolding valid
  clause-test = every-at _ e 2

  variable-test : variables_fit (length m.kinds) (universal_count m) (kind_row m) (set_row m) ≡ true
  unfolding valid
  variable-test = every-at _ e 3

  rows : length (set_row m) ≡ length (kind_row m)
  rows = sets-used m even ∙ sym (kinds-used m)

  bits : Bits (universal_count m) empty_set (kind_row m) (set_row m)
  unfolding variables_fit
  bits = bits_is (universal_count m) empty_set (kind_row m) (set_row m) rows (every-at _ variable-test 1)

  keeps : (C : Clause) → C ∈ clauses m → Kept m C
  unfolding clauses_fit narrow
  keeps C q = record {
    ascends = (ascending-is 0 C (all-member (ascending 0) (clauses m) (every-at _ clause-test 0) C q)).1;
    narrow = leb-true _ _ (all-member narrow (clauses m) (every-at _ clause-test 1) C q);
    over = λ l w z. let o = (over-is 3 (kind_row m) C (all-member (over_kinds 3 (kind_row m)) (clauses m) (every-at _ clause-test 2) C q) l w).0 in
        absurd (omega (arith, kind-entry m (nat_abs l)));
  }

  low : (k : ℕ) → k ∈ m.kinds → k ≤ 2
  unfolding variables_fit is_kind kind_row
  low k q =
      let three = leb-true k 3 (all-member is_kind (kind_row m) (every-at _ variable-test 3) k (Memᴰ.append_left _ q)) in
      let not_three = forks-front m.kinds (replicate (length m.forks) 3) (every-at _ variable-test 5) k q in
      go k three not_three
    where
      go : (k : ℕ) → k ≤ 3 → (k ≡ 3 → ⊥) → k ≤ 2
      go k h f = omega arith

  own : (x : ℕ) → 0 < kind_of m x → kind_of m x ≤ 2 → x ≤ length m.kinds
  unfolding kind_of
  own zero h k = omega arith
  own (suc i) h k = go (ltb i (length m.kinds)) refl
    where
      go : (b : Bool) → ltb i (length m.kinds) ≡ b → suc i ≤ length m.kinds
      go true q = ltb-true i (length m.kinds) q
      go false q = ⊎_elim (λ w. absurd (omega arith)) (λ w. absurd (omega arith)) (kind-above m.kinds (length m.forks) i (ltb-false i (length m.kinds) q))

  sole : (v : ℕ) → kind_of m v ≡ 1 → (i : ℕ) × (i < universal_count m) × (set_of m v ≡ single i)
  unfolding kind_of set_of kind_row set_row
  sole zero q = absurd (omega arith)
  sole (suc i) q = let r = bits.sole i (inside-row (kind_row m) i 0 q) q in (r.0, r.1, r.2)

  different : (v w : ℕ) → kind_of m v ≡ 1 → kind_of m w ≡ 1 → set_of m v ≡ set_of m w → v ≡ w
  unfolding kind_of set_of kind_row set_row
  different zero w q q' d = absurd (omega arith)
  different (suc i) zero q q' d = absurd (omega arith)
  different (suc i) (suc i') q q' d = ap suc (bits.different i i' (inside-row (kind_row m) i 0 q) (inside-row (kind_row m) i' 0 q') q q' d)

  filled : (i : ℕ) → i < universal_count m → (v : ℕ) × (kind_of m v ≡ 1) × (set_of m v ≡ single i)
  unfolding kind_of set_of kind_row set_row
  filled i h = let r = bits.filled i h (bit-zero i) in (suc r.0, r.2, r.3)

  bare : (v : ℕ) → kind_of m v ≡ 0 → set_of m v ≡ 0
  unfolding kind_of set_of variables_fit bare_if_undeclared kind_row set_row
  bare zero q = refl
  bare (suc i) q = go (ltb i (length (kind_row m))) refl
    where
      go : (b : Bool) → ltb i (length (kind_row m)) ≡ b → get_or (set_row m) i 0 ≡ 0
      go true h =
          let p = variables-at bare_if_undeclared (kind_row m) (set_row m) rows (every-at _ variable-test 4) i (ltb-true i _ h) in
          eqb-true _ _ (rw q at p)
      go false h = get_or-eq_default (set_row m) 0 (rw rows (ltb-false i _ h))

  within : (v i : ℕ) → bit (set_of m v) i ≡ true → i < universal_count m
  unfolding kind_of set_of variables_fit other_inside kind_row set_row
  within zero i b = absurd (true≢false (sym b ∙ bit-zero i))
  within (suc x) i b = go (get_or (kind_row m) x 0) refl
    where
      go : (k : ℕ) → get_or (kind_row m) x 0 ≡ k → i < universal_count m
      go zero q = absurd (true≢false (sym b ∙ ap (λ s. bit s i) (bare (suc x) q) ∙ bit-zero i))
      go (suc zero) q =
          let r = sole (suc x) q in
          let same : r.0 ≡ i = eqb-true r.0 i (sym (bit-single r.0 i) ∙ ap (λ s. bit s i) (sym r.2) ∙ b) in
          omega (arith, r.1)
      go (suc (suc k)) q =
          let p = variables-at (other_inside (lowest (universal_count m))) (kind_row m) (set_row m) rows (every-at _ variable-test 2) x (inside-row (kind_row m) x (suc k) q) in
          let t : leb 2 (suc (suc k)) ≡ true = le-leb 2 (suc (suc k)) (omega arith) in
          ltb-true i _ (sym (lowest-bit (universal_count m) i) ∙ (bit-inside (get_or (set_row m) x 0) (lowest (universal_count m))).0 (rw (q, t) at p) i b)

  pub valid-is : Valid tables m
  unfolding state_of steps used clauses clauses_fit
  valid-is = record {
    few-clauses = counts.clauses;
    few-literals = counts.literals;
    few-variables = counts.variables;
    few-universals = counts.universals;
    made = omega (arith, counts.adds, length-append m.formula m.derived);
    kept = keeps;
    own = λ C q l w.
        let f : C ∈ take (length m.formula) (clauses m) = rw (take-append_seam m.formula m.derived) q in
        let o = over-is 2 (kind_row m) C (all-member (over_kinds 2 (kind_row m)) _ (every-at _ clause-test 3) C f) l w in
        own (nat_abs l) (rw (kind-entry m (nat_abs l)) at o.0) (rw (kind-entry m (nat_abs l)) at o.1);
    even = even;
    kinds-low = low;
    sole = sole;
    different = different;
    filled = filled;
    within = within;
    bare = bare;
  }

-- ---- and back

module _ (m : Model) (v : Valid tables m) where
  counts-from : Counts (state_of m)
  unfolding state_of steps used clauses
  counts-from = record {
    bound = omega (arith, v.few-variables);
    variables = v.few-variables;
    universals = v.few-universals;
    formula = omega (arith, v.few-clauses, length-append m.formula m.derived);
    clauses = v.few-clauses;
    literals = v.few-literals;
    in_use = omega arith;
    adds = omega (arith, v.made, length-append m.formula m.derived);
  }

  kind-some : (C : Clause) → C ∈ clauses m → (l : ℤ) → l ∈ C → 0 < entry (kind_row m) (nat_abs l)
  kind-some C q l w = rw (kind-entry m (nat_abs l)) (positive (kind_of m (nat_abs l)) ((v.kept C q).over l w))
    where
      positive : (k : ℕ) → (k ≡ 0 → ⊥) → 0 < k
      positive k f = omega arith

  not-zero : (x : ℕ) → 0 < entry (kind_row m) x → 0 < x
  unfolding entry
  not-zero zero h = h
  not-zero (suc i) h = omega arith

  row-kinds : (k : ℕ) → k ∈ kind_row m → k ≤ 3
  unfolding kind_row
  row-kinds k q = ⊎_elim (λ w. omega (arith, v.kinds-low k w)) (λ w. three (length m.forks) w) (Memᴰ.append_cases m.kinds q)
    where
      three : {k : ℕ} (n : ℕ) → k ∈ replicate n 3 → k ≤ 3
      three zero w = absurd (Memᴰ.not-nil w)
      three (suc n) w = ⊎_elim (λ p. omega arith) (λ p. three n p) (Memᴰ.cases_cons w)

  kinds-from : all_of is_kind (kind_row m) ≡ true
  unfolding is_kind
  kinds-from = all_from is_kind (kind_row m) (λ k q. le-leb k 3 (row-kinds k q))

  entry-low : (x : ℕ) → entry (kind_row m) x ≤ 3
  unfolding entry is_kind
  entry-low zero = omega arith
  entry-low (suc i) = leb-true _ 3 (all_get_d is_kind (kind_row m) kinds-from 0 refl i)

  entry-declared : (x : ℕ) → x ≤ length m.kinds → entry (kind_row m) x ≤ 2
  unfolding entry kind_row
  entry-declared zero h = omega arith
  entry-declared (suc i) h =
      rw (get_or-append m.kinds (replicate (length m.forks) 3) 0 i h)
      (leb-true _ 2 (all_get_d (λ k. leb k 2) m.kinds (all_from _ m.kinds (λ k q. le-leb k 2 (v.kinds-low k q))) 0 refl i))

  clauses-from : clauses_fit (length m.formula) (kind_row m) (clauses m) ≡ true
  unfolding clauses_fit narrow
  clauses-from = every-from _ (
    all_from (ascending 0) (clauses m) (λ C q. ascending-from 0 C (λ l w. not-zero (nat_abs l) (kind-some C q l w)) (v.kept C q).ascends),
    (
      all_from narrow (clauses m) (λ C q. le-leb _ _ (v.kept C q).narrow),
      (
        all_from (over_kinds 3 (kind_row m)) (clauses m) (λ C q. over-from 3 (kind_row m) C (λ l w. (kind-some C q l w, entry-low (nat_abs l)))),
        (
          all_from (over_kinds 2 (kind_row m)) (take (length m.formula) (clauses m)) (λ C q. over-from 2 (kind_row m) C (λ l w. formula-over C q l w)),
          tt,
        ),
      ),
    ),
  )
    where
      formula-over : (C : Clause) → C ∈ take (length m.formula) (clauses m) → (l : ℤ) → l ∈ C
          → (0 < entry (kind_row m) (nat_abs l)) × (entry (kind_row m) (nat_abs l) ≤ 2)
      formula-over C q l w =
          let f : C ∈ m.formula = unfold clauses in rw (take-append_seam m.formula m.derived) at q in
          (kind-some C (unfold clauses in Memᴰ.append_left m.derived f) l w, entry-declared (nat_abs l) (v.own C f l w))

  rows-even : length (set_row m) ≡ length (kind_row m)
  rows-even = sets-used m v.even ∙ sym (kinds-used m)

  bits-hold : Bits (universal_count m) empty_set (kind_row m) (set_row m)
  unfolding kind_of set_of kind_row set_row
  bits-hold = record {
    low = λ i e. absurd (true≢false (sym e ∙ bit-zero i));
    sole = λ i h q. let r = v.sole (suc i) q in (r.0, r.1, r.2, bit-zero r.0);
    different = λ i i' h h' q q' d. let r = v.different (suc i) (suc i') q q' d in omega arith;
    filled = λ j h e. place j (v.filled j h);
  }
    where
      place : (j : ℕ) → (x : ℕ) × (kind_of m x ≡ 1) × (set_of m x ≡ single j) → Taken (kind_row m) (set_row m) j
      place j (zero, q, d) = absurd (omega arith)
      place j (suc i, q, d) = (i, inside-row (kind_row m) i 0 q, q, d)

  inside-from : (i : ℕ) → i < length (kind_row m) → other_inside (lowest (universal_count m)) (get_or (kind_row m) i 0) (get_or (set_row m) i 0) ≡ true
  unfolding other_inside set_of set_row
  inside-from i h = go (leb 2 (get_or (kind_row m) i 0))
    where
      go : (b : Bool) → cond b (inside (get_or (set_row m) i 0) (lowest (universal_count m))) true ≡ true
      go true = (bit-inside (get_or (set_row m) i 0) (lowest (universal_count m))).1 (λ j b. lowest-bit (universal_count m) j ∙ lt-ltb j _ (v.within (suc i) j b))
      go false = refl

  bare-from : (i : ℕ) → i < length (kind_row m) → bare_if_undeclared (get_or (kind_row m) i 0) (get_or (set_row m) i 0) ≡ true
  unfolding bare_if_undeclared kind_of set_of kind_row set_row
  bare-from i h = go (eqb (get_or (kind_row m) i 0) 0) refl
    where
      go : (b : Bool) → eqb (get_or (kind_row m) i 0) 0 ≡ b → cond b (eqb (get_or (set_row m) i 0) 0) true ≡ true
      go true q = eq-eqb _ 0 (v.bare (suc i) (eqb-true _ 0 q))
      go false q = refl

  counted : universals_in (kind_row m) ≡ universal_count m
  unfolding kind_row universal_count
  counted = universals-threes m.kinds (length m.forks)

  forks-hold : forks_above (length m.kinds) (kind_row m) ≡ true
  unfolding kind_row
  forks-hold = forks-from m.kinds (length m.forks) v.kinds-low

  variables-hold : variables_fit (length m.kinds) (universal_count m) (kind_row m) (set_row m) ≡ true
  unfolding variables_fit
  variables-hold = every-from _ (
    eq-eqb _ _ counted,
    (
      bits-from (universal_count m) empty_set (kind_row m) (set_row m) rows-even bits-hold,
      (
        variables-from (other_inside (lowest (universal_count m))) (kind_row m) (set_row m) rows-even inside-from,
        (
          kinds-from,
          (
            variables-from bare_if_undeclared (kind_row m) (set_row m) rows-even bare-from,
            (
              forks-hold,
              tt,
            ),
          ),
        ),
      ),
    ),
  )

  pub valid-from : valid m ≡ true
  unfolding valid
  valid-from = every-from _ (eq-eqb _ _ v.even, (counts-to (state_of m) counts-from, (clauses-from, (variables-hold, tt))))
