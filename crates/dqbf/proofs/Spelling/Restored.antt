-- The model of `formula_of` is the formula part (specs/Spelled.antt): kinds, set words and clauses are restored.
-- The formula has no `e` line: what its variables are does not depend on the rule for them.
use mathlib.Core.Path.{◌≡◌, refl, sym, ◌∙◌, ap, ap₂}
use mathlib.Core.Logic.{◌⊎◌, inl, inr, ◌≢◌}
use mathlib.Core.Bool.{Bool, true, false, cond, false≢true}
use mathlib.Core.List.Memᴰ
use mathlib.Core.List.{List, [], ◌∷◌, ◌++◌, map, append-nil}
use Prim.Native.Nat.{ℕ, zero, suc, ◌+◌, ◌≤◌, ◌<◌}
use native.Mathlib.Nat.{zero-add}
use native.Mathlib.Omega.{arith}
use lib.Dec.{eqb}
use lib.ListN.{length, get_or, replicate, get_or-append}
use Rattle.dqbf.specs.Limits.{Room}
use Rattle.dqbf.specs.Literal.{Clause, ◌∈◌, sorted}
use Rattle.dqbf.specs.Set.{Set, bit, single}
use Rattle.dqbf.specs.Formula.{Declaration, on_a, on_d, Formula, universals_of, universals, ERule, e_set, declared_as, Var, undeclared, universal, existential, var_by, var}
use Rattle.dqbf.specs.Model.{Model, clauses, universal_count, kind_of, set_of, word_of, kind_for, set_for, numbers, model_by, model_of}
use Rattle.dqbf.specs.Valid.{Valid}
use Rattle.dqbf.proofs.Laws.Tests.{eqb_is, eqb-not, eqb_same, never}
use Rattle.dqbf.proofs.Laws.Words.{bit-ext, single-inside}
use Rattle.dqbf.proofs.Laws.Counting.{word-has, word_in}
use Rattle.dqbf.proofs.Laws.Lists.{nth}
use Rattle.dqbf.proofs.Reading.Lines.{universals-a, universals-append}
use Rattle.dqbf.specs.Spelled.{formula_part, universal_at, declaration_order, members_of, existentials, formula_of}
use Rattle.dqbf.proofs.Spelling.Declared.{at-is, order-place, order-universal, universal-order, member_is, is_member-at, existential-is, is-existential}
use Rattle.dqbf.proofs.Spelling.Passing.{sorted-same}

-- ---- what a variable is declared as

module _ (rule : ERule) where
  as-universal : (earlier all us : List ℕ) (ds : List Declaration) (x : ℕ) → x ∈ us → declared_as rule earlier all (map on_a us ++ ds) x ≡ universal
  unfolding declared_as
  as-universal earlier all [] ds x x3 = elim x3 [ ]
  as-universal earlier all (y ∷ us) ds x (Memᴰ.head e) = rw (e, eqb_same y)
  as-universal earlier all (y ∷ us) ds x (Memᴰ.tail q) = go (eqb x y) (as-universal (earlier ++ (y ∷ [])) all us ds x q)
    where
      go : (b : Bool) → declared_as rule (earlier ++ (y ∷ [])) all (map on_a us ++ ds) x ≡ universal → cond b universal (declared_as rule (earlier ++ (y ∷ [])) all (map on_a us ++ ds) x) ≡ universal
      go true h = refl
      go false h = h

  past-universals : (all us : List ℕ) (ds : List Declaration) (x : ℕ) (r : Var) → (x ∈ us → ⊥) → ((earlier : List ℕ) → declared_as rule earlier all ds x ≡ r)
      → (earlier : List ℕ) → declared_as rule earlier all (map on_a us ++ ds) x ≡ r
  unfolding declared_as
  past-universals all [] ds x r d h earlier = h earlier
  past-universals all (y ∷ us) ds x r d h earlier =
      rw (eqb-not x y (λ e. d (Memᴰ.head e))) (past-universals all us ds x r (λ q. d (Memᴰ.tail q)) h (earlier ++ (y ∷ [])))

  module _ (f : ℕ → List ℕ) where
    as-existential : (all es : List ℕ) (x : ℕ) → x ∈ es → (earlier : List ℕ) → declared_as rule earlier all (map (λ y. on_d y (f y)) es) x ≡ existential (f x)
    unfolding declared_as
    as-existential all [] x x3 earlier = elim x3 [ ]
    as-existential all (y ∷ es) x (Memᴰ.head e) earlier = rw (e, eqb_same y)
    as-existential all (y ∷ es) x (Memᴰ.tail q) earlier = go (eqb x y) refl (as-existential all es x q earlier)
      where
        go : (b : Bool) → eqb x y ≡ b → declared_as rule earlier all (map (λ y. on_d y (f y)) es) x ≡ existential (f x)
            → cond b (existential (f y)) (declared_as rule earlier all (map (λ y. on_d y (f y)) es) x) ≡ existential (f x)
        go true e h = ap (λ (z : ℕ). existential (f z)) (sym (eqb_is x y e))
        go false e h = h

    as-undeclared : (all es : List ℕ) (x : ℕ) → (x ∈ es → ⊥) → (earlier : List ℕ) → declared_as rule earlier all (map (λ y. on_d y (f y)) es) x ≡ undeclared
    unfolding declared_as
    as-undeclared all [] x d earlier = refl
    as-undeclared all (y ∷ es) x d earlier = rw (eqb-not x y (λ e. d (Memᴰ.head e))) (as-undeclared all es x (λ q. d (Memᴰ.tail q)) earlier)

universals-d : (f : ℕ → List ℕ) (es : List ℕ) → universals_of (map (λ y. on_d y (f y)) es) ≡ []
unfolding universals_of
universals-d f [] = refl
universals-d f (y ∷ es) = universals-d f es

-- ---- entries by their variables

map-numbers : (f : ℕ → ℕ) (k : ℕ) (xs : List ℕ) → ((i : ℕ) → i < length xs → f (suc (k + i)) ≡ get_or xs i 0) → map f (numbers k (length xs)) ≡ xs
unfolding numbers
map-numbers f k [] h = refl
map-numbers f k (x ∷ xs) h =
    let e : suc (k + 0) ≡ suc k = omega arith in
    ap₂ {C = List ℕ} ◌∷◌ (rw e at (h 0 (omega arith)))
    (map-numbers f (suc k) xs (λ i l. let e : suc (suc k + i) ≡ suc (k + suc i) = omega arith in rw e (h (suc i) (omega arith))))

map-sorted : (Cs : List Clause) → ((C : Clause) → C ∈ Cs → sorted C ≡ C) → map sorted Cs ≡ Cs
map-sorted [] h = refl
map-sorted (C ∷ Cs) h = ap₂ {C = List Clause} ◌∷◌ (h C (Memᴰ.head refl)) (map-sorted Cs (λ D q. h D (Memᴰ.tail q)))

abbrev part_of : List ℕ → List Set → List Clause → Model
part_of kinds sets formula = record { kinds = kinds; sets = sets; formula = formula; forks = []; derived = [] }

same_parts : {ks ls : List ℕ} {ss ts : List Set} {Cs Ds : List Clause} → ks ≡ ls → ss ≡ ts → Cs ≡ Ds → part_of ks ss Cs ≡ part_of ls ts Ds
same_parts a b c = rw (a, b, c)

module _ (room : Room) (m : Model) (v : Valid room m) where
  abbrev us : List ℕ
  us = declaration_order m

  abbrev es : List ℕ
  es = existentials m

  abbrev members : ℕ → List ℕ
  members x = members_of m (set_of m x)

  abbrev φ : Formula
  φ = formula_of m

  universals-are : universals φ ≡ us
  unfolding formula_of
  universals-are = universals-append (map on_a us) (map (λ x. on_d x (members x)) es) ∙ ap₂ {C = List ℕ} ◌++◌ (universals-a us) (universals-d members es) ∙ append-nil us

  var-universal : (x : ℕ) → kind_of m x ≡ 1 → var φ x ≡ universal
  unfolding var_by formula_of
  var-universal x k = as-universal e_set [] (universals φ) us (map (λ x. on_d x (members x)) es) x (universal-order room m v x k)

  not-universal : (x : ℕ) → kind_of m x ≢ 1 → x ∈ us → ⊥
  not-universal x d q = d (order-universal room m v x q)

  var-existential : (x : ℕ) → x ≢ 0 → x ≤ length m.kinds → kind_of m x ≡ 2 → var φ x ≡ existential (members x)
  unfolding var_by formula_of
  var-existential x p l k =
      past-universals e_set (universals φ) us (map (λ x. on_d x (members x)) es) x (existential (members x)) (not-universal x (λ e. omega arith))
      (as-existential e_set members (universals φ) es x (is-existential room m v x p l k)) []

  var-undeclared : (x : ℕ) → kind_of m x ≡ 0 → var φ x ≡ undeclared
  unfolding var_by formula_of
  var-undeclared x k =
      past-universals e_set (universals φ) us (map (λ x. on_d x (members x)) es) x undeclared (not-universal x (λ e. omega arith))
      (as-undeclared e_set members (universals φ) es x (λ q. let e = (existential-is room m v x q).0 in omega arith)) []

  -- the set word of the members of a set is the set
  word-is : (s : Set) → ((i : ℕ) → bit s i ≡ true → i < universal_count m) → word_of us (members_of m s) ≡ s
  word-is s low = bit-ext (word_of us (members_of m s)) s (λ i. alike (bit (word_of us (members_of m s)) i) (bit s i) (to i) (from i))
    where
      alike : (a b : Bool) → (a ≡ true → b ≡ true) → (b ≡ true → a ≡ true) → a ≡ b
      alike true b h k = sym (h refl)
      alike false b h k = sym (never b (λ t. false≢true (k t)))

      to : (i : ℕ) → bit (word_of us (members_of m s)) i ≡ true → bit s i ≡ true
      to i h =
          let w = word_in us (members_of m s) i h in
          let u = w.0 in
          let k = member_is room m v s u w.1 in
          let o = v.sole u k.0 in
          let p = (order-place room m v u o.0 k.0 o.2 o.1).1 in
          let e : o.0 ≡ i = sym p ∙ w.2 in
          ap (bit s) (sym e) ∙ sym (single-inside (set_of m u) s o.0 o.2) ∙ k.1

      from : (i : ℕ) → bit s i ≡ true → bit (word_of us (members_of m s)) i ≡ true
      from i h =
          let c = low i h in
          let u = universal_at m i in
          let k = at-is room m v i c in
          let q = is_member-at room m v s u k.0 (single-inside (set_of m u) s i k.1 ∙ h) in
          let p = (order-place room m v u i k.0 k.1 c).1 in
          rw p at (word-has us (members_of m s) u q)

  -- ---- kinds and sets

  kind_at : (i : ℕ) → i < length m.kinds → kind_of m (suc i) ≡ get_or m.kinds i 0
  unfolding kind_of
  kind_at i h = get_or-append m.kinds (replicate (length m.forks) 3) 0 i h

  set_at : (i : ℕ) → i < length m.kinds → set_of m (suc i) ≡ get_or m.sets i 0
  unfolding set_of
  set_at i h = get_or-append m.sets m.forks 0 i (omega (arith, v.even))

  three : (k : ℕ) → k ≤ 2 → (k ≡ 0) ⊎ ((k ≡ 1) ⊎ (k ≡ 2))
  three zero h = inl refl
  three (suc zero) h = inr (inl refl)
  three (suc (suc zero)) h = inr (inr refl)
  three (suc (suc (suc k))) h = absurd (omega arith)

  -- a variable up to V is undeclared, universal or existential
  pub declared-kind : (i : ℕ) → i < length m.kinds → (kind_of m (suc i) ≡ 0) ⊎ ((kind_of m (suc i) ≡ 1) ⊎ (kind_of m (suc i) ≡ 2))
  declared-kind i h = three (kind_of m (suc i)) (rw (kind_at i h) (v.kinds-low (get_or m.kinds i 0) (nth m.kinds i 0 h)))

  kind-restored : (i : ℕ) → i < length m.kinds → kind_for (var φ (suc i)) ≡ kind_of m (suc i)
  unfolding kind_for
  kind-restored i h = go (declared-kind i h)
    where
      go : (kind_of m (suc i) ≡ 0) ⊎ ((kind_of m (suc i) ≡ 1) ⊎ (kind_of m (suc i) ≡ 2)) → kind_for (var φ (suc i)) ≡ kind_of m (suc i)
      go (inl k) = rw (var-undeclared (suc i) k, k)
      go (inr (inl k)) = rw (var-universal (suc i) k, k)
      go (inr (inr k)) = rw (var-existential (suc i) (λ e. omega arith) h k, k)

  set-restored : (i : ℕ) → i < length m.kinds → set_for (universals φ) (suc i) (var φ (suc i)) ≡ set_of m (suc i)
  unfolding set_for
  set-restored i h = rw universals-are (go (declared-kind i h))
    where
      go : (kind_of m (suc i) ≡ 0) ⊎ ((kind_of m (suc i) ≡ 1) ⊎ (kind_of m (suc i) ≡ 2)) → set_for us (suc i) (var φ (suc i)) ≡ set_of m (suc i)
      go (inl k) = rw (var-undeclared (suc i) k) (sym (v.bare (suc i) k))
      go (inr (inl k)) =
          let o = v.sole (suc i) k in
          rw (var-universal (suc i) k) (ap single (order-place room m v (suc i) o.0 k o.2 o.1).1 ∙ sym o.2)
      go (inr (inr k)) = rw (var-existential (suc i) (λ e. omega arith) h k) (word-is (set_of m (suc i)) (v.within (suc i)))

  kinds-restored : map (λ x. kind_for (var φ x)) (numbers 0 (length m.kinds)) ≡ m.kinds
  kinds-restored = map-numbers (λ x. kind_for (var φ x)) 0 m.kinds (λ i h. rw (zero-add i) (kind-restored i h ∙ kind_at i h))

  sets-restored : map (λ x. set_for (universals φ) x (var φ x)) (numbers 0 (length m.kinds)) ≡ m.sets
  sets-restored =
      rw (← v.even) (map-numbers (λ x. set_for (universals φ) x (var φ x)) 0 m.sets
      (λ i h. let l : i < length m.kinds = omega (arith, v.even) in rw (zero-add i) (set-restored i l ∙ set_at i l)))

  clauses-restored : map sorted m.formula ≡ m.formula
  unfolding clauses
  clauses-restored = map-sorted m.formula (λ C q. sorted-same C (v.kept C (Memᴰ.append_left m.derived q)).ascends)

  pub restored : model_of (formula_of m) ≡ formula_part m
  unfolding model_by formula_part formula_of
  restored = same_parts kinds-restored sets-restored clauses-restored
