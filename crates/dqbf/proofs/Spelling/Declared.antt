-- The variables that the lines of a valid model declare (specs/Spelled.antt): the universals in order of declaration, the members of a set, the existentials.
use mathlib.Core.Path.{◌≡◌, refl, sym, ◌∙◌, ap}
use mathlib.Core.Logic.{◌≢◌}
use mathlib.Core.Bool.{true}
use mathlib.Core.List.Memᴰ
use mathlib.Core.List.{List}
use Prim.Native.Nat.{ℕ, zero, suc, ◌+◌, ◌≤◌, ◌<◌}
use native.Mathlib.Nat.{zero-add}
use native.Mathlib.Omega.{arith}
use lib.Dec.{eqb}
use lib.ListN.{length, get_or}
use Rattle.dqbf.specs.Limits.{Room}
use Rattle.dqbf.specs.Literal.{◌∈◌}
use Rattle.dqbf.specs.Set.{Set, single, inside}
use Rattle.dqbf.specs.Model.{Model, universal_count, kind_of, set_of, place}
use Rattle.dqbf.specs.Valid.{Valid}
use Rattle.dqbf.proofs.Laws.Tests.{and_left, and_right, both, eqb_is, eqb_same}
use Rattle.dqbf.proofs.Laws.Counting.{Once, place_at, single-one}
use Rattle.dqbf.proofs.Laws.Lists.{nth}
use Rattle.dqbf.proofs.Laws.Models.{universal-low}
use Rattle.dqbf.specs.Spelled.{is_universal, is_at, universal_at, universals_from, declaration_order, is_member, members_of, is_existential, existentials, variables}
use Rattle.dqbf.proofs.Spelling.Selecting.{numbers-in, in-numbers, numbers-once, select_in, in-select, select-once, first-in}

-- ---- the variables 1 to V

pub variables-in : (m : Model) (x : ℕ) → x ∈ variables m → (x ≢ 0) × (x ≤ length m.kinds)
variables-in m x q = let r = numbers-in 0 (length m.kinds) x q in ((λ e. omega arith), omega arith)

pub in-variables : (m : Model) (x : ℕ) → x ≢ 0 → x ≤ length m.kinds → x ∈ variables m
in-variables m x p l = in-numbers 0 (length m.kinds) x (omega arith) (omega arith)

-- ---- universals from a place on

from-length : (m : Model) (i n : ℕ) → length (universals_from m i n) ≡ n
unfolding universals_from
from-length m i zero = refl
from-length m i (suc n) = ap suc (from-length m (suc i) n)

from_at : (m : Model) (i n j : ℕ) → j < n → get_or (universals_from m i n) j 0 ≡ universal_at m (i + j)
unfolding universals_from
from_at m i zero j h = absurd (omega arith)
from_at m i (suc n) zero h = ap (universal_at m) (omega arith)
from_at m i (suc n) (suc j) h = from_at m (suc i) n j (omega arith) ∙ ap (universal_at m) (omega arith)

from_in : (m : Model) (i n u : ℕ) → u ∈ universals_from m i n → (j : ℕ) × (i ≤ j) × (j < i + n) × (u ≡ universal_at m j)
unfolding universals_from
from_in m i zero u q = absurd (Memᴰ.not-nil q)
from_in m i (suc n) u (Memᴰ.head e) = (i, omega arith, omega arith, e)
from_in m i (suc n) u (Memᴰ.tail q) = let r = from_in m (suc i) n u q in (r.0, omega (arith, r.1), omega (arith, r.2), r.3)

-- none of them twice, if each place has its own
from-once : (m : Model) (i n : ℕ) → ((j k : ℕ) → j < i + n → k < i + n → universal_at m j ≡ universal_at m k → j ≡ k) → Once (universals_from m i n)
unfolding universals_from Once
from-once m i zero h = tt
from-once m i (suc n) h = (
  (λ q. let r = from_in m (suc i) n (universal_at m i) q in let e = h i r.0 (omega arith) (omega (arith, r.2)) r.3 in omega (arith, r.1)),
  from-once m (suc i) n (λ j k a b e. h j k (omega arith) (omega arith) e),
)

module _ (room : Room) (m : Model) (v : Valid room m) where
  abbrev us : List ℕ
  us = declaration_order m

  -- ---- the universal at a place

  pub at-is : (i : ℕ) → i < universal_count m → (kind_of m (universal_at m i) ≡ 1) × (set_of m (universal_at m i) ≡ single i)
  unfolding universal_at is_at is_universal kind_of
  at-is i h = go f.0 f.1 f.2
    where
      f : (x : ℕ) × (kind_of m x ≡ 1) × (set_of m x ≡ single i)
      f = v.filled i h

      go : (x : ℕ) → kind_of m x ≡ 1 → set_of m x ≡ single i → (kind_of m (universal_at m i) ≡ 1) × (set_of m (universal_at m i) ≡ single i)
      go zero k s = absurd (omega arith)
      go (suc x) k s =
          let q = in-variables m (suc x) (λ e. omega arith) (universal-low m (suc x) k) in
          let t = both (eqb (kind_of m (suc x)) 1) (eqb (set_of m (suc x)) (single i)) (rw k) (rw s (eqb_same (single i))) in
          let r = (first-in (is_at m i) (suc x) q t).1 in
          let u = universal_at m i in (
            eqb_is (kind_of m u) 1 (and_left (eqb (kind_of m u) 1) (eqb (set_of m u) (single i)) r),
            eqb_is (set_of m u) (single i) (and_right (eqb (kind_of m u) 1) (eqb (set_of m u) (single i)) r),
          )

  pub at_one : (i x : ℕ) → i < universal_count m → kind_of m x ≡ 1 → set_of m x ≡ single i → universal_at m i ≡ x
  at_one i x h k s = let a = at-is i h in v.different (universal_at m i) x a.0 k (a.1 ∙ sym s)

  -- ---- the universals in order of declaration

  pub order-length : length us ≡ universal_count m
  unfolding declaration_order
  order-length = from-length m 0 (universal_count m)

  pub order-once : Once us
  unfolding declaration_order
  order-once = from-once m 0 (universal_count m)
      (λ j k a b e. single-one j k (sym (at-is j (omega arith)).1 ∙ ap (set_of m) e ∙ (at-is k (omega arith)).1))

  pub order-universal : (u : ℕ) → u ∈ us → kind_of m u ≡ 1
  unfolding declaration_order
  order-universal u q = let r = from_in m 0 (universal_count m) u q in ap (kind_of m) r.3 ∙ (at-is r.0 (omega (arith, r.2))).0

  -- a universal has its place there
  pub order-place : (u i : ℕ) → kind_of m u ≡ 1 → set_of m u ≡ single i → i < universal_count m → (u ∈ us) × (place us u ≡ i)
  unfolding declaration_order
  order-place u i k s h =
      let here : i < length us = omega (arith, order-length) in
      let e : get_or us i 0 ≡ u = from_at m 0 (universal_count m) i h ∙ ap (universal_at m) (zero-add i) ∙ at_one i u h k s in
      (rw e at (nth us i 0 here), rw e at (place_at us i order-once here))

  pub universal-order : (u : ℕ) → kind_of m u ≡ 1 → u ∈ us
  universal-order u k = let s = v.sole u k in (order-place u s.0 k s.2 s.1).0

  pub order-low : (u : ℕ) → u ∈ us → (u ≢ 0) × (u ≤ length m.kinds)
  unfolding kind_of
  order-low u q = let k = order-universal u q in (not-zero u k, universal-low m u k)
    where
      not-zero : (u : ℕ) → kind_of m u ≡ 1 → u ≢ 0
      not-zero zero k e = omega arith
      not-zero (suc u) k e = omega arith

  -- ---- the members of a set

  pub member_is : (s : Set) (u : ℕ) → u ∈ members_of m s → (kind_of m u ≡ 1) × (inside (set_of m u) s ≡ true)
  unfolding members_of is_member is_universal
  member_is s u q =
      let r = (select_in (is_member m s) (variables m) u q).1 in
      (eqb_is (kind_of m u) 1 (and_left (eqb (kind_of m u) 1) (inside (set_of m u) s) r), and_right (eqb (kind_of m u) 1) (inside (set_of m u) s) r)

  pub is_member-at : (s : Set) (u : ℕ) → kind_of m u ≡ 1 → inside (set_of m u) s ≡ true → u ∈ members_of m s
  unfolding members_of is_member is_universal kind_of
  is_member-at s zero k h = absurd (omega arith)
  is_member-at s (suc x) k h =
      in-select (is_member m s) (suc x) (in-variables m (suc x) (λ e. omega arith) (universal-low m (suc x) k))
      (both (eqb (kind_of m (suc x)) 1) (inside (set_of m (suc x)) s) (rw k) h)

  -- ---- the existentials

  pub existential-is : (x : ℕ) → x ∈ existentials m → (kind_of m x ≡ 2) × (x ≢ 0) × (x ≤ length m.kinds)
  unfolding existentials is_existential
  existential-is x q =
      let r = select_in (is_existential m) (variables m) x q in
      (eqb_is (kind_of m x) 2 r.1, (variables-in m x r.0).0, (variables-in m x r.0).1)

  pub is-existential : (x : ℕ) → x ≢ 0 → x ≤ length m.kinds → kind_of m x ≡ 2 → x ∈ existentials m
  unfolding existentials is_existential
  is-existential x p l e = in-select (is_existential m) x (in-variables m x p l) (rw e)

  pub existentials-once : Once (existentials m)
  unfolding existentials
  existentials-once = select-once (is_existential m) (variables m) (numbers-once 0 (length m.kinds))
