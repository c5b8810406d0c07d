-- The universals, listed once (specs/Working.antt: `universal_names`): what is looked up among them is what the spelling looks up among all variables.
--     members-in, declared-in     members of a set, and universals by place, among those listed
--     names-count, listed-few     how many there are
--     Listing, listing_start, -passed, -room, -next, -done     listing them: what is listed, and those that are left
use mathlib.Core.Path.{◌≡◌, refl, ◌∙◌, ap, ap₂}
use mathlib.Core.Bool.{Bool, true, false, cond, ◌&&◌}
use mathlib.Core.List.{List, [], ◌∷◌, ◌++◌, append-nil}
use Prim.Native.Nat.{ℕ, zero, suc, ◌+◌, ◌-◌, ◌≤◌, ◌<◌}
use native.Mathlib.Nat.{sub-zero}
use native.Mathlib.Numerals.{add-one}
use native.Mathlib.Omega.{arith}
use lib.Dec.{eqb}
use lib.ListN.{length, get_or, take, drop, set, length-append, length-set, drop_of_length-le}
use lib.Seq.{append_snoc, drop-cons, take-suc-set, length-take-le}
use Rattle.dqbf.specs.Set.{Set, single, inside}
use Rattle.dqbf.specs.Model.{Model, kind_of, set_of, numbers, universals_in}
use Rattle.dqbf.specs.Spelled.{select, first_of, is_universal, is_at, universal_at, universals_from, is_member, members_of}
use Rattle.tables.specs.Tables.{entry}
use Rattle.formula_lines.specs.Working.{declarations, universal_names, is_in, members_in, is_with, universal_with, declared_from}
use Rattle.std.specs.Prelude.{Option, find}
use Rattle.std.specs.Option.{unwrap_or}
use Rattle.formula_lines.proofs.Laws.Walks.{found-first, variables-walk, select-taken, select-passed, select-none}

-- ---- two tests, one behind the other

both-select : (P Q R : ℕ → Bool) → ((x : ℕ) → R x ≡ (P x && Q x)) → (xs : List ℕ) → select R xs ≡ select Q (select P xs)
unfolding select
both-select P Q R h [] = refl
both-select P Q R h (x ∷ xs) = rw (h x) (go (P x) (Q x) refl (both-select P Q R h xs))
  where
    go : (p q : Bool) → Q x ≡ q → select R xs ≡ select Q (select P xs) → cond (p && q) (x ∷ select R xs) (select R xs) ≡ select Q (cond p (x ∷ select P xs) (select P xs))
    go true true e ih = rw (e, ih)
    go true false e ih = rw (e, ih)
    go false q e ih = ih

both_first : (P Q R : ℕ → Bool) → ((x : ℕ) → R x ≡ (P x && Q x)) → (xs : List ℕ) → first_of R xs ≡ first_of Q (select P xs)
unfolding select first_of
both_first P Q R h [] = refl
both_first P Q R h (x ∷ xs) = rw (h x) (go (P x) (Q x) refl (both_first P Q R h xs))
  where
    go : (p q : Bool) → Q x ≡ q → first_of R xs ≡ first_of Q (select P xs) → cond (p && q) x (first_of R xs) ≡ first_of Q (cond p (x ∷ select P xs) (select P xs))
    go true true e ih = rw e
    go true false e ih = rw (e, ih)
    go false q e ih = ih

-- ---- the listed universals in place of all variables

module _ (kinds sets : List ℕ) where
  abbrev d : Model
  d = declarations kinds sets

  abbrev bare : Model
  bare = declarations kinds []

  abbrev names : List ℕ
  names = universal_names kinds

  set_at : (i : ℕ) → set_of d (suc i) ≡ entry sets (suc i)
  unfolding declarations set_of entry
  set_at i = rw (append-nil sets)

  member-split : (s : Set) (x : ℕ) → is_member d s x ≡ (is_universal bare x && is_in sets s x)
  unfolding is_member is_universal is_in kind_of declarations
  member-split s zero = refl
  member-split s (suc i) = ap (λ (own : Set). eqb (get_or (kinds ++ []) i 0) 1 && inside own s) (set_at i)

  pub members-in : (s : Set) → members_of d s ≡ members_in names sets s
  unfolding members_of members_in universal_names declarations
  members-in s = both-select (is_universal bare) (is_in sets s) (is_member d s) (member-split s) (numbers 0 (length kinds))

  at_split : (i x : ℕ) → is_at d i x ≡ (is_universal bare x && is_with sets (single i) x)
  unfolding is_at is_universal is_with kind_of declarations
  at_split i zero = refl
  at_split i (suc j) = ap (λ (own : Set). eqb (get_or (kinds ++ []) j 0) 1 && eqb own (single i)) (set_at j)

  at_in : (i : ℕ) → universal_at d i ≡ universal_with names sets (single i)
  unfolding universal_at universal_with universal_names declarations
  at_in i = both_first (is_universal bare) (is_with sets (single i)) (is_at d i) (at_split i) (numbers 0 (length kinds))

  pub declared-in : (i n : ℕ) → universals_from d i n ≡ declared_from names sets i n
  unfolding universals_from declared_from
  declared-in i zero = refl
  declared-in i (suc n) = ap₂ {C = List ℕ} ◌∷◌ (at_in i) (declared-in (suc i) n)

-- the one that was found, or 0
pub found-with : (names sets : List ℕ) (s : Set) {o : Option ℕ} {x : ℕ} → x ≡ unwrap_or o 0 → o ≡ find (is_with sets s) names → x ≡ universal_with names sets s
unfolding universal_with is_with
found-with names sets s e f = e ∙ ap (λ o. unwrap_or o 0) f ∙ found-first (is_with sets s) names

-- ---- how many there are

module _ (kinds : List ℕ) where
  abbrev U : ℕ → Bool
  U = is_universal (declarations kinds [])

  pub universal-test : (i : ℕ) → U (i + 1) ≡ eqb (get_or kinds i 0) 1
  unfolding is_universal kind_of declarations
  universal-test i = rw (add-one i, append-nil kinds)

  count-from : (i k : ℕ) → i + k ≡ length kinds → length (select U (numbers i k)) ≡ universals_in (drop i kinds)
  unfolding select numbers universals_in
  count-from i zero e = rw (drop_of_length-le kinds {i = i} (omega arith))
  count-from i (suc k) e = rw (drop-cons kinds i 0 (omega arith)) (go (eqb (get_or kinds i 0) 1) (rw (add-one i) at (universal-test i)) (count-from (suc i) k (omega arith)))
    where
      go : (b : Bool) → U (suc i) ≡ b → length (select U (numbers (suc i) k)) ≡ universals_in (drop (suc i) kinds)
          → length (cond (U (suc i)) (suc i ∷ select U (numbers (suc i) k)) (select U (numbers (suc i) k))) ≡ cond b 1 0 + universals_in (drop (suc i) kinds)
      go true t ih = rw t (omega arith)
      go false t ih = rw t (omega arith)

  pub names-count : length (universal_names kinds) ≡ universals_in kinds
  unfolding universal_names declarations
  names-count = count-from 0 (length kinds) (omega arith)

  pub listed-few : {names : List ℕ} {n : ℕ} → names ≡ universal_names kinds → universals_in kinds ≤ n → length names ≤ n
  listed-few e h = rw e (omega (arith, names-count))

  -- ---- listing them: what is listed, and those that are left

  abbrev pub left_names : ℕ → List ℕ
  left_names i = select U (numbers i (length kinds - i))

  pub record Listing (names : List ℕ) (count i : ℕ) : Type 0 where
    pub inside : count ≤ length names
    pub parts : take count names ++ left_names i ≡ universal_names kinds

  pub listing_start : (names : List ℕ) → Listing names 0 0
  unfolding universal_names declarations
  listing_start names = record { inside = omega arith; parts = rw (sub-zero (length kinds)) }

  module _ {names : List ℕ} {count i : ℕ} (l : Listing names count i) (h : i < length kinds) where
    pub listing-passed : eqb (get_or kinds i 0) 1 ≡ false → Listing names count (i + 1)
    listing-passed t = record { inside = l.inside; parts = rw (← (select-passed (variables-walk (length kinds)) U i h (universal-test i ∙ t))) l.parts }

    module _ (t : eqb (get_or kinds i 0) 1 ≡ true) where
      next : left_names i ≡ (i + 1) ∷ left_names (i + 1)
      next = select-taken (variables-walk (length kinds)) U i h (universal-test i ∙ t)

      pub listing-room : universals_in kinds ≤ length names → count < length names
      listing-room few =
          omega (
            arith,
            length-append (take count names) (left_names i),
            length-take-le count names l.inside,
            ap length l.parts,
            names-count,
            ap length next,
          )

      pub listing-next : universals_in kinds ≤ length names → Listing (set names count (i + 1)) (count + 1) (i + 1)
      listing-next few =
          let room = listing-room few in record {
            inside = omega (arith, length-set names count (i + 1));
            parts = rw (add-one count, take-suc-set names count (i + 1) room) (append_snoc (take count names) (i + 1) (left_names (i + 1)) ∙ rw next at l.parts);
          }

  pub listing-done : {names : List ℕ} {count i : ℕ} → Listing names count i → length kinds ≤ i → take count names ≡ universal_names kinds
  listing-done {names} {count} {i} l h = rw (select-none (variables-walk (length kinds)) U i h, append-nil (take count names)) at l.parts
