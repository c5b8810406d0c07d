-- Tests of lists.
--     and_left, and_right, both _ _      both sides of a conjunction
--     every-at, every-from, every-fails, every-last     one condition of a list that holds; each of them; one that fails; the last one
--     all_pass, all-fail, all_end        one turn of a loop that tests each entry
--     all-next, all_done                 the same where the loop looks at every entry
--     all-member, all_get_d, all_from     a test of all entries, and of each
--     all-take, all-drop, all_same, all_replicate
--     variables-..                       the same of kinds and sets side by side
use mathlib.Core.Path.{◌≡◌, refl, sym}
use mathlib.Core.Bool.{Bool, true, false, ◌&&◌, and_assoc, and-true, and-false}
use mathlib.Core.List.Memᴰ
use mathlib.Core.List.{List, [], ◌∷◌, ◌++◌}
use Prim.Native.Nat.{ℕ, zero, suc, ◌+◌, ◌≤◌, ◌<◌}
use native.Mathlib.Nat.{not-suc-le-zero, le_of_suc-le-suc}
use native.Mathlib.Numerals.{add-one}
use native.Mathlib.Omega.{arith}
use lib.ListN.{length, get_or, drop, replicate, drop_of_length-le}
use lib.Seq.{drop-cons}
use Rattle.dqbf.specs.Literal.{◌∈◌}
use Rattle.dqbf.specs.Set.{Set}
use Rattle.dqbf.proofs.Laws.Tests.{and_left, and_right, both}
use Rattle.tables.specs.WellFormed.{every, all_of, all_variables}

-- ---- every

pub every-at : (bs : List Bool) → every bs ≡ true → (i : ℕ) → get_or bs i true ≡ true
unfolding every
every-at [] e i = refl
every-at (b ∷ bs) e zero = and_left b (every bs) e
every-at (b ∷ bs) e (suc i) = every-at bs (and_right b (every bs) e) i

-- each condition of a list, as a tuple that is nested to the right
abbrev pub Each : List Bool → Type 0
Each [] = Unit {0}
Each (b ∷ bs) = (b ≡ true) × Each bs

pub every-from : (bs : List Bool) → Each bs → every bs ≡ true
unfolding every
every-from [] f = refl
every-from (b ∷ bs) f = both _ _ f.0 (every-from bs f.1)

-- the last condition decides, where all before it hold
pub every-last : (bs : List Bool) (b : Bool) → Each bs → b ≡ every (bs ++ (b ∷ []))
unfolding every
every-last [] b f = sym (and-true b)
every-last (c ∷ bs) b f = rw f.0 (every-last bs b f.1)

pub every-fails : (bs : List Bool) (i : ℕ) → get_or bs i true ≡ false → every bs ≡ false
unfolding every
every-fails [] i e = e
every-fails (b ∷ bs) zero e = rw e
every-fails (b ∷ bs) (suc i) e = rw (every-fails bs i e) (and-false b)

-- ---- all_of

module _ {A : Type 0} (P : A → Bool) where
  pub all_pass : (l : List A) (i : ℕ) (d : A) → i < length l → P (get_or l i d) ≡ true → all_of P (drop i l) ≡ all_of P (drop (i + 1) l)
  unfolding all_of
  all_pass l i d h e = rw (add-one, drop-cons l i d h, e)

  pub all-fail : (l : List A) (i : ℕ) (d : A) → i < length l → P (get_or l i d) ≡ false → all_of P (drop i l) ≡ false
  unfolding all_of
  all-fail l i d h e = rw (drop-cons l i d h, e)

  pub all_end : (l : List A) (i : ℕ) → length l ≤ i → all_of P (drop i l) ≡ true
  unfolding all_of
  all_end l i h = rw (drop_of_length-le l {i = i} h)

  -- a loop that has b so far, and looks at every entry
  pub all-next : (l : List A) (i : ℕ) (d : A) → i < length l → (b : Bool) {c : Bool} → c ≡ P (get_or l i d) → (b && all_of P (drop i l)) ≡ ((b && c) && all_of P (drop (i + 1) l))
  unfolding all_of
  all-next l i d h true e = rw (e, add-one, drop-cons l i d h)
  all-next l i d h false e = refl

  pub all_done : (l : List A) (i : ℕ) → length l ≤ i → (b : Bool) → (b && all_of P (drop i l)) ≡ b
  all_done l i h b = rw (all_end l i h) (and-true b)

  -- a test of all entries, and of each
  pub all-member : (l : List A) → all_of P l ≡ true → (x : A) → x ∈ l → P x ≡ true
  unfolding all_of
  all-member [] e x x4 = elim x4 [ ]
  all-member (y ∷ l) e x (Memᴰ.head w) = rw w (and_left (P y) (all_of P l) e)
  all-member (y ∷ l) e x (Memᴰ.tail q) = all-member l (and_right (P y) (all_of P l) e) x q

  pub all_from : (l : List A) → ((x : A) → x ∈ l → P x ≡ true) → all_of P l ≡ true
  unfolding all_of
  all_from [] f = refl
  all_from (y ∷ l) f = both _ _ (f y (Memᴰ.head refl)) (all_from l (λ x q. f x (Memᴰ.tail q)))

  pub all_get_d : (l : List A) → all_of P l ≡ true → (d : A) → P d ≡ true → (i : ℕ) → P (get_or l i d) ≡ true
  unfolding all_of
  all_get_d [] e d h i = h
  all_get_d (x ∷ l) e d h zero = and_left (P x) (all_of P l) e
  all_get_d (x ∷ l) e d h (suc i) = all_get_d l (and_right (P x) (all_of P l) e) d h i

  pub all_append : (xs ys : List A) → all_of P (xs ++ ys) ≡ (all_of P xs && all_of P ys)
  unfolding all_of
  all_append [] ys = refl
  all_append (x ∷ xs) ys = rw (all_append xs ys) (sym (and_assoc (P x) (all_of P xs) (all_of P ys)))

  -- entries that are all z
  pub all_same : (z : A) → ((x : A) → P x ≡ true → x ≡ z) → (l : List A) → all_of P l ≡ true → l ≡ replicate (length l) z
  unfolding all_of
  all_same z f [] e = refl
  all_same z f (x ∷ l) e = cc (f x (and_left (P x) (all_of P l) e), all_same z f l (and_right (P x) (all_of P l) e))

  pub all_replicate : (z : A) → P z ≡ true → (n : ℕ) → all_of P (replicate n z) ≡ true
  unfolding all_of
  all_replicate z e zero = refl
  all_replicate z e (suc n) = rw e (all_replicate z e n)

-- ---- all_variables

module _ (P : ℕ → Set → Bool) where
  pub variables-at : (kinds : List ℕ) (sets : List Set) → length sets ≡ length kinds → all_variables P kinds sets ≡ true
      → (i : ℕ) → i < length kinds → P (get_or kinds i 0) (get_or sets i 0) ≡ true
  unfolding all_variables
  variables-at [] sets e a i h = absurd (not-suc-le-zero h)
  variables-at (k ∷ kinds) [] e a i h = absurd (omega arith)
  variables-at (k ∷ kinds) (s ∷ sets) e a zero h = and_left (P k s) (all_variables P kinds sets) a
  variables-at (k ∷ kinds) (s ∷ sets) e a (suc i) h = variables-at kinds sets (omega arith) (and_right (P k s) (all_variables P kinds sets) a) i (le_of_suc-le-suc h)

  pub variables-from : (kinds : List ℕ) (sets : List Set) → length sets ≡ length kinds
      → ((i : ℕ) → i < length kinds → P (get_or kinds i 0) (get_or sets i 0) ≡ true) → all_variables P kinds sets ≡ true
  unfolding all_variables
  variables-from [] sets e f = refl
  variables-from (k ∷ kinds) [] e f = refl
  variables-from (k ∷ kinds) (s ∷ sets) e f = both _ _ (f 0 (omega arith)) (variables-from kinds sets (omega arith) (λ i h. f (suc i) (omega arith)))
