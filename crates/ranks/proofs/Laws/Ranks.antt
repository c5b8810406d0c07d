-- Ranks and their literals: `literal-rank` and `literals-ranks` lead back, `pair-clashes` is the clash of a clause by its ranks,
-- and one law for each answer of the functions of `literals`.
use mathlib.Core.Path.{◌≡◌, refl, sym, ap, ap₂, ◌∙◌}
use mathlib.Core.Bool.{Bool, true, false, ◌||◌}
use mathlib.Core.List.{List, [], ◌∷◌, ◌++◌, map}
use Prim.Native.Nat.{ℕ, zero, suc, ◌+◌, ◌-◌, ◌*◌, ◌/◌, ◌%◌, ◌^◌, ◌≤◌, ◌<◌}
use native.Mathlib.Nat.{not-suc-le-zero, le_of_suc-le-suc, suc-add}
use native.Mathlib.Numerals.{add-one}
use native.Mathlib.Omega.{arith}
use lib.IntN.{ℤ, pos, negsuc, neg_ℤ, nat_abs, ◌-ℤ◌, +ℤ_idl}
use lib.Signed.{mag}
use lib.ListN.{length, take, drop, get_or, set, length-map, length-append, length-drop}
use lib.Seq.{drop-cons, length-take-le, set_at, append_snoc, take-length}
use mir.Syntax.{w16}
use mir.Val.{SFits, to_z, of_z}
use mir.Facts.{to_z_pos, to_z-of_z}
use borrow.Author.Rules.{sfits_of}
use lib.Dec.{eqb}
use borrow.Author.Tests.{eq-eqb, ne_eqb}
use Rattle.dqbf.specs.Limits.{literal_range}
use Rattle.dqbf.specs.Literal.{Clause, rank, clashes}
use Rattle.ranks.specs.Ranks.{literal_of_rank, side_by_side}

-- ---- back from ranks

pub literal-rank : (l : ℤ) → literal_of_rank (rank l) ≡ l
unfolding literal_of_rank rank
literal-rank (pos n) = rw (eq-eqb (2 * n % 2) 0 (omega arith)) (ap pos (omega arith))
literal-rank (negsuc n) = rw (ne_eqb ((2 * suc n + 1) % 2) 0 (omega arith)) (ap (λ (k : ℕ). neg_ℤ (pos k)) q)
  where
    q : (2 * suc n + 1) / 2 ≡ suc n
    q = omega arith

pub literals-ranks : (C : Clause) → map literal_of_rank (map rank C) ≡ C
literals-ranks [] = refl
literals-ranks (l ∷ C) = ap₂ (λ (k : ℤ) (D : List ℤ). k ∷ D) (literal-rank l) (literals-ranks C)

pub rank-variable : (l : ℤ) → rank l / 2 ≡ nat_abs l
unfolding rank
rank-variable (pos n) = omega arith
rank-variable (negsuc n) = omega arith

-- the ranks' variables are the literals' variables
pub ranks-variables : (C : Clause) → map (λ (r : ℕ). r / 2) (map rank C) ≡ map nat_abs C
ranks-variables [] = refl
ranks-variables (l ∷ C) = ap₂ (λ (k : ℕ) (ks : List ℕ). k ∷ ks) (rank-variable l) (ranks-variables C)

pub pair-clashes : (C : Clause) → side_by_side (map rank C) ≡ clashes C
unfolding side_by_side clashes
pair-clashes [] = refl
pair-clashes (l ∷ []) = refl
pair-clashes (l ∷ k ∷ C) = rw (rank-variable l, rank-variable k, pair-clashes (k ∷ C))

-- ---- `literal_of`

pub literal-plain : (r : ℕ) → r ≤ 2 * literal_range + 1 → r % 2 ≡ 0 → to_z w16 (r / 2) ≡ literal_of_rank r
unfolding literal_of_rank
literal-plain r h e = to_z_pos w16 {n = r / 2} (omega arith) ∙ rw (eq-eqb (r % 2) 0 e)

neg-mag : (n : ℕ) → mag (neg_ℤ (pos n)) ≤ n
neg-mag zero = omega arith
neg-mag (suc n) = omega arith

minus-of : (n : ℕ) → n < 2 ^ 15 → pos 0 -ℤ to_z w16 n ≡ neg_ℤ (pos n)
minus-of n h = ap (λ (z : ℤ). pos 0 -ℤ z) (to_z_pos w16 h) ∙ +ℤ_idl (neg_ℤ (pos n))

pub literal-minus-fits : (r : ℕ) → r ≤ 2 * literal_range + 1 → SFits w16 (pos 0 -ℤ to_z w16 (r / 2))
literal-minus-fits r h = rw (minus-of (r / 2) (omega arith)) (sfits_of (omega (arith, neg-mag (r / 2))))

pub literal-minus : (r : ℕ) → r ≤ 2 * literal_range + 1 → (r % 2 ≡ 0 → ⊥) → to_z w16 (of_z w16 (pos 0 -ℤ to_z w16 (r / 2))) ≡ literal_of_rank r
unfolding literal_of_rank
literal-minus r h n = to_z-of_z (literal-minus-fits r h) ∙ minus-of (r / 2) (omega arith) ∙ rw (ne_eqb (r % 2) 0 n)

-- ---- `write_literals`: i literals stand at the front

map_next : {A : Type 0} (f : ℕ → A) (b : List ℕ) (i : ℕ) → i < length b → map f (take (i + 1) b) ≡ map f (take i b) ++ (f (get_or b i 0) ∷ [])
map_next f [] i h = absurd (not-suc-le-zero h)
map_next f (x ∷ xs) zero h = refl
map_next f (x ∷ xs) (suc i) h = rw (suc-add i 1) (ap (λ l. f x ∷ l) (map_next f xs i (le_of_suc-le-suc h)))

module _ (ranks : List ℕ) (tail tail₀ : List ℤ) (i : ℕ) (in_Tail : length ranks ≤ length tail₀) (inside : i ≤ length ranks)
    (so_far : tail ≡ map literal_of_rank (take i ranks) ++ drop i tail₀) where
  front : length (map literal_of_rank (take i ranks)) ≡ i
  front = length-map (take i ranks) literal_of_rank ∙ length-take-le i ranks (omega arith)

  pub written-length : length tail ≡ length tail₀
  written-length = let e = front in rw (so_far, length-append (map literal_of_rank (take i ranks)) (drop i tail₀), length-drop i tail₀) (omega arith)

  pub written-more : i < length ranks → (z : ℤ) → mag z < 2 ^ 15 → z ≡ literal_of_rank (get_or ranks i 0)
      → set tail i (to_z w16 (of_z w16 z)) ≡ map literal_of_rank (take (i + 1) ranks) ++ drop (i + 1) tail₀
  written-more h z fits e =
      let k : i < length tail₀ = omega arith in
      rw (
        to_z-of_z {w = w16} {z = z} (record { sfits = fits }),
        e,
        so_far,
        map_next literal_of_rank ranks i h,
        drop-cons tail₀ i (pos 0) k,
        set_at (map literal_of_rank (take i ranks)) (get_or tail₀ i (pos 0)) (drop (suc i) tail₀) (literal_of_rank (get_or ranks i 0)) i front,
        append_snoc (map literal_of_rank (take i ranks)) (literal_of_rank (get_or ranks i 0)) (drop (i + 1) tail₀),
        add-one i,
      )

  pub written-done : length ranks ≤ i → tail ≡ map literal_of_rank ranks ++ drop (length ranks) tail₀
  written-done h =
      let e : i ≡ length ranks = omega arith in
      so_far ∙ ap (λ (j : ℕ). map literal_of_rank (take j ranks) ++ drop j tail₀) e
      ∙ ap (λ (rs : List ℕ). map literal_of_rank rs ++ drop (length ranks) tail₀) (take-length ranks)

-- ---- `has_pair`: the pairs before i are looked at

or-or : (a b c : Bool) → ((a || b) || c) ≡ (a || (b || c))
or-or true b c = refl
or-or false b c = refl

module _ (l : List ℕ) (i : ℕ) (found : Bool) (some : 1 ≤ i) (so_far : side_by_side l ≡ (found || side_by_side (drop (i - 1) l))) where
  pub pair-more : i < length l → side_by_side l ≡ ((found || eqb (get_or l (i - 1) 0 / 2) (get_or l i 0 / 2)) || side_by_side (drop (i + 1 - 1) l))
  unfolding side_by_side
  pair-more h =
      let next : i ≡ suc (i - 1) = omega arith in
      let here : i + 1 - 1 ≡ i = omega arith in
      let two : drop i l ≡ get_or l i 0 ∷ drop (suc i) l = drop-cons l i 0 h in
      let one : drop (i - 1) l ≡ get_or l (i - 1) 0 ∷ drop i l = drop-cons l (i - 1) 0 (omega arith) ∙ ap (λ (k : ℕ). get_or l (i - 1) 0 ∷ drop k l) (sym next) in
      so_far ∙ rw (here, one, two) (sym (or-or found (eqb (get_or l (i - 1) 0 / 2) (get_or l i 0 / 2)) (side_by_side (get_or l i 0 ∷ drop (suc i) l))))

  pub pair-done : length l ≤ i → found ≡ side_by_side l
  unfolding side_by_side
  pair-done h = sym (so_far ∙ go found (drop (i - 1) l) (omega (arith, length-drop (i - 1) l)))
    where
      go : (t : Bool) (r : List ℕ) → length r ≤ 1 → (t || side_by_side r) ≡ t
      go true r h = refl
      go false [] h = refl
      go false (x ∷ []) h = refl
      go false (x ∷ y ∷ ys) h = absurd (not-suc-le-zero (le_of_suc-le-suc h))
