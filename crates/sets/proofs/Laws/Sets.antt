-- A table of sets, n words for each, as the list of the sets in it.
--     sets-length, sets-at, sets-take, sets-drop, sets-append     its entries and parts are those of the words, n for each
--     sets-written, spare-written        the words of one set written
--     sets-zeros, spare-zeros            zeros over the first sets
--     sets-none                          sets are empty exactly if the words are 0
--     table-back, sets-back              the words from the sets, and back
--     one_table, one-spare               one word for each
use mathlib.Core.Path.{◌≡◌, refl, sym, ◌∙◌, ap}
use mathlib.Core.Logic.{◌⊎◌, inl, inr}
use mathlib.Core.Bool.{Bool, true, false, ◌&&◌}
use mathlib.Core.List.{List, [], ◌∷◌, ◌++◌}
use Prim.Native.Nat.{ℕ, zero, suc, ◌+◌, ◌-◌, ◌*◌, ◌/◌, ◌^◌, ◌≤◌, ◌<◌}
use native.Mathlib.Nat.{zero-add, suc-add, mul-suc, mul-zero, mul_comm, mul-add-div, mul-div_right, le-div_iff_mul-le, mul-div-le, mul-le-mul_left, div-one, div_self, one-mul, zero-mul}
use native.Mathlib.Omega.{arith}
use borrow.Author.Tests.{eq-eqb, ne_eqb, eqb-true, eqb-false, ltb-true, ltb-false}
use lib.Dec.{eqb, ltb}
use lib.ListN.{length, take, drop, set, get_or, replicate, length-append, length-take, length-drop, length-replicate, take-append-drop, replicate-append-replicate, get_or-eq_default}
use lib.Seq.{take_all, take_at, drop_at, take-append-le, drop-append-le, length-take-le, drop-drop, append_snoc, set_split, take-length, drop-length, take-add, get_or-take, get_or-drop}
use lib.Pow.{pow_pos}
use Rattle.dqbf.proofs.Laws.Tests.{either}
use Rattle.sets.specs.Words.{Words, as_set, none_each, first_sets, as_sets, spare_in, table_of}
use Rattle.sets.proofs.Laws.Words.{words_back}

-- ---- of one set

pub words-from : (n : ℕ) (ws : List ℕ) → length ws ≡ n → ((i : ℕ) → get_or ws i 0 < 2 ^ 64) → Words n ws
unfolding Words
words-from zero [] e f = tt
words-from zero (w ∷ ws) e f = absurd (omega arith)
words-from (suc n) [] e f = absurd (omega arith)
words-from (suc n) (w ∷ ws) e f = (f 0, words-from n ws (omega arith) (λ i. f (suc i)))

pub set-zeros : (n : ℕ) → as_set (replicate n 0) ≡ 0
unfolding as_set
set-zeros zero = refl
set-zeros (suc n) = rw (set-zeros n)

none-append : (a b : List ℕ) → none_each (a ++ b) ≡ (none_each a && none_each b)
unfolding none_each
none-append [] b = refl
none-append (x ∷ a) b = rw (none-append a b) (go (eqb x 0))
  where
    go : (c : Bool) → (c && (none_each a && none_each b)) ≡ ((c && none_each a) && none_each b)
    go true = refl
    go false = refl

none-value : (ws : List ℕ) → none_each ws ≡ eqb (as_set ws) 0
unfolding none_each as_set
none-value [] = refl
none-value (w ∷ ws) = rw (none-value ws) (go (either (eqb w 0)) (either (eqb (as_set ws) 0)))
  where
    go : (eqb w 0 ≡ true) ⊎ (eqb w 0 ≡ false) → (eqb (as_set ws) 0 ≡ true) ⊎ (eqb (as_set ws) 0 ≡ false) → (eqb w 0 && eqb (as_set ws) 0) ≡ eqb (as_set ws * 2 ^ 64 + w) 0
    go (inr e) d = rw e (sym (ne_eqb (as_set ws * 2 ^ 64 + w) 0 (λ z. eqb-false w 0 e (omega arith))))
    go (inl e) (inr d) = rw (e, d) (sym (ne_eqb (as_set ws * 2 ^ 64 + w) 0 (λ z. eqb-false (as_set ws) 0 d (omega arith))))
    go (inl e) (inl d) =
        let none : as_set ws * 2 ^ 64 + w ≡ 0 = omega (arith, eqb-true w 0 e, eqb-true (as_set ws) 0 d) in
        rw (e, d) (sym (eq-eqb (as_set ws * 2 ^ 64 + w) 0 none))

-- what stands behind a new front is what stood there
past-front : (v w : List ℕ) (k m : ℕ) → length v ≡ k → k ≤ m → drop m (v ++ drop k w) ≡ drop m w
past-front v w k m e h =
    let split : m ≡ k + (m - k) = omega arith in
    rw split (sym (drop-drop (m - k) k (v ++ drop k w)) ∙ ap (drop (m - k)) (drop_at v (drop k w) k e) ∙ drop-drop (m - k) k w)

-- ---- of a table

module _ (n : ℕ) where
  pub first-length : (k : ℕ) (w : List ℕ) → length (first_sets n k w) ≡ k
  unfolding first_sets
  first-length zero w = refl
  first-length (suc k) w = ap suc (first-length k (drop n w))

  first-at : (k : ℕ) (w : List ℕ) (i : ℕ) → i < k → get_or (first_sets n k w) i 0 ≡ as_set (take n (drop (n * i) w))
  unfolding first_sets
  first-at zero w i h = absurd (omega arith)
  first-at (suc k) w zero h = rw (mul-zero n)
  first-at (suc k) w (suc i) h =
      let e : n + n * i ≡ n * suc i = omega (arith, mul-suc n i) in
      first-at k (drop n w) i (omega arith) ∙ ap (λ (l : List ℕ). as_set (take n l)) (drop-drop (n * i) n w ∙ ap (λ j. drop j w) e)

  first-add : (k m : ℕ) (w : List ℕ) → first_sets n (k + m) w ≡ first_sets n k w ++ first_sets n m (drop (n * k) w)
  unfolding first_sets
  first-add zero m w = rw (zero-add m, mul-zero n)
  first-add (suc k) m w =
      let e : n + n * k ≡ n * suc k = omega (arith, mul-suc n k) in
      rw (suc-add k m, first-add k m (drop n w), drop-drop (n * k) n w, e)

  first-front : (k : ℕ) (a b : List ℕ) → n * k ≤ length a → first_sets n k (a ++ b) ≡ first_sets n k a
  unfolding first_sets
  first-front zero a b h = refl
  first-front (suc k) a b h =
      let e = mul-suc n k in
      let f : n ≤ length a = omega arith in
      rw (take-append-le n a b f, drop-append-le n a b f, first-front k (drop n a) b (omega (arith, length-drop n a)))

  first-zeros : (k : ℕ) → first_sets n k (replicate (n * k) 0) ≡ replicate k 0
  unfolding first_sets
  first-zeros zero = refl
  first-zeros (suc k) =
      let e : n * suc k ≡ n + n * k = omega (arith, mul-suc n k) in
      rw (
        e,
        ← replicate-append-replicate {A = ℕ} n (n * k) 0,
        take_at (replicate n 0) (replicate (n * k) 0) n (length-replicate {A = ℕ} n 0),
        drop_at (replicate n 0) (replicate (n * k) 0) n (length-replicate {A = ℕ} n 0),
        set-zeros n,
        first-zeros k,
      )

  first-none : (k : ℕ) (w : List ℕ) → none_each (first_sets n k w) ≡ none_each (take (n * k) w)
  unfolding first_sets none_each
  first-none zero w = rw (mul-zero n)
  first-none (suc k) w =
      let e : n * suc k ≡ n + n * k = omega (arith, mul-suc n k) in
      rw (e, take-add n (n * k) w, none-append (take n w) (take (n * k) (drop n w)), none-value (take n w), first-none k (drop n w))

  first-table : (k : ℕ) (w : List ℕ) → n * k ≤ length w → ((i : ℕ) → get_or w i 0 < 2 ^ 64) → table_of n (first_sets n k w) ≡ take (n * k) w
  unfolding first_sets table_of
  first-table zero w h f = rw (mul-zero n)
  first-table (suc k) w h f =
      let e : n * suc k ≡ n + n * k = omega (arith, mul-suc n k) in
      let r : n ≤ length w = omega arith in
      let here : Words n (take n w) = words-from n (take n w) (length-take-le n w r) (λ i. taken i (either (ltb i n))) in
      rw (
        e,
        take-add n (n * k) w,
        words_back n (take n w) here,
        first-table k (drop n w) (omega (arith, length-drop n w)) (λ i. rw (get_or-drop n w i 0) (f (n + i))),
      )
    where
      taken : (i : ℕ) → (ltb i n ≡ true) ⊎ (ltb i n ≡ false) → get_or (take n w) i 0 < 2 ^ 64
      taken i (inl p) = rw (get_or-take n w i 0 (ltb-true i n p)) (f i)
      taken i (inr q) = rw (get_or-eq_default (take n w) 0 {n = i} (omega (arith, length-take n w, ltb-false i n q))) (pow_pos 64)

  -- ---- where a set has a word

  module _ (some : 0 < n) where
    pub sets-length : (w : List ℕ) → length (as_sets n w) ≡ length w / n
    unfolding as_sets
    sets-length w = first-length (length w / n) w

    pub sets-at : (w : List ℕ) (i : ℕ) → i < length w / n → get_or (as_sets n w) i 0 ≡ as_set (take n (drop (n * i) w))
    unfolding as_sets
    sets-at w i h = first-at (length w / n) w i h

    -- so many sets have their words
    pub sets-room : (w : List ℕ) (k : ℕ) → k ≤ length w / n → n * k ≤ length w
    sets-room w k h = rw (mul_comm k n) at ((le-div_iff_mul-le some).0 h)

    pub sets-append : (k : ℕ) (a b : List ℕ) → length a ≡ n * k → as_sets n (a ++ b) ≡ as_sets n a ++ as_sets n b
    unfolding as_sets
    sets-append k a b e =
        let both : length (a ++ b) / n ≡ k + length b / n = rw (length-append a b, e) (mul-add-div some k (length b)) in
        let one : length a / n ≡ k = rw e (mul-div_right k some) in
        rw (both, one, first-add k (length b / n) (a ++ b), first-front k a b (omega arith), drop_at a b (n * k) e)

    pub sets-take : (w : List ℕ) (k : ℕ) → k ≤ length w / n → as_sets n (take (n * k) w) ≡ take k (as_sets n w)
    sets-take w k h =
        let whole : length (take (n * k) w) ≡ n * k = length-take-le (n * k) w (sets-room w k h) in
        let count : length (as_sets n (take (n * k) w)) ≡ k = sets-length (take (n * k) w) ∙ rw whole (mul-div_right k some) in
        sym (ap (take k) (ap (as_sets n) (sym (take-append-drop (n * k) w)) ∙ sets-append k (take (n * k) w) (drop (n * k) w) whole)
        ∙ take_at (as_sets n (take (n * k) w)) (as_sets n (drop (n * k) w)) k count)

    pub sets-drop : (w : List ℕ) (k : ℕ) → k ≤ length w / n → as_sets n (drop (n * k) w) ≡ drop k (as_sets n w)
    sets-drop w k h =
        let whole : length (take (n * k) w) ≡ n * k = length-take-le (n * k) w (sets-room w k h) in
        let count : length (as_sets n (take (n * k) w)) ≡ k = sets-length (take (n * k) w) ∙ rw whole (mul-div_right k some) in
        sym (ap (drop k) (ap (as_sets n) (sym (take-append-drop (n * k) w)) ∙ sets-append k (take (n * k) w) (drop (n * k) w) whole)
        ∙ drop_at (as_sets n (take (n * k) w)) (as_sets n (drop (n * k) w)) k count)

    pub sets-one : (ws : List ℕ) → length ws ≡ n → as_sets n ws ≡ as_set ws ∷ []
    unfolding as_sets first_sets
    sets-one ws e = rw (e, div_self some, take_all n ws (omega arith))

    module _ (w : List ℕ) (i : ℕ) (ws : List ℕ) (e : length ws ≡ n) (h : i < length w / n) where
      next : n * suc i ≡ n * i + n
      next = mul-suc n i

      room : n * suc i ≤ length w
      room = sets-room w (suc i) h

      front : length (take (n * i) w ++ ws) ≡ n * suc i
      front = omega (arith, length-append (take (n * i) w) ws, length-take-le (n * i) w (omega (arith, room, next)), next)

      pub sets-written : as_sets n (take (n * i) w ++ ws ++ drop (n * i + n) w) ≡ set (as_sets n w) i (as_set ws)
      sets-written =
          let t = as_sets n w in
          rw (
            ← next,
            sets-append (suc i) (take (n * i) w ++ ws) (drop (n * suc i) w) front,
            sets-append i (take (n * i) w) ws (length-take-le (n * i) w (omega (arith, room, next))),
            sets-take w i (omega arith),
            sets-drop w (suc i) h,
            sets-one ws e,
            append_snoc (take i t) (as_set ws) (drop (suc i) t),
          ) (sym (set_split t i (as_set ws) (omega (arith, sets-length w))))

      pub spare-written : spare_in n (take (n * i) w ++ ws ++ drop (n * i + n) w) ≡ spare_in n w
      unfolding spare_in
      spare-written =
          let v = take (n * i) w ++ ws in
          let all : length (v ++ drop (n * suc i) w) ≡ length w = omega (arith, length-append v (drop (n * suc i) w), length-drop (n * suc i) w, front, room) in
          rw (← next, all) (past-front v w (n * suc i) (n * (length w / n)) front (mul-le-mul_left n h))

    pub sets-zeros : (w : List ℕ) (k : ℕ) → k ≤ length w / n → as_sets n (replicate (n * k) 0 ++ drop (n * k) w) ≡ replicate k 0 ++ drop k (as_sets n w)
    sets-zeros w k h =
        let none : as_sets n (replicate (n * k) 0) ≡ replicate k 0 = unfold as_sets in rw (length-replicate {A = ℕ} (n * k) 0, mul-div_right k some) (first-zeros k) in
        rw (sets-append k (replicate (n * k) 0) (drop (n * k) w) (length-replicate {A = ℕ} (n * k) 0), none, sets-drop w k h)

    pub spare-zeros : (w : List ℕ) (k : ℕ) → k ≤ length w / n → spare_in n (replicate (n * k) 0 ++ drop (n * k) w) ≡ spare_in n w
    unfolding spare_in
    spare-zeros w k h =
        let v = replicate {A = ℕ} (n * k) 0 in
        let e : length v ≡ n * k = length-replicate {A = ℕ} (n * k) 0 in
        let all : length (v ++ drop (n * k) w) ≡ length w = omega (arith, length-append v (drop (n * k) w), length-drop (n * k) w, e, sets-room w k h) in
        rw all (past-front v w (n * k) (n * (length w / n)) e (mul-le-mul_left n h))

    pub sets-none : (w : List ℕ) (k : ℕ) → length w ≡ n * k → none_each (as_sets n w) ≡ none_each w
    unfolding as_sets
    sets-none w k e = rw (e, mul-div_right k some) (first-none k w ∙ ap none_each (take_all (n * k) w (omega arith)))

    -- the words of a table follow from its sets
    pub table-back : (w : List ℕ) → ((i : ℕ) → get_or w i 0 < 2 ^ 64) → table_of n (as_sets n w) ++ spare_in n w ≡ w
    unfolding as_sets spare_in
    table-back w f = rw (first-table (length w / n) w (mul-div-le (length w) n) f) (take-append-drop (n * (length w / n)) w)

-- ---- one word for each

one-first : (k : ℕ) (w : List ℕ) → k ≤ length w → first_sets 1 k w ≡ take k w
unfolding first_sets as_set
one-first zero w h = refl
one-first (suc k) (x ∷ w) h = rw (one-first k w (omega arith), zero-mul (2 ^ 64), zero-add x)
one-first (suc k) [] h = absurd (omega arith)

pub one_table : (w : List ℕ) → as_sets 1 w ≡ w
unfolding as_sets
one_table w = rw (div-one (length w)) (one-first (length w) w (omega arith) ∙ take-length w)

pub one-spare : (w : List ℕ) → spare_in 1 w ≡ []
unfolding spare_in
one-spare w = rw (div-one (length w), one-mul (length w)) (drop-length w)
