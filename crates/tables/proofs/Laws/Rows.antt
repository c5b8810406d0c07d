-- A row at the front of a table, zeros behind it up to the table's size.
--     over-self, over-take, over-drop, over-rest     what stands where
--     over-length, over-size                         how long it is
--     over-over                                      the last row counts
--     over-stored, over-set, over_zeros              entries stored behind a row, or in it; a row of zeros
--     stored-none, stored_one, stored-stored, stored-tail      entries stored into a table
use mathlib.Core.Path.{◌≡◌, refl, ap, ◌∙◌}
use mathlib.Core.Bool.{Bool, true}
use mathlib.Core.List.{List, [], ◌∷◌, ◌++◌, append_assoc, append-nil}
use Prim.Native.Nat.{ℕ, ◌+◌, ◌-◌, ◌≤◌, ◌<◌}
use native.Mathlib.Numerals.{add-one}
use native.Mathlib.Omega.{arith}
use borrow.Rule.Slice.PartMut.{put_mid}
use lib.ListN.{length, take, drop, set, replicate, take-append-drop, length-append, length-drop, length-replicate, length-set, replicate-append-replicate, drop_of_length-le}
use lib.Seq.{drop-drop, take_at, drop_at, length-take-le, set-append_left, set_split, take_all}
use Rattle.tables.specs.Tables.{stretch}
use Rattle.tables.specs.Spread.{over}
use Rattle.tables.specs.Adding.{stored}
use Rattle.tables.specs.WellFormed.{all_of}
use Rattle.tables.proofs.Laws.Tests.{all_same}
use Rattle.tables.proofs.Laws.Cuts.{stretch-length}

three : {A : Type 0} (n size : ℕ) (t : List A) → n ≤ size → take n t ++ (stretch n size t ++ drop size t) ≡ t
three n size t h =
    let b : n + (size - n) ≡ size = omega arith in
    let c : drop size t ≡ drop (size - n) (drop n t) = rw (drop-drop (size - n) n t, b) in
    rw (c, take-append-drop (size - n) (drop n t), take-append-drop n t)

module _ {A : Type 0} (z : A) (size : ℕ) where
  -- a table whose entries from n up to its size are z is its first n entries over itself
  pub over-self : (P : A → Bool) → ((x : A) → P x ≡ true → x ≡ z) → (n : ℕ) (t : List A) → n ≤ size → size ≤ length t
      → all_of P (stretch n size t) ≡ true → over size z (take n t) t ≡ t
  unfolding over
  over-self P f n t h k e =
      let a : stretch n size t ≡ replicate (size - n) z = all_same P z f (stretch n size t) e ∙ ap (λ i. replicate i z) (stretch-length n size t k) in
      rw (length-take-le n t (omega arith), ← a) (three n size t h)

  pub over-length : (row t : List A) → length row ≤ size → size ≤ length t → length (over size z row t) ≡ length t
  unfolding over
  over-length row t h k =
      omega (
        arith,
        length-append row (replicate (size - length row) z ++ drop size t),
        length-append (replicate (size - length row) z) (drop size t),
        length-replicate (size - length row) z,
        length-drop size t,
      )

  pub over-size : (row t : List A) → length row ≤ size → size ≤ length (over size z row t)
  unfolding over
  over-size row t h =
      omega (
        arith,
        length-append row (replicate (size - length row) z ++ drop size t),
        length-append (replicate (size - length row) z) (drop size t),
        length-replicate (size - length row) z,
      )

  pub over-take : (row t : List A) → take (length row) (over size z row t) ≡ row
  unfolding over
  over-take row t = take_at row (replicate (size - length row) z ++ drop size t) (length row) refl

  pub over-drop : (row t : List A) → length row ≤ size → drop size (over size z row t) ≡ drop size t
  unfolding over
  over-drop row t h =
      rw (← append_assoc)
      (drop_at (row ++ replicate (size - length row) z) (drop size t) size (omega (arith, length-append row (replicate (size - length row) z), length-replicate (size - length row) z)))

  pub over-over : (row' row t : List A) → length row ≤ size → over size z row' (over size z row t) ≡ over size z row' t
  unfolding over
  over-over row' row t h = rw (over-drop row t h)

  pub over-rest : (row t : List A) → stretch (length row) size (over size z row t) ≡ replicate (size - length row) z
  unfolding over
  over-rest row t =
      rw (drop_at row (replicate (size - length row) z ++ drop size t) (length row) refl)
      (take_at (replicate (size - length row) z) (drop size t) (size - length row) (length-replicate (size - length row) z))

  -- a row of zeros is no row
  pub over_zeros : (n : ℕ) (t : List A) → n ≤ size → over size z (replicate n z) t ≡ over size z [] t
  unfolding over
  over_zeros n t h =
      let all : n + (size - n) ≡ size - 0 = omega arith in
      rw (length-replicate n z, ← append_assoc (replicate n z) (replicate (size - n) z) (drop size t), replicate-append-replicate n (size - n) z, all)

  -- entries stored behind the row
  pub over-stored : (row xs t : List A) → length row + length xs ≤ size → stored (over size z row t) (length row) xs ≡ over size z (row ++ xs) t
  unfolding over stored
  over-stored row xs t h =
      let m = size - (length row + length xs) in
      let a : size - length row ≡ length xs + m = omega arith in
      rw (
        length-append row xs,
        append_assoc row xs (replicate m z ++ drop size t),
        take_at row (replicate (size - length row) z ++ drop size t) (length row) refl,
        drop_at row (replicate (size - length row) z ++ drop size t) (length row) refl,
        a,
        ← replicate-append-replicate (length xs) m z,
        append_assoc (replicate (length xs) z) (replicate m z) (drop size t),
        drop_at (replicate (length xs) z) (replicate m z ++ drop size t) (length xs) (length-replicate (length xs) z),
      )

  -- an entry of the row
  pub over-set : (row t : List A) (i : ℕ) (x : A) → i < length row → set (over size z row t) i x ≡ over size z (set row i x) t
  unfolding over
  over-set row t i x h = rw (length-set row i x) (set-append_left row (replicate (size - length row) z ++ drop size t) i x h)

-- ---- stored

module _ {A : Type 0} where
  pub stored-none : (t : List A) (i : ℕ) → stored t i [] ≡ t
  unfolding stored
  stored-none t i = take-append-drop i t

  pub stored_one : (t : List A) (i : ℕ) (x : A) → i < length t → set t i x ≡ stored t i (x ∷ [])
  unfolding stored
  stored_one t i x h = rw (drop-drop 1 i t, add-one) (set_split t i x h)

  pub stored-stored : (t : List A) (i : ℕ) (xs ys : List A) → i ≤ length t → stored (stored t i xs) (i + length xs) ys ≡ stored t i (xs ++ ys)
  unfolding stored
  stored-stored t i xs ys h =
      let n = i + length xs in
      let r = drop (length xs) (drop i t) in
      let front : length (take i t ++ xs) ≡ n = omega (arith, length-append (take i t) xs, length-take-le i t h) in
      rw (← append_assoc (take i t) xs r, take_at (take i t ++ xs) r n front, drop_at (take i t ++ xs) r n front, length-append xs ys, ← drop-drop (length ys) (length xs) (drop i t))
      (simp append_assoc)

  -- what a writer leaves that was lent the tail of a table
  pub stored-tail : (t : List A) (i : ℕ) (xs : List A) → put_mid i (length t - i) t (xs ++ drop (length xs) (take (length t - i) (drop i t))) ≡ stored t i xs
  unfolding stored
  stored-tail t i xs =
      let whole : take (length t - i) (drop i t) ≡ drop i t = take_all (length t - i) (drop i t) (omega (arith, length-drop i t)) in
      let none : drop (length t - i) (drop i t) ≡ [] = drop_of_length-le (drop i t) {i = length t - i} (omega (arith, length-drop i t)) in
      rw (whole, none, append-nil)
