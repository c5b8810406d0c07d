-- Lists that are written piece by piece, and parts of a slice that are lent and come back. Any element type.
-- `X ++ drop (length X) l` is l with X written over its front. A part `&s[a..b]` is `take (b - a) (drop a s)`; a part `&mut s[n..]` that comes back at
-- ys leaves `put_mid n (length s - n) s ys`.
use mathlib.Core.Path.{◌≡◌, sym, ◌∙◌}
use mathlib.Core.List.{List, [], ◌∷◌, ◌++◌, append_assoc, append-nil}
use Prim.Native.Nat.{ℕ, suc, ◌+◌, ◌-◌, ◌≤◌, ◌<◌}
use native.Mathlib.Nat.{le_antisymm}
use native.Mathlib.Numerals.{add-one}
use native.Mathlib.Omega.{arith}
use lib.ListN.{length, take, drop, set, get_or, length-append, length-drop, drop_of_length-le}
use lib.Seq.{append_snoc, drop_at, drop-cons, drop-drop, length-take-le, set_at, take_all, take_at, take-length, take-suc}
use borrow.Rule.Slice.PartMut.{put_mid}

module _ {A : Type 0} where
  -- ---- parts

  -- the tail from n, as it is lent
  pub tail-lent : (xs : List A) (n : ℕ) → take (length xs - n) (drop n xs) ≡ drop n xs
  tail-lent xs n = take_all (length xs - n) (drop n xs) (omega (arith, length-drop n xs))

  -- the tail back at ys
  pub tail-back : (xs ys : List A) (n : ℕ) → put_mid n (length xs - n) xs ys ≡ take n xs ++ ys
  tail-back xs ys n =
      let h : length (drop n xs) ≤ length xs - n = omega (arith, length-drop n xs) in
      rw (drop_of_length-le (drop n xs) h, append-nil ys)

  -- the tail back with a front written
  pub tail_written : (xs ys m : List A) (n r : ℕ) → ys ≡ m ++ drop r (take (length xs - n) (drop n xs)) → put_mid n (length xs - n) xs ys ≡ take n xs ++ (m ++ drop r (drop n xs))
  tail_written xs ys m n r e = tail-back xs ys n ∙ rw (e, tail-lent xs n)

  pub part_length : (xs : List A) (a b : ℕ) → a ≤ b → b ≤ length xs → length (take (b - a) (drop a xs)) ≡ b - a
  part_length xs a b h k = length-take-le (b - a) (drop a xs) (omega (arith, length-drop a xs))

  -- ---- a copy to the front

  pub copy_step : (to to₀ from : List A) (i : ℕ) (z : A) → i < length from → length from ≤ length to₀
      → to ≡ take i from ++ drop i to₀ → set to i (get_or from i z) ≡ take (i + 1) from ++ drop (i + 1) to₀
  copy_step to to₀ from i z h k e =
      let hd : i < length to₀ = omega arith in
      let hs : i ≤ length from = omega arith in
      rw (
        e,
        add-one,
        drop-cons to₀ i z hd,
        take-suc from i z h,
        set_at (take i from) (get_or to₀ i z) (drop (suc i) to₀) (get_or from i z) i (length-take-le i from hs),
      )
      (sym (append_snoc (take i from) (get_or from i z) (drop (suc i) to₀)))

  pub copy_done : (to to₀ from : List A) (i : ℕ) → i ≤ length from → length from ≤ i → to ≡ take i from ++ drop i to₀ → to ≡ from ++ drop (length from) to₀
  copy_done to to₀ from i h k e = let q : i ≡ length from = le_antisymm h k in rw (e, q, take-length from)

  -- ---- a front that grows

  -- one entry behind it
  pub front-set : (out out₀ X : List A) (k : ℕ) (v : A) → k ≡ length X → k < length out₀ → out ≡ X ++ drop (length X) out₀
      → set out k v ≡ (X ++ (v ∷ [])) ++ drop (length (X ++ (v ∷ []))) out₀
  front-set out out₀ X k v e h f =
      let inside : length X < length out₀ = omega arith in
      let more : length (X ++ (v ∷ [])) ≡ suc (length X) = length-append X (v ∷ []) ∙ add-one (length X) in
      rw (f, more, drop-cons out₀ (length X) v inside, set_at X (get_or out₀ (length X) v) (drop (suc (length X)) out₀) v k (sym e))
      (sym (append_snoc X v (drop (suc (length X)) out₀)))

  -- a part behind it that comes back with its own front written
  pub front-part : (out out₀ X Y ys : List A) (k : ℕ) → k ≡ length X → length X ≤ length out₀ → out ≡ X ++ drop (length X) out₀
      → ys ≡ Y ++ drop (length Y) (take (length out - k) (drop k out)) → put_mid k (length out - k) out ys ≡ (X ++ Y) ++ drop (length (X ++ Y)) out₀
  front-part out out₀ X Y ys k e h f g =
      let front : take k out ≡ X = rw f (take_at X (drop (length X) out₀) k (sym e)) in
      let rest : drop k out ≡ drop (length X) out₀ = rw f (drop_at X (drop (length X) out₀) k (sym e)) in
      let total : length (X ++ Y) ≡ length X + length Y = length-append X Y in
      tail_written out ys Y k (length Y) g ∙ rw (front, rest, total, drop-drop (length Y) (length X) out₀) (sym (append_assoc X Y (drop (length X + length Y) out₀)))
