-- Writing a list to the front of another (specs/Writing.antt), an element at a time, and over the tail of a table that is lent for it. Any element type.
-- Offers: `Copying`, where a writer stands, with `copying-start`, `copying-kept`, `copying-done`; `Writing`, that it left the rest as it was,
-- with `writing_start`, `writing_more`, `writing-room`, `writing-done`; of what was written, `written_as`, `written_behind`;
-- `tail-room`, what a writer requires that is lent the tail of a table from n on.
use mathlib.Core.Path.{◌≡◌, refl, ap, sym, ◌∙◌}
use mathlib.Core.List.{List, [], ◌∷◌, ◌++◌, append-nil}
use Prim.Native.Nat.{ℕ, ◌+◌, ◌-◌, ◌<◌, ◌≤◌}
use native.Mathlib.Numerals.{add-one}
use native.Mathlib.Omega.{arith}
use borrow.Rule.Slice.PartMut.{put_mid}
use lib.ListN.{length, take, drop, set, length-set, length-append, length-drop, take-append-drop}
use lib.Seq.{append_snoc, length-take-le, drop-set-lt, take-suc-set, drop-drop}
use Rattle.dqbf.proofs.Laws.Parts.{front-part, tail-lent}
use Rattle.clauses.specs.Writing.{Written, Copied}

module _ {A : Type 0} where
  -- ---- copying

  -- Of the list ys, so many elements as `count` says stand at the front of zs, which was xs; `rest` is to come.
  pub record Copying (ys xs zs : List A) (count : ℕ) (rest : List A) : Type 0 where
    pub within : count ≤ length zs
    pub same : length zs ≡ length xs
    pub parts : ys ≡ take count zs ++ rest

  pub copying-start : (ys xs : List A) → Copying ys xs xs 0 ys
  copying-start ys xs = record { within = omega arith; same = refl; parts = refl }

  module _ {ys xs zs : List A} {count : ℕ} {rest : List A} (w : Copying ys xs zs count rest) where
    pub copying-kept : {v y : A} {more : List A} → count < length zs → rest ≡ y ∷ more → v ≡ y → Copying ys xs (set zs count v) (count + 1) more
    copying-kept {y = y} {more} h e q =
        rw q
        (record {
          within = omega (arith, length-set zs count y);
          same = length-set zs count y ∙ w.same;
          parts = w.parts ∙ rw (e, add-one count, take-suc-set zs count y h) (sym (append_snoc (take count zs) y more));
        })

    pub copying-done : rest ≡ [] → Copied ys zs count
    copying-done e =
        let front : take count zs ≡ ys = sym (w.parts ∙ rw (e, append-nil (take count zs))) in
        record { count = sym (length-take-le count zs w.within) ∙ ap length front; front = front }

  -- ---- writing

  -- what stands behind is left
  pub record Writing (ys xs zs : List A) (count : ℕ) (rest : List A) : Type 0 where
    pub copied : Copying ys xs zs count rest
    pub behind : drop count zs ≡ drop count xs

  pub writing_start : (ys xs : List A) → Writing ys xs xs 0 ys
  writing_start ys xs = record { copied = copying-start ys xs; behind = refl }

  module _ {ys xs zs : List A} {count : ℕ} {rest : List A} (w : Writing ys xs zs count rest) where
    pub writing_more : {v y : A} {more : List A} → count < length zs → rest ≡ y ∷ more → v ≡ y → Writing ys xs (set zs count v) (count + 1) more
    writing_more {v} h e q =
        let k : count < count + 1 = omega arith in
        record {
          copied = copying-kept w.copied h e q;
          behind = rw (drop-set-lt (count + 1) zs count v k, ← drop-drop 1 count zs, ← drop-drop 1 count xs, w.behind);
        }

    -- an element is left to be written, and there is room for all
    pub writing-room : {y : A} {more : List A} → length ys ≤ length xs → rest ≡ y ∷ more → count < length zs
    writing-room room e =
        omega (
          arith,
          ap length w.copied.parts,
          length-append (take count zs) rest,
          length-take-le count zs w.copied.within,
          w.copied.same,
          ap length e,
        )

    pub writing-done : rest ≡ [] → Written ys xs zs count
    writing-done e =
        let done : Copied ys zs count = copying-done w.copied e in
        record { count = done.count; left = sym (take-append-drop count zs) ∙ rw (done.front, w.behind, done.count) }

  -- ---- what was written

  module _ {ys xs zs : List A} {n : ℕ} (w : Written ys xs zs n) where
    pub written_as : {us : List A} → ys ≡ us → Written us xs zs n
    written_as e = rw e at w

    -- another list behind it, over the tail that is lent from n on
    pub written_behind : {us ws : List A} {m : ℕ} → length ys ≤ length xs → Written us (take (length zs - n) (drop n zs)) ws m
        → Written (ys ++ us) xs (put_mid n (length zs - n) zs ws) (n + m)
    written_behind {us} {ws} room v = record {
      count = omega (arith, w.count, v.count, length-append ys us);
      left = front-part zs xs ys us ws n w.count room w.left v.left;
    }

  -- ---- the tail of a table, lent from n on

  module _ (xs : List A) (n : ℕ) where
    pub tail-room : {k : ℕ} → n + k ≤ length xs → k ≤ length (take (length xs - n) (drop n xs))
    tail-room h = omega (arith, ap length (tail-lent xs n), length-drop n xs)
