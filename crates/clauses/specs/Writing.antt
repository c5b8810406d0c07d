-- What a writer leaves (document 01, "A new clause is written into the literals behind the last used one").
-- Offers `Written`, `Copied`.
use Rattle.std.specs.Prelude.{◌≡◌, List, ◌++◌, ℕ, length, take, drop}

-- A writer of ys over the front of xs left zs, and answered n.
pub record Written {A : Type 0} (ys xs zs : List A) (n : ℕ) : Type 0 where
  pub count : n ≡ length ys
  pub left : zs ≡ ys ++ drop (length ys) xs

-- Copying ys to the front of an array left zs, and answered n. What stands behind is not told.
pub record Copied {A : Type 0} (ys zs : List A) (n : ℕ) : Type 0 where
  pub count : n ≡ length ys
  pub front : take n zs ≡ ys
