-- Lists: an element by its place.
use mathlib.Core.Path.{◌≡◌, refl}
use mathlib.Core.Bool.{cond}
use mathlib.Core.List.Memᴰ
use mathlib.Core.List.{List, [], ◌∷◌, ◌++◌}
use Prim.Native.Nat.{ℕ, zero, suc, ◌<◌}
use native.Mathlib.Nat.{le_of_suc-le-suc, not-suc-le-zero}
use lib.Dec.{eqb, eqb-zero-suc, eqb-suc-zero, eqb-suc-suc}
use lib.ListN.{length, get_or}
use Rattle.dqbf.specs.Literal.{◌∈◌}

pub get_d-more : {A : Type 0} (xs : List A) (x d : A) (i : ℕ) → get_or (xs ++ (x ∷ [])) i d ≡ cond (eqb i (length xs)) x (get_or xs i d)
get_d-more [] x d zero = refl
get_d-more [] x d (suc i) = rw (eqb-suc-zero i)
get_d-more (y ∷ xs) x d zero = rw (eqb-zero-suc (length xs))
get_d-more (y ∷ xs) x d (suc i) = rw (eqb-suc-suc i (length xs)) (get_d-more xs x d i)

pub nth : {A : Type 0} (xs : List A) (j : ℕ) (d : A) → j < length xs → get_or xs j d ∈ xs
nth [] j d h = absurd (not-suc-le-zero h)
nth (x ∷ xs) zero d h = Memᴰ.head refl
nth (x ∷ xs) (suc j) d h = Memᴰ.tail (nth xs j d (le_of_suc-le-suc h))
