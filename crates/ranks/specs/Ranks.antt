-- Back from ranks (the calculus' `rank`: 2·x, or 2·x + 1 for the negation) to literals.
-- Offers `literal_of_rank`, `side_by_side`.
use Rattle.std.specs.Prelude.{Bool, false, cond, ◌||◌, List, [], ◌∷◌, ℕ, ◌/◌, ◌%◌, eqb, ℤ, pos, neg_ℤ}

unfoldable pub literal_of_rank : ℕ → ℤ
literal_of_rank r = cond (eqb (r % 2) 0) (pos (r / 2)) (neg_ℤ (pos (r / 2)))

-- two ranks of one variable stand side by side
unfoldable pub side_by_side : List ℕ → Bool
side_by_side [] = false
side_by_side (r ∷ []) = false
side_by_side (r ∷ s ∷ rs) = eqb (r / 2) (s / 2) || side_by_side (s ∷ rs)
