-- The working definitions of lists (specs/Working.antt) are the calculus': `closed` from word to word (`closed_none`, `closed-last`, `closed-more`),
-- and a list of entries is the list of variables (`closed-variables`) or has the ranks of the literals (`closed-ranks`).
use mathlib.Core.Path.{◌≡◌, refl}
use mathlib.Core.Bool.{Bool, true, false, cond, true≢false}
use mathlib.Core.List.{List, [], ◌∷◌, map}
use mathlib.Core.Option.{Option, none, some}
use Prim.Native.Nat.{ℕ}
use lib.IntN.{ℤ}
use Rattle.dqbf.specs.Literal.{Clause, rank}
use Rattle.dqbf.specs.Text.{variable_of, literal_of, is_zero, prepend, closed}
use Rattle.tokens.specs.Working.{is_nil}
use Rattle.numerals.specs.Working.{each, entry_of, rank_of}

pub closed_none : {A : Type 0} (read : List ℕ → Option A) → none ≡ closed read []
unfolding closed
closed_none read = refl

pub closed-last : {A : Type 0} (read : List ℕ → Option A) (w : List ℕ) → closed read (w ∷ []) ≡ cond (is_zero w) (some []) none
unfolding closed
closed-last read w = refl

pub closed-more : {A : Type 0} (read : List ℕ → Option A) (w : List ℕ) (ws : List (List ℕ)) → is_nil ws ≡ false → closed read (w ∷ ws) ≡ prepend (read w) (closed read ws)
unfolding closed is_nil
closed-more read w [] h = absurd (true≢false h)
closed-more read w (v ∷ vs) h = refl

pub closed-variables : (ws : List (List ℕ)) → closed (entry_of false) ws ≡ closed variable_of ws
unfolding entry_of
closed-variables ws = refl

pub closed-ranks : (ws : List (List ℕ)) → closed (entry_of true) ws ≡ each (map rank) (closed literal_of ws)
unfolding closed entry_of rank_of each prepend
closed-ranks [] = refl
closed-ranks (w ∷ []) = go (is_zero w)
  where
    go : (t : Bool) → cond t (some []) none ≡ each (map rank) (cond t (some []) none)
    go true = refl
    go false = refl
closed-ranks (w ∷ v ∷ vs) = rw (closed-ranks (v ∷ vs)) (go (literal_of w) (closed literal_of (v ∷ vs)))
  where
    go : (l : Option ℤ) (o : Option Clause) → prepend (each rank l) (each (map rank) o) ≡ each (map rank) (prepend l o)
    go none o = refl
    go (some l) none = refl
    go (some l) (some C) = refl
