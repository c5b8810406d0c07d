-- Containment of sets: its order, and union and intersection in it.
use mathlib.Core.Path.{◌≡◌, sym, ◌∙◌}
use mathlib.Core.Logic.{◌⊎◌, inl, inr}
use mathlib.Core.Bool.{true, true≢false}
use Prim.Native.Nat.{ℕ}
use Rattle.dqbf.specs.Set.{Set, bit, union, common, inside}
use Rattle.dqbf.proofs.Laws.Tests.{and_left, or-either, or_left, or_right}
use Rattle.dqbf.proofs.Laws.Words.{bit-and, bit-inside, bit-or, bit-zero}

pub inside-trans : (r s t : Set) → inside r s ≡ true → inside s t ≡ true → inside r t ≡ true
inside-trans r s t h k = (bit-inside r t).1 (λ i b. (bit-inside s t).0 k i ((bit-inside r s).0 h i b))

pub inside-self : (s : Set) → inside s s ≡ true
inside-self s = (bit-inside s s).1 (λ i b. b)

pub none_inside : (s : Set) → inside 0 s ≡ true
none_inside s = (bit-inside 0 s).1 (λ i b. absurd (true≢false (sym b ∙ bit-zero i)))

pub inside-left : (s t : Set) → inside s (union s t) ≡ true
inside-left s t = (bit-inside s (union s t)).1 (λ i b. bit-or s t i ∙ or_left (bit s i) (bit t i) b)

pub inside-right : (s t : Set) → inside t (union s t) ≡ true
inside-right s t = (bit-inside t (union s t)).1 (λ i b. bit-or s t i ∙ or_right (bit s i) (bit t i) b)

pub union-inside : (r s t : Set) → inside r t ≡ true → inside s t ≡ true → inside (union r s) t ≡ true
union-inside r s t h k = (bit-inside (union r s) t).1 (λ i b. go i (or-either (bit r i) (bit s i) (sym (bit-or r s i) ∙ b)))
  where
    go : (i : ℕ) → (bit r i ≡ true) ⊎ (bit s i ≡ true) → bit t i ≡ true
    go i (inl b) = (bit-inside r t).0 h i b
    go i (inr b) = (bit-inside s t).0 k i b

pub common-inside : (r s t : Set) → inside r t ≡ true → inside (common r s) t ≡ true
common-inside r s t h = (bit-inside (common r s) t).1 (λ i b. (bit-inside r t).0 h i (and_left (bit r i) (bit s i) (sym (bit-and r s i) ∙ b)))
