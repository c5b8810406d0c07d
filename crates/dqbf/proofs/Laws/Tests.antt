-- Tests as facts: what a Bool that is true or false says, for the connectives, the comparisons of numbers, and a list of refusal tests (specs/Refusal.antt).
use mathlib.Core.Path.{◌≡◌, refl}
use mathlib.Core.Logic.{◌⊎◌, inl, inr, ◌≢◌}
use mathlib.Core.Bool.{Bool, true, false, not, ◌&&◌, ◌||◌, false≢true, true≢false, and-eq-true_iff}
use mathlib.Core.List.{List, [], ◌∷◌, ◌++◌}
use Prim.Native.Nat.{ℕ, ◌≤◌, ◌<◌}
use lib.Dec.{eqb, T, leb, ltb, leb→le, ltb→lt, nltb→le, eqb→eq, eqb_refl}
use mathlib.Core.Option.{none, some}
use native.Mathlib.Omega.{arith}
use Rattle.dqbf.specs.Refusal.{Refusal, Test, ◌when◌}
use Rattle.dqbf.specs.Refusal as Refusal

pub either : (b : Bool) → (b ≡ true) ⊎ (b ≡ false)
either true = inl refl
either false = inr refl

pub or_left : (a b : Bool) → a ≡ true → (a || b) ≡ true
or_left true b h = refl
or_left false b h = absurd (false≢true h)

pub or_right : (a b : Bool) → b ≡ true → (a || b) ≡ true
or_right true b h = refl
or_right false b h = h

pub or-either : (a b : Bool) → (a || b) ≡ true → (a ≡ true) ⊎ (b ≡ true)
or-either true b h = inl refl
or-either false b h = inr h

pub eqb_same : (n : ℕ) → eqb n n ≡ true
eqb_same n = pass (eqb n n) (eqb_refl n)
  where
    pass : (b : Bool) → T b → b ≡ true
    pass true t = refl
    pass false t = absurd t

pub eqb_is : (m n : ℕ) → eqb m n ≡ true → m ≡ n
eqb_is m n h = eqb→eq m n (rw h tt)

pub eqb-not : (m n : ℕ) → m ≢ n → eqb m n ≡ false
eqb-not m n d = go (either (eqb m n))
  where
    go : (eqb m n ≡ true) ⊎ (eqb m n ≡ false) → eqb m n ≡ false
    go (inl h) = absurd (d (eqb_is m n h))
    go (inr h) = h

pub leb_yes : (a b : ℕ) → leb a b ≡ true → a ≤ b
leb_yes a b h = leb→le a b (rw h tt)

pub and_left : (a b : Bool) → (a && b) ≡ true → a ≡ true
and_left a b h = ((and-eq-true_iff a b).0 h).0

pub and_right : (a b : Bool) → (a && b) ≡ true → b ≡ true
and_right a b h = ((and-eq-true_iff a b).0 h).1

pub passed : (x : Refusal) (b : Bool) (ts : List Test) → Refusal.first ((x when b) ∷ ts) ≡ none → (b ≡ false) × (Refusal.first ts ≡ none)
unfolding Refusal.first
passed x true ts h = absurd (let z : ◌≡◌ {A = ℕ} 0 1 = cc in omega arith)
passed x false ts h = (refl, h)

pub or_no : (a b : Bool) → (a || b) ≡ false → (a ≡ false) × (b ≡ false)
or_no true b h = absurd (true≢false h)
or_no false b h = (refl, h)

pub not-no : (a : Bool) → not a ≡ false → a ≡ true
not-no true h = refl
not-no false h = absurd (true≢false h)

pub ltb_no : (a b : ℕ) → ltb a b ≡ false → b ≤ a
ltb_no a b h = nltb→le a b (rw h tt)

pub ltb_yes : (a b : ℕ) → ltb a b ≡ true → a < b
ltb_yes a b h = ltb→lt a b (rw h tt)

pub pass : (x : Refusal) (b : Bool) (ts : List Test) → b ≡ false → Refusal.first ts ≡ none → Refusal.first ((x when b) ∷ ts) ≡ none
unfolding Refusal.first
pass x true ts e h = absurd (true≢false e)
pass x false ts e h = h

pub no_or : (a b : Bool) → a ≡ false → b ≡ false → (a || b) ≡ false
no_or true b h k = absurd (true≢false h)
no_or false b h k = k

pub no-not : (a : Bool) → a ≡ true → not a ≡ false
no-not true h = refl
no-not false h = absurd (false≢true h)

pub both : (a b : Bool) → a ≡ true → b ≡ true → (a && b) ≡ true
both a b h k = (and-eq-true_iff a b).1 (h, k)

-- a test that cannot pass
pub never : (b : Bool) → (b ≡ true → ⊥) → b ≡ false
never true h = absurd (h refl)
never false h = refl

pub ltb-not : (a b : ℕ) → b ≤ a → ltb a b ≡ false
ltb-not a b h = never (ltb a b) (λ t. let u = ltb_yes a b t in omega arith)

pub some_is : (x y : Refusal) → some x ≡ some y → x ≡ y
some_is x y h = cc

-- ---- two lists of refusal tests, one behind the other

pub first_some : (ts us : List Test) (x : Refusal) → Refusal.first ts ≡ some x → Refusal.first (ts ++ us) ≡ some x
unfolding Refusal.first
first_some [] us x h = absurd (let z : ◌≡◌ {A = ℕ} 0 1 = cc in omega arith)
first_some ((y when true) ∷ ts) us x h = h
first_some ((y when false) ∷ ts) us x h = first_some ts us x h

pub first-none : (ts us : List Test) → Refusal.first ts ≡ none → Refusal.first (ts ++ us) ≡ Refusal.first us
unfolding Refusal.first
first-none [] us h = refl
first-none ((y when true) ∷ ts) us h = absurd (let z : ◌≡◌ {A = ℕ} 0 1 = cc in omega arith)
first-none ((y when false) ∷ ts) us h = first-none ts us h

-- two neighbouring tests swapped: the first that applies is the same, or both of them apply and none before them does
pub first-swap : (ts us : List Test) (x y : Refusal) (a b : Bool)
    → (Refusal.first (ts ++ ((x when a) ∷ (y when b) ∷ us)) ≡ Refusal.first (ts ++ ((y when b) ∷ (x when a) ∷ us)))
    ⊎ ((Refusal.first ts ≡ none) × (a ≡ true) × (b ≡ true))
unfolding Refusal.first
first-swap [] us x y true true = inr (refl, refl, refl)
first-swap [] us x y true false = inl refl
first-swap [] us x y false true = inl refl
first-swap [] us x y false false = inl refl
first-swap ((z when true) ∷ ts) us x y a b = inl refl
first-swap ((z when false) ∷ ts) us x y a b = first-swap ts us x y a b
