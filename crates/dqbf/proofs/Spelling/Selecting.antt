-- Numbers from 1 on, and those of them that pass a test (specs/Spelled.antt: `select`, `first_of`).
use mathlib.Core.Path.{◌≡◌, refl}
use mathlib.Core.Bool.{Bool, true, false, cond}
use mathlib.Core.List.Memᴰ
use mathlib.Core.List.{List, [], ◌∷◌}
use Prim.Native.Nat.{ℕ, zero, suc, ◌+◌, ◌≤◌, ◌<◌}
use native.Mathlib.Decide.{dec_lt}
use native.Mathlib.Omega.{arith}
use Rattle.dqbf.specs.Literal.{◌∈◌}
use Rattle.dqbf.specs.Model.{numbers}
use Rattle.dqbf.proofs.Laws.Counting.{Once}
use Rattle.dqbf.specs.Spelled.{select, first_of}

-- ---- numbers

pub numbers-in : (k n x : ℕ) → x ∈ numbers k n → (k < x) × (x ≤ k + n)
unfolding numbers
numbers-in k zero x q = absurd (Memᴰ.not-nil q)
numbers-in k (suc n) x (Memᴰ.head e) = (omega arith, omega arith)
numbers-in k (suc n) x (Memᴰ.tail q) = let r = numbers-in (suc k) n x q in (omega arith, omega arith)

pub in-numbers : (k n x : ℕ) → k < x → x ≤ k + n → x ∈ numbers k n
unfolding numbers
in-numbers k zero x a b = absurd (omega arith)
in-numbers k (suc n) x a b = go (dec_lt (suc k) x) (λ c. in-numbers (suc k) n x c (omega arith))
  where
    go : Dec (suc k < x) → (suc k < x → x ∈ numbers (suc k) n) → x ∈ suc k ∷ numbers (suc k) n
    go (yes c) ih = Memᴰ.tail (ih c)
    go (no c) ih = let e : x ≡ suc k = omega arith in Memᴰ.head e

pub numbers-once : (k n : ℕ) → Once (numbers k n)
unfolding numbers Once
numbers-once k zero = tt
numbers-once k (suc n) = ((λ q. let r = numbers-in (suc k) n (suc k) q in omega arith), numbers-once (suc k) n)

-- ---- select

pub select_in : (P : ℕ → Bool) (xs : List ℕ) (x : ℕ) → x ∈ select P xs → (x ∈ xs) × (P x ≡ true)
unfolding select
select_in P [] x q = absurd (Memᴰ.not-nil q)
select_in P (y ∷ ys) x q = go (P y) refl q (λ k. select_in P ys x k)
  where
    go : (b : Bool) → P y ≡ b → x ∈ cond b (y ∷ select P ys) (select P ys) → (x ∈ select P ys → (x ∈ ys) × (P x ≡ true)) → (x ∈ y ∷ ys) × (P x ≡ true)
    go true e (Memᴰ.head p) ih = (Memᴰ.head p, rw p e)
    go true e (Memᴰ.tail p) ih = let r = ih p in (Memᴰ.tail r.0, r.1)
    go false e p ih = let r = ih p in (Memᴰ.tail r.0, r.1)

pub in-select : (P : ℕ → Bool) (x : ℕ) {xs : List ℕ} → x ∈ xs → P x ≡ true → x ∈ select P xs
unfolding select
in-select P x (Memᴰ.head {x = y} {xs = ys} e) h = let t : P y ≡ true = rw e at h in rw t (Memᴰ.head e)
in-select P x (Memᴰ.tail {x = y} {xs = ys} q) h = go (P y) (in-select P x q h)
  where
    go : (b : Bool) → x ∈ select P ys → x ∈ cond b (y ∷ select P ys) (select P ys)
    go true p = Memᴰ.tail p
    go false p = p

pub select-once : (P : ℕ → Bool) (xs : List ℕ) → Once xs → Once (select P xs)
unfolding select Once
select-once P [] o = tt
select-once P (y ∷ ys) o = go (P y) (select-once P ys o.1)
  where
    go : (b : Bool) → Once (select P ys) → Once (cond b (y ∷ select P ys) (select P ys))
    go true r = ((λ q. o.0 (select_in P ys y q).0), r)
    go false r = r

pub first-in : (P : ℕ → Bool) (x : ℕ) {xs : List ℕ} → x ∈ xs → P x ≡ true → (first_of P xs ∈ xs) × (P (first_of P xs) ≡ true)
unfolding first_of
first-in P x (Memᴰ.head {x = y} {xs = ys} e) h = let t : P y ≡ true = rw e at h in rw t (Memᴰ.head refl, t)
first-in P x (Memᴰ.tail {x = y} {xs = ys} q) h = go (P y) refl (first-in P x q h)
  where
    go : (b : Bool) → P y ≡ b → (first_of P ys ∈ ys) × (P (first_of P ys) ≡ true) → (cond b y (first_of P ys) ∈ y ∷ ys) × (P (cond b y (first_of P ys)) ≡ true)
    go true e r = (Memᴰ.head refl, e)
    go false e r = (Memᴰ.tail r.0, r.1)
