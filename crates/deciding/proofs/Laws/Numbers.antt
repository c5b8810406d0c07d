-- Numbers made of bits: from a test, one behind the other, and the function tables of all variables together (specs/Deciding.antt: `offset`, `table_bits`).
use mathlib.Core.Path.{◌≡◌, ◌∙◌, ap}
use mathlib.Core.Bool.{Bool, true, false, cond}
use Prim.Native.Nat.{ℕ, zero, suc, ◌+◌, ◌*◌, ◌/◌, ◌%◌, ◌^◌, ◌≤◌, ◌<◌}
use native.Mathlib.Nat.{pow-suc, mul_assoc, mul_comm}
use native.Mathlib.Decide.{dec_lt}
use native.Mathlib.Omega.{arith}
use Rattle.dqbf.specs.Set.{bit}
use Rattle.dqbf.specs.Model.{Model}
use Rattle.deciding.specs.Deciding.{table_bits, offset}
use Rattle.deciding.proofs.Laws.Rows.{low_bit, high_bit}

-- ---- the number whose bits a test gives

unfoldable pub pack : ℕ → (ℕ → Bool) → ℕ
pack zero g = 0
pack (suc d) g = cond (g 0) 1 0 + 2 * pack d (λ i. g (suc i))

pub pack-small : (d : ℕ) (g : ℕ → Bool) → pack d g < 2 ^ d
unfolding pack
pack-small zero g = omega arith
pack-small (suc d) g = go (g 0) (pack-small d (λ i. g (suc i)))
  where
    go : (b : Bool) → pack d (λ i. g (suc i)) < 2 ^ d → cond b 1 0 + 2 * pack d (λ i. g (suc i)) < 2 ^ suc d
    go true h = omega arith
    go false h = omega arith

pub pack-bit : (d : ℕ) (g : ℕ → Bool) (i : ℕ) → i < d → bit (pack d g) i ≡ g i
unfolding pack
pack-bit zero g i h = absurd (omega arith)
pack-bit (suc d) g zero h = low_bit (g 0) (pack d (λ i. g (suc i)))
pack-bit (suc d) g (suc i) h = high_bit (g 0) (pack d (λ i. g (suc i))) i ∙ pack-bit d (λ i. g (suc i)) i (omega arith)

-- ---- one number behind p bits of another

double : (p b : ℕ) → 2 ^ suc p * b ≡ 2 * (2 ^ p * b)
double p b = ap (◌* b) (pow-suc 2 p ∙ mul_comm (2 ^ p) 2) ∙ mul_assoc 2 (2 ^ p) b

pub append-high : (p a b i : ℕ) → a < 2 ^ p → bit (a + 2 ^ p * b) (p + i) ≡ bit b i
unfolding bit
append-high zero a b i h =
    let e : a + 2 ^ 0 * b ≡ b = omega arith in
    let z : 0 + i ≡ i = omega arith in
    rw (e, z)
append-high (suc p) a b i h =
    let d = double p b in
    let e : (a + 2 ^ suc p * b) / 2 ≡ a / 2 + 2 ^ p * b = omega arith in
    let z : suc p + i ≡ suc (p + i) = omega arith in
    rw z (ap (λ (x : ℕ). bit x (p + i)) e ∙ append-high p (a / 2) b i (omega arith))

pub append-low : (p a b i : ℕ) → i < p → bit (a + 2 ^ p * b) i ≡ bit a i
unfolding bit
append-low zero a b i h = absurd (omega arith)
append-low (suc p) a b zero h =
    let d = double p b in
    let e : (a + 2 ^ suc p * b) % 2 ≡ a % 2 = omega arith in
    rw e
append-low (suc p) a b (suc i) h =
    let d = double p b in
    let e : (a + 2 ^ suc p * b) / 2 ≡ a / 2 + 2 ^ p * b = omega arith in
    ap (λ (x : ℕ). bit x i) e ∙ append-low p (a / 2) b i (omega arith)

pub append-small : (p q a b : ℕ) → a < 2 ^ p → b < 2 ^ q → a + 2 ^ p * b < 2 ^ (p + q)
append-small zero q a b h k =
    let e : a + 2 ^ 0 * b ≡ b = omega arith in
    let z : 0 + q ≡ q = omega arith in
    rw (e, z) k
append-small (suc p) q a b h k =
    let d = double p b in
    let r = append-small p q (a / 2) b (omega arith) k in
    let z : suc p + q ≡ suc (p + q) = omega arith in
    rw z (omega arith)

-- ---- the function tables of the variables below k, from the answer of each variable at each row of its table

pub gather : Model → (ℕ → ℕ → Bool) → ℕ → ℕ
gather m g zero = 0
gather m g (suc x) = gather m g x + 2 ^ offset m x * pack (table_bits m x) (g x)

pub gather-small : (m : Model) (g : ℕ → ℕ → Bool) (k : ℕ) → gather m g k < 2 ^ offset m k
unfolding gather offset
gather-small m g zero = omega arith
gather-small m g (suc x) = append-small (offset m x) (table_bits m x) (gather m g x) (pack (table_bits m x) (g x)) (gather-small m g x) (pack-small (table_bits m x) (g x))

pub offset-rises : (m : Model) (x k : ℕ) → x < k → offset m x + table_bits m x ≤ offset m k
unfolding offset
offset-rises m x zero h = absurd (omega arith)
offset-rises m x (suc k) h = go (dec_lt x k) (λ l. offset-rises m x k l)
  where
    go : Dec (x < k) → (x < k → offset m x + table_bits m x ≤ offset m k) → offset m x + table_bits m x ≤ offset m k + table_bits m k
    go (yes l) ih = let r = ih l in omega arith
    go (no l) ih = let e : x ≡ k = omega arith in rw e (omega arith)

pub gather-bit : (m : Model) (g : ℕ → ℕ → Bool) (k x r : ℕ) → x < k → r < table_bits m x → bit (gather m g k) (offset m x + r) ≡ g x r
unfolding gather
gather-bit m g zero x r h l = absurd (omega arith)
gather-bit m g (suc k) x r h l = go (dec_lt x k) (λ q. gather-bit m g k x r q l)
  where
    go : Dec (x < k) → (x < k → bit (gather m g k) (offset m x + r) ≡ g x r) → bit (gather m g k + 2 ^ offset m k * pack (table_bits m k) (g k)) (offset m x + r) ≡ g x r
    go (yes q) ih =
        let o = offset-rises m x k q in
        append-low (offset m k) (gather m g k) (pack (table_bits m k) (g k)) (offset m x + r) (omega arith) ∙ ih q
    go (no q) ih =
        let e : k ≡ x = omega arith in
        rw e (append-high (offset m x) (gather m g x) (pack (table_bits m x) (g x)) r (gather-small m g x) ∙ pack-bit (table_bits m x) (g x) r l)
