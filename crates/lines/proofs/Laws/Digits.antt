-- Decimal digits by powers of ten: the table of powers; how many digits a number has; one digit by subtraction; the digits from the first one on (specs/Digits.antt).
--     ten-power                         an entry of the table
--     digits-some, -many, -most         how many digits there are, by comparison with powers
--     digit-more, -done, -nine          one digit: a power subtracted once more; less than the power is left; subtracted nine times
--     reached-start, begun-start        nothing is written
--     reached-skip, grown-skip          a power above the number
--     reached-below, reached-room       what is left gives one digit more; there is room for it
--     reached-next, grown-next          behind this digit
--     grown-then                        digits behind digits
--     reached-done                      behind the last digit, which is what is left
use mathlib.Core.Path.{◌≡◌, refl, sym, ◌∙◌, ap}
use mathlib.Core.List.{List, [], ◌∷◌, ◌++◌}
use Prim.Native.Nat.{ℕ, zero, suc, ◌+◌, ◌-◌, ◌*◌, ◌/◌, ◌%◌, ◌^◌, ◌≤◌, ◌<◌}
use native.Mathlib.Decide.{dec_lt}
use native.Mathlib.Nat.{pow-suc, mul_assoc, mul_comm, suc-mul, mod-lt, mod-eq_of_lt, div-eq_of_lt, div-le_self, div-div-eq-div-mul, le-div_iff_mul-le}
use native.Mathlib.Numerals.{add-one}
use native.Mathlib.Omega.{arith}
use lib.Arith.{digits_div, digits_mod, mod-mul}
use lib.ListN.{length, drop, set, get_or, length-append, length-drop}
use Rattle.dqbf.specs.Line.{digits_of}
use Rattle.dqbf.proofs.Laws.Digits.{digits-one, digits_more, length-one, length_more, digits-few}
use Rattle.dqbf.proofs.Laws.Parts.{front-set}
use Rattle.lines.specs.Digits.{leading, begun_over, Reached, Grown}
use Rattle.lines.specs.declared.digits.Begun.{Begun}

-- ---- powers of ten

-- a power, and those that follow it
powers : ℕ → ℕ → List ℕ
powers p zero = []
powers p (suc k) = p ∷ powers (p * 10) k

powers-at : (k p i : ℕ) → i < k → get_or (powers p k) i 0 ≡ p * 10 ^ i
unfolding powers
powers-at zero p i h = absurd (omega arith)
powers-at (suc k) p zero h = omega arith
powers-at (suc k) p (suc i) h = powers-at k (p * 10) i (omega arith) ∙ mul_assoc p 10 (10 ^ i) ∙ ap (p *◌) (mul_comm 10 (10 ^ i) ∙ sym (pow-suc 10 i))

pub ten-power : (i : ℕ) → i < 10
    → get_or (1 ∷ 10 ∷ 100 ∷ 1000 ∷ 10000 ∷ 100000 ∷ 1000000 ∷ 10000000 ∷ 100000000 ∷ 1000000000 ∷ []) i 0 ≡ 10 ^ i
unfolding powers
ten-power i h = powers-at 10 1 i h ∙ omega arith

power-some : (k : ℕ) → 1 ≤ 10 ^ k
power-some zero = omega arith
power-some (suc k) = rw (pow-suc 10 k) (omega (arith, power-some k))

-- ---- how many digits

pub digits-some : (n : ℕ) → 1 ≤ length (digits_of n)
digits-some n = go (dec_lt n 10)
  where
    go : Dec (n < 10) → 1 ≤ length (digits_of n)
    go (yes s) = omega (arith, length-one n s)
    go (no s) = omega (arith, length_more n (omega arith))

pub digits-many : (k n : ℕ) → 10 ^ k ≤ n → suc k ≤ length (digits_of n)
digits-many zero n h = digits-some n
digits-many (suc k) n h =
    let w : 10 ^ k * 10 ≤ n = rw (pow-suc 10 k) at h in
    let t : 10 ≤ n = omega (arith, w, power-some k) in
    let q = digits-many k (n / 10) (omega (arith, w)) in
    omega (arith, q, length_more n t)

pub digits-most : (k n : ℕ) → 1 ≤ k → n < 10 ^ k → length (digits_of n) ≤ k
digits-most zero n h b = absurd (omega arith)
digits-most (suc k) n h b = digits-few k n b

-- a larger number has no fewer
digits-longer : (f a b : ℕ) → b ≤ f → a ≤ b → length (digits_of a) ≤ length (digits_of b)
digits-longer zero a b h k = let same : a ≡ b = omega arith in rw same (omega arith)
digits-longer (suc f) a b h k = go (dec_lt a 10) (λ s. digits-longer f (a / 10) (b / 10) s (omega arith))
  where
    go : Dec (a < 10) → (b / 10 ≤ f → length (digits_of (a / 10)) ≤ length (digits_of (b / 10))) → length (digits_of a) ≤ length (digits_of b)
    go (yes s) r = omega (arith, length-one a s, digits-some b)
    go (no s) r = omega (arith, length_more a (omega arith), length_more b (omega arith), r (omega arith))

-- ---- one digit: a power is subtracted d times from n, and r is left

pub digit-more : (d p r n : ℕ) → p ≤ r → n ≡ d * p + r → n ≡ (d + 1) * p + (r - p)
digit-more d p r n h e = let one : (d + 1) * p ≡ d * p + p = rw (add-one d) (suc-mul d p) in omega (arith, one, e, h)

pub digit-done : (d p r n : ℕ) → n ≡ d * p + r → r < p → (d ≡ n / p) × (r ≡ n % p)
digit-done d p r n e h = rw e (sym (digits_div d h), sym (digits_mod d h))

-- a digit of nine leaves less than the power
pub digit-nine : (d p r n : ℕ) → 9 ≤ d → d ≤ 9 → n ≡ d * p + r → n < 10 * p → r < p
digit-nine d p r n h k e b = let nine : d ≡ 9 = omega arith in let w : n ≡ 9 * p + r = rw nine at e in omega (arith, w, b)

-- ---- the first digits

leading-all : (q : ℕ) → 1 ≤ q → leading q ≡ digits_of q
unfolding leading
leading-all zero h = absurd (omega arith)
leading-all (suc q) h = refl

leading-longer : (a b : ℕ) → a ≤ b → length (leading a) ≤ length (leading b)
unfolding leading
leading-longer zero b h = omega arith
leading-longer (suc a) zero h = absurd (omega arith)
leading-longer (suc a) (suc b) h = digits-longer (suc b) (suc a) (suc b) (omega arith) h

-- the last digit of a number
digits-behind : (n : ℕ) → digits_of n ≡ leading (n / 10) ++ ((48 + n % 10) ∷ [])
unfolding leading
digits-behind n = go (dec_lt n 10)
  where
    go : Dec (n < 10) → digits_of n ≡ leading (n / 10) ++ ((48 + n % 10) ∷ [])
    go (yes s) = let none : n / 10 ≡ 0 = omega arith in let all : n % 10 ≡ n = omega arith in rw (none, all) (digits-one n s)
    go (no s) = rw (leading-all (n / 10) (omega arith)) (digits_more n (omega arith))

-- the digit at p, behind those down to 10 * p
front_of : (n p : ℕ) → n / p / 10 ≡ n / (10 * p)
front_of n p = div-div-eq-div-mul n p 10 ∙ ap (n /◌) (mul_comm p 10)

leading-behind : (n p : ℕ) → 0 < p → p ≤ n → leading (n / p) ≡ leading (n / (10 * p)) ++ ((48 + n / p % 10) ∷ [])
leading-behind n p h k = leading-all (n / p) ((le-div_iff_mul-le h).1 (omega (arith, k))) ∙ digits-behind (n / p) ∙ rw (front_of n p)

-- what is left down to 10 * p gives this digit, and what is left down to p
left-of : (n p : ℕ) → 0 < p → (n % (10 * p) / p ≡ n / p % 10) × (n % (10 * p) % p ≡ n % p)
left-of n p h =
    let parts = mod-mul n {m = 10} {c = p} (omega arith) h in
    let less = mod-lt n h in
    (rw parts (digits_div (n / p % 10) less), rw parts (digits_mod (n / p % 10) less))

-- ---- nothing is written

pub reached-start : (n w : ℕ) → n < w → Reached n w (record { at = 0; rest = n })
unfolding leading
reached-start n w h = record { place = rw (div-eq_of_lt h) refl; left = sym (mod-eq_of_lt h) }

pub begun-start : (n w : ℕ) (out : List ℕ) → n < w → out ≡ begun_over n w out
unfolding leading begun_over
begun-start n w out h = rw (div-eq_of_lt h) refl

-- ---- a power above the number

pub reached-skip : (n v w : ℕ) {b : Begun} → n < v → n < w → Reached n v b → Reached n w b
reached-skip n v w h k b = record {
  place = b.place ∙ rw (div-eq_of_lt h, div-eq_of_lt k) refl;
  left = b.left ∙ mod-eq_of_lt h ∙ sym (mod-eq_of_lt k);
}

pub grown-skip : (n v w : ℕ) {out : List ℕ} → n < v → n < w → Grown n v w out out
unfolding begun_over
grown-skip n v w h k out₀ e = e ∙ rw (div-eq_of_lt h, div-eq_of_lt k) refl

-- ---- one digit more

pub reached-below : (n p : ℕ) {b : Begun} → 0 < p → Reached n (10 * p) b → b.rest < 10 * p
reached-below n p h b = omega (arith, b.left, mod-lt n {m = 10 * p} (omega arith))

pub reached-room : (n p : ℕ) {b : Begun} → 0 < p → Reached n (10 * p) b → b.at < length (digits_of n)
reached-room n p h b =
    let less : n / (10 * p) ≤ n / 10 = rw (← div-div-eq-div-mul n 10 p) (div-le_self (n / 10) p) in
    let last : length (digits_of n) ≡ length (leading (n / 10)) + 1 = ap length (digits-behind n) ∙ length-append (leading (n / 10)) ((48 + n % 10) ∷ []) in
    omega (arith, b.place, last, leading-longer (n / (10 * p)) (n / 10) less)

pub reached-next : (n p r : ℕ) {b : Begun} → 0 < p → p ≤ n → Reached n (10 * p) b → r ≡ b.rest % p → Reached n p (record { at = b.at + 1; rest = r })
reached-next n p r h k b e = record {
  place = rw (leading-behind n p h k) (omega (arith, b.place, length-append (leading (n / (10 * p))) ((48 + n / p % 10) ∷ [])));
  left = e ∙ ap (◌% p) b.left ∙ (left-of n p h).1;
}

pub grown-next : (n p d : ℕ) {b : Begun} {out : List ℕ} → 0 < p → p ≤ n → length (digits_of n) ≤ length out → Reached n (10 * p) b → d ≡ b.rest / p
    → Grown n (10 * p) p out (set out b.at (48 + d))
unfolding begun_over
grown-next n p d {b} {out} h k f at e out₀ g =
    let digit : d ≡ n / p % 10 = e ∙ ap (◌/ p) at.left ∙ (left-of n p h).0 in
    let X = leading (n / (10 * p)) in
    let room = reached-room n p h at in
    let long : b.at < length out₀ = omega (arith, room, f, at.place, ap length g, length-append X (drop (length X) out₀), length-drop (length X) out₀) in
    rw (leading-behind n p h k, digit) (front-set out out₀ X b.at (48 + n / p % 10) at.place long g)

-- and more behind these
pub grown-then : (n u v v' w : ℕ) {out out' out'' : List ℕ} → v ≡ v' → Grown n u v out out' → Grown n v' w out' out'' → Grown n u w out out''
grown-then n u v v' w same f g out₀ e = g out₀ (f out₀ e ∙ ap (λ x. begun_over n x out₀) same)

-- ---- the last digit

pub reached-done : (n : ℕ) (out₀ : List ℕ) {b : Begun} {out : List ℕ} → length (digits_of n) ≤ length out₀ → Reached n 10 b → out ≡ begun_over n 10 out₀
    → (b.at + 1 ≡ length (digits_of n)) × (set out b.at (48 + b.rest) ≡ digits_of n ++ drop (length (digits_of n)) out₀)
unfolding begun_over
reached-done n out₀ {b} {out} f at e =
    let X = leading (n / 10) in
    let room = reached-room n 1 (omega arith) at in
    rw (digits-behind n, at.left) (
      omega (arith, at.place, length-append X ((48 + n % 10) ∷ [])),
      front-set out out₀ X b.at (48 + n % 10) at.place (omega (arith, room, f)) e,
    )
