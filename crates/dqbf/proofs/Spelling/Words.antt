-- Words of a line: numbers and literals in decimal digits read back (specs/Line.antt, specs/Text.antt), and every byte of them is above the space.
use mathlib.Core.Path.{◌≡◌, refl, ◌∙◌, ap}
use mathlib.Core.Logic.{◌⊎◌, inl, inr, ◌≢◌}
use mathlib.Core.Bool.{true, false, cond, not, ◌&&◌, ◌||◌}
use mathlib.Core.List.Memᴰ
use mathlib.Core.List.{List, [], ◌∷◌, ◌++◌}
use mathlib.Core.Option.{some}
use Prim.Native.Nat.{ℕ, zero, suc, ◌+◌, ◌-◌, ◌*◌, ◌/◌, ◌%◌, ◌^◌, ◌≤◌, ◌<◌}
use native.Mathlib.Decide.{dec_lt}
use native.Mathlib.Omega.{arith}
use borrow.Author.Tests.{lt-ltb, le-ltb, le-leb, ne_eqb}
use lib.Dec.{eqb, leb, ltb}
use lib.IntN.{ℤ, pos, negsuc, nat_abs}
use lib.ListN.{length}
use Rattle.dqbf.specs.Limits.{digit_limit}
use Rattle.dqbf.specs.Literal.{◌∈◌}
use Rattle.dqbf.specs.Text.{space, minus, is_empty, all_digits, value_from, number_of, not_zero, variable_of, literal_of}
use Rattle.dqbf.specs.Line.{decimal, digits_of}
use Rattle.dqbf.proofs.Laws.Tests.{and_left, and_right, both, either, eqb_is, leb_yes, or_right}
use Rattle.dqbf.proofs.Laws.Digits.{digits-few}
use Rattle.dqbf.specs.Spelling.{literal_word}

-- ---- a number's digits

digit_low : (b : ℕ) (bs : List ℕ) → all_digits (b ∷ bs) ≡ true → leb 48 b ≡ true
unfolding all_digits
digit_low b bs h = and_left (leb 48 b) (leb b 57) (and_left (leb 48 b && leb b 57) (all_digits bs) h)

-- the word w has the digits of n
pub record Numeral (n : ℕ) (w : List ℕ) : Type 0 where
  pub first : ℕ
  pub rest : List ℕ
  pub is : w ≡ first ∷ rest
  pub digits : all_digits (first ∷ rest) ≡ true
  pub value : value_from 0 (first ∷ rest) ≡ n
  -- only 0 begins with 0, and it has one digit
  pub lead : (first ≡ 48) → rest ≡ []
  pub nonzero : first ≡ 48 → n ≡ 0

digits_append : (w : List ℕ) (b : ℕ) → all_digits w ≡ true → 48 ≤ b → b ≤ 57 → all_digits (w ++ (b ∷ [])) ≡ true
unfolding all_digits
digits_append [] b h low high = rw (le-leb 48 b low, le-leb b 57 high)
digits_append (c ∷ w) b h low high =
    both (leb 48 c && leb c 57) (all_digits (w ++ (b ∷ []))) (and_left (leb 48 c && leb c 57) (all_digits w) h)
    (digits_append w b (and_right (leb 48 c && leb c 57) (all_digits w) h) low high)

value-append : (v : ℕ) (w : List ℕ) (b : ℕ) → value_from v (w ++ (b ∷ [])) ≡ value_from v w * 10 + (b - 48)
unfolding value_from
value-append v [] b = refl
value-append v (c ∷ w) b = value-append (v * 10 + (c - 48)) w b

numeral-one : (n : ℕ) → n < 10 → Numeral n ((48 + n) ∷ [])
unfolding all_digits value_from
numeral-one n h = record {
  first = 48 + n;
  rest = [];
  is = refl;
  digits = rw (le-leb 48 (48 + n) (omega arith), le-leb (48 + n) 57 (omega arith));
  value = omega arith;
  lead = λ e. refl;
  nonzero = λ e. omega arith;
}

numeral-more : (n : ℕ) (w : List ℕ) → 10 ≤ n → Numeral (n / 10) w → Numeral n (w ++ ((48 + n % 10) ∷ []))
numeral-more n w h r = rw r.is (record {
  first = r.first;
  rest = r.rest ++ ((48 + n % 10) ∷ []);
  is = refl;
  digits = digits_append (r.first ∷ r.rest) (48 + n % 10) r.digits (omega arith) (omega arith);
  value = value-append 0 (r.first ∷ r.rest) (48 + n % 10) ∙ rw r.value (omega arith);
  lead = λ e. absurd (let z = r.nonzero e in omega arith);
  nonzero = λ e. absurd (let z = r.nonzero e in omega arith);
})

numeral-from : (d n : ℕ) → n < d → Numeral n (decimal d n)
unfolding decimal
numeral-from zero n h = absurd (omega arith)
numeral-from (suc d) n h = go (dec_lt n 10) (λ s. numeral-from d (n / 10) (omega arith))
  where
    go : Dec (n < 10) → (10 ≤ n → Numeral (n / 10) (decimal d (n / 10))) → Numeral n (cond (ltb n 10) ((48 + n) ∷ []) (decimal d (n / 10) ++ ((48 + n % 10) ∷ [])))
    go (yes s) r = rw (lt-ltb n 10 s) (numeral-one n s)
    go (no s) r = let t : 10 ≤ n = omega arith in rw (le-ltb n 10 t) (numeral-more n (decimal d (n / 10)) t (r t))

pub numeral : (n : ℕ) → Numeral n (digits_of n)
unfolding digits_of
numeral n = numeral-from (suc n) n (omega arith)

-- a number that document 01 admits: of at most five digits
abbrev pub Small : ℕ → Type 0
Small n = n < 10 ^ digit_limit

number_is : (b : ℕ) (bs : List ℕ) → all_digits (b ∷ bs) ≡ true → length (b ∷ bs) ≤ digit_limit → (b ≡ 48 → bs ≡ []) → number_of (b ∷ bs) ≡ some (value_from 0 (b ∷ bs))
unfolding number_of is_empty
number_is b bs d l z = rw (d, le-leb (length (b ∷ bs)) digit_limit l, alone (either (eqb b 48)))
  where
    alone : (eqb b 48 ≡ true) ⊎ (eqb b 48 ≡ false) → (not (eqb b 48) || is_empty bs) ≡ true
    alone (inl e) = or_right (not (eqb b 48)) (is_empty bs) (rw (z (eqb_is b 48 e)))
    alone (inr e) = rw e

pub number_digits : (n : ℕ) → Small n → number_of (digits_of n) ≡ some n
number_digits n s =
    let r = numeral n in
    let few : length (digits_of n) ≤ digit_limit = digits-few 4 n s in
    rw r.is (number_is r.first r.rest r.digits (rw r.is at few) r.lead ∙ ap some r.value)

-- ---- variables and literals

pub variable-digits : (x : ℕ) → x ≢ 0 → Small x → variable_of (digits_of x) ≡ some x
unfolding variable_of not_zero
variable-digits zero p s = absurd (p refl)
variable-digits (suc k) p s = rw (number_digits (suc k) s)

-- a literal that document 01 admits
abbrev pub Literal : ℤ → Type 0
Literal l = (nat_abs l ≢ 0) × Small (nat_abs l)

positive : (k : ℕ) (b : ℕ) (bs : List ℕ) → b ≢ minus → number_of (b ∷ bs) ≡ some (suc k) → literal_of (b ∷ bs) ≡ some (pos (suc k))
unfolding literal_of not_zero
positive k b bs d h = rw (ne_eqb b minus d, h)

pub literal-word : (l : ℤ) → Literal l → literal_of (literal_word l) ≡ some l
unfolding literal_of literal_word not_zero
literal-word (pos zero) p = absurd (p.0 refl)
literal-word (pos (suc k)) p =
    let r = numeral (suc k) in
    let low = leb_yes 48 r.first (digit_low r.first r.rest r.digits) in
    let h = number_digits (suc k) p.1 in
    rw r.is (positive k r.first r.rest (λ e. omega arith) (rw r.is at h))
literal-word (negsuc k) p = rw (number_digits (suc k) p.1)

-- ---- bytes of words

-- a word: not empty, and every byte is above the space
pub record Word (w : List ℕ) : Type 0 where
  pub filled : is_empty w ≡ false
  pub high : (b : ℕ) → b ∈ w → space < b

-- every byte is a digit or a minus
abbrev pub Numeric : List ℕ → Type 0
Numeric w = (b : ℕ) → b ∈ w → b ≤ 57

all_digits-each : (w : List ℕ) → all_digits w ≡ true → (b : ℕ) → b ∈ w → (48 ≤ b) × (b ≤ 57)
unfolding all_digits
all_digits-each [] h b x'' = elim x'' [ ]
all_digits-each (c ∷ w) h b (Memᴰ.head e) = rw e (leb_yes 48 c (and_left (leb 48 c) (leb c 57) front), leb_yes c 57 (and_right (leb 48 c) (leb c 57) front))
  where
    front : (leb 48 c && leb c 57) ≡ true
    front = and_left (leb 48 c && leb c 57) (all_digits w) h
all_digits-each (c ∷ w) h b (Memᴰ.tail q) = all_digits-each w (and_right (leb 48 c && leb c 57) (all_digits w) h) b q

pub digits-bytes : (n b : ℕ) → b ∈ digits_of n → (48 ≤ b) × (b ≤ 57)
digits-bytes n b q = let r = numeral n in all_digits-each (r.first ∷ r.rest) r.digits b (rw r.is at q)

pub digits-word : (n : ℕ) → Word (digits_of n)
unfolding is_empty
digits-word n = record { filled = rw (numeral n).is; high = λ b q. let d = digits-bytes n b q in omega arith }

pub literal-bytes : (l : ℤ) → Numeric (literal_word l)
unfolding literal_word
literal-bytes (pos x) b q = (digits-bytes x b q).1
literal-bytes (negsuc k) b (Memᴰ.head e) = omega arith
literal-bytes (negsuc k) b (Memᴰ.tail q) = (digits-bytes (suc k) b q).1

pub literal-is-word : (l : ℤ) → Word (literal_word l)
unfolding literal_word is_empty
literal-is-word (pos x) = digits-word x
literal-is-word (negsuc k) = record { filled = refl; high = high }
  where
    high : (b : ℕ) → b ∈ minus ∷ digits_of (suc k) → space < b
    high b (Memᴰ.head e) = omega arith
    high b (Memᴰ.tail q) = let d = digits-bytes (suc k) b q in omega arith
