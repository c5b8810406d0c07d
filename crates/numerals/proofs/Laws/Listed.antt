-- A number at a place of a list (`Leading`), from byte to byte: one law for each answer of `first_digit` and `number_at`.
-- Offers `list_at`, the list from a place on; `list-..`, what one byte makes of a list; `digit-..`, its front; `number-begins`, `leading-..`, the answers.
use mathlib.Core.Path.{◌≡◌, refl, sym, ap, subst, ◌∙◌}
use mathlib.Core.Bool.{Bool, true, false, cond, ◌&&◌, and-false, true≢false}
use mathlib.Core.List.{List, [], ◌∷◌}
use mathlib.Core.Option.{Option, none, some}
use Prim.Native.Nat.{ℕ, ◌+◌, ◌-◌, ◌*◌, ◌≤◌, ◌<◌}
use native.Mathlib.Nat.{add-zero}
use native.Mathlib.Numerals.{add-one}
use native.Mathlib.Omega.{arith}
use Rattle.std.specs.Prelude.{None, Some}
use Rattle.std.specs.Int.{from_bool}
use lib.Dec.{eqb, leb, ltb}
use lib.ListN.{length, drop, get_or, drop_of_length-le}
use lib.Seq.{drop-cons}
use borrow.Author.Tests.{eq-eqb, ne_eqb, le-leb, leb-true, leb-false, lt-ltb, le-ltb, eqb-true, eqb-false, ltb-true, ltb-false}
use Rattle.dqbf.specs.Text.{space, minus, prepend, closed}
use Rattle.dqbf.proofs.Laws.Tests.{and_left, and_right}
use Rattle.tokens.specs.Working.{is_nil, words_of}
use Rattle.numerals.specs.Working.{entry_of, is_digit, minus_of, digit_of, ranked, Led, Leading}
use Rattle.numerals.proofs.Laws.Bytewise.{may_lead, list_from, list-is, digit_low, digit-high, in_two, no_lead, no_second}

-- the list from a place of a line on
abbrev pub list_at : Bool → List ℕ → ℕ → Option (List ℕ)
list_at signed line at = closed (entry_of signed) (words_of (drop at line))

-- ---- a byte of a list that comes to o: v is the number so far, and m is 1 behind a minus

rest_some : (l : List ℕ) (i : ℕ) → i < length l → is_nil (drop i l) ≡ false
unfolding is_nil
rest_some l i h = rw (drop-cons l i 0 h)

rest-nil : (l : List ℕ) (i : ℕ) → i ≡ length l → is_nil (drop i l) ≡ true
unfolding is_nil
rest-nil l i e = let h : length l ≤ i = omega arith in rw (drop_of_length-le l h)

module _ (signed : Bool) (line : List ℕ) (i v m : ℕ) (o : Option (List ℕ)) (so_far : o ≡ list_from signed v m (drop i line)) where
  pub list-end : length line ≤ i → o ≡ none
  unfolding list_from
  list-end h = so_far ∙ rw (drop_of_length-le line h)

  module _ (inside : i < length line) where
    cut : drop i line ≡ get_or line i 0 ∷ drop (i + 1) line
    cut = rw (add-one) (drop-cons line i 0 inside)

    -- a digit
    module _ (d : ℕ) (e : d ≡ get_or line i 0 - 48) (digit : is_digit (get_or line i 0) ≡ true) where
      pub list-zero : v * 10 + d ≡ 0 → (m ≡ 0 → i + 1 ≡ length line → ⊥) → o ≡ none
      unfolding list_from
      list-zero z k = go (eqb m 0) refl
        where
          go : (t : Bool) → eqb m 0 ≡ t → o ≡ none
          go true f =
              let h : i + 1 ≡ length line → ⊥ = k (eqb-true m 0 f) in
              so_far ∙ rw (cut, digit, ← e, eq-eqb (v * 10 + d) 0 z, rest_some line (i + 1) (omega arith), and-false (eqb m 0))
          go false f = so_far ∙ rw (cut, digit, ← e, eq-eqb (v * 10 + d) 0 z, f)

      pub list-closed : v * 10 + d ≡ 0 → m ≡ 0 → i + 1 ≡ length line → o ≡ some []
      unfolding list_from
      list-closed z k h = so_far ∙ rw (cut, digit, ← e, eq-eqb (v * 10 + d) 0 z, eq-eqb m 0 k, rest-nil line (i + 1) h)

      pub list-long : 100000 ≤ v * 10 + d → o ≡ none
      unfolding list_from
      list-long h = so_far ∙ rw (cut, digit, ← e, ne_eqb (v * 10 + d) 0 (λ z. omega arith), le-ltb (v * 10 + d) 100000 h)

      pub list-digit : 0 < v * 10 + d → v * 10 + d < 100000 → o ≡ list_from signed (v * 10 + d) m (drop (i + 1) line)
      unfolding list_from
      list-digit there h = so_far ∙ rw (cut, digit, ← e, ne_eqb (v * 10 + d) 0 (λ z. omega arith), lt-ltb (v * 10 + d) 100000 h)

    -- a space
    pub list-number : get_or line i 0 ≡ space → 0 < v → o ≡ prepend (some (ranked signed v m)) (list_from signed 0 0 (drop (i + 1) line))
    unfolding list_from is_digit
    list-number s there = so_far ∙ rw (cut, s, ne_eqb v 0 (λ z. omega arith))

    pub list-space : get_or line i 0 ≡ space → v ≡ 0 → m ≡ 0 → o ≡ list_from signed v m (drop (i + 1) line)
    unfolding list_from is_digit
    list-space s z k = so_far ∙ rw (cut, s, eq-eqb v 0 z, eq-eqb m 0 k)

    list-lone : get_or line i 0 ≡ space → v ≡ 0 → 0 < m → o ≡ none
    unfolding list_from is_digit
    list-lone s z led = so_far ∙ rw (cut, s, eq-eqb v 0 z, ne_eqb m 0 (λ k. omega arith))

    -- a minus, or any other byte
    module _ (other : is_digit (get_or line i 0) ≡ false) (apart : get_or line i 0 ≡ space → ⊥) where
      list-lead : may_lead signed v m (get_or line i 0) ≡ true → o ≡ list_from signed v 1 (drop (i + 1) line)
      unfolding list_from
      list-lead l = so_far ∙ rw (cut, other, ne_eqb (get_or line i 0) space apart, l)

      list-other : may_lead signed v m (get_or line i 0) ≡ false → o ≡ none
      unfolding list_from
      list-other l = so_far ∙ rw (cut, other, ne_eqb (get_or line i 0) space apart, l)

      pub list-bad : 0 < v → o ≡ none
      list-bad h = list-other (no_lead signed v m (get_or line i 0) h)

-- ---- the digit at a place

pub digit-beyond : (line : List ℕ) (i : ℕ) → length line ≤ i → 0 ≡ digit_of (drop i line)
unfolding digit_of
digit-beyond line i h = rw (drop_of_length-le line h)

-- the byte there, and what it comes to as a first digit
module _ (line : List ℕ) (i b : ℕ) (inside : i < length line) (byte : b ≡ get_or line i b) where
  digit-at : digit_of (drop i line) ≡ cond (is_digit b) (b - 48) 0
  unfolding digit_of
  digit-at = rw (drop-cons line i b inside, ← byte)

  pub digit-here : (leb 49 b && leb b 57) ≡ true → (b - 48 ≡ digit_of (drop i line)) × (0 < b - 48)
  unfolding is_digit
  digit-here h =
      let low = leb-true 49 b (and_left (leb 49 b) (leb b 57) h) in
      let high = leb-true b 57 (and_right (leb 49 b) (leb b 57) h) in
      let l : 48 ≤ b = omega arith in
      (rw (digit-at, le-leb 48 b l, le-leb b 57 high), omega arith)

  either-way : (t : Bool) → 0 ≡ b - 48 → 0 ≡ cond t (b - 48) 0
  either-way true z = z
  either-way false z = refl

  pub digit-other : (leb 49 b && leb b 57) ≡ false → 0 ≡ digit_of (drop i line)
  unfolding is_digit
  digit-other h = rw (digit-at) (go (leb 49 b) refl (leb b 57) refl)
    where
      go : (t : Bool) → leb 49 b ≡ t → (u : Bool) → leb b 57 ≡ u → 0 ≡ cond (leb 48 b && leb b 57) (b - 48) 0
      go true e true f = absurd (true≢false (sym (rw (e, f)) ∙ h))
      go true e false f = rw (f, and-false (leb 48 b))
      go false e u f = let low = leb-false 49 b e in let z : 0 ≡ b - 48 = omega arith in either-way (leb 48 b && leb b 57) z

module _ (line : List ℕ) (i d : ℕ) (e : d ≡ digit_of (drop i line)) where
  pub digit-inside : i < length line → d ≡ cond (is_digit (get_or line i 0)) (get_or line i 0 - 48) 0
  unfolding digit_of
  digit-inside h = e ∙ rw (drop-cons line i 0 h)

  digit-outside : length line ≤ i → d ≡ 0
  unfolding digit_of
  digit-outside h = e ∙ rw (drop_of_length-le line h)

  -- a digit that is not 0
  pub digit-some : 0 < d → (i < length line) × (is_digit (get_or line i 0) ≡ true) × (d ≡ get_or line i 0 - 48)
  digit-some h = go (is_digit (get_or line i 0)) refl
    where
      within : (t : Bool) → ltb i (length line) ≡ t → i < length line
      within true f = ltb-true i (length line) f
      within false f = let z = digit-outside (ltb-false i (length line) f) in absurd (omega arith)

      inside : i < length line
      inside = within (ltb i (length line)) refl

      go : (t : Bool) → is_digit (get_or line i 0) ≡ t → (i < length line) × (is_digit (get_or line i 0) ≡ true) × (d ≡ get_or line i 0 - 48)
      go true f = (inside, f, digit-inside inside ∙ rw f)
      go false f = let z : d ≡ 0 = digit-inside inside ∙ rw f in absurd (omega arith)

  pub digit-less : 0 < d → d < 10
  digit-less h = let f = digit-some h in let high = digit-high (get_or line i 0) f.1 in let s = f.2 in omega arith

-- ---- the minus at a place

pub minus-is : (signed : Bool) (b m : ℕ) → m ≡ from_bool (signed && eqb b minus) → m ≡ minus_of signed b
unfolding minus_of
minus-is signed b m e = e ∙ go (signed && eqb b minus)
  where
    go : (t : Bool) → from_bool t ≡ cond t 1 0
    go true = refl
    go false = refl

-- ---- the number at a place: m counts its minus, and d is the first digit behind that

minus-other : (b : ℕ) → b ≡ minus → is_digit b ≡ false
unfolding is_digit
minus-other b e = rw e

minus-apart : (b : ℕ) → b ≡ minus → b ≡ space → ⊥
minus-apart b e f = absurd (omega arith)

minus-leads : (signed : Bool) (b : ℕ) → (signed && eqb b minus) ≡ true → may_lead signed 0 0 b ≡ true
unfolding may_lead
minus-leads signed b h = rw (and_left signed (eqb b minus) h, and_right signed (eqb b minus) h)

none-leads : (signed : Bool) (b : ℕ) → (signed && eqb b minus) ≡ false → may_lead signed 0 0 b ≡ false
unfolding may_lead
none-leads signed b h = in_two signed (eqb b minus) (eqb 0 0 && eqb 0 0) h

module _ (signed : Bool) (line : List ℕ) (at m : ℕ) (inside : at < length line) (e : m ≡ minus_of signed (get_or line at 0)) where
  minus-counts : (t : Bool) → (signed && eqb (get_or line at 0) minus) ≡ t → m ≡ cond t 1 0
  unfolding minus_of
  minus-counts t f = e ∙ rw f

  pub minus-le : m ≤ 1
  minus-le = go (signed && eqb (get_or line at 0) minus) refl
    where
      go : (t : Bool) → (signed && eqb (get_or line at 0) minus) ≡ t → m ≤ 1
      go true f = let k = minus-counts true f in omega arith
      go false f = let k = minus-counts false f in omega arith

  behind-minus : (list_at signed line at) ≡ list_from signed 0 m (drop (at + m) line)
  behind-minus = go (signed && eqb (get_or line at 0) minus) refl
    where
      go : (t : Bool) → (signed && eqb (get_or line at 0) minus) ≡ t → (list_at signed line at) ≡ list_from signed 0 m (drop (at + m) line)
      go true f =
          let b = eqb-true (get_or line at 0) minus (and_right signed (eqb (get_or line at 0) minus) f) in
          rw (minus-counts true f)
          (list-lead signed line at 0 0 (list_at signed line at) (list-is signed (drop at line)) inside (minus-other (get_or line at 0) b) (minus-apart (get_or line at 0) b) (minus-leads signed (get_or line at 0) f))
      go false f = rw (minus-counts false f, add-zero at) (list-is signed (drop at line))

  module _ (first d : ℕ) (place : first ≡ at + m) (e' : d ≡ digit_of (drop first line)) where
    begun : list_at signed line at ≡ list_from signed 0 m (drop first line)
    begun = rw place behind-minus

    pub number-begins : 0 < d → list_at signed line at ≡ list_from signed d m (drop (first + 1) line)
    number-begins h =
        let f = digit-some line first d e' h in
        let high = digit-high (get_or line first 0) f.1 in
        let s = f.2 in
        let same : 0 * 10 + d ≡ d = omega arith in
        list-digit signed line first 0 m (list_at signed line at) begun f.0 d s f.1 (omega arith) (omega arith)
        ∙ ap (λ (v : ℕ). list_from signed v m (drop (first + 1) line)) same

    -- at the place itself
    none-led : m ≡ 0 → may_lead signed 0 0 (get_or line at 0) ≡ false
    none-led z = go (signed && eqb (get_or line at 0) minus) refl
      where
        go : (t : Bool) → (signed && eqb (get_or line at 0) minus) ≡ t → may_lead signed 0 0 (get_or line at 0) ≡ false
        go true f = let k = minus-counts true f in absurd (omega arith)
        go false f = none-leads signed (get_or line at 0) f

    -- no digit but 0 stands there
    module _ (z : d ≡ 0) (apart : get_or line at 0 ≡ space → ⊥) (more : get_or line at 0 ≡ 48 → at + 1 ≡ length line → ⊥) where
      missing-zero : first < length line → is_digit (get_or line first 0) ≡ true → list_at signed line at ≡ none
      missing-zero h k =
          let s : d ≡ get_or line first 0 - 48 = digit-inside line first d e' h ∙ rw k in
          let low = digit_low (get_or line first 0) k in
          list-zero signed line first 0 m (list_at signed line at) begun h d s k (omega arith) (λ n l.
          let p : at ≡ first = omega arith in
          let b : get_or line first 0 ≡ 48 = omega arith in
          more (ap (λ (j : ℕ). get_or line j 0) p ∙ b) (omega arith))

      missing-here : m ≡ 0 → is_digit (get_or line first 0) ≡ false → list_at signed line at ≡ none
      missing-here n k =
          let p : first ≡ at = omega arith in
          list-other signed line at 0 0 (list_at signed line at) (list-is signed (drop at line)) inside (ap (λ (j : ℕ). is_digit (get_or line j 0)) (sym p) ∙ k) apart (none-led n)

      missing-led : first < length line → 0 < m → is_digit (get_or line first 0) ≡ false → list_at signed line at ≡ none
      missing-led h n k = go (eqb (get_or line first 0) space) refl
        where
          go : (t : Bool) → eqb (get_or line first 0) space ≡ t → list_at signed line at ≡ none
          go true f = list-lone signed line first 0 m (list_at signed line at) begun h (eqb-true (get_or line first 0) space f) refl n
          go false f = list-other signed line first 0 m (list_at signed line at) begun h k (eqb-false (get_or line first 0) space f) (no_second signed 0 m (get_or line first 0) n)

      number-missing : list_at signed line at ≡ none
      number-missing = go (ltb first (length line)) refl (is_digit (get_or line first 0)) refl (eqb m 0) refl
        where
          go : (t : Bool) → ltb first (length line) ≡ t → (s : Bool) → is_digit (get_or line first 0) ≡ s → (r : Bool) → eqb m 0 ≡ r → list_at signed line at ≡ none
          go false f s k r n = list-end signed line first 0 m (list_at signed line at) begun (ltb-false first (length line) f)
          go true f true k r n = missing-zero (ltb-true first (length line) f) k
          go true f false k true n = missing-here (eqb-true m 0 n) k
          go true f false k false n = let l : m ≡ 0 → ⊥ = eqb-false m 0 n in missing-led (ltb-true first (length line) f) (omega arith) k

    pub leading-missing : d ≡ 0 → Leading signed line at None
    leading-missing z = record { found = λ t h. cc; missing = λ n apart more. number-missing z apart more }

-- ---- answers

ranked-some : (signed : Bool) (v m : ℕ) → 0 < v → 0 < ranked signed v m
unfolding ranked
ranked-some true v m h = omega arith
ranked-some false v m h = h

-- the list from `at` on comes to what is left at i
module _ (signed : Bool) (line : List ℕ) (at i v m : ℕ) (so_far : list_at signed line at ≡ list_from signed v m (drop i line)) where
  leading-none : list_at signed line at ≡ none → Leading signed line at None
  leading-none e = record { found = λ t h. cc; missing = λ n apart more. e }

  pub leading_end : length line ≤ i → Leading signed line at None
  leading_end h = leading-none (list-end signed line i v m (list_at signed line at) so_far h)

  module _ (inside : i < length line) (there : 0 < v) where
    pub leading-found : at < i → get_or line i 0 ≡ space → (x : ℕ) → x ≡ ranked signed v m → Leading signed line at (Some (record { number = x; next = i + 1 }))
    leading-found h s x e =
        let positive = ranked-some signed v m there in
        let led : Led signed line at (record { number = x; next = i + 1 }) =
        record {
          positive = omega arith;
          low = omega arith;
          high = omega arith;
          list = list-number signed line i v m (list_at signed line at) so_far inside s there
              ∙ rw (e) (ap (prepend (some (ranked signed v m))) (sym (list-is signed (drop (i + 1) line))));
        } in
        record { found = λ t k. let same : record { number = x; next = i + 1 } ≡ t = cc in subst (Led signed line at) same led; missing = λ k. cc }

    pub leading-bad : is_digit (get_or line i 0) ≡ false → (get_or line i 0 ≡ space → ⊥) → Leading signed line at None
    leading-bad other apart = leading-none (list-bad signed line i v m (list_at signed line at) so_far inside other apart there)

    module _ (d : ℕ) (e : d ≡ get_or line i 0 - 48) (digit : is_digit (get_or line i 0) ≡ true) where
      pub leading-long : 100000 ≤ v * 10 + d → Leading signed line at None
      leading-long h = leading-none (list-long signed line i v m (list_at signed line at) so_far inside d e digit h)

      pub leading-digit : v * 10 + d < 100000 → list_at signed line at ≡ list_from signed (v * 10 + d) m (drop (i + 1) line)
      leading-digit h = list-digit signed line i v m (list_at signed line at) so_far inside d e digit (omega arith) h
