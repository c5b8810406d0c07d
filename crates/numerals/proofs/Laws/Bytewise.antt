-- Lists byte by byte (`list_from`): a list is what `closed` makes of its words (`list-is`).
use mathlib.Core.Path.{◌≡◌, refl, sym, ap, ◌∙◌}
use mathlib.Core.Bool.{Bool, true, false, cond, not, ◌&&◌, ◌||◌, true≢false, and-false}
use mathlib.Core.List.{List, [], ◌∷◌}
use mathlib.Core.Option.{Option, none, some}
use Prim.Native.Nat.{ℕ, zero, suc, ◌+◌, ◌-◌, ◌*◌, ◌^◌, ◌≤◌, ◌<◌}
use native.Mathlib.Nat.{pow-suc}
use native.Mathlib.Numerals.{add-one}
use native.Mathlib.Omega.{arith}
use lib.Dec.{leb, eqb, ltb}
use lib.IntN.{pos, negsuc}
use lib.ListN.{length}
use borrow.Author.Tests.{eq-eqb, ne_eqb, le-leb, lt-leb, lt-ltb, le-ltb, eqb-true, eqb-false, leb-true, ltb-true, ltb-false}
use Rattle.std.specs.Char.{is_ascii_digit}
use Rattle.dqbf.specs.Limits.{digit_limit}
use Rattle.dqbf.specs.Literal.{rank}
use Rattle.dqbf.specs.Text.{space, minus, onto, pieces, is_empty, all_digits, value_from, number_of, not_zero, variable_of, literal_of, is_zero, prepend, closed}
use Rattle.dqbf.proofs.Laws.Tests.{and_left, and_right}
use Rattle.tokens.specs.Working.{is_nil, words, words_of}
use Rattle.numerals.specs.Working.{each, rank_of, entry_of, is_digit, ranked}
use Rattle.numerals.proofs.Laws.Numbers.{ten-more, ten-le}
use Rattle.tokens.proofs.Laws.Pieces.{pieces-some, some_words}
use Rattle.numerals.proofs.Laws.Official.{closed_none, closed-last, closed-more}

-- ---- what the bytes of a list come to, behind a number v and a minus n

-- the minus of a literal
unfoldable pub may_lead : Bool → ℕ → ℕ → ℕ → Bool
may_lead signed v n b = signed && (eqb b minus && (eqb v 0 && eqb n 0))

-- the rest of a token: `token_from signed 0 0` is `entry_of signed`
unfoldable token_from : Bool → ℕ → ℕ → List ℕ → Option ℕ
token_from signed v n [] = cond (eqb v 0) none (some (ranked signed v n))
token_from signed v n (b ∷ bs) =
    cond (is_digit b)
    (cond (eqb (v * 10 + (b - 48)) 0) none (cond (ltb (v * 10 + (b - 48)) 100000) (token_from signed (v * 10 + (b - 48)) n bs) none))
    (cond (may_lead signed v n b) (token_from signed v 1 bs) none)

-- the rest of a list before its closing 0: `list_from signed 0 0` is `closed (entry_of signed)` of the words
unfoldable pub list_from : Bool → ℕ → ℕ → List ℕ → Option (List ℕ)
list_from signed v n [] = none
list_from signed v n (b ∷ bs) =
    cond (is_digit b)
    (cond (eqb (v * 10 + (b - 48)) 0) (cond (eqb n 0 && is_nil bs) (some []) none)
    (cond (ltb (v * 10 + (b - 48)) 100000) (list_from signed (v * 10 + (b - 48)) n bs) none))
    (cond (eqb b space) (cond (eqb v 0) (cond (eqb n 0) (list_from signed v n bs) none) (prepend (some (ranked signed v n)) (list_from signed 0 0 bs)))
    (cond (may_lead signed v n b) (list_from signed v 1 bs) none))

-- ---- tests in a row

in-none : (a b : Bool) → (a && (b && false)) ≡ false
in-none true true = refl
in-none true false = refl
in-none false b = refl

pub in_two : (a b c : Bool) → (a && b) ≡ false → (a && (b && c)) ≡ false
in_two true true c h = absurd (true≢false h)
in_two true false c h = refl
in_two false b c h = refl

-- ---- digits

-- as `is_ascii_digit` tests it
pub digit-is : (b : ℕ) → is_ascii_digit b ≡ true → is_digit b ≡ true
unfolding is_digit
digit-is b h = h

pub digit-not : (b : ℕ) → is_ascii_digit b ≡ false → is_digit b ≡ false
unfolding is_digit
digit-not b h = h

pub digit_low : (b : ℕ) → is_digit b ≡ true → 48 ≤ b
unfolding is_digit
digit_low b h = leb-true 48 b (and_left (leb 48 b) (leb b 57) h)

pub digit-high : (b : ℕ) → is_digit b ≡ true → b ≤ 57
unfolding is_digit
digit-high b h = leb-true b 57 (and_right (leb 48 b) (leb b 57) h)

value_grows : (v : ℕ) (w : List ℕ) → v ≤ value_from v w
unfolding value_from
value_grows v [] = omega arith
value_grows v (b ∷ bs) = omega (arith, value_grows (v * 10 + (b - 48)) bs)

digits-nil : all_digits [] ≡ true
unfolding all_digits
digits-nil = refl

digits-cons : (b : ℕ) (bs : List ℕ) → all_digits (b ∷ bs) ≡ (is_digit b && all_digits bs)
unfolding all_digits is_digit
digits-cons b bs = refl

ten-low : (j v d : ℕ) → 10 ^ j ≤ v → 10 ^ (j + 1) ≤ v * 10 + d
ten-low j v d h = rw (add-one, pow-suc 10 j) (omega arith)

-- ---- the rest of a token whose number has begun

pub no_lead : (signed : Bool) (v n b : ℕ) → 0 < v → may_lead signed v n b ≡ false
unfolding may_lead
no_lead signed v n b h = rw (ne_eqb v 0 (λ z. omega arith)) (in-none signed (eqb b minus))

-- j digits make v
begun : (signed : Bool) (n : ℕ) (w : List ℕ) (v j : ℕ) → j < 5 → 10 ^ j ≤ v → v < 10 ^ (j + 1)
    → token_from signed v n w ≡ cond (all_digits w && leb (j + 1 + length w) 5) (some (ranked signed (value_from v w) n)) none
unfolding token_from value_from
begun signed n [] v j k low high =
    let p : 1 ≤ 10 ^ j = ten-le 0 j (omega arith) in
    let q : j + 1 + 0 ≤ 5 = omega arith in
    rw (ne_eqb v 0 (λ z. omega arith), le-leb (j + 1 + 0) 5 q, digits-nil)
begun signed n (b ∷ bs) v j k low high = rw (digits-cons b bs) (go (is_digit b) refl (ltb j 4) refl (begun signed n bs (v * 10 + (b - 48)) (j + 1)))
  where
    w : ℕ
    w = v * 10 + (b - 48)

    go : (t : Bool) → is_digit b ≡ t → (s : Bool) → ltb j 4 ≡ s
        → (j + 1 < 5 → 10 ^ (j + 1) ≤ w → w < 10 ^ (j + 1 + 1) → token_from signed w n bs ≡ cond (all_digits bs && leb (j + 1 + 1 + length bs) 5) (some (ranked signed (value_from w bs) n)) none)
        → cond t (cond (eqb w 0) none (cond (ltb w 100000) (token_from signed w n bs) none)) (cond (may_lead signed v n b) (token_from signed v 1 bs) none)
        ≡ cond ((t && all_digits bs) && leb (j + 1 + suc (length bs)) 5) (some (ranked signed (value_from w bs) n)) none
    go true e true f ih =
        let l = digit_low b e in
        let h = digit-high b e in
        let q : j < 4 = ltb-true j 4 f in
        let p : 1 ≤ 10 ^ j = ten-le 0 j (omega arith) in
        let m = ten-more (j + 1) v (b - 48) high (omega arith) in
        let g : 10 ^ (j + 1) ≤ w = ten-low j v (b - 48) low in
        let t = ten-le (j + 1 + 1) 5 (omega arith) in
        let c : w < 100000 = omega arith in
        let z : j + 1 + suc (length bs) ≡ j + 1 + 1 + length bs = omega arith in
        rw (ne_eqb w 0 (λ z. omega arith), lt-ltb w 100000 c, z) (ih (omega arith) g m)
    go true e false f ih =
        let q = ltb-false j 4 f in
        let p = ten-le 4 j (omega arith) in
        let c : 100000 ≤ w = omega arith in
        let z : 5 < j + 1 + suc (length bs) = omega arith in
        rw (ne_eqb w 0 (λ z. omega arith), le-ltb w 100000 c, lt-leb (j + 1 + suc (length bs)) 5 z, and-false (all_digits bs))
    go false e s f ih =
        let p : 1 ≤ 10 ^ j = ten-le 0 j (omega arith) in
        rw (no_lead signed v n b (omega arith))

-- ---- a whole token

-- behind what stands before its digits
fresh-cons : (signed : Bool) (n b : ℕ) (bs : List ℕ) → may_lead signed 0 n b ≡ false → token_from signed 0 n (b ∷ bs) ≡ not_zero (λ k. ranked signed (suc k) n) (number_of (b ∷ bs))
unfolding token_from number_of not_zero is_empty value_from
fresh-cons signed n b bs lead = rw (digits-cons b bs) (go (is_digit b) refl (eqb (0 * 10 + (b - 48)) 0) refl)
  where
    d : ℕ
    d = 0 * 10 + (b - 48)

    zeros : (x : Bool) (cs : List ℕ) (u : ℕ) → u ≡ 0 → none ≡ not_zero (λ k. ranked signed (suc k) n) (cond (x && is_empty cs) (some (value_from u cs)) none)
    zeros true [] u h = rw h
    zeros true (c ∷ cs) u h = refl
    zeros false cs u h = refl

    fin : (x y : Bool) (m : ℕ) → 0 < m → cond (x && y) (some (ranked signed m n)) none ≡ not_zero (λ k. ranked signed (suc k) n) (cond ((x && y) && true) (some m) none)
    fin x y zero h = absurd (omega arith)
    fin true true (suc m) h = refl
    fin true false (suc m) h = refl
    fin false y (suc m) h = refl

    go : (t : Bool) → is_digit b ≡ t → (z : Bool) → eqb d 0 ≡ z
        → cond t (cond z none (cond (ltb d 100000) (token_from signed d n bs) none)) (cond (may_lead signed 0 n b) (token_from signed 0 1 bs) none)
        ≡ not_zero (λ k. ranked signed (suc k) n) (cond ((t && all_digits bs) && leb (suc (length bs)) digit_limit && (not (eqb b 48) || is_empty bs)) (some (value_from d bs)) none)
    go true e true z =
        let l = digit_low b e in
        let q : d ≡ 0 = eqb-true d 0 z in
        rw (eq-eqb b 48 (omega arith)) (zeros ((true && all_digits bs) && leb (suc (length bs)) digit_limit) bs d q)
    go true e false z =
        let l = digit_low b e in
        let h = digit-high b e in
        let q : d ≡ 0 → ⊥ = eqb-false d 0 z in
        let c : d < 100000 = omega arith in
        let m : 0 + 1 + length bs ≡ suc (length bs) = omega arith in
        let g = value_grows d bs in
        rw (ne_eqb b 48 (λ k. q (omega arith)), lt-ltb d 100000 c, begun signed n bs d 0 (omega arith) (omega arith) (omega arith), m) (fin (all_digits bs) (leb (suc (length bs)) digit_limit) (value_from d bs) (omega arith))
    go false e z f = rw lead

fresh : (signed : Bool) (n : ℕ) (w : List ℕ) → ((b : ℕ) → may_lead signed 0 n b ≡ false) → token_from signed 0 n w ≡ not_zero (λ k. ranked signed (suc k) n) (number_of w)
unfolding token_from number_of not_zero
fresh signed n [] lead = refl
fresh signed n (b ∷ bs) lead = fresh-cons signed n b bs (lead b)

pub no_second : (signed : Bool) (v n b : ℕ) → 0 < n → may_lead signed v n b ≡ false
unfolding may_lead
no_second signed v n b h = rw (ne_eqb n 0 (λ z. omega arith), and-false (eqb v 0)) (in-none signed (eqb b minus))

unsigned-none : (v n b : ℕ) → may_lead false v n b ≡ false
unfolding may_lead
unsigned-none v n b = refl

-- ---- a whole token is an entry

each-not : {A : Type 0} (f : ℕ → A) (g : A → ℕ) (h : ℕ → ℕ) → ((k : ℕ) → h k ≡ g (f k)) → (o : Option ℕ) → not_zero h o ≡ each g (not_zero f o)
unfolding each not_zero
each-not f g h e none = refl
each-not f g h e (some zero) = refl
each-not f g h e (some (suc k)) = ap some (e k)

variable-token : (w : List ℕ) → token_from false 0 0 w ≡ variable_of w
unfolding variable_of ranked
variable-token w = fresh false 0 w (unsigned-none 0 0)

-- behind a minus, and without one
minus-token : (w : List ℕ) → token_from true 0 1 w ≡ each rank (not_zero negsuc (number_of w))
unfolding rank ranked
minus-token w = fresh true 1 w (λ b. no_second true 0 1 b (omega arith)) ∙ each-not negsuc rank (λ k. ranked true (suc k) 1) (λ k. refl) (number_of w)

plain-token : (b : ℕ) (bs : List ℕ) → eqb b minus ≡ false → token_from true 0 0 (b ∷ bs) ≡ each rank (not_zero (λ k. pos (suc k)) (number_of (b ∷ bs)))
unfolding rank ranked may_lead
plain-token b bs e = fresh-cons true 0 b bs (rw e) ∙ each-not (λ k. pos (suc k)) rank (λ k. ranked true (suc k) 0) (λ k. omega arith) (number_of (b ∷ bs))

led-token : (b : ℕ) (bs : List ℕ) → b ≡ minus → token_from true 0 0 (b ∷ bs) ≡ token_from true 0 1 bs
unfolding token_from is_digit may_lead
led-token b bs e = rw e

rank-token : (w : List ℕ) → token_from true 0 0 w ≡ rank_of w
unfolding rank_of literal_of token_from each
rank-token [] = refl
rank-token (b ∷ bs) = go (eqb b minus) refl
  where
    go : (t : Bool) → eqb b minus ≡ t → token_from true 0 0 (b ∷ bs) ≡ each rank (cond t (not_zero negsuc (number_of bs)) (not_zero (λ k. pos (suc k)) (number_of (b ∷ bs))))
    go true e = led-token b bs (eqb-true b minus e) ∙ minus-token bs
    go false e = plain-token b bs e

token-entry : (signed : Bool) (w : List ℕ) → token_from signed 0 0 w ≡ entry_of signed w
unfolding entry_of
token-entry true w = rank-token w
token-entry false w = variable-token w

-- ---- a list is its pieces

-- what the pieces of a list come to where the first of them is the rest of a token
unfoldable pieces_from : Bool → ℕ → ℕ → List (List ℕ) → Option (List ℕ)
pieces_from signed v n [] = none
pieces_from signed v n (w ∷ []) = cond (eqb v 0 && (eqb n 0 && is_zero w)) (some []) none
pieces_from signed v n (w ∷ u ∷ us) =
    cond (eqb v 0 && (eqb n 0 && is_empty w)) (closed (entry_of signed) (words (u ∷ us))) (prepend (token_from signed v n w) (closed (entry_of signed) (words (u ∷ us))))

pieces-closed : (signed : Bool) (ps : List (List ℕ)) → pieces_from signed 0 0 ps ≡ closed (entry_of signed) (words ps)
unfolding pieces_from words is_nil
pieces-closed signed [] = closed_none (entry_of signed)
pieces-closed signed (w ∷ []) = sym (closed-last (entry_of signed) w)
pieces-closed signed (w ∷ u ∷ us) = rw (token-entry signed w) (go (is_empty w))
  where
    go : (t : Bool) → cond t (closed (entry_of signed) (words (u ∷ us))) (prepend (entry_of signed w) (closed (entry_of signed) (words (u ∷ us)))) ≡ closed (entry_of signed) (cond t (words (u ∷ us)) (w ∷ words (u ∷ us)))
    go true = refl
    go false = sym (closed-more (entry_of signed) w (words (u ∷ us)) (some_words (u ∷ us) refl))

-- where a token is not the closing one, f has what it stands for
unfoldable later : Bool → (List ℕ → Option ℕ) → List (List ℕ) → Option (List ℕ)
later signed f [] = none
later signed f (w ∷ []) = none
later signed f (w ∷ u ∷ us) = prepend (f w) (closed (entry_of signed) (words (u ∷ us)))

later_same : (signed : Bool) (f g : List ℕ → Option ℕ) → ((w : List ℕ) → f w ≡ g w) → (ps : List (List ℕ)) → later signed f ps ≡ later signed g ps
unfolding later
later_same signed f g e [] = refl
later_same signed f g e (w ∷ []) = refl
later_same signed f g e (w ∷ u ∷ us) = rw (e w)

later-none : (signed : Bool) (f : List ℕ → Option ℕ) → ((w : List ℕ) → f w ≡ none) → (ps : List (List ℕ)) → none ≡ later signed f ps
unfolding later prepend
later-none signed f e [] = refl
later-none signed f e (w ∷ []) = refl
later-none signed f e (w ∷ u ∷ us) = rw (e w)

-- a token that has begun
pieces-begun : (signed : Bool) (v n : ℕ) → (eqb v 0 && eqb n 0) ≡ false → (ps : List (List ℕ)) → pieces_from signed v n ps ≡ later signed (token_from signed v n) ps
unfolding pieces_from later
pieces-begun signed v n h [] = refl
pieces-begun signed v n h (w ∷ []) = rw (in_two (eqb v 0) (eqb n 0) (is_zero w) h)
pieces-begun signed v n h (w ∷ u ∷ us) = rw (in_two (eqb v 0) (eqb n 0) (is_empty w) h)

-- a byte that is no space, and no closing 0
pieces-onto : (signed : Bool) (v n b : ℕ) → ((w : List ℕ) → (eqb v 0 && (eqb n 0 && is_zero (b ∷ w))) ≡ false)
    → (ps : List (List ℕ)) → later signed (λ w. token_from signed v n (b ∷ w)) ps ≡ pieces_from signed v n (onto b ps)
unfolding pieces_from later onto is_empty
pieces-onto signed v n b h [] = rw (h [])
pieces-onto signed v n b h (w ∷ []) = rw (h w)
pieces-onto signed v n b h (w ∷ u ∷ us) = rw (in-none (eqb v 0) (eqb n 0))

-- the only piece is empty
unfoldable lone : List (List ℕ) → Bool
lone [] = true
lone (w ∷ []) = is_empty w
lone (w ∷ u ∷ us) = false

lone_is : (bs : List ℕ) → lone (pieces space bs) ≡ is_nil bs
unfolding lone pieces is_nil onto is_empty
lone_is [] = refl
lone_is (b ∷ bs) = go (eqb b space) (pieces space bs) (pieces-some space bs)
  where
    go : (t : Bool) (ps : List (List ℕ)) → is_nil ps ≡ false → lone (cond t ([] ∷ ps) (onto b ps)) ≡ false
    go true [] h = absurd (true≢false h)
    go true (w ∷ ws) h = refl
    go false [] h = refl
    go false (w ∷ []) h = refl
    go false (w ∷ u ∷ us) h = refl

zero-first : (signed : Bool) (v n b : ℕ) (ps : List (List ℕ)) → v ≡ 0 → b ≡ 48 → cond (eqb n 0 && lone ps) (some []) none ≡ pieces_from signed v n (onto b ps)
unfolding lone pieces_from onto is_zero is_empty token_from is_digit prepend
zero-first signed v n b [] e f = rw (e, f)
zero-first signed v n b ([] ∷ []) e f = rw (e, f)
zero-first signed v n b ((c ∷ cs) ∷ []) e f = rw (in-none (eqb v 0) (eqb n 0), and-false (eqb n 0))
zero-first signed v n b (w ∷ u ∷ us) e f = rw (in-none (eqb v 0) (eqb n 0), and-false (eqb n 0), e, f)

-- ---- a list, byte by byte

-- no closing 0
not-zero : (b : ℕ) (w : List ℕ) → (b ≡ 48 → ⊥) → is_zero (b ∷ w) ≡ false
unfolding is_zero
not-zero b [] h = ne_eqb b 48 h
not-zero b (c ∷ cs) h = refl

not-closing : (v n b : ℕ) → (v ≡ 0 → b ≡ 48 → ⊥) → (w : List ℕ) → (eqb v 0 && (eqb n 0 && is_zero (b ∷ w))) ≡ false
not-closing v n b h w = go (eqb v 0) refl
  where
    go : (t : Bool) → eqb v 0 ≡ t → (t && (eqb n 0 && is_zero (b ∷ w))) ≡ false
    go true e = rw (not-zero b w (h (eqb-true v 0 e))) (and-false (eqb n 0))
    go false e = refl

other_byte : (b : ℕ) → is_digit b ≡ false → b ≡ 48 → ⊥
unfolding is_digit
other_byte b h e = true≢false (rw e at h)

module _ (signed : Bool) (v n b : ℕ) (bs : List ℕ) (ih : (v n : ℕ) → list_from signed v n bs ≡ pieces_from signed v n (pieces space bs)) where
  abbrev next : ℕ
  next = v * 10 + (b - 48)

  digit-more : is_digit b ≡ true → (next ≡ 0 → ⊥) → next < 100000 → list_from signed next n bs ≡ pieces_from signed v n (onto b (pieces space bs))
  unfolding token_from
  digit-more d z h =
      let l = digit_low b d in
      ih next n
      ∙ pieces-begun signed next n (rw (ne_eqb next 0 z)) (pieces space bs)
      ∙ later_same signed (token_from signed next n) (λ w. token_from signed v n (b ∷ w)) (λ w. rw (d, ne_eqb next 0 z, lt-ltb next 100000 h)) (pieces space bs)
      ∙ pieces-onto signed v n b (not-closing v n b (λ p q. z (omega arith))) (pieces space bs)

  digit-long : is_digit b ≡ true → 100000 ≤ next → none ≡ pieces_from signed v n (onto b (pieces space bs))
  unfolding token_from
  digit-long d h =
      later-none signed (λ w. token_from signed v n (b ∷ w)) (λ w. rw (d, ne_eqb next 0 (λ z. omega arith), le-ltb next 100000 h)) (pieces space bs)
      ∙ pieces-onto signed v n b (not-closing v n b (λ p q. omega arith)) (pieces space bs)

  digit-zero : is_digit b ≡ true → next ≡ 0 → cond (eqb n 0 && is_nil bs) (some []) none ≡ pieces_from signed v n (onto b (pieces space bs))
  digit-zero d z = let l = digit_low b d in rw (← lone_is bs) (zero-first signed v n b (pieces space bs) (omega arith) (omega arith))

  lead-more : is_digit b ≡ false → may_lead signed v n b ≡ true → list_from signed v 1 bs ≡ pieces_from signed v n (onto b (pieces space bs))
  unfolding token_from
  lead-more d m =
      ih v 1
      ∙ pieces-begun signed v 1 (and-false (eqb v 0)) (pieces space bs)
      ∙ later_same signed (token_from signed v 1) (λ w. token_from signed v n (b ∷ w)) (λ w. rw (d, m)) (pieces space bs)
      ∙ pieces-onto signed v n b (not-closing v n b (λ p. other_byte b d)) (pieces space bs)

  bad-byte : is_digit b ≡ false → may_lead signed v n b ≡ false → none ≡ pieces_from signed v n (onto b (pieces space bs))
  unfolding token_from
  bad-byte d m =
      later-none signed (λ w. token_from signed v n (b ∷ w)) (λ w. rw (d, m)) (pieces space bs)
      ∙ pieces-onto signed v n b (not-closing v n b (λ p. other_byte b d)) (pieces space bs)

  after-space : (ps : List (List ℕ)) → is_nil ps ≡ false → ((v n : ℕ) → list_from signed v n bs ≡ pieces_from signed v n ps)
      → cond (eqb v 0) (cond (eqb n 0) (list_from signed v n bs) none) (prepend (some (ranked signed v n)) (list_from signed 0 0 bs)) ≡ pieces_from signed v n ([] ∷ ps)
  unfolding pieces_from is_empty token_from prepend is_nil
  after-space [] h r = absurd (true≢false h)
  after-space (w ∷ ws) h r = rw (r 0 0 ∙ pieces-closed signed (w ∷ ws)) (go (eqb v 0) refl (eqb n 0) refl)
    where
      rest : Option (List ℕ)
      rest = closed (entry_of signed) (words (w ∷ ws))

      go : (s : Bool) → eqb v 0 ≡ s → (t : Bool) → eqb n 0 ≡ t
          → cond s (cond t (list_from signed v n bs) none) (prepend (some (ranked signed v n)) rest) ≡ cond (s && (t && true)) rest (prepend (cond s none (some (ranked signed v n))) rest)
      go true e true f = rw (eqb-true v 0 e, eqb-true n 0 f) (r 0 0 ∙ pieces-closed signed (w ∷ ws))
      go true e false f = refl
      go false e t f = refl

list-pieces : (signed : Bool) (l : List ℕ) (v n : ℕ) → list_from signed v n l ≡ pieces_from signed v n (pieces space l)
unfolding list_from pieces pieces_from is_zero
list-pieces signed [] v n = rw (in-none (eqb v 0) (eqb n 0))
list-pieces signed (b ∷ bs) v n = go (is_digit b) refl (eqb b space) refl (list-pieces signed bs)
  where
    w : ℕ
    w = v * 10 + (b - 48)

    go : (d : Bool) → is_digit b ≡ d → (s : Bool) → eqb b space ≡ s → ((v n : ℕ) → list_from signed v n bs ≡ pieces_from signed v n (pieces space bs))
        → cond d (cond (eqb w 0) (cond (eqb n 0 && is_nil bs) (some []) none) (cond (ltb w 100000) (list_from signed w n bs) none))
        (cond s (cond (eqb v 0) (cond (eqb n 0) (list_from signed v n bs) none) (prepend (some (ranked signed v n)) (list_from signed 0 0 bs))) (cond (may_lead signed v n b) (list_from signed v 1 bs) none))
        ≡ pieces_from signed v n (cond s ([] ∷ pieces space bs) (onto b (pieces space bs)))
    go true d true s ih = let l = digit_low b d in let e : b ≡ 32 = eqb-true b space s in absurd (omega arith)
    go true d false s ih = digit (eqb w 0) refl (ltb w 100000) refl
      where
        digit : (z : Bool) → eqb w 0 ≡ z → (k : Bool) → ltb w 100000 ≡ k
            → cond z (cond (eqb n 0 && is_nil bs) (some []) none) (cond k (list_from signed w n bs) none) ≡ pieces_from signed v n (onto b (pieces space bs))
        digit true z k f = digit-zero signed v n b bs ih d (eqb-true w 0 z)
        digit false z true f = digit-more signed v n b bs ih d (eqb-false w 0 z) (ltb-true w 100000 f)
        digit false z false f = digit-long signed v n b bs ih d (ltb-false w 100000 f)
    go false d true s ih = after-space signed v n b bs ih (pieces space bs) (pieces-some space bs) ih
    go false d false s ih = other (may_lead signed v n b) refl
      where
        other : (m : Bool) → may_lead signed v n b ≡ m → cond m (list_from signed v 1 bs) none ≡ pieces_from signed v n (onto b (pieces space bs))
        other true m = lead-more signed v n b bs ih d m
        other false m = bad-byte signed v n b bs ih d m

-- what stands before the closing 0 of a list
pub list-is : (signed : Bool) (l : List ℕ) → closed (entry_of signed) (words_of l) ≡ list_from signed 0 0 l
unfolding words_of
list-is signed l = sym (list-pieces signed l 0 0 ∙ pieces-closed signed (pieces space l))
