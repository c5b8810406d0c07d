-- Texts laid over an output (specs/Laid.antt): one behind the other, in a loop, over an output that is long enough, and past its end.
use mathlib.Core.Path.{◌≡◌, refl, sym, ◌∙◌, ap}
use mathlib.Core.List.{List, [], ◌∷◌, ◌++◌}
use Prim.Native.Nat.{ℕ, suc, ◌+◌, ◌≤◌, ◌<◌}
use native.Mathlib.Numerals.{add-one}
use native.Mathlib.Omega.{arith}
use lib.ListN.{length, set, take, drop, get_or, length-append, length-set, drop_of_length-le}
use lib.Seq.{append_snoc, drop-cons, set_at, set_out, take_at}
use Rattle.words.specs.Laid.{laid, Fits, Wrote}

-- ---- laid

pub laid-length : (at : ℕ) (text out : List ℕ) → length (laid at text out) ≡ length out
unfolding laid
laid-length at [] out = refl
laid-length at (b ∷ text) out = laid-length (suc at) text (set out at b) ∙ length-set out at b

pub laid-append : (at : ℕ) (s t out : List ℕ) → laid at (s ++ t) out ≡ laid (at + length s) t (laid at s out)
unfolding laid
laid-append at [] t out = ap (λ (k : ℕ). laid k t out) (omega arith)
laid-append at (b ∷ s) t out = laid-append (suc at) s t (set out at b) ∙ ap (λ (k : ℕ). laid k t (laid (suc at) s (set out at b))) (omega arith)

-- nothing is stored past the end
pub laid-past : (at : ℕ) (text out : List ℕ) → length out ≤ at → laid at text out ≡ out
unfolding laid
laid-past at [] out h = refl
laid-past at (b ∷ text) out h = rw (set_out out at b h) (laid-past (suc at) text out (omega arith))

-- over an output that is long enough: the text, and behind it the output as it was
laid-behind : (front text out : List ℕ) → length text ≤ length out → laid (length front) text (front ++ out) ≡ front ++ (text ++ drop (length text) out)
unfolding laid
laid-behind front [] out h = refl
laid-behind front (b ∷ text) [] h = absurd (omega arith)
laid-behind front (b ∷ text) (x ∷ out) h =
    let long : length (front ++ (b ∷ [])) ≡ suc (length front) = omega (arith, length-append front (b ∷ [])) in
    rw (set_at front x out b (length front) refl)
    (rw (long, append_snoc front b out, append_snoc front b (text ++ drop (length text) out)) at (laid-behind (front ++ (b ∷ [])) text out (omega arith)))

pub laid-over : (text out : List ℕ) → length text ≤ length out → laid 0 text out ≡ text ++ drop (length text) out
laid-over text out h = laid-behind [] text out h

-- ---- wrote

pub wrote-both : {s t : List ℕ} {at p r : ℕ} {out mid out' : List ℕ} → Wrote s at out mid p → Wrote t p mid out' r → Wrote (s ++ t) at out out' r
wrote-both {s} {t} {at} {p} {r} {out} {mid} {out'} w u = record {
  next = omega (arith, w.next, u.next, length-append s t);
  left = u.left ∙ rw (w.next, w.left) (sym (laid-append at s t out));
}

-- ---- a loop that writes a text: what is left of it, at the place where it goes on

pub record Writing (text : List ℕ) (at₀ : ℕ) (out₀ : List ℕ) (rest : List ℕ) (at : ℕ) (out : List ℕ) : Type 0 where
  pub place : at + length rest ≡ at₀ + length text
  pub left : laid at rest out ≡ laid at₀ text out₀

pub writing_start : (text : List ℕ) (at : ℕ) (out : List ℕ) → Writing text at out text at out
writing_start text at out = record { place = refl; left = refl }

pub writing-next : {text : List ℕ} {at₀ : ℕ} {out₀ : List ℕ} (s rest : List ℕ) {at r : ℕ} {out out' : List ℕ}
    → Writing text at₀ out₀ (s ++ rest) at out → Wrote s at out out' r → Writing text at₀ out₀ rest r out'
writing-next s rest {at = at} {out = out} w u = record {
  place = omega (arith, w.place, u.next, length-append s rest);
  left = rw (u.next, u.left) (sym (laid-append at s rest out) ∙ w.left);
}

pub writing-done : {text : List ℕ} {at₀ : ℕ} {out₀ : List ℕ} {at : ℕ} {out : List ℕ} → Writing text at₀ out₀ [] at out → Wrote text at₀ out₀ out at
unfolding laid
writing-done w = record { next = omega (arith, w.place); left = w.left }

-- room for what comes next
pub writing-fits : {text : List ℕ} {at₀ : ℕ} {out₀ : List ℕ} (s rest : List ℕ) {at : ℕ} {out : List ℕ} → Writing text at₀ out₀ (s ++ rest) at out → Fits at₀ text → Fits at s
writing-fits s rest w h = record { ends = omega (arith, w.place, h.ends, length-append s rest) }

-- ---- one byte, and the bytes of a word

pub past_end : {text : List ℕ} (at : ℕ) (out : List ℕ) {n : ℕ} → n ≡ length text → length out ≤ at → Wrote text at out out (at + n)
past_end {text} at out e h = record { next = rw e; left = sym (laid-past at text out h) }

pub byte-stored : (out : List ℕ) (at b : ℕ) → Wrote (b ∷ []) at out (set out at b) (at + 1)
unfolding laid
byte-stored out at b = record { next = refl; left = refl }

pub byte_past : (out : List ℕ) (at b : ℕ) → length out ≤ at → Wrote (b ∷ []) at out out (at + 1)
unfolding laid
byte_past out at b h = record { next = refl; left = sym (set_out out at b h) }

behind : (word : List ℕ) (i : ℕ) → i < length word → drop i word ≡ (get_or word i 0 ∷ []) ++ drop (i + 1) word
behind word i h = rw (add-one i) (drop-cons word i 0 h)

module _ {word : List ℕ} {at₀ : ℕ} {out₀ : List ℕ} {i at : ℕ} {out : List ℕ} (inside : i < length word) (w : Writing word at₀ out₀ (drop i word) at out) where
  pub word_fits : Fits at₀ word → Fits at (get_or word i 0 ∷ [])
  word_fits h = writing-fits (get_or word i 0 ∷ []) (drop (i + 1) word) (rw (behind word i inside) at w) h

  pub word_next : {out' : List ℕ} {r : ℕ} → Wrote (get_or word i 0 ∷ []) at out out' r → Writing word at₀ out₀ (drop (i + 1) word) r out'
  word_next u = writing-next (get_or word i 0 ∷ []) (drop (i + 1) word) (rw (behind word i inside) at w) u

pub word-done : {word : List ℕ} {at₀ : ℕ} {out₀ : List ℕ} {i at : ℕ} {out : List ℕ} → length word ≤ i → Writing word at₀ out₀ (drop i word) at out → Wrote word at₀ out₀ out at
word-done {word} {at₀} {out₀} {i} h w = writing-done (rw (drop_of_length-le word {i = i} h) at w)

-- ---- a word at the front of a buffer

module _ (word tail buffer : List ℕ) (count : ℕ) (long : count ≡ length word) (front : buffer ≡ word ++ tail) where
  pub front-word : take count buffer ≡ word
  front-word = rw front (take_at word tail count (sym long))

  pub front-inside : count ≤ length buffer
  front-inside = rw front (omega (arith, length-append word tail))

-- ---- room for the parts of a text

pub fits-first : (s t : List ℕ) {at : ℕ} → Fits at (s ++ t) → Fits at s
fits-first s t h = record { ends = omega (arith, h.ends, length-append s t) }

pub fits-third : (s t u : List ℕ) {at p r : ℕ} {out mid out' : List ℕ} → Wrote s at out mid p → Wrote t p mid out' r → Fits at (s ++ (t ++ u)) → Fits r u
fits-third s t u w v h = record { ends = omega (arith, w.next, v.next, h.ends, length-append s (t ++ u), length-append t u) }

pub fits-second : (s t : List ℕ) {at r : ℕ} {out out' : List ℕ} → Wrote s at out out' r → Fits at (s ++ t) → Fits r t
fits-second s t w h = record { ends = omega (arith, w.next, h.ends, length-append s t) }
