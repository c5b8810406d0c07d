-- The lines of the prefix as loops write them: the universals by place, those in a set, and a line for each existential.
use mathlib.Core.Path.{◌≡◌, refl, ◌∙◌}
use mathlib.Core.List.{List, [], ◌∷◌, ◌++◌, map, append-nil}
use Prim.Native.Nat.{ℕ, zero, suc, ◌+◌, ◌-◌, ◌≤◌, ◌<◌}
use native.Mathlib.Nat.{sub-zero}
use native.Mathlib.Numerals.{add-one}
use native.Mathlib.Omega.{arith}
use lib.Dec.{eqb}
use lib.ListN.{length, get_or, drop}
use Rattle.dqbf.specs.Set.{Set, single}
use Rattle.dqbf.specs.Line.{digits_of}
use Rattle.dqbf.specs.Model.{Model, kind_of, set_of, numbers}
use Rattle.dqbf.specs.Reading.{a_line, d_line}
use Rattle.dqbf.specs.Spelling.{line_text, text}
use Rattle.dqbf.specs.Spelled.{select, is_existential, existentials, a_lines, d_line_of}
use Rattle.dqbf.specs.Bytes.{bytes}
use Rattle.words.specs.Laid.{laid, Fits, Wrote}
use Rattle.words.specs.Listed.{listed}
use Rattle.formula_lines.specs.Working.{declarations, universal_names, is_in, members_in, universal_with, declared_from}
use Rattle.words.proofs.Laws.Laid.{Writing, writing_start, writing-next, writing-fits}
use Rattle.words.proofs.Laws.Words.{with_space}
use Rattle.words.proofs.Laws.Listed.{listed_more, a-text}
use Rattle.formula_lines.proofs.Laws.Universals.{members-in}

-- ---- numbers, and the closing 0

abbrev pub number_texts : List ℕ → List ℕ
number_texts xs = listed (map digits_of xs)

abbrev pub number_text : ℕ → List ℕ
number_text x = with_space (digits_of x)

pub number_more : (x : ℕ) (xs : List ℕ) → number_texts (x ∷ xs) ≡ number_text x ++ number_texts xs
number_more x xs = listed_more (digits_of x) (map digits_of xs)

pub members-start : (names sets : List ℕ) (s : Set) (at : ℕ) (out : List ℕ)
    → Writing (number_texts (members_in names sets s)) at out (number_texts (select (is_in sets s) (drop 0 names))) at out
unfolding members_in
members-start names sets s at out = writing_start (number_texts (members_in names sets s)) at out

-- ---- the universals by place

module _ (names sets : List ℕ) (n i : ℕ) where
  abbrev behind : List ℕ
  behind = number_texts (declared_from names sets (i + 1) (n - (i + 1)))

  texts-split : i < n → number_texts (declared_from names sets i (n - i)) ≡ number_text (universal_with names sets (single i)) ++ behind
  unfolding declared_from
  texts-split h =
      let e : n - i ≡ suc (n - (i + 1)) = omega arith in
      rw (e, add-one i) (number_more (universal_with names sets (single i)) (declared_from names sets (suc i) (n - suc i)))

  -- what was found has the set of the place
  module _ {T : List ℕ} {at₀ : ℕ} {out₀ : List ℕ} {at : ℕ} {out : List ℕ} (w : Writing T at₀ out₀ (number_texts (declared_from names sets i (n - i))) at out)
      {x s : ℕ} (found : x ≡ universal_with names sets s) (of-place : s ≡ single i) (h : i < n) where
    next : Writing T at₀ out₀ (number_text x ++ behind) at out
    next = rw (found, of-place, ← (texts-split h)) w

    pub declared-fits : Fits at₀ T → Fits at (number_text x)
    declared-fits f = writing-fits (number_text x) behind next f

    pub declared-next : {out' : List ℕ} {r : ℕ} → Wrote (number_text x) at out out' r → Writing T at₀ out₀ behind r out'
    declared-next u = writing-next (number_text x) behind next u

  pub declared-end : {T : List ℕ} {at₀ : ℕ} {out₀ : List ℕ} {at : ℕ} {out : List ℕ} → Writing T at₀ out₀ (number_texts (declared_from names sets i (n - i))) at out
      → n ≤ i → Writing T at₀ out₀ (listed []) at out
  unfolding declared_from
  declared-end w h = let e : n - i ≡ 0 = omega arith in rw e at w

pub declared-start : (names sets : List ℕ) (n at : ℕ) (out : List ℕ) → Writing (number_texts (declared_from names sets 0 n)) at out (number_texts (declared_from names sets 0 (n - 0))) at out
declared-start names sets n at out = rw (sub-zero n) (writing_start (number_texts (declared_from names sets 0 n)) at out)

-- ---- the `a` line, if there are universals

pub a-none : (names sets : List ℕ) (n at : ℕ) (out : List ℕ) → n ≡ 0 → Wrote (text (a_lines (declared_from names sets 0 n))) at out out at
unfolding declared_from a_lines text laid
a-none names sets n at out e = rw e (record { next = omega arith; left = refl })

pub a-some : (names sets : List ℕ) (n : ℕ) → (n ≡ 0 → ⊥) → text (a_lines (declared_from names sets 0 n)) ≡ bytes "a " ++ number_texts (declared_from names sets 0 n)
unfolding declared_from a_lines text
a-some names sets zero h = absurd (h refl)
a-some names sets (suc n) h =
    let us = declared_from names sets 1 n in
    let u = universal_with names sets (single 0) in
    append-nil (line_text (a_line (u ∷ us))) ∙ a-text (u ∷ us)

-- ---- a `d` line for each existential

abbrev pub d_texts : Model → List ℕ → List ℕ
d_texts m xs = text (map (d_line_of m) xs)

abbrev pub d_text : Model → ℕ → List ℕ
d_text m x = line_text (d_line_of m x)

pub d-more : (m : Model) (x : ℕ) (xs : List ℕ) → d_texts m (x ∷ xs) ≡ d_text m x ++ d_texts m xs
unfolding text
d-more m x xs = refl

module _ (kinds sets : List ℕ) where
  abbrev d : Model
  d = declarations kinds sets

  abbrev pub left_lines : ℕ → List ℕ
  left_lines i = d_texts d (select (is_existential d) (numbers i (length kinds - i)))

  pub existentials-start : (at : ℕ) (out : List ℕ) → Writing (d_texts d (existentials d)) at out (left_lines 0) at out
  unfolding existentials declarations
  existentials-start at out = rw (sub-zero (length kinds)) (writing_start (d_texts d (existentials d)) at out)

  pub existential-test : (i : ℕ) → is_existential d (i + 1) ≡ eqb (get_or kinds i 0) 2
  unfolding is_existential kind_of declarations
  existential-test i = rw (add-one i, append-nil kinds)

  set-of : (i : ℕ) → set_of d (i + 1) ≡ get_or sets i 0
  unfolding set_of declarations
  set-of i = rw (add-one i, append-nil sets)

  pub d-line-is : {names : List ℕ} → names ≡ universal_names kinds → (i : ℕ) → d_text d (i + 1) ≡ line_text (d_line (i + 1) (members_in names sets (get_or sets i 0)))
  unfolding d_line_of
  d-line-is e i = rw (set-of i, members-in kinds sets (get_or sets i 0), e)
