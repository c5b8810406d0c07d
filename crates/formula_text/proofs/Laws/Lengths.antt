-- How long the text of a valid model's formula part is. A variable has at most three digits and the clause count at most four, so that the header has at most
-- 15 bytes, the `a` line of u universals 4 + 4 u, a `d` line with u members 8 + 4 u, and a clause line of n literals 2 + 5 n.
-- Universals and existentials are different variables among 1 to V: where a `d` line may be longest, there are fewest of them.
--     spelled-short   the text has at most `tidy_limit` bytes
--     spelled-fits    it ends at `place_limit` at the latest
use mathlib.Core.Path.{◌≡◌, refl, ap}
use mathlib.Core.Logic.{◌⊎◌, inl, inr}
use mathlib.Core.Bool.{Bool, true, false, cond, false≢true}
use mathlib.Core.List.Memᴰ
use mathlib.Core.List.{List, [], ◌∷◌, ◌++◌, map}
use Prim.Native.Nat.{ℕ, zero, suc, ◌+◌, ◌-◌, ◌*◌, ◌≤◌, ◌<◌}
use native.Mathlib.Nat.{mul-suc, add-mul, mul_assoc, mul_comm, mul-le-mul_left, mul-le-mul_right}
use native.Mathlib.Omega.{arith}
use borrow.Author.Tests.{leb-true, leb-false}
use lib.Dec.{eqb, leb}
use lib.IntN.{ℤ, pos, negsuc, nat_abs}
use lib.ListN.{length, length-append}
use Rattle.dqbf.specs.Limits.{tables, variable_limit, clause_limit, literal_limit}
use Rattle.dqbf.specs.Bytes.{bytes}
use Rattle.dqbf.specs.Text.{line_feed}
use Rattle.dqbf.specs.Literal.{Clause, ◌∈◌, total}
use Rattle.dqbf.specs.Line.{digits_of}
use Rattle.dqbf.specs.Reading.{header, a_line, d_line, clause_line}
use Rattle.dqbf.specs.Set.{Set, inside}
use Rattle.dqbf.specs.Model.{Model, clauses, used, universal_count, kind_of, set_of}
use Rattle.dqbf.specs.Valid.{Valid}
use Rattle.dqbf.specs.Spelling.{literal_word, line_text, text}
use Rattle.dqbf.specs.Spelled.{formula_part, select, is_universal, is_member, members_of, is_existential, existentials, declaration_order, a_lines, d_line_of, lines_of, spelled, variables}
use Rattle.dqbf.proofs.Laws.Tests.{either, and_left, eqb_is}
use Rattle.dqbf.proofs.Laws.Models.{total-append}
use Rattle.dqbf.proofs.Laws.Digits.{digits-few}
use Rattle.dqbf.proofs.Soundness.Link.{numbers-length}
use Rattle.dqbf.proofs.Spelling.Selecting.{select_in}
use Rattle.dqbf.proofs.Spelling.Declared.{variables-in, order-length, order-low}
use Rattle.dqbf.proofs.Spelling.Lines.{text-append}
use Rattle.dqbf.proofs.Spelling.Part.{part-valid}
use Rattle.words.specs.Laid.{Fits}
use Rattle.words.specs.Listed.{listed}
use Rattle.formula_lines.specs.Working.{declarations, universal_names}
use Rattle.formula_text.specs.Writing.{tidy_limit}
use Rattle.words.proofs.Laws.Words.{with_space}
use Rattle.words.proofs.Laws.Listed.{clause-text, a-text, d-text, header-text}
use Rattle.formula_lines.proofs.Laws.Universals.{names-count}

-- ---- words

-- a variable is at most 512
abbrev Low : ℕ → Type 0
Low x = x ≤ variable_limit

digits-short : (x : ℕ) → Low x → length (digits_of x) ≤ 3
digits-short x h = digits-few 2 x (omega arith)

literal-short : (l : ℤ) → Low (nat_abs l) → length (literal_word l) ≤ 4
unfolding literal_word
literal-short (pos x) h = omega (arith, digits-short x h)
literal-short (negsuc k) h = omega (arith, digits-short (suc k) h)

listed-short : {A : Type 0} (spell : A → List ℕ) (n : ℕ) (xs : List A) → ((x : A) → x ∈ xs → length (spell x) ≤ n) → length (listed (map spell xs)) ≤ suc n * length xs + 2
unfolding listed bytes
listed-short spell n [] h = omega arith
listed-short spell n (x ∷ xs) h =
    let a = h x (Memᴰ.head refl) in
    let b = listed-short spell n xs (λ y q. h y (Memᴰ.tail q)) in
    omega (arith, length-append (spell x) (32 ∷ listed (map spell xs)), mul-suc (suc n) (length xs))

numbers-short : (xs : List ℕ) → ((x : ℕ) → x ∈ xs → Low x) → length (listed (map digits_of xs)) ≤ 4 * length xs + 2
numbers-short xs h = listed-short digits_of 3 xs (λ x q. digits-short x (h x q))

-- ---- lines

header-short : (v c : ℕ) → Low v → c ≤ clause_limit → length (line_text (header v c)) ≤ 15
unfolding bytes
header-short v c h k =
    rw (header-text v c)
    (omega (
      arith,
      digits-short v h,
      digits-few 3 c (omega arith),
      length-append (with_space (digits_of v)) (digits_of c ++ (line_feed ∷ [])),
      length-append (digits_of v) (32 ∷ []),
      length-append (digits_of c) (line_feed ∷ []),
    ))

a-short : (xs : List ℕ) → ((x : ℕ) → x ∈ xs → Low x) → length (text (a_lines xs)) ≤ 4 + 4 * length xs
unfolding a_lines text bytes
a-short [] h = omega arith
a-short (x ∷ xs) h = omega (arith, length-append (line_text (a_line (x ∷ xs))) [], ap length (a-text (x ∷ xs)), numbers-short (x ∷ xs) h)

d-short : (x : ℕ) (S : List ℕ) → Low x → ((y : ℕ) → y ∈ S → Low y) → length (line_text (d_line x S)) ≤ 8 + 4 * length S
unfolding bytes
d-short x S h k =
    rw (d-text x S)
    (omega (arith, digits-short x h, numbers-short S k, length-append (with_space (digits_of x)) (listed (map digits_of S)), length-append (digits_of x) (32 ∷ [])))

clauses-short : (Cs : List Clause) → ((C : Clause) → C ∈ Cs → (l : ℤ) → l ∈ C → Low (nat_abs l)) → length (text (map clause_line Cs)) ≤ 2 * length Cs + 5 * total Cs
unfolding text total
clauses-short [] h = omega arith
clauses-short (C ∷ Cs) h =
    let a = listed-short literal_word 4 C (λ l q. literal-short l (h C (Memᴰ.head refl) l q)) in
    let b = clauses-short Cs (λ D q. h D (Memᴰ.tail q)) in
    omega (arith, length-append (line_text (clause_line C)) (text (map clause_line Cs)), ap length (clause-text C))

-- ---- how many variables pass a test

select-fewer : (P Q : ℕ → Bool) → ((x : ℕ) → P x ≡ true → Q x ≡ true) → (xs : List ℕ) → length (select P xs) ≤ length (select Q xs)
unfolding select
select-fewer P Q h [] = omega arith
select-fewer P Q h (x ∷ xs) = go (P x) (Q x) (h x) (select-fewer P Q h xs)
  where
    go : (p q : Bool) → (p ≡ true → q ≡ true) → length (select P xs) ≤ length (select Q xs) → length (cond p (x ∷ select P xs) (select P xs)) ≤ length (cond q (x ∷ select Q xs) (select Q xs))
    go true true k r = omega arith
    go true false k r = absurd (false≢true (k refl))
    go false true k r = omega arith
    go false false k r = omega arith

-- tests that exclude each other
select_apart : (P Q : ℕ → Bool) → ((x : ℕ) → P x ≡ true → Q x ≡ true → ⊥) → (xs : List ℕ) → length (select P xs) + length (select Q xs) ≤ length xs
unfolding select
select_apart P Q h [] = omega arith
select_apart P Q h (x ∷ xs) = go (P x) (Q x) (h x) (select_apart P Q h xs)
  where
    go : (p q : Bool) → (p ≡ true → q ≡ true → ⊥) → length (select P xs) + length (select Q xs) ≤ length xs
        → length (cond p (x ∷ select P xs) (select P xs)) + length (cond q (x ∷ select Q xs) (select Q xs)) ≤ suc (length xs)
    go true true k r = absurd (k refl refl)
    go true false k r = omega arith
    go false true k r = omega arith
    go false false k r = omega arith

-- two numbers of which one is 257 and some more, the other 257 and as much less at most
product : (x y d : ℕ) → x ≤ 257 + d → y + d ≤ 257 → x * y ≤ 66049
product x y d h k =
    omega (arith, mul-le-mul_right {m = x} {n = 257 + d} y h, add-mul 257 d y, mul-le-mul_left {m = y} {n = 257} d (omega arith))

-- the `d` lines of e existentials over u universals are longest for 257 and 255
most : (e u : ℕ) → u + e ≤ variable_limit → (8 + 4 * u) * e ≤ 264196
most e u k = let whole : (8 + 4 * u) * e ≡ 4 * ((2 + u) * e) = rw (← fours) (mul_assoc 4 (2 + u) e) in omega (arith, whole, go (either (leb e 257)))
  where
    fours : 4 * (2 + u) ≡ 8 + 4 * u
    fours = omega arith

    go : (leb e 257 ≡ true) ⊎ (leb e 257 ≡ false) → (2 + u) * e ≤ 66049
    go (inl h) = let low : e ≤ 257 = leb-true e 257 h in product (2 + u) e (257 - e) (omega arith) (omega arith)
    go (inr h) = let high : 257 < e = leb-false e 257 h in rw (mul_comm (2 + u) e) (product e (2 + u) (e - 257) (omega arith) (omega arith))

-- ---- the lines of a formula part

module _ (m : Model) (v : Valid tables (formula_part m)) where
  abbrev p : Model
  p = formula_part m

  abbrev us : List ℕ
  us = declaration_order p

  abbrev es : List ℕ
  es = existentials p

  few : length p.kinds ≤ variable_limit
  unfolding used
  few = omega (arith, v.few-variables)

  few-clauses : length p.formula ≤ clause_limit
  unfolding clauses
  few-clauses = omega (arith, v.few-clauses, length-append p.formula p.derived)

  few-literals : total p.formula ≤ literal_limit
  unfolding clauses
  few-literals = omega (arith, v.few-literals, total-append p.formula p.derived)

  -- the universals are those of the listed names
  U : ℕ → Bool
  U = is_universal (declarations p.kinds [])

  universal-is : (x : ℕ) → U x ≡ eqb (kind_of p x) 1
  unfolding U is_universal declarations kind_of formula_part
  universal-is zero = refl
  universal-is (suc i) = refl

  named : length (select U (variables p)) ≡ universal_count p
  unfolding U universal_names declarations universal_count
  named = names-count p.kinds

  members-few : (s : Set) → length (members_of p s) ≤ universal_count p
  unfolding members_of is_member is_universal
  members-few s = omega (arith, named, select-fewer (is_member p s) U (λ x t. rw (universal-is x) (and_left (eqb (kind_of p x) 1) (inside (set_of p x) s) t)) (variables p))

  apart : universal_count p + length es ≤ variable_limit
  unfolding existentials is_existential
  apart = omega (arith, few, named, numbers-length 0 (length p.kinds), select_apart U (is_existential p) different (variables p))
    where
      different : (x : ℕ) → U x ≡ true → eqb (kind_of p x) 2 ≡ true → ⊥
      different x t q = let a = eqb_is (kind_of p x) 1 (rw (universal-is x) at t) in let b = eqb_is (kind_of p x) 2 q in omega arith

  chosen-low : (P : ℕ → Bool) (x : ℕ) → x ∈ select P (variables p) → Low x
  chosen-low P x q = omega (arith, few, (variables-in p x (select_in P (variables p) x q).0).1)

  d-line : (x : ℕ) → x ∈ es → length (line_text (d_line_of p x)) ≤ 8 + 4 * universal_count p
  unfolding d_line_of members_of existentials
  d-line x q = omega (arith, members-few (set_of p x), d-short x (members_of p (set_of p x)) (chosen-low (is_existential p) x q) (chosen-low (is_member p (set_of p x))))

  d-lines : (xs : List ℕ) → ((x : ℕ) → x ∈ xs → x ∈ es) → length (text (map (d_line_of p) xs)) ≤ (8 + 4 * universal_count p) * length xs
  unfolding text
  d-lines [] h = omega arith
  d-lines (x ∷ xs) h =
      let a = d-line x (h x (Memᴰ.head refl)) in
      let b = d-lines xs (λ y q. h y (Memᴰ.tail q)) in
      omega (arith, length-append (line_text (d_line_of p x)) (text (map (d_line_of p) xs)), mul-suc (8 + 4 * universal_count p) (length xs))

  lines-short : length (text (lines_of p)) ≤ tidy_limit
  unfolding lines_of text
  lines-short =
      let head = line_text (header (length p.kinds) (length p.formula)) in
      let ds = map (d_line_of p) es in
      let cs = map clause_line p.formula in
      omega (
        arith,
        length-append head (text (a_lines us ++ (ds ++ cs))),
        ap length (text-append (a_lines us) (ds ++ cs)),
        length-append (text (a_lines us)) (text (ds ++ cs)),
        ap length (text-append ds cs),
        length-append (text ds) (text cs),
        header-short (length p.kinds) (length p.formula) few few-clauses,
        a-short us (λ x q. omega (arith, few, (order-low tables p v x q).1)),
        order-length tables p v,
        v.few-universals,
        d-lines es (λ x q. q),
        most (length es) (universal_count p) apart,
        clauses-short p.formula (λ C q l k. omega (arith, few, v.own C q l k)),
        few-clauses,
        few-literals,
      )

pub spelled-short : (m : Model) → Valid tables m → length (spelled m) ≤ tidy_limit
unfolding spelled
spelled-short m v = lines-short m (part-valid tables m v)

pub spelled-fits : (m : Model) → Valid tables m → Fits 0 (spelled m)
spelled-fits m v = record { ends = omega (arith, spelled-short m v) }
