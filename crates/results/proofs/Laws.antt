-- Results: their fields, that of a shown clause, and that of a written text.
--     case-is, first-is, second_is, third-is      the case, and values of 16 bits
--     first-cut, second-cut, third-cut            any values
--     two_fields                                  the length of a written text from its two values
--     stretch-shown                               a shown clause from its place and its length
use mathlib.Core.Path.{◌≡◌, refl}
use mathlib.Core.Bool.{Bool, true, false, cond}
use mathlib.Core.List.{[]}
use mathlib.Core.Option.{Option, none, some}
use Prim.Native.Nat.{ℕ, ◌+◌, ◌-◌, ◌*◌, ◌/◌, ◌%◌, ◌<◌}
use native.Mathlib.Omega.{arith}
use lib.ListN.{length}
use Rattle.dqbf.specs.Refusal.{Refusal, refusal}
use Rattle.dqbf.specs.Rules.{unknown, clause_at}
use Rattle.dqbf.specs.Questions.{clause_length, no_clause, ask_clause, show}
use Rattle.tables.specs.Tables.{Tables, entry, model_in}
use Rattle.tables.specs.Unusable.{unusable, unless_refused}
use Rattle.tables.specs.declared.State.{State}
use Rattle.formula_text.specs.Writing.{text_length}
use Rattle.questions.specs.Answers.{length_answer, shown_start, shown_clause}
use Rattle.results.specs.Results.{packed, field, show_result, stretch_result, write_result}

-- a field of three numbers of 16 bits behind the case
module _ (k x y z : ℕ) (h : k < 65536) (p : x < 65536) (q : y < 65536) (r : z < 65536) where
  abbrev all : ℕ
  all = k + 65536 * x + 4294967296 * y + 281474976710656 * z

  case-of : all % 65536 ≡ k
  case-of = omega arith

  first_of : all / 65536 % 65536 ≡ x
  first_of = omega arith

  second-of : all / 65536 / 65536 % 65536 ≡ y
  second-of = omega arith

  third_of : all / 65536 / 65536 / 65536 % 65536 ≡ z
  third_of = omega arith

-- a value of more than 16 bits is cut
module _ (k a b c : ℕ) (h : k < 65536) where
  pub case-is : field 0 (packed k a b c) ≡ k
  unfolding field packed
  case-is = case-of k (a % 65536) (b % 65536) (c % 65536) h (omega arith) (omega arith) (omega arith)

  pub first-cut : field 1 (packed k a b c) ≡ a % 65536
  unfolding field packed
  first-cut = first_of k (a % 65536) (b % 65536) (c % 65536) h (omega arith) (omega arith) (omega arith)

  pub second-cut : field 2 (packed k a b c) ≡ b % 65536
  unfolding field packed
  second-cut = second-of k (a % 65536) (b % 65536) (c % 65536) h (omega arith) (omega arith) (omega arith)

  pub third-cut : field 3 (packed k a b c) ≡ c % 65536
  unfolding field packed
  third-cut = third_of k (a % 65536) (b % 65536) (c % 65536) h (omega arith) (omega arith) (omega arith)

  pub first-is : a < 65536 → field 1 (packed k a b c) ≡ a
  first-is i = omega (arith, first-cut)

  pub second_is : b < 65536 → field 2 (packed k a b c) ≡ b
  second_is i = omega (arith, second-cut)

  pub third-is : c < 65536 → field 3 (packed k a b c) ≡ c
  third-is i = omega (arith, third-cut)

-- both values of a length below 2^32 make the length again
halves : (n : ℕ) → n < 4294967296 → field 1 (packed 1 n (n / 65536) 0) + 65536 * field 2 (packed 1 n (n / 65536) 0) ≡ n
halves n h = rw (first-cut 1 n (n / 65536) 0 (omega arith), second-cut 1 n (n / 65536) 0 (omega arith)) (omega arith)

pub two_fields : (n : ℕ) → n < 4294967296 → field 1 (write_result (text_length n)) + 65536 * field 2 (write_result (text_length n)) ≡ n
unfolding write_result
two_fields n h = halves n h

-- where the clause before ends and the length of the clause make the shown stretch
pub stretch-shown : (t : Tables) (s : State) (n : ℕ) → stretch_result (entry t.ends (n - 1)) (length_answer t s n) ≡ show_result (shown_start t s n) (shown_clause t s n)
unfolding length_answer shown_start shown_clause unless_refused ask_clause show show_result stretch_result
stretch-shown t s n = go (unusable t s) (unknown (model_in t s) n)
  where
    go : (o : Option Refusal) (k : Bool)
        → stretch_result (entry t.ends (n - 1)) (unless_refused o no_clause (cond k (no_clause (refusal 21)) (clause_length (length (clause_at (model_in t s) n)))))
        ≡ show_result (unless_refused o (λ r. 0) (cond k 0 (entry t.ends (n - 1)))) (unless_refused o (λ r. []) (cond k [] (clause_at (model_in t s) n)))
    go none true = refl
    go none false = refl
    go (some r) k = refl
