-- The outcomes of a written formula, taken apart (specs/Writing.antt): what holds of each refusal, which leaves the output, and of the text at its front holds of the outcome.
use mathlib.Core.Path.{◌≡◌, refl, ap}
use mathlib.Core.Bool.{Bool, true, false}
use mathlib.Core.List.{List}
use Prim.Native.Nat.{ℕ, ◌≤◌, ◌<◌}
use native.Mathlib.Omega.{arith}
use borrow.Author.Tests.{ltb-false, ltb-true}
use lib.Dec.{ltb}
use lib.ListN.{length, drop, length-append}
use Rattle.dqbf.specs.Refusal.{refusal, first}
use Rattle.dqbf.specs.Spelled.{spelled}
use Rattle.tables.specs.Tables.{Tables, model_in}
use Rattle.tables.specs.Unusable.{table_tests, unless_refused}
use Rattle.tables.specs.WellFormed.{long, well_formed}
use Rattle.tables.specs.declared.State.{State}
use Rattle.formula_text.specs.Writing.{TextAnswer, text_length, no_text, write_tests, write_told, in_front, AfterWrite, write_of}
use Rattle.std.specs.Prelude.{Result, Ok}
use Rattle.dqbf.specs.declared.refusal.Refusal as Code

module _ (t : Tables) (s : State) (out : List ℕ) where
  abbrev T : List ℕ
  T = spelled (model_in t s)

  -- well-formed tables, and an output shorter than their text
  abbrev pub TooShort : Type 0
  TooShort = (long t ≡ true) × (well_formed t s ≡ true) × (length out < length T)

  module _ (P : AfterWrite → Type 0) (refused : (n : ℕ) → n < 65536 → (n ≡ 30 → TooShort) → P (record { answer = no_text (refusal n); output = out }))
      (told : long t ≡ true → well_formed t s ≡ true → length T ≤ length out → P (record { answer = text_length (length T); output = in_front T out })) where
    pub written-by : P (write_of t s out)
    unfolding write_of write_tests table_tests first unless_refused
    written-by = go (long t) refl (well_formed t s) refl (ltb (length out) (length T)) refl
      where
        go : (a : Bool) → long t ≡ a → (b : Bool) → well_formed t s ≡ b → (c : Bool) → ltb (length out) (length T) ≡ c → P (write_of t s out)
        go false e b f c g = rw e (refused 1 (omega arith) (λ z. absurd (omega arith)))
        go true e false f c g = rw (e, f) (refused 2 (omega arith) (λ z. absurd (omega arith)))
        go true e true f true g = rw (e, f, g) (refused 30 (omega arith) (λ z. (e, f, ltb-true _ _ g)))
        go true e true f false g = rw (e, f, g) (told e f (ltb-false _ _ g))

  -- a text that is written is no longer than its output
  pub text-inside : {out' : List ℕ} {w : Result ℕ Code.Refusal} (n : ℕ) → ◌≡◌ {A = AfterWrite} (record { answer = write_told w; output = out' }) (write_of t s out) → w ≡ Ok n → n ≤ length out'
  unfolding in_front
  text-inside {out'} {w} n e q =
      written-by (λ x. ◌≡◌ {A = AfterWrite} (record { answer = text_length n; output = out' }) x → n ≤ length out') (λ k h short d. absurd (never k (ap answered d)))
      (λ lent formed fits d.
      let same : text_length n ≡ text_length (length T) = ap answered d in
      let is : n ≡ length T = cc in
      rw (ap (λ (x : AfterWrite). x.output) d) (omega (arith, is, length-append T (drop (length T) out))))
      (rw q at e)
    where
      answered : AfterWrite → TextAnswer
      answered x = x.answer

      never : (k : ℕ) → text_length n ≡ no_text (refusal k) → ⊥
      never k h = let z : ◌≡◌ {A = ℕ} 0 1 = cc in omega arith
