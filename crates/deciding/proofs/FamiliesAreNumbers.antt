-- Every family answers, for the existentials, as the functions of a number: the number is gathered from the family's answers at the rows of each table.
use mathlib.Core.Path.{◌≡◌, sym, ◌∙◌}
use mathlib.Core.Logic.{◌≢◌}
use mathlib.Core.Bool.{Bool, true}
use mathlib.Core.List.{List}
use Prim.Native.Nat.{ℕ, suc, ◌≤◌, ◌<◌}
use native.Mathlib.Decide.{dec_lt}
use native.Mathlib.Omega.{arith}
use lib.Dec.{eqb}
use lib.ListN.{length, length-map}
use Rattle.dqbf.specs.Literal.{◌∈◌}
use Rattle.dqbf.specs.Set.{bit}
use Rattle.dqbf.specs.Formula.{Formula, universals, existential, var}
use Rattle.dqbf.specs.Meaning.{Setting, given, Functions, Family}
use Rattle.dqbf.specs.Model.{Model, universal_count, kind_of, set_of, place, word_of, kind_for, numbers, model_by, model_of}
use Rattle.dqbf.proofs.Laws.Counting.{word-has}
use Rattle.dqbf.proofs.Laws.Words.{bit-small}
use Rattle.dqbf.proofs.Soundness.Link.{numbers-length}
use Rattle.deciding.specs.Deciding.{table_bits, total_bits, row, function_at}
use Rattle.deciding.specs.Families.{word_for, functions_of, Exact}
use Rattle.deciding.specs.Statements.{FamiliesAreNumbers}
use Rattle.deciding.proofs.Laws.Rows.{rows_fill, unrow, unrow-row}
use Rattle.deciding.proofs.Laws.Numbers.{gather, gather-small, gather-bit}
use Rattle.deciding.proofs.Laws.Settings.{word-given, word_small, setting_of, setting-bit}
use Rattle.deciding.proofs.Laws.Variables.{in-model}

module _ (φ : Formula) (exact : Exact φ) (g : Functions φ) (F : Family φ g) where
  abbrev m : Model
  m = model_of φ

  abbrev us : List ℕ
  us = universals φ

  -- the family's answer at a row of a variable's table
  answers : ℕ → ℕ → Bool
  answers x r = g x (setting_of us (unrow (universal_count m) (set_of m x) r))

  number : ℕ
  number = gather m answers (suc (length m.kinds))

  bound-is : length m.kinds ≡ φ.bound
  unfolding model_by
  bound-is = length-map (numbers 0 φ.bound) (λ x. kind_for (var φ x)) ∙ numbers-length 0 φ.bound

  -- the setting at a setting's row agrees with it on the set
  row-agrees : (x : ℕ) (S : List ℕ) → set_of m x ≡ word_of us S → (σ : Setting us) (u : ℕ) → u ∈ S
      → given σ u ≡ given (setting_of us (unrow (universal_count m) (set_of m x) (row (universal_count m) (set_of m x) (word_for σ)))) u
  row-agrees x S e σ u q = word-given σ u ∙ go (dec_lt (place us u) (length us)) ∙ sym (word-given τ u)
    where
      τ : Setting us
      τ = setting_of us (unrow (universal_count m) (set_of m x) (row (universal_count m) (set_of m x) (word_for σ)))

      go : Dec (place us u < length us) → bit (word_for σ) (place us u) ≡ bit (word_for τ) (place us u)
      go (yes l) =
          sym (unrow-row (universal_count m) (set_of m x) (word_for σ) (place us u) (rw exact.counted l) (rw e (word-has us S u q)))
          ∙ sym (setting-bit us (unrow (universal_count m) (set_of m x) (row (universal_count m) (set_of m x) (word_for σ))) (place us u) l)
      go (no l) = bit-small (length us) (word_for σ) (place us u) (word_small σ) (omega arith) ∙ sym (bit-small (length us) (word_for τ) (place us u) (word_small τ) (omega arith))

  answers-alike : (x : ℕ) (S : List ℕ) → var φ x ≡ existential S → (σ : Setting us) → g x σ ≡ functions_of φ number x σ
  unfolding functions_of function_at table_bits number answers
  answers-alike x S e σ = F x S e σ (setting_of us (unrow (universal_count m) (set_of m x) r)) (row-agrees x S set σ) ∙ sym (gather-bit m answers (suc (length m.kinds)) x r in_use (rw kind (rows_fill (universal_count m) (set_of m x) (word_for σ))))
    where
      r : ℕ
      r = row (universal_count m) (set_of m x) (word_for σ)

      there : (x ≢ 0) × (x ≤ φ.bound)
      there = exact.numbered x (λ z. let o : ◌≡◌ {A = ℕ} 0 1 = cc in omega arith)

      held : (kind_of m x ≡ 2) × (set_of m x ≡ word_of us S)
      held = in-model φ x S e there.1 there.0

      set : set_of m x ≡ word_of us S
      set = held.1

      kind : eqb (kind_of m x) 2 ≡ true
      kind = rw held.0

      in_use : x < suc (length m.kinds)
      in_use = let l = there.1 in let k = bound-is in omega arith

pub families-are-numbers : FamiliesAreNumbers
unfolding total_bits number
families-are-numbers φ exact g F =
    (number φ exact g F, gather-small (model_of φ) (answers φ exact g F) (suc (length (model_of φ).kinds)), answers-alike φ exact g F)
