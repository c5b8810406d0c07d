-- The answer means what it says.
use mathlib.Core.Path.{◌≡◌, refl, sym, ◌∙◌, ap, ap₂}
use mathlib.Core.Bool.{Bool, true, false, cond, ◌||◌, true≢false}
use mathlib.Core.Option.{Option, none, some}
use mathlib.Core.List.{List, [], ◌∷◌}
use Prim.Native.Nat.{ℕ, zero, suc, ◌^◌}
use native.Mathlib.Omega.{arith}
use lib.IntN.{ℤ, pos, negsuc}
use Rattle.dqbf.specs.Refusal.{refusal}
use Rattle.dqbf.specs.Literal.{Clause}
use Rattle.dqbf.specs.Formula.{Formula, universals, Var, undeclared, universal, existential, var}
use Rattle.dqbf.specs.Meaning.{Setting, Functions, value, is, literal, clause, True, Refuted}
use Rattle.dqbf.specs.Model.{model_of}
use Rattle.deciding.specs.Deciding.{total_bits, makes_true, first_family, above, decided, decide, undecided}
use Rattle.deciding.specs.Families.{functions_of, Exact, FirstTrue, Meant}
use Rattle.deciding.specs.Statements.{DecidesByMeaning}
use Rattle.deciding.proofs.Laws.Truth.{true-is, is_true}
use Rattle.deciding.proofs.Laws.Least.{least-some, least-none}
use Rattle.deciding.proofs.NumbersAreFamilies.{numbers-are-families}
use Rattle.deciding.proofs.FamiliesAreNumbers.{families-are-numbers}

-- ---- only the functions of existentials are asked

module _ (φ : Formula) (f g : Functions φ) (alike : (x : ℕ) (S : List ℕ) → var φ x ≡ existential S → (σ : Setting (universals φ)) → f x σ ≡ g x σ)
    (σ : Setting (universals φ)) where
  value_same : (x : ℕ) → value (var φ x) x (f x) σ ≡ value (var φ x) x (g x) σ
  unfolding value
  value_same x = go (var φ x) refl
    where
      go : (v : Var) → var φ x ≡ v → value v x (f x) σ ≡ value v x (g x) σ
      go undeclared e = refl
      go universal e = refl
      go (existential S) e = ap some (alike x S e σ)

  literal-same : (l : ℤ) → literal φ f σ l ≡ literal φ g σ l
  unfolding literal
  literal-same (pos zero) = refl
  literal-same (pos (suc k)) = ap (is true) (value_same (suc k))
  literal-same (negsuc k) = ap (is false) (value_same (suc k))

  clause-same : (C : Clause) → clause φ f σ C ≡ clause φ g σ C
  unfolding clause
  clause-same [] = refl
  clause-same (l ∷ C) = ap₂ ◌||◌ (literal-same l) (clause-same C)

-- ---- the first family

module _ (φ : Formula) (exact : Exact φ) where
  pub first-true : (f : ℕ) → first_family (model_of φ) ≡ some f → FirstTrue φ f
  unfolding first_family
  first-true f h =
      let l = least-some 0 (2 ^ total_bits (model_of φ)) (makes_true (model_of φ)) f h in
      record {
        family = numbers-are-families φ f;
        makes-true = is_true φ exact f l.passes;
        first = λ g less t. true≢false (sym (true-is φ exact g t) ∙ l.first g (omega arith) less);
      }

  pub none-refuted : first_family (model_of φ) ≡ none → Refuted φ
  unfolding first_family
  none-refuted h g F t =
      let n = families-are-numbers φ exact g F in
      let f = n.0 in
      let true-too : True φ (functions_of φ f) = λ C q σ. sym (clause-same φ g (functions_of φ f) n.2 σ C) ∙ t C q σ in
      let l = n.1 in
      true≢false (sym (true-is φ exact f true-too) ∙ least-none 0 (2 ^ total_bits (model_of φ)) (makes_true (model_of φ)) h f (omega arith) (omega arith))

  answer-meant : (o : Option ℕ) → first_family (model_of φ) ≡ o → Meant φ (decided o)
  unfolding Meant decided
  answer-meant none h = none-refuted h
  answer-meant (some f) h = first-true f h

  meant : (b : Bool) → above (model_of φ) ≡ b → Meant φ (cond b (undecided (refusal 31)) (decided (first_family (model_of φ))))
  unfolding Meant
  meant true e = (refl, e)
  meant false e = answer-meant (first_family (model_of φ)) refl

pub decides-by-meaning : DecidesByMeaning
unfolding decide
decides-by-meaning m φ part exact = rw (← part) (meant φ exact (above (model_of φ)) refl)
