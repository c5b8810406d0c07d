-- Formulas whose models say all of them (specs/Families.antt: `Exact`): no universal is declared twice, and variables are 1 to V. Those of accepted texts are such,
-- and the one that a valid model holds.
use mathlib.Core.Path.{◌≡◌, refl, ◌∙◌, ap, ap₂}
use mathlib.Core.Logic.{◌⊎◌, inl, inr, ◌≢◌}
use mathlib.Core.List.Memᴰ
use mathlib.Core.List.{List, [], ◌∷◌, ◌++◌, map}
use Prim.Native.Nat.{ℕ, ◌≤◌}
use native.Mathlib.Omega.{arith}
use lib.ListN.{length}
use Rattle.dqbf.specs.Limits.{tables}
use Rattle.dqbf.specs.Literal.{◌∈◌}
use Rattle.dqbf.specs.Formula.{Formula, on_a, on_d, declared, universals, e_set, var_by}
use Rattle.dqbf.specs.Reading.{Reader}
use Rattle.dqbf.specs.Model.{Model, set_of, model_of}
use Rattle.dqbf.specs.Spelled.{formula_part, declaration_order, members_of, existentials, formula_of}
use Rattle.dqbf.specs.Valid.{Valid}
use Rattle.dqbf.proofs.Laws.Counting.{Once, once-append}
use Rattle.dqbf.proofs.LoadValid.{count-is}
use Rattle.dqbf.proofs.Reading.Lines.{Sane, load-sane, something-in, declared-append, declared-a}
use Rattle.dqbf.proofs.Spelling.Declared.{order-once, order-universal, order-low, existential-is, existentials-once}
use Rattle.dqbf.proofs.Spelling.Part.{part-valid}
use Rattle.dqbf.proofs.Spelling.Restored.{restored}
use Rattle.deciding.specs.Families.{Exact}
use Rattle.deciding.specs.Statements.{LoadExact, DecidesHeld}
use Rattle.deciding.proofs.Deciding.{decides-by-meaning}

-- a formula without repeated declarations, of variables 1 to V
exact-is : (φ : Formula) → Once (declared φ.prefix) → ((x : ℕ) → x ∈ declared φ.prefix → (x ≢ 0) × (x ≤ φ.bound)) → Exact φ
unfolding var_by
exact-is φ once known = record { counted = count-is φ once known; numbered = λ x d. known x (something-in e_set [] (universals φ) φ.prefix x d) }

-- ---- of an accepted text

pub load-exact : LoadExact
load-exact text φ h = exact-is φ (rw read.3 at read.1.once) known
  where
    read : (r : Reader) × Sane r × (length r.formula.clauses ≡ r.count) × (r.formula ≡ φ)
    read = load-sane text φ h

    known : (x : ℕ) → x ∈ declared φ.prefix → (x ≢ 0) × (x ≤ φ.bound)
    known x q = let k : x ∈ declared read.0.formula.prefix = rw read.3 q in (read.1.high x k, rw read.3 at (read.1.low x k))

-- ---- of a valid model

declared-d : (f : ℕ → List ℕ) (xs : List ℕ) → declared (map (λ x. on_d x (f x)) xs) ≡ xs
unfolding declared
declared-d f [] = refl
declared-d f (x ∷ xs) = ap (x ∷◌) (declared-d f xs)

module _ (m : Model) (v : Valid tables m) where
  abbrev us : List ℕ
  us = declaration_order m

  abbrev es : List ℕ
  es = existentials m

  declared-are : declared (formula_of m).prefix ≡ us ++ es
  unfolding formula_of
  declared-are =
      declared-append (map on_a us) (map (λ x. on_d x (members_of m (set_of m x))) es) ∙ ap₂ {C = List ℕ} ◌++◌ (declared-a us) (declared-d (λ x. members_of m (set_of m x)) es)

  once : Once (us ++ es)
  once = once-append us es (order-once tables m v) (existentials-once tables m v) apart
    where
      apart : (x : ℕ) → x ∈ us → x ∈ es → ⊥
      apart x p q = let a = order-universal tables m v x p in let b = (existential-is tables m v x q).0 in omega arith

  known : (x : ℕ) → x ∈ us ++ es → (x ≢ 0) × (x ≤ length m.kinds)
  known x q = go (Memᴰ.append_cases us q)
    where
      go : (x ∈ us) ⊎ (x ∈ es) → (x ≢ 0) × (x ≤ length m.kinds)
      go (inl p) = order-low tables m v x p
      go (inr p) = let e = existential-is tables m v x p in (e.1, e.2)

  held-exact : Exact (formula_of m)
  unfolding formula_of
  held-exact = exact-is (formula_of m) (rw declared-are once) (λ x q. known x (rw declared-are at q))

part-part : (m : Model) → formula_part (formula_part m) ≡ formula_part m
unfolding formula_part
part-part m = refl

pub decides-held : DecidesHeld
decides-held m v =
    let p = formula_part m in
    let w = part-valid tables m v in
    let back : model_of (formula_of p) ≡ p = restored tables p w ∙ part-part m in
    let exact = held-exact p w in
    (back, exact, decides-by-meaning m (formula_of p) back exact)
