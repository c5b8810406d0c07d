-- The formula part of a valid model is valid (specs/Spelled.antt: `formula_part`). Its variables are 1 to V, each with the kind and the set that it has in the model.
use mathlib.Core.Path.{◌≡◌, refl, sym, ◌∙◌}
use mathlib.Core.Logic.{◌⊎◌, inl, inr}
use mathlib.Core.Bool.{true, true≢false}
use mathlib.Core.List.Memᴰ
use mathlib.Core.List.{[], ◌++◌, append-nil}
use Prim.Native.Nat.{ℕ, zero, suc, ◌≤◌, ◌<◌}
use native.Mathlib.Decide.{dec_lt}
use native.Mathlib.Omega.{arith}
use lib.IntN.{nat_abs}
use lib.ListN.{length, replicate, length-append, get_or-append, get_or-eq_default}
use Rattle.dqbf.specs.Limits.{Room}
use Rattle.dqbf.specs.Literal.{Clause, ◌∈◌, total}
use Rattle.dqbf.specs.Set.{bit, single}
use Rattle.dqbf.specs.Model.{Model, clauses, used, universal_count, kind_of, set_of}
use Rattle.dqbf.specs.Valid.{Kept, Valid}
use Rattle.dqbf.proofs.Laws.Words.{bit-zero}
use Rattle.dqbf.proofs.Laws.Models.{total-append, universal-low}
use Rattle.dqbf.specs.Spelled.{formula_part}

-- ---- kinds and sets

abbrev pub Within : Model → ℕ → Type 0
Within m x = (x ≤ length m.kinds) × (kind_of (formula_part m) x ≡ kind_of m x) × (set_of (formula_part m) x ≡ set_of m x)

abbrev pub Beyond : Model → ℕ → Type 0
Beyond m x = (length m.kinds < x) × (kind_of (formula_part m) x ≡ 0) × (set_of (formula_part m) x ≡ 0)

pub part-cases : (m : Model) → length m.sets ≡ length m.kinds → (x : ℕ) → Within m x ⊎ Beyond m x
unfolding formula_part kind_of set_of
part-cases m e zero = inl (omega arith, refl, refl)
part-cases m e (suc i) = go (dec_lt i (length m.kinds))
  where
    go : Dec (i < length m.kinds) → Within m (suc i) ⊎ Beyond m (suc i)
    go (yes h) =
        let s : i < length m.sets = omega arith in
        inl (
          h,
          get_or-append m.kinds [] 0 i h ∙ sym (get_or-append m.kinds (replicate (length m.forks) 3) 0 i h),
          get_or-append m.sets [] 0 i s ∙ sym (get_or-append m.sets m.forks 0 i s),
        )
    go (no h) =
        inr (
          omega arith,
          get_or-eq_default (m.kinds ++ []) 0 {n = i} (rw (append-nil m.kinds) (omega arith)),
          get_or-eq_default (m.sets ++ []) 0 {n = i} (rw (append-nil m.sets) (omega arith)),
        )

module _ (room : Room) (m : Model) (v : Valid room m) where
  abbrev p : Model
  p = formula_part m

  cases : (x : ℕ) → Within m x ⊎ Beyond m x
  cases = part-cases m v.even

  within-model : (x : ℕ) → x ≤ length m.kinds → Within m x
  within-model x h = go (cases x)
    where
      go : Within m x ⊎ Beyond m x → Within m x
      go (inl w) = w
      go (inr b) = absurd (omega arith)

  -- a universal of the formula part is one of the model
  universal : (x : ℕ) → kind_of p x ≡ 1 → Within m x
  universal x e = go (cases x)
    where
      go : Within m x ⊎ Beyond m x → Within m x
      go (inl w) = w
      go (inr b) = absurd (omega (arith, b.1))

  count : universal_count p ≡ universal_count m
  unfolding universal_count formula_part
  count = refl

  own-clauses : clauses p ≡ m.formula
  unfolding clauses formula_part
  own-clauses = append-nil m.formula

  few-clauses : length (clauses p) ≤ room.clauses
  unfolding clauses
  few-clauses = rw own-clauses (omega (arith, v.few-clauses, length-append m.formula m.derived))

  few-literals : total (clauses p) ≤ room.literals
  unfolding clauses
  few-literals = rw own-clauses (omega (arith, v.few-literals, total-append m.formula m.derived))

  few-variables : used p ≤ room.variables
  unfolding used formula_part
  few-variables = omega (arith, v.few-variables)

  made : length p.forks ≤ length p.derived
  unfolding formula_part
  made = omega arith

  kept : (C : Clause) → C ∈ clauses p → Kept p C
  unfolding clauses
  kept C q =
      let here : C ∈ m.formula = rw own-clauses at q in
      let k = v.kept C (Memᴰ.append_left m.derived here) in record {
        ascends = k.ascends;
        narrow = k.narrow;
        over = λ l r. let w = within-model (nat_abs l) (v.own C here l r) in λ e. k.over l r (sym w.1 ∙ e);
      }

  sole : (x : ℕ) → kind_of p x ≡ 1 → (i : ℕ) × (i < universal_count p) × (set_of p x ≡ single i)
  sole x e = let w = universal x e in let s = v.sole x (sym w.1 ∙ e) in (s.0, rw count s.1, w.2 ∙ s.2)

  different : (x y : ℕ) → kind_of p x ≡ 1 → kind_of p y ≡ 1 → set_of p x ≡ set_of p y → x ≡ y
  different x y e f h = let w = universal x e in let u = universal y f in v.different x y (sym w.1 ∙ e) (sym u.1 ∙ f) (sym w.2 ∙ h ∙ u.2)

  filled : (i : ℕ) → i < universal_count p → (x : ℕ) × (kind_of p x ≡ 1) × (set_of p x ≡ single i)
  filled i h =
      let f = v.filled i (rw count at h) in
      let w = within-model f.0 (universal-low m f.0 f.1) in
      (f.0, w.1 ∙ f.1, w.2 ∙ f.2)

  within : (x i : ℕ) → bit (set_of p x) i ≡ true → i < universal_count p
  within x i h = go (cases x)
    where
      go : Within m x ⊎ Beyond m x → i < universal_count p
      go (inl w) = rw count (v.within x i (rw w.2 at h))
      go (inr b) = absurd (true≢false (sym h ∙ rw b.2 (bit-zero i)))

  bare : (x : ℕ) → kind_of p x ≡ 0 → set_of p x ≡ 0
  bare x e = go (cases x)
    where
      go : Within m x ⊎ Beyond m x → set_of p x ≡ 0
      go (inl w) = w.2 ∙ v.bare x (sym w.1 ∙ e)
      go (inr b) = b.2

  pub part-valid : Valid room (formula_part m)
  unfolding formula_part
  part-valid = record {
    few-clauses = few-clauses;
    few-literals = few-literals;
    few-variables = few-variables;
    few-universals = rw count v.few-universals;
    made = made;
    kept = kept;
    own = v.own;
    even = v.even;
    kinds-low = v.kinds-low;
    sole = sole;
    different = different;
    filled = filled;
    within = within;
    bare = bare;
  }
