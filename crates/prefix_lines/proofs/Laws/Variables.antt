-- What a variable is by the declarations so far (dqbf, specs/Formula.antt), and what one declaration more changes.
--     subject, made                                     the variable of a declaration, and what it is
--     kind-declared, kind-universal, set-universal      a variable is declared, or a universal, by its kind; a universal's set
--     var-other, var-new, var-none                      one more declaration
--     place-grown, place-new, word-grown, word_more, places-full, set_grown     more universals: earlier places and sets stay
-- Assumes nothing.
use mathlib.Core.Path.{◌≡◌, refl, ap, sym, ◌∙◌}
use mathlib.Core.Logic.{◌⊎◌, inl, inr}
use mathlib.Core.Bool.{Bool, true, false, cond, not, ◌||◌, true≢false}
use mathlib.Core.List.Memᴰ
use mathlib.Core.List.{List, [], ◌∷◌, ◌++◌, append-nil, append_assoc}
use Prim.Native.Nat.{ℕ, zero, suc, ◌-◌, ◌^◌, ◌≤◌}
use native.Mathlib.Nat.{one-mul, pow-suc}
use native.Mathlib.Omega.{arith}
use lib.Bits.{or_zero_r, or_shifted_r}
use lib.Dec.{eqb}
use lib.ListN.{length, get_or, take}
use lib.Pow.{pow_pos, ones_lt}
use lib.Seq.{take-length, take-suc}
use Rattle.dqbf.specs.Literal.{◌∈◌}
use Rattle.dqbf.specs.Set.{single, union}
use Rattle.dqbf.specs.Formula.{Declaration, on_a, on_e, on_d, Formula, declared, universals_of, universals, e_set, Var, undeclared, universal, existential, declared_as, var_by, var}
use Rattle.dqbf.specs.Model.{place, word_of, kind_for, set_for}
use Rattle.dqbf.specs.Reading.{elem}
use Rattle.dqbf.proofs.Laws.Tests.{eqb_is, eqb-not, eqb_same, never, or_no}
use Rattle.dqbf.proofs.Laws.Counting.{Once, elem_in, place_at}
use Rattle.dqbf.proofs.Reading.Lines.{universals-declared, universals-append}
use Rattle.dqbf.proofs.LoadValid.{e_set-names, set-in}
use Rattle.dqbf.proofs.Soundness.Link.{universal-in}
use Rattle.prefix_lines.proofs.Laws.Rows.{union_assoc}

-- ---- one declaration: its variable, and what that is, with the universals `earlier` before it

unfoldable pub subject : Declaration → ℕ
subject (on_a x) = x
subject (on_e x) = x
subject (on_d x S) = x

unfoldable pub made : (earlier : List ℕ) → Declaration → Var
made earlier (on_a x) = universal
made earlier (on_e x) = existential earlier
made earlier (on_d x S) = existential S

declared-cons : (d : Declaration) (ds : List Declaration) → declared (d ∷ ds) ≡ subject d ∷ declared ds
unfolding declared subject
declared-cons (on_a x) ds = refl
declared-cons (on_e x) ds = refl
declared-cons (on_d x S) ds = refl

-- a variable, by the declaration in front or by those behind it
var-cons : (earlier all : List ℕ) (d : Declaration) (ds : List Declaration) (x : ℕ)
    → declared_as e_set earlier all (d ∷ ds) x ≡ cond (eqb x (subject d)) (made earlier d) (declared_as e_set (earlier ++ universals_of (d ∷ [])) all ds x)
unfolding declared_as e_set subject made universals_of
var-cons earlier all (on_a y) ds x = refl
var-cons earlier all (on_e y) ds x = rw (append-nil earlier)
var-cons earlier all (on_d y S) ds x = rw (append-nil earlier)

kind-some : (earlier : List ℕ) (d : Declaration) → eqb (kind_for (made earlier d)) 0 ≡ false
unfolding kind_for made
kind-some earlier (on_a x) = refl
kind-some earlier (on_e x) = refl
kind-some earlier (on_d x S) = refl

-- ---- kinds

kind-declared-in : (earlier all : List ℕ) (ds : List Declaration) (x : ℕ) → eqb (kind_for (declared_as e_set earlier all ds x)) 0 ≡ not (elem x (declared ds))
unfolding elem kind_for declared_as declared
kind-declared-in earlier all [] x = refl
kind-declared-in earlier all (d ∷ ds) x =
    rw (declared-cons d ds, var-cons earlier all d ds x) (go (eqb x (subject d)) (declared_as e_set (earlier ++ universals_of (d ∷ [])) all ds x) (kind-declared-in (earlier ++ universals_of (d ∷ [])) all ds x))
  where
    go : (b : Bool) (v : Var) → eqb (kind_for v) 0 ≡ not (elem x (declared ds)) → eqb (kind_for (cond b (made earlier d) v)) 0 ≡ not (b || elem x (declared ds))
    go true v e = kind-some earlier d
    go false v e = e

pub kind-declared : (φ : Formula) (x : ℕ) → eqb (kind_for (var φ x)) 0 ≡ not (elem x (declared φ.prefix))
unfolding var_by
kind-declared φ x = kind-declared-in [] (universals φ) φ.prefix x

kind-universal-in : (earlier all : List ℕ) (ds : List Declaration) (x : ℕ) → Once (declared ds) → eqb (kind_for (declared_as e_set earlier all ds x)) 1 ≡ elem x (universals_of ds)
unfolding declared_as e_set declared universals_of elem Once kind_for
kind-universal-in earlier all [] x o = refl
kind-universal-in earlier all (on_a y ∷ ds) x o = go (eqb x y) (declared_as e_set (earlier ++ (y ∷ [])) all ds x) (kind-universal-in (earlier ++ (y ∷ [])) all ds x o.1)
  where
    go : (b : Bool) (v : Var) → eqb (kind_for v) 1 ≡ elem x (universals_of ds) → eqb (kind_for (cond b universal v)) 1 ≡ (b || elem x (universals_of ds))
    go true v e = refl
    go false v e = e
kind-universal-in earlier all (on_e y ∷ ds) x o = go (eqb x y) refl (declared_as e_set earlier all ds x) (kind-universal-in earlier all ds x o.1)
  where
    go : (b : Bool) → eqb x y ≡ b → (v : Var) → eqb (kind_for v) 1 ≡ elem x (universals_of ds) → eqb (kind_for (cond b (existential earlier) v)) 1 ≡ elem x (universals_of ds)
    go true q v e = sym (never (elem x (universals_of ds)) (λ h. o.0 (rw (eqb_is x y q) at (universals-declared ds x (elem_in x (universals_of ds) h)))))
    go false q v e = e
kind-universal-in earlier all (on_d y S ∷ ds) x o = go (eqb x y) refl (declared_as e_set earlier all ds x) (kind-universal-in earlier all ds x o.1)
  where
    go : (b : Bool) → eqb x y ≡ b → (v : Var) → eqb (kind_for v) 1 ≡ elem x (universals_of ds) → eqb (kind_for (cond b (existential S) v)) 1 ≡ elem x (universals_of ds)
    go true q v e = sym (never (elem x (universals_of ds)) (λ h. o.0 (rw (eqb_is x y q) at (universals-declared ds x (elem_in x (universals_of ds) h)))))
    go false q v e = e

pub kind-universal : (φ : Formula) (x : ℕ) → Once (declared φ.prefix) → eqb (kind_for (var φ x)) 1 ≡ elem x (universals φ)
unfolding var_by
kind-universal φ x o = kind-universal-in [] (universals φ) φ.prefix x o

-- a universal's set is its own place
pub set-universal : (us : List ℕ) (x : ℕ) (v : Var) → kind_for v ≡ 1 → set_for us x v ≡ single (place us x)
unfolding kind_for set_for
set-universal us x undeclared h = absurd (omega arith)
set-universal us x universal h = refl
set-universal us x (existential S) h = absurd (omega arith)

-- ---- one more declaration

-- the universals of the file do not count
all_same : (earlier all all' : List ℕ) (ds : List Declaration) (x : ℕ) → declared_as e_set earlier all ds x ≡ declared_as e_set earlier all' ds x
unfolding declared_as
all_same earlier all all' [] x = refl
all_same earlier all all' (d ∷ ds) x =
    rw (var-cons earlier all d ds x, var-cons earlier all' d ds x, all_same (earlier ++ universals_of (d ∷ [])) all all' ds x)

other-in : (earlier all : List ℕ) (ds : List Declaration) (d : Declaration) (x : ℕ) → (x ≡ subject d → ⊥) → declared_as e_set earlier all (ds ++ (d ∷ [])) x ≡ declared_as e_set earlier all ds x
unfolding declared_as
other-in earlier all [] d x n = var-cons earlier all d [] x ∙ rw (eqb-not x (subject d) n)
other-in earlier all (e ∷ ds) d x n =
    rw (var-cons earlier all e (ds ++ (d ∷ [])) x, var-cons earlier all e ds x, other-in (earlier ++ universals_of (e ∷ [])) all ds d x n)

new_in : (earlier all : List ℕ) (ds : List Declaration) (d : Declaration) → elem (subject d) (declared ds) ≡ false
    → declared_as e_set earlier all (ds ++ (d ∷ [])) (subject d) ≡ made (earlier ++ universals_of ds) d
unfolding elem universals_of
new_in earlier all [] d h = var-cons earlier all d [] (subject d) ∙ rw (eqb_same (subject d), append-nil earlier)
new_in earlier all (e ∷ ds) d h =
    let n = or_no (eqb (subject d) (subject e)) (elem (subject d) (declared ds)) (rw (declared-cons e ds) at h) in
    let us : (earlier ++ universals_of (e ∷ [])) ++ universals_of ds ≡ earlier ++ universals_of (e ∷ ds) =
    append_assoc earlier (universals_of (e ∷ [])) (universals_of ds) ∙ ap (earlier ++◌) (sym (universals-append (e ∷ []) ds)) in
    rw (var-cons earlier all e (ds ++ (d ∷ [])) (subject d), n.0, ← us) (new_in (earlier ++ universals_of (e ∷ [])) all ds d n.1)

-- an undeclared variable is none
none_in : (earlier all : List ℕ) (ds : List Declaration) (x : ℕ) → elem x (declared ds) ≡ false → declared_as e_set earlier all ds x ≡ undeclared
unfolding declared_as elem
none_in earlier all [] x h = refl
none_in earlier all (e ∷ ds) x h =
    let n = or_no (eqb x (subject e)) (elem x (declared ds)) (rw (declared-cons e ds) at h) in
    rw (var-cons earlier all e ds x, n.0) (none_in (earlier ++ universals_of (e ∷ [])) all ds x n.1)

abbrev pub declaring_to : Formula → Declaration → Formula
declaring_to φ d = record { bound = φ.bound; prefix = φ.prefix ++ (d ∷ []); clauses = φ.clauses }

module _ (φ : Formula) where
  pub var-other : (d : Declaration) (x : ℕ) → (x ≡ subject d → ⊥) → var (declaring_to φ d) x ≡ var φ x
  unfolding var_by
  var-other d x n =
      all_same [] (universals_of (φ.prefix ++ (d ∷ []))) (universals φ) (φ.prefix ++ (d ∷ [])) x ∙ other-in [] (universals φ) φ.prefix d x n

  pub var-new : (d : Declaration) → elem (subject d) (declared φ.prefix) ≡ false → var (declaring_to φ d) (subject d) ≡ made (universals φ) d
  unfolding var_by
  var-new d h = new_in [] (universals_of (φ.prefix ++ (d ∷ []))) φ.prefix d h

  pub var-none : (x : ℕ) → elem x (declared φ.prefix) ≡ false → var φ x ≡ undeclared
  unfolding var_by
  var-none x h = none_in [] (universals φ) φ.prefix x h

-- ---- more universals

pub place-grown : (us vs : List ℕ) (x : ℕ) → x ∈ us → place (us ++ vs) x ≡ place us x
unfolding place
place-grown [] vs x q = elim q [ ]
place-grown (u ∷ us) vs x q = go (eqb x u) refl (Memᴰ.cases_cons q) (λ k. place-grown us vs x k)
  where
    go : (b : Bool) → eqb x u ≡ b → (x ≡ u) ⊎ (x ∈ us) → (x ∈ us → place (us ++ vs) x ≡ place us x) → cond b 0 (suc (place (us ++ vs) x)) ≡ cond b 0 (suc (place us x))
    go true e k ih = refl
    go false e (inl k) ih = absurd (let t : eqb x u ≡ true = rw k (eqb_same u) in true≢false (sym t ∙ e))
    go false e (inr k) ih = ap suc (ih k)

pub place-new : (us : List ℕ) (x : ℕ) → elem x us ≡ false → place (us ++ (x ∷ [])) x ≡ length us
unfolding place elem
place-new [] x h = rw (eqb_same x)
place-new (u ∷ us) x h = let n = or_no (eqb x u) (elem x us) h in rw n.0 (ap suc (place-new us x n.1))

pub word-grown : (us vs S : List ℕ) → ((u : ℕ) → u ∈ S → u ∈ us) → word_of (us ++ vs) S ≡ word_of us S
unfolding word_of
word-grown us vs [] h = refl
word-grown us vs (y ∷ S) h = rw (place-grown us vs y (h y (Memᴰ.head refl)), word-grown us vs S (λ u q. h u (Memᴰ.tail q)))

pub word_more : (us S T : List ℕ) → word_of us (S ++ T) ≡ union (word_of us S) (word_of us T)
unfolding word_of
word_more us [] T = refl
word_more us (y ∷ S) T = rw (word_more us S T) (sym (union_assoc (single (place us y)) (word_of us S) (word_of us T)))

-- the places of all universals are the lowest ones
pub places-full : (us : List ℕ) → Once us → word_of us us ≡ 2 ^ length us - 1
places-full us once = ap (word_of us) (sym (take-length us)) ∙ go (length us) (omega arith)
  where
    filled : (k : ℕ) → union (2 ^ k - 1) (2 ^ k) ≡ 2 ^ suc k - 1
    filled k =
        let shifted = or_shifted_r 1 k (2 ^ k - 1) (ones_lt k) in
        rw (one-mul (2 ^ k)) at shifted ∙ rw (pow-suc 2 k) (omega (arith, pow_pos k))

    go : (k : ℕ) → k ≤ length us → word_of us (take k us) ≡ 2 ^ k - 1
    go zero h = unfold word_of in refl
    go (suc k) h =
        let one : word_of us (get_or us k 0 ∷ []) ≡ 2 ^ k = unfold word_of in or_zero_r (single (place us (get_or us k 0))) ∙ ap single (place_at us k once h) in
        rw (take-suc us k 0 h, word_more us (take k us) (get_or us k 0 ∷ []), go k (omega arith), one) (filled k)

-- the sets so far stay, where the members of each are universals
pub set_grown : (φ : Formula) (vs : List ℕ) (x : ℕ) → ((y : ℕ) (S : List ℕ) → on_d y S ∈ φ.prefix → (u : ℕ) → u ∈ S → u ∈ universals φ)
    → set_for (universals φ ++ vs) x (var φ x) ≡ set_for (universals φ) x (var φ x)
unfolding set_for var_by
set_grown φ vs x lists = stays (var φ x) refl
  where
    us : List ℕ
    us = universals φ

    stays : (v : Var) → var φ x ≡ v → set_for (universals φ ++ vs) x v ≡ set_for (universals φ) x v
    stays undeclared e = refl
    stays universal e = ap single (place-grown us vs x (universal-in e_set [] us φ.prefix x e))
    stays (existential S) e =
        word-grown us vs S (λ u q. set-in e_set e_set-names us [] us φ.prefix (λ w k. absurd (Memᴰ.not-nil k)) (λ w k. k) (λ w k. k) lists x S e u q)
