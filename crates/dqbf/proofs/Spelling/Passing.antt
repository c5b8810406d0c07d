-- The lines of a valid model pass the reader's tests (specs/Reading.antt), and what is read is `formula_of` (specs/Spelled.antt).
-- Each law reads the lines of one kind and goes on with those behind them; how many lines were read does not matter to an accepted text.
use mathlib.Core.Path.{◌≡◌, refl, sym, ◌∙◌, ap}
use mathlib.Core.Logic.{◌⊎◌, inl, inr}
use mathlib.Core.Bool.{true, false, not, ◌&&◌, ◌||◌, false≢true}
use mathlib.Core.List.Memᴰ
use mathlib.Core.List.{List, [], ◌∷◌, ◌++◌, map, map-append, append-nil, append_assoc}
use mathlib.Core.Option.{none}
use Prim.Native.Nat.{ℕ, suc, ◌+◌, ◌≤◌, ◌<◌}
use native.Mathlib.Omega.{arith}
use borrow.Author.Tests.{le-leb, lt-leb, eq-eqb}
use lib.Dec.{leb, ltb}
use lib.IntN.{ℤ, nat_abs}
use lib.ListN.{length, length-append}
use Rattle.dqbf.specs.Limits.{variable_limit, clause_limit, universal_limit, width_limit, literal_limit}
use Rattle.dqbf.specs.Refusal.{refusal}
use Rattle.dqbf.specs.Refusal as Refusal
use Rattle.dqbf.specs.Literal.{Clause, ◌∈◌, sorted, clashes, total}
use Rattle.dqbf.specs.Formula.{Declaration, on_a, on_d, universals_of, declared}
use Rattle.dqbf.specs.Reading.{Form, header, a_line, d_line, clause_line, Phase, opening, prefix_lines, clause_lines, Reader, start, is_opening, takes_clauses, takes_prefix, elem, all_in, different, fresh, undeclarable, line_tests, declaring, taken, Loaded, accepted, at_end, unless}
use Rattle.dqbf.specs.Valid.{Ascending}
use Rattle.dqbf.proofs.Laws.Tests.{both, ltb-not, never, no-not, no_or, pass}
use Rattle.dqbf.proofs.Laws.Counting.{Once, different-once, elem_in, in-elem}
use Rattle.dqbf.proofs.Laws.Clauses.{sorted-holds, sorted-in}
use Rattle.dqbf.proofs.Laws.Models.{total-append}
use Rattle.dqbf.proofs.Laws.Order.{ascending-calm, ascending-in-order, in-order-same, sorted-in-order}
use Rattle.dqbf.proofs.Reading.Lines.{declared-append, universals-append}
use Rattle.dqbf.specs.Spelled.{a_lines}
use Rattle.dqbf.proofs.Spelling.Lines.{read_forms}

-- a line that passes
pub read-passed : (f : Form) (fs : List Form) (n : ℕ) (r : Reader) → Refusal.first (line_tests r f) ≡ none → read_forms (f ∷ fs) n r ≡ read_forms fs (suc n) (taken r f)
unfolding read_forms unless
read-passed f fs n r h = rw h

no-tests : Refusal.first [] ≡ none
unfolding Refusal.first
no-tests = refl

-- ---- the header

abbrev pub in_prefix : (v c : ℕ) → List Declaration → Reader
in_prefix v c ds = record { phase = prefix_lines; count = c; formula = record { bound = v; prefix = ds; clauses = [] } }

pub header-passes : (v c : ℕ) (fs : List Form) (n : ℕ) → v ≤ variable_limit → c ≤ clause_limit → read_forms (header v c ∷ fs) n start ≡ read_forms fs (suc n) (in_prefix v c [])
unfolding line_tests taken is_opening Refusal.first
header-passes v c fs n a b =
    read-passed (header v c) fs n start
    (pass (refusal 11) (ltb variable_limit v || ltb clause_limit c) [] (no_or (ltb variable_limit v) (ltb clause_limit c) (ltb-not variable_limit v a) (ltb-not clause_limit c b)) refl)

-- ---- new variables

fresh-all : (v : ℕ) (seen xs : List ℕ) → ((x : ℕ) → x ∈ xs → x ≤ v) → ((x : ℕ) → x ∈ xs → x ∈ seen → ⊥) → Once xs → fresh v seen xs ≡ true
unfolding fresh Once
fresh-all v seen [] low new o = refl
fresh-all v seen (x ∷ xs) low new o =
    both (leb x v && not (elem x seen)) (fresh v (x ∷ seen) xs)
    (both (leb x v) (not (elem x seen)) (le-leb x v (low x (Memᴰ.head refl))) (rw (never (elem x seen) (λ t. new x (Memᴰ.head refl) (elem_in x seen t)))))
    (fresh-all v (x ∷ seen) xs (λ y q. low y (Memᴰ.tail q)) behind o.1)
  where
    behind : (y : ℕ) → y ∈ xs → y ∈ x ∷ seen → ⊥
    behind y q (Memᴰ.head e) = o.0 (rw e at q)
    behind y q (Memᴰ.tail p) = new y (Memᴰ.tail q) p

all-members : (xs ys : List ℕ) → ((y : ℕ) → y ∈ ys → y ∈ xs) → all_in xs ys ≡ true
unfolding all_in
all-members xs [] h = refl
all-members xs (y ∷ ys) h = both (elem y xs) (all_in xs ys) (in-elem y (h y (Memᴰ.head refl))) (all-members xs ys (λ z q. h z (Memᴰ.tail q)))

-- ---- the `a` line

a-tests : (v c : ℕ) (us : List ℕ) → Once us → length us ≤ universal_limit → ((u : ℕ) → u ∈ us → u ≤ v) → Refusal.first (line_tests (in_prefix v c []) (a_line us)) ≡ none
unfolding line_tests takes_prefix universals_of declared undeclarable
a-tests v c us o few low =
    pass (refusal 10) false _ refl
    (pass (refusal 11) (ltb universal_limit (length (different us))) _ (rw (different-once us o) (ltb-not universal_limit (length us) few))
    (pass (refusal 12) (not (fresh v [] us)) [] (no-not (fresh v [] us) (fresh-all v [] us low (λ x q p. Memᴰ.not-nil p) o)) no-tests))

pub a-passes : (v c : ℕ) (us : List ℕ) (fs : List Form) (n : ℕ) (k : Loaded) → Once us → length us ≤ universal_limit → ((u : ℕ) → u ∈ us → u ≤ v)
    → ((n : ℕ) → read_forms fs n (in_prefix v c (map on_a us)) ≡ k) → read_forms (a_lines us ++ fs) n (in_prefix v c []) ≡ k
unfolding a_lines taken declaring
a-passes v c [] fs n k o few low rest = rest n
a-passes v c (x ∷ xs) fs n k o few low rest = read-passed (a_line (x ∷ xs)) fs n (in_prefix v c []) (a-tests v c (x ∷ xs) o few low) ∙ rest (suc n)

-- ---- the `d` lines

one-declared : (x : ℕ) (S : List ℕ) (y : ℕ) → y ∈ declared (on_d x S ∷ []) → y ≡ x
unfolding declared
one-declared x S y q = Memᴰ.eq_of_singleton q

d-tests : (v c : ℕ) (ds : List Declaration) (x : ℕ) (S : List ℕ) → x ≤ v → (x ∈ declared ds → ⊥) → ((u : ℕ) → u ∈ S → u ∈ universals_of ds)
    → Refusal.first (line_tests (in_prefix v c ds) (d_line x S)) ≡ none
unfolding line_tests takes_prefix undeclarable Refusal.first Once
d-tests v c ds x S low new members =
    pass (refusal 12) (not (fresh v (declared ds) (x ∷ [])) || not (all_in (universals_of ds) S)) []
    (no_or (not (fresh v (declared ds) (x ∷ []))) (not (all_in (universals_of ds) S))
    (no-not (fresh v (declared ds) (x ∷ [])) (fresh-all v (declared ds) (x ∷ []) (λ y q. rw (Memᴰ.eq_of_singleton q) low) (λ y q p. new (rw (Memᴰ.eq_of_singleton q) at p)) (Memᴰ.not-nil, tt)))
    (no-not (all_in (universals_of ds) S) (all-members (universals_of ds) S members))) refl

pub d-passes : (v c : ℕ) (f : ℕ → List ℕ) (es : List ℕ) (fs : List Form) (n : ℕ) (ds : List Declaration) (k : Loaded) → Once es
    → ((x : ℕ) → x ∈ es → (x ≤ v) × (x ∈ declared ds → ⊥)) → ((x : ℕ) → x ∈ es → (u : ℕ) → u ∈ f x → u ∈ universals_of ds)
    → ((n : ℕ) → read_forms fs n (in_prefix v c (ds ++ map (λ x. on_d x (f x)) es)) ≡ k) → read_forms (map (λ x. d_line x (f x)) es ++ fs) n (in_prefix v c ds) ≡ k
unfolding taken declaring Once
d-passes v c f [] fs n ds k o new members rest = ap (λ (es : List Declaration). read_forms fs n (in_prefix v c es)) (sym (append-nil ds)) ∙ rest n
d-passes v c f (x ∷ es) fs n ds k o new members rest =
    let here = new x (Memᴰ.head refl) in
    read-passed (d_line x (f x)) (map (λ y. d_line y (f y)) es ++ fs) n (in_prefix v c ds) (d-tests v c ds x (f x) here.0 here.1 (members x (Memᴰ.head refl)))
    ∙ d-passes v c f es fs (suc n) (ds ++ (on_d x (f x) ∷ [])) k o.1 new-behind members-behind
    (λ j. ap (λ (gs : List Declaration). read_forms fs j (in_prefix v c gs)) (append_assoc ds (on_d x (f x) ∷ []) (map (λ y. on_d y (f y)) es)) ∙ rest j)
  where
    ds' : List Declaration
    ds' = ds ++ (on_d x (f x) ∷ [])

    new-behind : (y : ℕ) → y ∈ es → (y ≤ v) × (y ∈ declared ds' → ⊥)
    new-behind y q = ((new y (Memᴰ.tail q)).0, λ p. two (Memᴰ.append_cases (declared ds) (rw (declared-append ds (on_d x (f x) ∷ [])) at p)))
      where
        two : (y ∈ declared ds) ⊎ (y ∈ declared (on_d x (f x) ∷ [])) → ⊥
        two (inl p) = (new y (Memᴰ.tail q)).1 p
        two (inr p) = o.0 (rw (one-declared x (f x) y p) at q)

    members-behind : (y : ℕ) → y ∈ es → (u : ℕ) → u ∈ f y → u ∈ universals_of ds'
    members-behind y q u p = rw (universals-append ds (on_d x (f x) ∷ [])) (Memᴰ.append_left (universals_of (on_d x (f x) ∷ [])) (members y (Memᴰ.tail q) u p))

-- ---- the clause lines

pub sorted-same : (C : Clause) → Ascending C → sorted C ≡ C
sorted-same C a = in-order-same (sorted C) C (sorted-in-order C) (ascending-in-order C a) (sorted-in C) (sorted-holds C)

-- what is asked of a clause
pub record Proper (ds : List Declaration) (C : Clause) : Type 0 where
  pub ascends : Ascending C
  pub narrow : length C ≤ width_limit
  pub over : (l : ℤ) → l ∈ C → nat_abs l ∈ declared ds

all-declared : (xs : List ℕ) (C : Clause) → ((l : ℤ) → l ∈ C → nat_abs l ∈ xs) → all_in xs (map nat_abs C) ≡ true
unfolding all_in
all-declared xs [] h = refl
all-declared xs (l ∷ C) h = both (elem (nat_abs l) xs) (all_in xs (map nat_abs C)) (in-elem (nat_abs l) (h l (Memᴰ.head refl))) (all-declared xs C (λ k q. h k (Memᴰ.tail q)))

abbrev pub in_clauses : Phase → (v c : ℕ) → List Declaration → List Clause → Reader
in_clauses p v c ds Cs = record { phase = p; count = c; formula = record { bound = v; prefix = ds; clauses = Cs } }

clause-tests : (p : Phase) (v c : ℕ) (ds : List Declaration) (Cs : List Clause) (C : Clause) → takes_clauses p ≡ true → Proper ds C → map sorted Cs ≡ Cs
    → total Cs + length C ≤ literal_limit → length Cs < c → Refusal.first (line_tests (in_clauses p v c ds Cs) (clause_line C)) ≡ none
unfolding line_tests
clause-tests p v c ds Cs C takes h kept light few =
    let e = sorted-same C h.ascends in
    pass (refusal 10) (not (takes_clauses p)) _ (no-not (takes_clauses p) takes)
    (pass (refusal 11) (ltb width_limit (length (sorted C)) || ltb literal_limit (total (map sorted Cs) + length (sorted C))) _
    (rw (e, kept) (no_or (ltb width_limit (length C)) (ltb literal_limit (total Cs + length C)) (ltb-not width_limit (length C) h.narrow) (ltb-not literal_limit (total Cs + length C) light)))
    (pass (refusal 12) (not (all_in (declared ds) (map nat_abs C))) _ (no-not (all_in (declared ds) (map nat_abs C)) (all-declared (declared ds) C h.over))
    (pass (refusal 13) (clashes (sorted C)) _ (rw e (ascending-calm C h.ascends))
    (pass (refusal 14) (leb c (length Cs)) [] (lt-leb c (length Cs) few) no-tests))))

end-accepted : (p : Phase) (r : Reader) (n : ℕ) → takes_clauses p ≡ true → length r.formula.clauses ≡ r.count → at_end p r n ≡ accepted r.formula
unfolding at_end takes_clauses
end-accepted opening r n t e = absurd (false≢true t)
end-accepted prefix_lines r n t e = rw (eq-eqb (length r.formula.clauses) r.count e)
end-accepted clause_lines r n t e = rw (eq-eqb (length r.formula.clauses) r.count e)

map_more : (Cs : List Clause) (D : Clause) → map sorted Cs ≡ Cs → sorted D ≡ D → map sorted (Cs ++ (D ∷ [])) ≡ Cs ++ (D ∷ [])
map_more Cs D e d = map-append sorted Cs (D ∷ []) ∙ rw (e, d)

pub clauses-pass : (p : Phase) (v c : ℕ) (ds : List Declaration) (Cs Ds : List Clause) (n : ℕ) → takes_clauses p ≡ true → ((C : Clause) → C ∈ Ds → Proper ds C)
    → map sorted Cs ≡ Cs → total Cs + total Ds ≤ literal_limit → length Cs + length Ds ≡ c
    → read_forms (map clause_line Ds) n (in_clauses p v c ds Cs) ≡ accepted (record { bound = v; prefix = ds; clauses = Cs ++ Ds })
unfolding read_forms total taken takes_clauses
clauses-pass p v c ds Cs [] n takes h kept light count = rw (append-nil Cs) (end-accepted p (in_clauses p v c ds Cs) n takes (omega arith))
clauses-pass p v c ds Cs (D ∷ Ds) n takes h kept light count =
    read-passed (clause_line D) (map clause_line Ds) n (in_clauses p v c ds Cs)
    (clause-tests p v c ds Cs D takes (h D (Memᴰ.head refl)) kept (omega arith) (omega arith))
    ∙ clauses-pass clause_lines v c ds (Cs ++ (D ∷ [])) Ds (suc n) still (λ C q. h C (Memᴰ.tail q)) kept_more
    (rw (total-append Cs (D ∷ [])) (omega arith)) (rw (length-append Cs (D ∷ [])) (omega arith))
    ∙ ap (λ (Es : List Clause). accepted (record { bound = v; prefix = ds; clauses = Es })) (append_assoc Cs (D ∷ []) Ds)
  where
    still : takes_clauses clause_lines ≡ true
    still = refl

    kept_more : map sorted (Cs ++ (D ∷ [])) ≡ Cs ++ (D ∷ [])
    kept_more = map_more Cs D kept (sorted-same D (h D (Memᴰ.head refl)).ascends)
