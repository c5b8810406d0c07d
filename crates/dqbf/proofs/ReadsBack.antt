-- The text of a valid model's formula part is read as that formula (specs/Statements/ReadsBack.antt).
use mathlib.Core.Path.{◌≡◌, refl, ◌∙◌, ap}
use mathlib.Core.Logic.{◌⊎◌, inl, inr, ◌≢◌}
use mathlib.Core.List.Memᴰ
use mathlib.Core.List.{List, [], ◌∷◌, ◌++◌, map}
use Prim.Native.Nat.{ℕ, zero, suc, ◌≤◌}
use native.Mathlib.Omega.{arith}
use lib.IntN.{ℤ, nat_abs}
use lib.ListN.{length, length-append}
use Rattle.dqbf.specs.Limits.{tables, text_limit, variable_limit, clause_limit, literal_limit}
use Rattle.dqbf.specs.Literal.{Clause, ◌∈◌, total}
use Rattle.dqbf.specs.Formula.{Declaration, on_a, on_d, declared}
use Rattle.dqbf.specs.Reading.{Form, header, clause_line, prefix_lines, takes_clauses, start, load, accepted}
use Rattle.dqbf.specs.Model.{Model, clauses, used, kind_of, set_of}
use Rattle.dqbf.specs.Valid.{Valid}
use Rattle.dqbf.proofs.Laws.Tests.{ltb-not}
use Rattle.dqbf.proofs.Laws.Models.{total-append}
use Rattle.dqbf.proofs.Reading.Lines.{declared-append, declared-a, universals-a}
use Rattle.dqbf.specs.Spelled.{formula_part, declaration_order, members_of, existentials, a_lines, d_line_of, lines_of, spelled, formula_of}
use Rattle.dqbf.specs.Statements.ReadsBack.{ReadsBack, LoadsBack}
use Rattle.dqbf.proofs.Spelling.Lines.{Variable, Spellable, read_forms, read-text}
use Rattle.dqbf.proofs.Spelling.Part.{part-valid}
use Rattle.dqbf.proofs.Spelling.Declared.{order-length, order-once, order-universal, order-low, universal-order, member_is, existential-is, is-existential, existentials-once}
use Rattle.dqbf.proofs.Spelling.Passing.{Proper, in_prefix, header-passes, a-passes, d-passes, clauses-pass}
use Rattle.dqbf.proofs.Spelling.Restored.{declared-kind, restored}

declared-d : (f : ℕ → List ℕ) (es : List ℕ) → declared (map (λ x. on_d x (f x)) es) ≡ es
unfolding declared
declared-d f [] = refl
declared-d f (x ∷ es) = ap (x ∷◌) (declared-d f es)

module _ (m : Model) (v : Valid tables m) where
  abbrev bound : ℕ
  bound = length m.kinds

  abbrev us : List ℕ
  us = declaration_order m

  abbrev es : List ℕ
  es = existentials m

  abbrev members : ℕ → List ℕ
  members x = members_of m (set_of m x)

  -- ---- every number of the lines has at most five digits

  few-variables : bound ≤ variable_limit
  unfolding used
  few-variables = omega (arith, v.few-variables)

  few-clauses : length m.formula ≤ clause_limit
  unfolding clauses
  few-clauses = omega (arith, v.few-clauses, length-append m.formula m.derived)

  variable : (x : ℕ) → (x ≢ 0) × (x ≤ bound) → Variable x
  variable x h = (h.0, omega (arith, h.1, few-variables))

  literal-low : (C : Clause) → C ∈ m.formula → (l : ℤ) → l ∈ C → (nat_abs l ≢ 0) × (nat_abs l ≤ bound)
  unfolding clauses kind_of
  literal-low C q l k = ((λ e. (v.kept C (Memᴰ.append_left m.derived q)).over l k (ap (kind_of m) e)), v.own C q l k)

  member-low : (x u : ℕ) → u ∈ members x → (u ∈ us) × ((u ≢ 0) × (u ≤ bound))
  member-low x u q = let here = universal-order tables m v u (member_is tables m v (set_of m x) u q).0 in (here, order-low tables m v u here)

  a-spellable : (xs : List ℕ) → ((x : ℕ) → x ∈ xs → Variable x) → (f : Form) → f ∈ a_lines xs → Spellable f
  unfolding a_lines Spellable
  a-spellable [] h f q = absurd (Memᴰ.not-nil q)
  a-spellable (x ∷ xs) h f q = rw (Memᴰ.eq_of_singleton q) ((λ e. let z : ◌≡◌ {A = ℕ} 0 1 = cc in omega arith), h)

  d-spellable : (x : ℕ) → x ∈ es → Spellable (d_line_of m x)
  unfolding d_line_of Spellable
  d-spellable x q y (Memᴰ.head e) = rw e (variable x ((existential-is tables m v x q).1, (existential-is tables m v x q).2))
  d-spellable x q y (Memᴰ.tail p) = variable y (member-low x y p).1

  clause-spellable : (C : Clause) → C ∈ m.formula → Spellable (clause_line C)
  unfolding Spellable
  clause-spellable C q l k = variable (nat_abs l) (literal-low C q l k)

  header-spellable : Spellable (header bound (length m.formula))
  unfolding Spellable
  header-spellable = (omega (arith, few-variables), omega (arith, few-clauses))

  pub spellable : (f : Form) → f ∈ lines_of m → Spellable f
  unfolding lines_of
  spellable f (Memᴰ.head e) = rw e header-spellable
  spellable f (Memᴰ.tail q) = go (Memᴰ.append_cases (a_lines us) q)
    where
      two : (f ∈ map (d_line_of m) es) ⊎ (f ∈ map clause_line m.formula) → Spellable f
      two (inl p) = let d = Memᴰ.of_map (d_line_of m) es p in rw (← d.2) (d-spellable d.0 d.1)
      two (inr p) = let d = Memᴰ.of_map clause_line m.formula p in rw (← d.2) (clause-spellable d.0 d.1)

      go : (f ∈ a_lines us) ⊎ (f ∈ map (d_line_of m) es ++ map clause_line m.formula) → Spellable f
      go (inl p) = a-spellable us (λ x r. variable x (order-low tables m v x r)) f p
      go (inr p) = two (Memᴰ.append_cases (map (d_line_of m) es) p)

  -- ---- the lines pass

  abbrev ds : List Declaration
  ds = map on_a us ++ map (λ x. on_d x (members x)) es

  declared-are : declared ds ≡ us ++ es
  declared-are = declared-append (map on_a us) (map (λ x. on_d x (members x)) es) ∙ rw (declared-a us, declared-d members es)

  -- the variable of a literal is a universal or an existential
  declared-in : (x : ℕ) → x ≢ 0 → x ≤ bound → kind_of m x ≢ 0 → x ∈ us ++ es
  declared-in zero p l k = absurd (p refl)
  declared-in (suc i) p l k = go (declared-kind tables m v i l)
    where
      go : (kind_of m (suc i) ≡ 0) ⊎ ((kind_of m (suc i) ≡ 1) ⊎ (kind_of m (suc i) ≡ 2)) → suc i ∈ us ++ es
      go (inl e) = absurd (k e)
      go (inr (inl e)) = Memᴰ.append_left es (universal-order tables m v (suc i) e)
      go (inr (inr e)) = Memᴰ.append_right us (is-existential tables m v (suc i) p l e)

  proper : (C : Clause) → C ∈ m.formula → Proper ds C
  unfolding clauses
  proper C q =
      let k = v.kept C (Memᴰ.append_left m.derived q) in record {
        ascends = k.ascends;
        narrow = k.narrow;
        over = λ l r. let low = literal-low C q l r in rw declared-are (declared-in (nat_abs l) low.0 low.1 (k.over l r));
      }

  few-literals : total m.formula ≤ literal_limit
  unfolding clauses
  few-literals = omega (arith, v.few-literals, total-append m.formula m.derived)

  clauses-read : (n : ℕ) → read_forms (map clause_line m.formula) n (in_prefix bound (length m.formula) ds) ≡ accepted (formula_of m)
  unfolding formula_of takes_clauses total
  clauses-read n = clauses-pass prefix_lines bound (length m.formula) ds [] m.formula n refl proper refl (omega (arith, few-literals)) (omega arith)

  d-read : (n : ℕ) → read_forms (map (d_line_of m) es ++ map clause_line m.formula) n (in_prefix bound (length m.formula) (map on_a us)) ≡ accepted (formula_of m)
  unfolding d_line_of
  d-read n =
      d-passes bound (length m.formula) members es (map clause_line m.formula) n (map on_a us) (accepted (formula_of m)) (existentials-once tables m v)
      (λ x q. ((existential-is tables m v x q).2, λ p. apart x q (rw (declared-a us) at p)))
      (λ x q u p. rw (universals-a us) (member-low x u p).0) clauses-read
    where
      apart : (x : ℕ) → x ∈ es → x ∈ us → ⊥
      apart x q p = let a = (existential-is tables m v x q).0 in let b = order-universal tables m v x p in omega arith

  pub lines-read : read_forms (lines_of m) 0 start ≡ accepted (formula_of m)
  unfolding lines_of
  lines-read =
      header-passes bound (length m.formula) _ 0 (omega (arith, few-variables)) (omega (arith, few-clauses))
      ∙ a-passes bound (length m.formula) us _ 1 (accepted (formula_of m)) (order-once tables m v) (rw (order-length tables m v) v.few-universals)
      (λ u q. (order-low tables m v u q).1) d-read

pub reads-back : ReadsBack
unfolding spelled formula_part
reads-back m v =
    let w = part-valid tables m v in
    let p = formula_part m in
    (read-text (lines_of p) (spellable p w) 0 start ∙ lines-read p w, restored tables p w)

pub loads-back : LoadsBack
unfolding load
loads-back m v short = let r = reads-back m v in (rw (ltb-not text_limit (length (spelled m)) short) r.0, r.1)
