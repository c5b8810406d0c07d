-- Each outcome of a question, by the tests that lead to it.
--     length-refused, variable-refused, shown-refused      numbers 1 and 2
--     length-unknown, shown-unknown, variable-zero, variable-past      number 21, and 22
--     range-asks, range-ordered, range_inside, range-short     of a clause that is there
--     length-told, shown-told, variable-told               an answer
--     variable-members                                     how many universals the set holds
use mathlib.Core.Path.{◌≡◌, ap, sym, ◌∙◌}
use mathlib.Core.Bool.{true, false, cond, ◌||◌}
use mathlib.Core.List.{List, []}
use mathlib.Core.Option.{none, some}
use Prim.Native.Nat.{ℕ, ◌+◌, ◌-◌, ◌*◌, ◌≤◌, ◌<◌}
use native.Mathlib.Nat.{zero-add}
use native.Mathlib.Omega.{arith}
use borrow.Author.Tests.{eq-eqb, ne_eqb, lt-ltb, le-ltb}
use denote.Ref.{Bor}
use lib.Dec.{eqb, ltb}
use lib.IntN.{ℤ}
use lib.ListN.{length}
use Rattle.dqbf.specs.Limits.{width_limit, tables}
use Rattle.dqbf.specs.Refusal.{Refusal, refusal}
use Rattle.dqbf.specs.Set.{size}
use Rattle.dqbf.specs.Model.{Model, used, kind_of, set_of}
use Rattle.dqbf.specs.Rules.{unknown}
use Rattle.dqbf.specs.Questions.{no_clause, clause_length, ask_clause, no_variable, variable, ask_variable, show, members}
use Rattle.dqbf.proofs.Laws.Tests.{or_left, or_right, no_or}
use Rattle.dqbf.proofs.SetSize.{set-size}
use Rattle.tables.specs.declared.State.{State}
use Rattle.tables.specs.Tables.{Tables, stretch, entry, model_in}
use Rattle.tables.specs.WellFormed.{long, well_formed}
use Rattle.tables.specs.Unusable.{unusable, unless_refused}
use Rattle.tables.proofs.Laws.Formed.{long-is, formed-is}
use Rattle.tables.proofs.Laws.Unusable.{usable, none_lent, none-formed}
use Rattle.tables.proofs.Laws.Spread.{valid-held}
use Rattle.tables.proofs.Laws.Adding.{variable-count}
use Rattle.tables.proofs.Laws.Entries.{unknown-told, clause-at, range-rises, range-ends, range_length, range-narrow, kind-told, set_told}
use Rattle.questions.specs.Answers.{length_answer, variable_answer, shown_clause, shown_start, literal_size, Shown}

-- an answer where a refusal comes first, and where none does
unless-refused : {A : Type 0} {r : Refusal} (t : Tables) (s : State) (f : Refusal → A) (a : A) → unusable t s ≡ some r → f r ≡ unless_refused (unusable t s) f a
unfolding unless_refused
unless-refused t s f a e = rw e

unless-none : {A : Type 0} (t : Tables) (s : State) (f : Refusal → A) (a : A) → unusable t s ≡ none → a ≡ unless_refused (unusable t s) f a
unfolding unless_refused
unless-none t s f a e = rw e

-- the empty part at the start of the literals
nothing : (t : Tables) (s : State) (c : ℕ) (l r : Bor (List ℤ)) → r.now ≡ [] → r.ref_ptr ≡ l.ref_ptr → [] ≡ shown_clause t s c → 0 ≡ shown_start t s c → Shown t s c l r
nothing t s c l r p q e f = record {
  clause = p ∙ e;
  place = q ∙ ap (λ n. (l.ref_ptr.0, n)) (sym (rw (← f) (zero-add l.ref_ptr.1)));
}

module _ (t : Tables) (s : State) (c : ℕ) where
  -- ---- numbers 1 and 2

  module _ {r : Refusal} (e : some r ≡ unusable t s) where
    pub length-refused : no_clause r ≡ length_answer t s c
    unfolding length_answer
    length-refused = unless-refused t s no_clause (ask_clause (model_in t s) c) (sym e)

    pub variable-refused : no_variable r ≡ variable_answer t s c
    unfolding variable_answer
    variable-refused = unless-refused t s no_variable (ask_variable (model_in t s) c) (sym e)

    pub shown-refused : (l r : Bor (List ℤ)) → r.now ≡ [] → r.ref_ptr ≡ l.ref_ptr → Shown t s c l r
    unfolding shown_clause shown_start
    shown-refused l r p q =
        nothing t s c l r p q (unless-refused t s (λ x. []) (show (model_in t s) c) (sym e))
        (unless-refused t s (λ x. 0) (cond (unknown (model_in t s) c) 0 (entry t.ends (c - 1))) (sym e))

  -- ---- of well-formed tables

  module _ (z : none ≡ unusable t s) where
    abbrev m : Model
    m = model_in t s

    lent : long t ≡ true
    lent = none_lent t s (sym z)

    formed : well_formed t s ≡ true
    formed = none-formed t s (sym z)

    asked-length : ask_clause m c ≡ length_answer t s c
    unfolding length_answer
    asked-length = unless-none t s no_clause (ask_clause m c) (usable t s lent formed)

    asked-variable : ask_variable m c ≡ variable_answer t s c
    unfolding variable_answer
    asked-variable = unless-none t s no_variable (ask_variable m c) (usable t s lent formed)

    asked-clause : show m c ≡ shown_clause t s c
    unfolding shown_clause
    asked-clause = unless-none t s (λ x. []) (show m c) (usable t s lent formed)

    asked-start : cond (unknown m c) 0 (entry t.ends (c - 1)) ≡ shown_start t s c
    unfolding shown_start
    asked-start = unless-none t s (λ x. 0) (cond (unknown m c) 0 (entry t.ends (c - 1))) (usable t s lent formed)

    -- ---- a clause number that is 0, or above the count

    pub clause-zero : c ≡ 0 → unknown m c ≡ true
    clause-zero e = unknown-told t s lent formed c ∙ or_left (eqb c 0) (ltb s.clauses.0 c) (eq-eqb c 0 e)

    pub clause-past : s.clauses.0 < c → unknown m c ≡ true
    clause-past h = unknown-told t s lent formed c ∙ or_right (eqb c 0) (ltb s.clauses.0 c) (lt-ltb s.clauses.0 c h)

    module _ (e : unknown m c ≡ true) where
      pub length-unknown : no_clause (refusal 21) ≡ length_answer t s c
      unfolding ask_clause
      length-unknown = rw (← asked-length, e)

      pub shown-unknown : (l r : Bor (List ℤ)) → r.now ≡ [] → r.ref_ptr ≡ l.ref_ptr → Shown t s c l r
      unfolding show
      shown-unknown l r p q =
          let none : [] ≡ shown_clause t s c = rw (← asked-clause, e) in
          let start : 0 ≡ shown_start t s c = rw (← asked-start, e) in
          nothing t s c l r p q none start

    -- ---- a clause that is there, between two ends

    module _ (some : c ≡ 0 → ⊥) (known : c ≤ s.clauses.0) where
      clause-known : unknown m c ≡ false
      clause-known = unknown-told t s lent formed c ∙ no_or (eqb c 0) (ltb s.clauses.0 c) (ne_eqb c 0 some) (le-ltb s.clauses.0 c known)

      pub range-asks : (0 < c) × (c ≤ length t.ends)
      range-asks = (omega (arith, some), omega (arith, (formed-is t s formed).counts.clauses, (long-is t lent).ends))

      module _ (start end : ℕ) (p : start ≡ entry t.ends (c - 1)) (q : end ≡ entry t.ends c) where
        pub range-ordered : start ≤ end
        range-ordered = omega (arith, range-rises t s lent formed c some known)

        pub range_inside : end ≤ length t.literals
        range_inside = omega (arith, range-ends t s lent formed c some known)

        pub range-short : end - start ≤ width_limit
        range-short = omega (arith, range-narrow t s lent formed c some known)

        pub length-told : clause_length (end - start) ≡ length_answer t s c
        unfolding ask_clause
        length-told = rw (← asked-length, clause-known, range_length t s lent formed c some known, p, q)

        pub shown-told : (l r : Bor (List ℤ)) → r.now ≡ stretch start end t.literals → r.ref_ptr ≡ (l.ref_ptr.0, start * literal_size + l.ref_ptr.1) → Shown t s c l r
        unfolding show
        shown-told l r a b = record {
          clause = rw (← asked-clause, clause-known, clause-at t s lent formed c some known) (rw (p, q) at a);
          place = rw (← asked-start, clause-known) (rw p at b);
        }

    -- ---- a variable

    variable-test : (eqb c 0 || ltb (used m) c) ≡ (eqb c 0 || ltb s.variables.0 c)
    variable-test = ap (λ i. eqb c 0 || ltb i c) (variable-count t s lent formed)

    not-in-use : (eqb c 0 || ltb s.variables.0 c) ≡ true → no_variable (refusal 22) ≡ variable_answer t s c
    unfolding ask_variable
    not-in-use e = rw (← asked-variable, variable-test, e)

    pub variable-zero : c ≡ 0 → no_variable (refusal 22) ≡ variable_answer t s c
    variable-zero e = not-in-use (or_left (eqb c 0) (ltb s.variables.0 c) (eq-eqb c 0 e))

    pub variable-past : s.variables.0 < c → no_variable (refusal 22) ≡ variable_answer t s c
    variable-past h = not-in-use (or_right (eqb c 0) (ltb s.variables.0 c) (lt-ltb s.variables.0 c h))

    pub variable-told : (c ≡ 0 → ⊥) → c ≤ s.variables.0 → (k w i : ℕ) → k ≡ entry t.kinds c → w ≡ entry t.sets c → i ≡ size w → variable k i ≡ variable_answer t s c
    unfolding ask_variable
    variable-told nonzero known k w i a b d =
        rw (
          ← asked-variable,
          variable-test,
          no_or (eqb c 0) (ltb s.variables.0 c) (ne_eqb c 0 nonzero) (le-ltb s.variables.0 c known),
          a,
          d,
          b,
          ← kind-told t s lent formed c known,
          ← set_told t s lent formed c known,
        )

    -- the number told is that of the universals in the variable's set
    pub variable-members : (c ≡ 0 → ⊥) → c ≤ s.variables.0 → variable_answer t s c ≡ variable (kind_of m c) (members m (set_of m c))
    unfolding ask_variable
    variable-members nonzero known =
        rw (
          ← asked-variable,
          variable-test,
          no_or (eqb c 0) (ltb s.variables.0 c) (ne_eqb c 0 nonzero) (le-ltb s.variables.0 c known),
          set-size tables m (valid-held t s lent formed) c,
        )
