-- What the writers ask of well-formed tables, and each outcome of `write_formula` by the tests that lead to it (specs/Writing.antt).
use mathlib.Core.Path.{◌≡◌, sym, ◌∙◌, ap}
use mathlib.Core.Bool.{Bool, true, false}
use mathlib.Core.List.{List, [], ◌∷◌, ◌++◌}
use Prim.Native.Nat.{ℕ, ◌*◌, ◌≤◌}
use native.Mathlib.Omega.{arith}
use borrow.Author.Tests.{le-ltb, ltb-false}
use lib.Dec.{ltb}
use lib.IntN.{ℤ}
use lib.ListN.{length, take, drop}
use lib.Seq.{length-take-le, take-take}
use mathlib.Core.Option.{none, some}
use Rattle.dqbf.specs.Refusal.{Refusal, refusal, ◌when◌, first}
use Rattle.dqbf.specs.Model.{Model, universals_in, universal_count}
use Rattle.dqbf.proofs.Laws.Tests.{first_some, first-none}
use Rattle.tables.specs.declared.State.{State}
use Rattle.tables.specs.Tables.{Tables, tables_of, cut, model_in}
use Rattle.tables.specs.WellFormed.{long, well_formed}
use Rattle.tables.specs.Unusable.{table_tests, unusable, unless_refused}
use Rattle.tables.proofs.Laws.Formed.{Long, Formed, long-is, formed-is}
use Rattle.tables.proofs.Laws.Lent.{long-words, taken-sets}
use Rattle.tables.proofs.Laws.Held.{count-universals}
use Rattle.tables.proofs.Laws.Spread.{valid-held}
use Rattle.tables.proofs.Laws.Unusable.{usable, none_lent, none-formed}
use Rattle.dqbf.specs.Spelling.{text}
use Rattle.dqbf.specs.Spelled.{formula_in, lines_of, spelled}
use Rattle.sets.specs.Words.{words_each, as_sets}
use Rattle.words.specs.Laid.{Fits, Wrote}
use Rattle.formula_lines.specs.Working.{Rises}
use Rattle.formula_text.specs.Entries.{Entries}
use Rattle.formula_text.specs.Writing.{tidy_limit, text_length, no_text, write_tests, in_front, AfterWrite, write_of}
use Rattle.words.proofs.Laws.Laid.{laid-over}
use Rattle.formula_lines.proofs.Laws.Clauses.{rises-from, rises-more, rises-take}
use Rattle.formula_text.proofs.Laws.Whole.{part_in}
use Rattle.formula_text.proofs.Laws.Lengths.{spelled-short, spelled-fits}

-- ---- well-formed tables

module _ (t : Tables) (s : State) (lent : long t ≡ true) (formed : well_formed t s ≡ true) where
  abbrev kinds : List ℕ
  kinds = take s.bound.0 t.kinds

  abbrev sets : List ℕ
  sets = take s.bound.0 t.sets

  abbrev ends : List ℕ
  ends = take s.formula.0 t.ends

  abbrev lines : List ℕ
  lines = text (lines_of (formula_in kinds sets (cut 0 ends t.literals)))

  L : Long t
  L = long-is t lent

  F : Formed t s
  F = formed-is t s formed

  formula-in-use : s.formula.0 ≤ s.clauses.0
  formula-in-use = omega (arith, F.counts.adds)

  pub bound-kinds : s.bound.0 ≡ length kinds
  bound-kinds = sym (length-take-le s.bound.0 t.kinds (omega (arith, F.counts.bound, L.kinds)))

  bound-sets : s.bound.0 ≡ length sets
  bound-sets = sym (length-take-le s.bound.0 t.sets (omega (arith, F.counts.bound, L.sets)))

  pub formula-ends : s.formula.0 ≡ length ends
  formula-ends = sym (length-take-le s.formula.0 t.ends (omega (arith, F.counts.formula, L.ends)))

  pub spelled-lines : spelled (model_in t s) ≡ lines
  unfolding spelled
  spelled-lines = ap (λ (m : Model). text (lines_of m)) (part_in t s F.counts.in_use formula-in-use)

  lines_fit : Fits 0 lines
  lines_fit = rw spelled-lines at (spelled-fits (model_in t s) (valid-held t s lent formed))

  rise : Rises 0 ends (length t.literals)
  rise =
      let r = rises-take s.formula.0 0 (take s.clauses.0 t.ends) s.literals (rises-from 0 (take s.clauses.0 t.ends) s.literals F.rise) in
      rises-more 0 ends s.literals (length t.literals) (omega (arith, F.counts.literals, L.literals))
      (rw (take-take s.formula.0 s.clauses.0 t.ends formula-in-use) at r)

  counted : s.universals ≡ universals_in kinds
  unfolding universal_count model_in
  counted = sym (count-universals t s L F) ∙ ap universals_in (take-take s.bound.0 s.variables.0 t.kinds F.counts.in_use)

  pub entries-ask : Fits 0 lines × Entries t.literals ends sets kinds
  entries-ask = (
    lines_fit,
    record {
      rise = rise;
      few-clauses = omega (arith, formula-ends, F.counts.formula);
      even = omega (arith, bound-kinds, bound-sets);
      few-variables = omega (arith, bound-kinds, F.counts.bound);
      few-universals = omega (arith, counted, F.counts.universals);
    },
  )

-- the declared sets, by their words
module _ (l : List ℤ) (e w k : List ℕ) (s : State) (lent : long (tables_of l e w k) ≡ true) (formed : well_formed (tables_of l e w k) s ≡ true) where
  bound-room : 4 * s.bound.0 ≤ length w
  bound-room = omega (arith, (formed-is (tables_of l e w k) s formed).counts.bound, long-words w (long-is (tables_of l e w k) lent).sets)

  pub bound-words : 4 * s.bound.0 ≡ length (take (4 * s.bound.0) w)
  bound-words = sym (length-take-le (4 * s.bound.0) w bound-room)

  pub sets-declared : as_sets words_each (take (4 * s.bound.0) w) ≡ take s.bound.0 (as_sets words_each w)
  sets-declared = taken-sets w s.bound.0 bound-room

-- ---- whether an output is shorter than the text

module _ (t : Tables) (s : State) (lent : long t ≡ true) (formed : well_formed t s ≡ true) (size : ℕ) where
  pub long-is-enough : tidy_limit ≤ size → false ≡ ltb size (length (spelled (model_in t s)))
  long-is-enough h = sym (le-ltb size (length (spelled (model_in t s))) (omega (arith, spelled-short (model_in t s) (valid-held t s lent formed))))

-- ---- the outcomes

module _ (t : Tables) (s : State) (out : List ℕ) where
  abbrev T : List ℕ
  T = spelled (model_in t s)

  pub write-refused : {r : Refusal} → some r ≡ unusable t s → ◌≡◌ {A = AfterWrite} (record { answer = no_text r; output = out }) (write_of t s out)
  unfolding write_of write_tests unless_refused unusable
  write-refused {r} e = rw (first_some (table_tests t s) ((refusal 30 when ltb (length out) (length T)) ∷ []) r (sym e))

  module _ (z : none ≡ unusable t s) where
    pub formed-asks : (long t ≡ true) × (well_formed t s ≡ true)
    formed-asks = (none_lent t s (sym z), none-formed t s (sym z))

    past : first (write_tests t s out) ≡ first ((refusal 30 when ltb (length out) (length T)) ∷ [])
    unfolding write_tests unusable
    past = first-none (table_tests t s) ((refusal 30 when ltb (length out) (length T)) ∷ []) (usable t s formed-asks.0 formed-asks.1)

    module _ {short : Bool} (measured : short ≡ ltb (length out) (length T)) where
      pub write-short : short ≡ true → ◌≡◌ {A = AfterWrite} (record { answer = no_text (refusal 30); output = out }) (write_of t s out)
      unfolding write_of unless_refused first
      write-short h = rw (past, sym measured ∙ h)

      pub write_done : short ≡ false → {out' : List ℕ} {k : ℕ} → Wrote T 0 out out' k → ◌≡◌ {A = AfterWrite} (record { answer = text_length k; output = out' }) (write_of t s out)
      unfolding write_of unless_refused first in_front
      write_done h {out'} {k} u =
          let not-less = sym measured ∙ h in
          let e : k ≡ length T = omega (arith, u.next) in
          let f : out' ≡ T ++ drop (length T) out = u.left ∙ laid-over T out (ltb-false (length out) (length T) not-less) in
          rw (past, not-less, e, f)
