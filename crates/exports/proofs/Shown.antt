-- The claims of specs/Statements/Shown.antt.
use mathlib.Core.Path.{◌≡◌, refl, sym, ◌∙◌}
use mathlib.Core.Bool.{Bool, true, false}
use mathlib.Core.List.{[], ◌∷◌}
use Prim.Native.Nat.{ℕ, ◌+◌, ◌-◌, ◌<◌, ◌≤◌}
use native.Mathlib.Decide.{dec_lt}
use native.Mathlib.Omega.{arith}
use borrow.Author.Tests.{ne_eqb, le-ltb}
use lib.Dec.{eqb, ltb}
use lib.ListN.{length}
use Rattle.dqbf.specs.Literal.{Clause}
use Rattle.dqbf.specs.Refusal.{refusal}
use Rattle.dqbf.specs.Rules.{unknown, clause_at}
use Rattle.dqbf.specs.Questions.{ClauseAnswer, clause_length, no_clause}
use Rattle.dqbf.specs.Questions as Questions
use Rattle.dqbf.proofs.Laws.Tests.{no_or}
use Rattle.tables.specs.declared.State.{State}
use Rattle.tables.specs.Tables.{Tables, stretch, entry, model_in}
use Rattle.tables.specs.WellFormed.{long, well_formed}
use Rattle.tables.specs.Unusable.{unless_refused}
use Rattle.tables.proofs.Laws.Unusable.{usable, unusable-ill}
use Rattle.tables.proofs.Laws.Entries.{unknown-told, clause-at, range-rises, range-ends, range_length}
use Rattle.questions.specs.Answers.{length_answer, shown_start, shown_clause}
use Rattle.questions.proofs.Laws.Outcomes.{clause-zero, clause-past}
use Rattle.codec.proofs.Laws.Tables.{literals-length}
use Rattle.buffers.specs.Buffers.{Buffers, whole, tables_in, state_in}
use Rattle.results.specs.Results.{field, clause_result, show_result, stretch_result}
use Rattle.exports.specs.Calls.{show_bytes, clause_bytes}
use Rattle.exports.specs.Statements.Fields.{fields}
use Rattle.exports.specs.Statements.Shown.{Tells, ShowsTheClause, ShowsTheLength, ShowsNothing}
use Rattle.buffers.proofs.Laws.{lent-long}
use Rattle.results.proofs.Laws.{case-is, first-cut, second-cut, stretch-shown}
use Rattle.exports.proofs.Fields.{two-are}

-- ---- place and length

module _ (t : Tables) (s : State) (lent : long t ≡ true) (small : length t.literals ≤ 8192) (c : ℕ) where
  abbrev result : ℕ
  result = show_result (shown_start t s c) (shown_clause t s c)

  -- a stretch of the literals that is the shown one
  stretch-tells : (start : ℕ) (C : Clause) → shown_start t s c ≡ start → shown_clause t s c ≡ C → stretch start (start + length C) t.literals ≡ C
      → start + length C ≤ length t.literals → Tells t s c result
  unfolding show_result
  stretch-tells start C p q there inside = record {
    told = rw (p, q) (two-are 1 start (length C) (omega arith) (omega arith) (omega arith));
    there = rw (p, q) there;
    inside = rw (p, q) inside;
  }

  module _ (formed : well_formed t s ≡ true) where
    unknown-tells : unknown (model_in t s) c ≡ true → Tells t s c result
    unfolding shown_start shown_clause unless_refused Questions.show
    unknown-tells e = stretch-tells 0 [] (rw (usable t s lent formed, e)) (rw (usable t s lent formed, e)) refl (omega arith)

    module _ (some : c ≡ 0 → ⊥) (known : c ≤ s.clauses.0) where
      clause-known : unknown (model_in t s) c ≡ false
      clause-known = unknown-told t s lent formed c ∙ no_or (eqb c 0) (ltb s.clauses.0 c) (ne_eqb c 0 some) (le-ltb s.clauses.0 c known)

      starts : shown_start t s c ≡ entry t.ends (c - 1)
      unfolding shown_start unless_refused
      starts = rw (usable t s lent formed, clause-known)

      shown : shown_clause t s c ≡ clause_at (model_in t s) c
      unfolding shown_clause unless_refused Questions.show
      shown = rw (usable t s lent formed, clause-known)

      known_tells : Tells t s c result
      known_tells =
          let start = entry t.ends (c - 1) in
          let end = entry t.ends c in
          let rises = range-rises t s lent formed c some known in
          let ends = range-ends t s lent formed c some known in
          let total : start + length (clause_at (model_in t s) c) ≡ end = omega (arith, range_length t s lent formed c some known) in
          stretch-tells start (clause_at (model_in t s) c) starts shown (rw total (sym (clause-at t s lent formed c some known))) (rw total ends)

    formed-tells : Dec (0 < c) → Dec (s.clauses.0 < c) → Tells t s c result
    formed-tells (no e) d = unknown-tells (clause-zero t s c (sym (usable t s lent formed)) (omega arith))
    formed-tells (yes e) (yes p) = unknown-tells (clause-past t s c (sym (usable t s lent formed)) p)
    formed-tells (yes e) (no p) = known_tells (λ z. omega arith) (omega arith)

  ill-tells : well_formed t s ≡ false → Tells t s c result
  unfolding shown_start shown_clause unless_refused
  ill-tells e = stretch-tells 0 [] (rw (unusable-ill t s lent e)) (rw (unusable-ill t s lent e)) refl (omega arith)

  tells : (f : Bool) → well_formed t s ≡ f → Tells t s c result
  tells true e = formed-tells e (dec_lt 0 c) (dec_lt s.clauses.0 c)
  tells false e = ill-tells e

pub shows-the-clause : ShowsTheClause
unfolding show_bytes
shows-the-clause b c w = rw w (tells (tables_in b) (state_in b) (lent-long b w) within c (well_formed (tables_in b) (state_in b)) refl)
  where
    within : length (tables_in b).literals ≤ 8192
    within = unfold tables_in in omega (arith, literals-length 8192 b.literals)

-- ---- beside the question about the length

abbrev Beside : ℕ → ℕ → Type 0
Beside asked shown = (field 0 asked ≡ 1 → field 2 shown ≡ field 1 asked) × (field 0 asked ≡ 2 → fields shown ≡ 1 ∷ 0 ∷ 0 ∷ 0 ∷ [])

answer-beside : (start : ℕ) (a : ClauseAnswer) → Beside (clause_result a) (stretch_result start a)
unfolding clause_result stretch_result
answer-beside start (clause_length n) =
    (λ h. second-cut 1 start n 0 (omega arith) ∙ sym (first-cut 1 n 0 0 (omega arith)), λ h. absurd (omega (arith, h, case-is 1 n 0 0 (omega arith))))
answer-beside start (no_clause r) =
    (λ h. absurd (omega (arith, h, case-is 2 r.number 0 0 (omega arith))), λ h. two-are 1 0 0 (omega arith) (omega arith) (omega arith))

module _ (b : Buffers) (c : ℕ) where
  beside : (w : Bool) → whole b ≡ w → Beside (clause_bytes b c) (show_bytes b c)
  unfolding clause_bytes show_bytes show_result stretch_result
  beside true e =
      rw (e, ← stretch-shown (tables_in b) (state_in b) c) (answer-beside (entry (tables_in b).ends (c - 1)) (length_answer (tables_in b) (state_in b) c))
  beside false e = rw e (answer-beside 0 (no_clause (refusal 1)))

pub shows-the-length : ShowsTheLength
shows-the-length b c = (beside b c (whole b) refl).0

pub shows_nothing : ShowsNothing
shows_nothing b c = (beside b c (whole b) refl).1
