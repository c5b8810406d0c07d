-- Comment lines, the header, and lines of no form: one law for each return of `comment_line`, `header_line` and `read_line`.
--     comment-late, comment-read
--     header-late, header-bound, header-count, header_read
--     malformed
-- Assumes nothing.
use mathlib.Core.Path.{◌≡◌, refl, ap, sym, ◌∙◌}
use mathlib.Core.Bool.{true, false, not, ◌||◌}
use mathlib.Core.List.Memᴰ
use mathlib.Core.List.{List, [], ◌++◌, map, append_assoc, append-nil}
use mathlib.Core.Option.{none, some}
use Prim.Native.Nat.{ℕ, zero, suc, ◌+◌, ◌-◌, ◌≤◌, ◌<◌}
use native.Mathlib.Omega.{arith}
use borrow.Author.Tests.{lt-ltb, le-ltb}
use lib.Dec.{ltb}
use lib.IntN.{pos}
use lib.ListN.{drop, replicate, length-replicate, replicate-append-replicate}
use Rattle.dqbf.specs.Limits.{clause_limit, literal_limit, variable_limit}
use Rattle.dqbf.specs.Refusal.{refusal, first}
use Rattle.dqbf.specs.Literal.{total}
use Rattle.dqbf.specs.Formula.{Formula, universals_of, declared_as, var_by}
use Rattle.dqbf.specs.Model.{clauses, empty_from, numbers, word_of, kind_for, set_for, model_by, model_of}
use Rattle.dqbf.specs.Reading.{comment, header, no_form, Reader, is_opening, line_tests, taken}
use Rattle.dqbf.proofs.Laws.Tests.{pass, no_or, or_left, or_right}
use Rattle.dqbf.proofs.Reading.Lines.{Sane, new_on, sane-form}
use Rattle.tables.specs.Tables.{Tables}
use Rattle.tables.specs.Spread.{flat, ends_from, over, spread, state_of, kind_row, set_row}
use Rattle.tables.specs.declared.State.{State}
use Rattle.prefix_lines.specs.Lines.{Carried, phase_told, carried_of, ReadSoFar, LineRead}
use Rattle.texts.specs.Texts.{empty_state}
use Rattle.prefix_lines.specs.declared.progress.Phase.TheVariants.{Opening, PrefixLines}
use Rattle.prefix_lines.proofs.Laws.Models.{model-universals}
use Rattle.prefix_lines.proofs.Laws.Reading.{counts_of, model-state, phase-is, phase-opening, phase-late, framed}
use Rattle.prefix_lines.proofs.Laws.Declaring.{no-tests}
use Rattle.prefix_lines.proofs.Laws.LineTests.{test-fails, test-passes, line_refused, line_taken}

-- ---- a row of zeros

zeros-row : (f : ℕ → ℕ) (k n : ℕ) → ((x : ℕ) → f x ≡ 0) → map f (numbers k n) ≡ replicate n 0
unfolding numbers
zeros-row f k zero e = refl
zeros-row f k (suc n) e = rw (e (suc k), zeros-row f (suc k) n e)

over_zeros : {A : Type 0} (size n : ℕ) (z : A) (t : List A) → n ≤ size → over size z (replicate n z) t ≡ over size z [] t
unfolding over
over_zeros size n z t h =
    let q : n + (size - n) ≡ size - 0 = omega arith in
    rw (length-replicate n z, ← append_assoc (replicate n z) (replicate (size - n) z) (drop size t), replicate-append-replicate n (size - n) z, q)

-- a formula of V variables and nothing else
abbrev bare : ℕ → Formula
bare v = record { bound = v; prefix = []; clauses = [] }

bare-row : (f : ℕ → ℕ) → ((x : ℕ) → f x ≡ 0) → (v : ℕ) (l : List ℕ) → v ≤ variable_limit → over variable_limit 0 (map f (numbers 0 v) ++ []) l ≡ over variable_limit 0 [] l
bare-row f zero-at v l low =
    ap (λ (row : List ℕ). over variable_limit 0 row l) (append-nil (map f (numbers 0 v)) ∙ zeros-row f 0 v zero-at) ∙ over_zeros variable_limit v 0 l low

bare-spread : (v : ℕ) (t : Tables) → v ≤ variable_limit → spread (model_of (bare v)) t ≡ spread (model_of (bare 0)) t
unfolding spread model_by var_by declared_as kind_for set_for kind_row set_row clauses numbers flat ends_from
bare-spread v t low = λ i. record {
  literals = over literal_limit (pos 0) [] t.literals;
  ends = over clause_limit 0 [] t.ends;
  sets = bare-row (λ x. 0) (λ x. refl) v t.sets low i;
  spare = t.spare;
  kinds = bare-row (λ x. 0) (λ x. refl) v t.kinds low i;
}

module _ {t : Tables} {r : Reader} {p : Carried} {now : Tables} (h : ReadSoFar t r p now) where
  late : (p.phase ≡ Opening → ⊥) → not (is_opening r.phase) ≡ true
  late n = rw (phase-late r (phase-is h) n).0

  -- ---- comments

  pub comment-late : (p.phase ≡ Opening → ⊥) → LineRead t r comment (some (refusal 10)) p now
  unfolding line_tests
  comment-late n = line_refused (refusal 10) (framed h) (test-fails (refusal 10) _ _ (late n))

  pub malformed : LineRead t r no_form (some (refusal 10)) p now
  unfolding line_tests
  malformed = line_refused (refusal 10) (framed h) (test-fails (refusal 10) _ _ refl)

  module _ (e : p.phase ≡ Opening) where
    ten : not (is_opening r.phase) ≡ false
    unfolding is_opening
    ten = rw (phase-opening r (phase-is h) e)

    pub comment-read : LineRead t r comment none p now
    unfolding line_tests taken
    comment-read = line_taken (pass _ _ _ ten no-tests) h

    -- ---- the header

    module _ (v c : ℕ) where
      h-11 : (ltb variable_limit v || ltb clause_limit c) ≡ true → LineRead t r (header v c) (some (refusal 11)) p now
      unfolding line_tests
      h-11 q = line_refused (refusal 11) (framed h) (test-passes (refusal 10) _ _ ten ∙ test-fails (refusal 11) _ _ q)

      pub header-bound : variable_limit < v → LineRead t r (header v c) (some (refusal 11)) p now
      header-bound q = h-11 (or_left (ltb variable_limit v) (ltb clause_limit c) (lt-ltb variable_limit v q))

      pub header-count : clause_limit < c → LineRead t r (header v c) (some (refusal 11)) p now
      header-count q = h-11 (or_right (ltb variable_limit v) (ltb clause_limit c) (lt-ltb clause_limit c q))

      module _ (low : v ≤ variable_limit) (few : c ≤ clause_limit) where
        passes : first (line_tests r (header v c)) ≡ none
        unfolding line_tests
        passes = pass _ _ _ ten (pass _ _ _ (no_or (ltb variable_limit v) (ltb clause_limit c) (le-ltb variable_limit v low) (le-ltb clause_limit c few)) no-tests)

        sane : Sane (taken r (header v c))
        unfolding new_on
        sane = sane-form r (header v c) (λ x q. absurd (Memᴰ.not-nil q)) passes h.sane

        state-empty : empty_state v ≡ state_of (model_of (bare v))
        unfolding taken total empty_from universals_of
        state-empty = sym (model-state (bare v) ∙ ap (λ n. counts_of v n []) (model-universals (taken r (header v c)) sane))

        tables-empty : now ≡ spread (model_of (bare v)) t
        tables-empty = h.tables ∙ ap (λ (x : Reader). spread (model_of x.formula) t) (h.opened (phase-opening r (phase-is h) e)) ∙ sym (bare-spread v t low)

        pub header_read : {s : State} → s ≡ empty_state v → LineRead t r (header v c) none (record { phase = PrefixLines; count = c; state = s }) now
        unfolding taken carried_of phase_told word_of universals_of
        header_read q =
            line_taken passes (record {
              lent = h.lent;
              sane = sane;
              opened = λ z. cc;
              few = omega arith;
              progress = λ i. record { phase = PrefixLines; count = c; state = (q ∙ state-empty) i };
              tables = tables-empty;
            })

  pub header-late : (p.phase ≡ Opening → ⊥) → (v c : ℕ) → LineRead t r (header v c) (some (refusal 10)) p now
  unfolding line_tests
  header-late n v c = line_refused (refusal 10) (framed h) (test-fails (refusal 10) _ _ (late n))
