-- A whole text: one law for each turn and each return of `read_lines` and `end_of_text`.
--     default-zero, read-start, progress-start      before the first line
--     read-last, read-refused, read-next     a line without a line feed; a line that is refused; a line that passes
--     read-end, end-opening, end-few, end-accepted      behind the last line
-- Assumes nothing.
use mathlib.Core.Path.{◌≡◌, refl, ap, sym, ◌∙◌}
use mathlib.Core.Bool.{Bool, true, false, cond}
use mathlib.Core.Option.{Option, none, some}
use mathlib.Core.List.{List, [], ◌∷◌}
use Prim.Native.Nat.{ℕ, suc, ◌+◌, ◌-◌, ◌≤◌, ◌<◌}
use native.Mathlib.Numerals.{add-one}
use native.Mathlib.Omega.{arith}
use borrow.Author.Tests.{eq-eqb, ne_eqb}
use lib.Dec.{eqb}
use lib.ListN.{length, take, drop, length-drop, drop_of_length-le}
use Rattle.std.specs.Prelude.{Result, Ok, Err}
use Rattle.dqbf.specs.Refusal.{Refusal, refusal_told, first}
use Rattle.dqbf.specs.Formula.{universals_of}
use Rattle.dqbf.specs.Text.{line_feed, onto, pieces, is_empty}
use Rattle.dqbf.specs.Model.{numbers, word_of, model_by, model_of}
use Rattle.dqbf.specs.Reading.{form_of, Phase, opening, prefix_lines, clause_lines, Reader, start, line_tests, taken, Loaded, accepted, refused, at_end, unless, read_from}
use Rattle.dqbf.proofs.Reading.Lines.{start-sane}
use Rattle.ranks.specs.Order.{all_inserted}
use Rattle.tokens.specs.Lines.{line_length}
use Rattle.tokens.proofs.Laws.Pieces.{line-at-inside, line-at-last, line-at-more}
use Rattle.tables.specs.Tables.{Tables}
use Rattle.tables.specs.declared.State.{State}
use Rattle.tables.specs.Spread.{spread, state_of, blank, zero_state}
use Rattle.tables.specs.WellFormed.{long}
use Rattle.tables.proofs.Laws.Spread.{blank-state}
use Rattle.prefix_lines.specs.Lines.{Carried, carried, phase_told, carried_of, ReadSoFar, Known, LineRead}
use Rattle.texts.specs.Texts.{start_progress, TextRead}
use Rattle.prefix_lines.specs.declared.progress.Progress.{Progress}
use Rattle.prefix_lines.specs.declared.progress.Phase.TheVariants.{Opening}
use Rattle.texts.specs.declared.reading.LoadRefusal.{LoadRefusal}
use Rattle.dqbf.specs.declared.refusal.Refusal as Code
use Rattle.dqbf.specs.declared.refusal.Refusal.TheVariants.{NoForm, ClauseCount}
use Rattle.prefix_lines.proofs.Laws.Reading.{phase-is, phase-opening, count-is, clauses-is, framed}

-- ---- before the first line

start-blank : model_of start.formula ≡ blank
unfolding model_by numbers
start-blank = refl

pub read-start : (t : Tables) → long t ≡ true → t ≡ spread blank t → {p : Carried} → p ≡ start_progress → ReadSoFar t start p t
unfolding carried_of phase_told universals_of word_of
read-start t lent cleared q = record {
  lent = lent;
  sane = start-sane;
  opened = λ e. refl;
  few = omega arith;
  progress = q ∙ (λ i. record { phase = Opening; count = 0; state = (sym blank-state ∙ ap state_of (sym start-blank)) i });
  tables = cleared ∙ ap (λ m. spread m t) (sym start-blank);
}

-- the state by default
pub default-zero : {s : State} → (s.bound.0 ≡ 0) × ((s.variables.0 ≡ 0) × ((s.universals ≡ 0) × ((s.formula.0 ≡ 0) × ((s.clauses.0 ≡ 0) × ((s.literals ≡ 0) × ((s.steps.0 ≡ 0) × (s.empty.0 ≡ 0)))))))
    → s ≡ zero_state
default-zero d = λ i. record {
  bound = record { 0 = d.0 i };
  variables = record { 0 = d.1.0 i };
  universals = d.1.1.0 i;
  formula = record { 0 = d.1.1.1.0 i };
  clauses = record { 0 = d.1.1.1.1.0 i };
  literals = d.1.1.1.1.1.0 i;
  steps = record { 0 = d.1.1.1.1.1.1.0 i };
  empty = record { 0 = d.1.1.1.1.1.1.1 i };
}

pub progress-start : {s : State} → s ≡ zero_state → carried (record { phase = Opening; count = 0 }) s ≡ start_progress
progress-start e = ap (carried (record { phase = Opening; count = 0 })) e

pub known_start : (known : List ℕ) → Known start known
unfolding universals_of all_inserted
known_start known = refl

-- ---- the lines of a text are never none

some-pieces : (s : ℕ) (l : List ℕ) → (k : List ℕ) × (ks : List (List ℕ)) × (pieces s l ≡ k ∷ ks)
unfolding pieces onto
some-pieces s [] = ([], [], refl)
some-pieces s (b ∷ bs) = go (eqb b s) (pieces s bs)
  where
    go : (t : Bool) (ps : List (List ℕ)) → (k : List ℕ) × (ks : List (List ℕ)) × (cond t ([] ∷ ps) (onto b ps) ≡ k ∷ ks)
    go true ps = ([], ps, refl)
    go false [] = (b ∷ [], [], refl)
    go false (w ∷ ws) = (b ∷ w, ws, refl)

more-lines : (l text : List ℕ) (n : ℕ) (r : Reader)
    → read_from (l ∷ pieces line_feed text) n r ≡ unless (first (line_tests r (form_of l))) (suc n) (λ u. read_from (pieces line_feed text) (suc n) (taken r (form_of l)))
unfolding read_from
more-lines l text n r = let s = some-pieces line_feed text in rw s.2

unless-refused : (n : ℕ) {a : Option Refusal} {x : Refusal} (go : Unit {0} → Loaded) → a ≡ some x → unless a n go ≡ refused n x.number
unfolding unless
unless-refused n go h = rw h

unless-passed : (n : ℕ) {a : Option Refusal} (go : Unit {0} → Loaded) → a ≡ none → unless a n go ≡ go tt
unfolding unless
unless-passed n go h = rw h

-- ---- one line. What is left of the text from `at` on comes to o; n lines were read.

module _ (o : Loaded) (text : List ℕ) (at n k : ℕ) (r : Reader) (so_far : o ≡ read_from (pieces line_feed (drop at text)) n r) (inside : at < length text)
    (length-is : k ≡ line_length (take (length text - at) (drop at text))) where
  low : at ≤ length text
  low = omega arith

  -- the last line has no line feed
  pub last-told : at + k ≡ length text → o ≡ refused (n + 1) 10
  last-told e = so_far ∙ rw (line-at-last text at k low length-is e, add-one n) (alone (drop at text) (omega (arith, length-drop at text)))
    where
      alone : (l : List ℕ) → 0 < length l → read_from (l ∷ []) n r ≡ refused (suc n) 10
      alone [] h = absurd (omega arith)
      alone (b ∷ bs) h = unfold read_from is_empty in refl

  module _ (ended : at + k ≡ length text → ⊥) {t : Tables} {a : Option Refusal} {p : Carried} {now : Tables} (read : LineRead t r (form_of (take (at + k - at) (drop at text))) a p now) where
    abbrev l : List ℕ
    l = take (at + k - at) (drop at text)

    step : o ≡ unless a (suc n) (λ u. read_from (pieces line_feed (drop (at + k + 1) text)) (suc n) (taken r (form_of l)))
    step =
        so_far ∙ rw (line-at-more text at k low length-is (omega (arith, ended, line-at-inside text at k low length-is)), more-lines l (drop (at + k + 1) text) n r, read.told)

    pub line-told : {x : Refusal} → a ≡ some x → o ≡ refused (n + 1) x.number
    line-told z = step ∙ unless-refused (suc n) _ z ∙ rw (add-one n)

    pub line-next : a ≡ none → o ≡ read_from (pieces line_feed (drop (at + k + 1) text)) (n + 1) (taken r (form_of l))
    line-next z = step ∙ unless-passed (suc n) _ z ∙ rw (add-one n)

-- ---- behind the last line

pub text-done : (o : Loaded) (text : List ℕ) (at n : ℕ) (r : Reader) → o ≡ read_from (pieces line_feed (drop at text)) n r → length text ≤ at → o ≡ at_end r.phase r n
unfolding read_from pieces is_empty
text-done o text at n r e h = e ∙ rw (drop_of_length-le text {i = at} h)

pub text-refused : {t : Tables} {o : Loaded} {s : State} {now : Tables} (x : LoadRefusal) → spread blank now ≡ spread blank t → o ≡ refused x.line (refusal_told x.refusal).number
    → TextRead t o (Err x) s now
text-refused {o = o} x f e = record { accepts = λ z. cc; refuses = λ y z. let same : x ≡ y = cc in rw (← same) e; framed = f }

module _ {t : Tables} {r : Reader} {p : Progress} {s : State} {now : Tables} (h : ReadSoFar t r (carried p s) now) (n : ℕ) where
  pub end-opening : p.phase ≡ Opening → TextRead t (at_end r.phase r n) (Err (record { line = n + 1; refusal = NoForm })) s now
  unfolding at_end
  end-opening e = text-refused (record { line = n + 1; refusal = NoForm }) (framed h) (rw (phase-opening r (phase-is h) e, add-one n))

  module _ (begun : p.phase ≡ Opening → ⊥) where
    at-end : at_end r.phase r n ≡ cond (eqb (length r.formula.clauses) r.count) (accepted r.formula) (refused n 14)
    unfolding at_end phase_told
    at-end = go r.phase (λ z. begun (phase-is h ∙ z))
      where
        go : (ph : Phase) → (phase_told ph ≡ Opening → ⊥) → at_end ph r n ≡ cond (eqb (length r.formula.clauses) r.count) (accepted r.formula) (refused n 14)
        go opening z = absurd (z refl)
        go prefix_lines z = refl
        go clause_lines z = refl

    pub end-few : (s.clauses.0 ≡ p.count → ⊥) → TextRead t (at_end r.phase r n) (Err (record { line = n; refusal = ClauseCount })) s now
    end-few d =
        text-refused (record { line = n; refusal = ClauseCount }) (framed h) (at-end ∙ rw (ne_eqb (length r.formula.clauses) r.count (λ q. d (clauses-is h ∙ q ∙ sym (count-is h)))))

    pub end-accepted : s.clauses.0 ≡ p.count → TextRead t (at_end r.phase r n) (Ok tt) s now
    end-accepted q = record {
      accepts = λ z. (r, at-end ∙ rw (eq-eqb (length r.formula.clauses) r.count (sym (clauses-is h) ∙ q ∙ count-is h)), p, h);
      refuses = λ x z. cc;
      framed = framed h;
    }

-- ---- the loop: n lines were read, up to `at`

pub record Reached (o : Loaded) (t : Tables) (text : List ℕ) (at n : ℕ) (p : Carried) (known : List ℕ) (now : Tables) : Type 0 where
  pub reader : Reader
  pub so_far : o ≡ read_from (pieces line_feed (drop at text)) n reader
  pub read : ReadSoFar t reader p now
  pub knows : Known reader known

pub reached-start : (t : Tables) (text known : List ℕ) → long t ≡ true → t ≡ spread blank t → {p : Carried} → p ≡ start_progress
    → Reached (read_from (pieces line_feed text) 0 start) t text 0 0 p known t
reached-start t text known lent cleared q = record { reader = start; so_far = refl; read = read-start t lent cleared q; knows = known_start known }

module _ {o : Loaded} {t : Tables} {text : List ℕ} {at n : ℕ} {p : Progress} {s : State} {known : List ℕ} {now : Tables} (h : Reached o t text at n (carried p s) known now) where
  module _ (inside : at < length text) (k : ℕ) (length-is : k ≡ line_length (take (length text - at) (drop at text))) where
    pub reached-last : at + k ≡ length text → TextRead t o (Err (record { line = n + 1; refusal = NoForm })) s now
    reached-last e = text-refused (record { line = n + 1; refusal = NoForm }) (framed h.read) (last-told o text at n k h.reader h.so_far inside length-is e)

    module _ (ended : at + k ≡ length text → ⊥) {a : Option Refusal} {p' : Progress} {s' : State} {now' : Tables} (known' : List ℕ)
        (call : (t : Tables) (r : Reader) → ReadSoFar t r (carried p s) now → Known r known → LineRead t r (form_of (take (at + k - at) (drop at text))) a (carried p' s') now'
        × (a ≡ none → Known (taken r (form_of (take (at + k - at) (drop at text)))) known')) where
      pub reached-refused : (x : Code.Refusal) → a ≡ some (refusal_told x) → TextRead t o (Err (record { line = n + 1; refusal = x })) s' now'
      reached-refused x z =
          let c = call t h.reader h.read h.knows in
          text-refused (record { line = n + 1; refusal = x }) c.0.framed (line-told o text at n k h.reader h.so_far inside length-is ended c.0 z)

      pub reached-next : a ≡ none → Reached o t text (at + k + 1) (n + 1) (carried p' s') known' now'
      reached-next z =
          let c = call t h.reader h.read h.knows in
          record {
            reader = taken h.reader (form_of (take (at + k - at) (drop at text)));
            so_far = line-next o text at n k h.reader h.so_far inside length-is ended c.0 z;
            read = c.0.held z;
            knows = c.1 z;
          }

  pub reached-end : length text ≤ at → {a : Result (Unit {0}) LoadRefusal} → ((t : Tables) (r : Reader) (now : Tables) → ReadSoFar t r (carried p s) now → TextRead t (at_end r.phase r n) a s now) → TextRead t o a s now
  reached-end e call = rw (text-done o text at n h.reader h.so_far e) (call t h.reader now h.read)
