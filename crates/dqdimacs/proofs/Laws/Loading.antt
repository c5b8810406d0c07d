-- A load: one law for each return of `load`, and what an accepted load leaves.
--     load-short, load-over, load-refused, load-accepted   the returns
--     lent-cleared, cleared-again      what the calls in it ask
-- Assumes nothing.
use mathlib.Core.Path.{◌≡◌, ap, sym, ◌∙◌}
use mathlib.Core.Bool.{true, false}
use mathlib.Core.List.{List}
use Prim.Native.Nat.{ℕ, ◌≤◌, ◌<◌}
use borrow.Author.Tests.{lt-ltb, le-ltb}
use lib.ListN.{length}
use Rattle.std.specs.Prelude.{Result, Ok, Err}
use Rattle.dqbf.specs.Limits.{text_limit}
use Rattle.dqbf.specs.Refusal.{refusal_told}
use Rattle.dqbf.specs.Text.{line_feed, pieces}
use Rattle.dqbf.specs.Model.{Model, model_of}
use Rattle.dqbf.specs.Reading.{Reader, start, accepted, read_from}
use Rattle.dqbf.specs.Reading as Reading
use Rattle.tables.specs.Tables.{Tables}
use Rattle.tables.specs.declared.State.{State}
use Rattle.tables.specs.Spread.{spread, state_of, blank, zero_state}
use Rattle.tables.specs.WellFormed.{long}
use Rattle.tables.proofs.Laws.Spread.{blank-valid, blank-state, spread-again, long-spread}
use Rattle.prefix_lines.specs.Lines.{Carried, carried_of, ReadSoFar}
use Rattle.texts.specs.Texts.{TextRead}
use Rattle.dqdimacs.specs.Loading.{LoadAnswer, Accepted, Refused, load_told, AfterLoad, load_answer, loaded_model, loaded_on, load_short, load_of}
use Rattle.texts.specs.declared.reading.LoadRefusal.{LoadRefusal}

-- ---- the returns

-- the state of an accepted text
read-state : {t : Tables} {r : Reader} {p : Carried} {now : Tables} → ReadSoFar t r p now → p.state ≡ state_of (model_of r.formula)
unfolding carried_of
read-state h = ap (λ (q : Carried). q.state) h.progress

module _ (t : Tables) (text : List ℕ) where
  abbrev pub Load : Tables → State → LoadAnswer → Type 0
  Load d s a = ◌≡◌ {A = AfterLoad} (record { tables = d; state = s; answer = a }) (load_of t text)

  pub load-short : long t ≡ false → {s : State} → s ≡ zero_state → Load t s (Refused 0 1)
  unfolding load_of load_short
  load-short e q = rw e (λ i. record { tables = t; state = (q ∙ sym blank-state) i; answer = Refused 0 1 })

  module _ (is-long : long t ≡ true) {c : Tables} (cleared : c ≡ spread blank t) where
    twice : (m : Model) → spread m c ≡ spread m t
    twice m = rw cleared (spread-again blank blank-valid t m)

    -- what `clear` and `read_lines` ask
    pub lent-cleared : long c ≡ true
    lent-cleared = rw cleared (long-spread blank blank-valid t is-long)

    pub cleared-again : c ≡ spread blank c
    cleared-again = cleared ∙ sym (twice blank)

    on-long : load_of t text ≡ loaded_on t (Reading.load text)
    unfolding load_of
    on-long = rw is-long

    refused-on : (line number : ℕ) {d : Tables} {s : State} → Reading.load text ≡ Reading.refused line number → d ≡ spread blank t → s ≡ zero_state → Load d s (Refused line number)
    unfolding loaded_on loaded_model load_answer
    refused-on line number g d q = rw (on-long, g) (λ i. record { tables = d i; state = (q ∙ sym blank-state) i; answer = Refused line number })

    pub load-over : text_limit < length text → {s : State} → s ≡ zero_state → Load c s (Refused 0 11)
    load-over w q = refused-on 0 11 over-text cleared q
      where
        over-text : Reading.load text ≡ Reading.refused 0 11
        over-text = unfold Reading.load in rw (lt-ltb text_limit (length text) w)

    module _ (fits : length text ≤ text_limit) {a : Result (Unit {0}) LoadRefusal} {s : State} {now : Tables} (read : TextRead c (read_from (pieces line_feed text) 0 start) a s now) where
      loads : Reading.load text ≡ read_from (pieces line_feed text) 0 start
      unfolding Reading.load
      loads = rw (le-ltb text_limit (length text) fits)

      pub load-refused : (x : LoadRefusal) → a ≡ Err x → {d : Tables} {z : State} → d ≡ spread blank now → z ≡ zero_state → Load d z (load_told (Err x))
      load-refused x n k q = refused-on x.line (refusal_told x.refusal).number (loads ∙ read.refuses x n) (k ∙ read.framed ∙ twice blank) q

      pub load-accepted : a ≡ Ok tt → Load now s Accepted
      unfolding loaded_on loaded_model load_answer
      load-accepted z =
          let w = read.accepts z in
          rw (on-long, loads, w.1) (λ i. record { tables = (w.3.tables ∙ twice (model_of w.0.formula)) i; state = read-state w.3 i; answer = Accepted })
