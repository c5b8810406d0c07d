-- 23 before 24, compared with the order that stood before (specs/Statements/ClashBeforeWidth.antt).
use mathlib.Core.Path.{◌≡◌, refl, sym, ◌∙◌, ap}
use mathlib.Core.Logic.{◌⊎◌, inl, inr, ⊎_elim}
use mathlib.Core.Bool.{Bool, true, false, not, ◌&&◌}
use mathlib.Core.List.{List, [], ◌∷◌, ◌++◌}
use mathlib.Core.Option.{Option, none, some}
use Prim.Native.Nat.{ℕ, suc, ◌+◌}
use native.Mathlib.Omega.{arith}
use lib.Dec.{ltb}
use lib.IntN.{ℤ, neg_ℤ}
use lib.ListN.{length, get_or}
use Rattle.dqbf.specs.Limits.{Room, width_limit, records_limit}
use Rattle.dqbf.specs.Bytes.{bytes, number}
use Rattle.dqbf.specs.Refusal.{Refusal, refusal, naming, Test, ◌when◌}
use Rattle.dqbf.specs.Refusal as Refusal
use Rattle.dqbf.specs.Literal.{Clause, same, rank, holds, without, join, clashes, lowest_clash, total}
use Rattle.dqbf.specs.Model.{Model, clauses, used, numbers}
use Rattle.dqbf.specs.Valid.{Valid, InOrder}
use Rattle.dqbf.specs.Record.{Record, resolution, reduction, fork, zeros, signed, record_of, stretches}
use Rattle.dqbf.specs.Rules.{add, no_room, clause_at, unknown, resolvent, resolving, resolution_test, resolution_order, resolution_tests_by, rule_tests_by, added, tests_by}
use Rattle.dqbf.specs.Run.{Examined, accepts, refuses, judged, examine_by, examine, examine_or20_by, examine_or20, examine_bytes_by, examine_bytes, after, Ran, bad, go_on, run_from_by, run_from, run_by, run, Call, step_call, run_call, other_call, next_by, next}
use Rattle.dqbf.specs.Cases.{hex_digits, paired, hex, wide_model}
use Rattle.dqbf.specs.Statements.RuleIff.{reached_by}
use Rattle.dqbf.specs.Statements.ClashingVariable.{Clash}
use Rattle.dqbf.specs.Statements.ClashBeforeWidth.{width_first, WideClash, StepCompared, StepsCompared, StoppedWide, RunCompared, RunsCompared, CallsCompared, SomeCompared}
use Rattle.dqbf.proofs.Laws.Tests.{either, not-no, passed, some_is, first_some, first-none, first-swap}
use Rattle.dqbf.proofs.Laws.Clashes.{clash-lowest, held-clashes}
use Rattle.dqbf.proofs.Laws.Models.{refused-first, refuses-is, resolvent-in-order}
use Rattle.dqbf.proofs.Laws.Outcomes.{resolution-23}
use Rattle.dqbf.proofs.Laws.Stopping.{stopped-at}
use Rattle.dqbf.proofs.ClashingVariable.{resolvent-named}
use Rattle.dqbf.proofs.StepsKeepValid.{bytes-keep, run_from-keeps, call-keeps}
use Rattle.dqbf.proofs.MarkedCases.{wide-loaded}

-- ---- a resolution: its tests are `front`, those of 23 and 24 in either order, and `last`

number_is : (n : ℕ) → some (refusal n) ≡ some (refusal 24) → n ≡ 24
number_is n h = ap (λ (x : Refusal). x.number) (some_is (refusal n) (refusal 24) h)

-- none of the tests in front gives 24
not-24 : (a b e : Bool) → Refusal.first ((refusal 21 when a) ∷ (refusal 21 when b) ∷ (refusal 22 when e) ∷ []) ≡ some (refusal 24) → ⊥
unfolding Refusal.first
not-24 true b e h = omega (arith, number_is 21 h)
not-24 false true e h = omega (arith, number_is 21 h)
not-24 false false true h = omega (arith, number_is 22 h)
not-24 false false false h = let z : ◌≡◌ {A = ℕ} 0 1 = cc in omega arith

module _ (room : Room) (m : Model) (c d : ℕ) (p : ℤ) where
  abbrev r : Record
  r = resolution c d p

  abbrev E : Clause
  E = resolvent (clause_at m c) (clause_at m d) p

  abbrev front : List Test
  front = (refusal 21 when unknown m c) ∷ (refusal 21 when unknown m d) ∷ (refusal 22 when not (holds p (clause_at m c) && holds (neg_ℤ p) (clause_at m d))) ∷ []

  abbrev last : List Test
  last = (refusal 25 when no_room room m (added m r)) ∷ []

  -- those of the order before
  abbrev rest : List Test
  rest = (refusal 24 when ltb width_limit (length E)) ∷ (naming 23 (lowest_clash E) when clashes E) ∷ last

  -- both tests are reached, and both apply
  abbrev Both : Type 0
  Both = (Refusal.first front ≡ none) × (clashes E ≡ true) × (ltb width_limit (length E) ≡ true)

  either_order : (examine room m r ≡ examine_by width_first room m r) ⊎ Both
  unfolding examine_by tests_by rule_tests_by resolution_tests_by resolution_test resolution_order width_first
  either_order =
      ⊎_elim (λ h. inl (ap (λ (o : Option Refusal). judged o (added m r)) h)) (λ h. inr h)
      (first-swap front last (naming 23 (lowest_clash E)) (refusal 24) (clashes E) (ltb width_limit (length E)))

  module _ (reached : Refusal.first front ≡ none) where
    both-known : (unknown m c ≡ false) × (unknown m d ≡ false)
    both-known = let t = passed _ _ _ reached in (t.0, (passed _ _ _ t.1).0)

    gives-23 : clashes E ≡ true → examine room m r ≡ refuses (naming 23 (lowest_clash E))
    gives-23 h =
        let t = passed _ _ _ (passed _ _ _ reached).1 in
        resolution-23 room m c d p both-known.0 both-known.1 (not-no _ (passed _ _ _ t.1).0) h

    gave-24 : ltb width_limit (length E) ≡ true → examine_by width_first room m r ≡ refuses (refusal 24)
    unfolding examine_by tests_by rule_tests_by resolution_tests_by resolution_test width_first judged Refusal.first
    gave-24 h = rw (first-none front rest reached, h)

  -- a resolution that gave 24 reaches them
  reached-24 : examine_by width_first room m r ≡ refuses (refusal 24) → Refusal.first front ≡ none
  unfolding examine_by tests_by rule_tests_by resolution_tests_by resolution_test width_first
  reached-24 h = go (Refusal.first front) refl
    where
      go : (o : Option Refusal) → Refusal.first front ≡ o → Refusal.first front ≡ none
      go none e = e
      go (some x) e = absurd (not-24 _ _ _ (e ∙ sym (first_some front rest x e) ∙ refused-first (Refusal.first (front ++ rest)) (added m r) (refusal 24) h))

-- ---- a step

module _ (room : Room) (m : Model) (v : Valid room m) (bytes : List ℕ) where
  abbrev Told : Type 0
  Told = (x : Refusal) × (examine_bytes room m bytes ≡ refuses x) × Clash m bytes x

  module _ (c d : ℕ) (p : ℤ) (says : record_of bytes ≡ some (resolution c d p)) (reached : Refusal.first (front room m c d p) ≡ none) where
    abbrev clause : Clause
    clause = E room m c d p

    order : InOrder clause
    order = let known = both-known room m c d p reached in resolvent-in-order room m v c d p known.0 known.1

    clash-told : clashes clause ≡ true → Told
    unfolding examine_bytes_by examine_or20_by
    clash-told h =
        let known = both-known room m c d p reached in
        (naming 23 (lowest_clash clause), rw says (gives-23 room m c d p reached h), (resolvent-named room m v bytes c d p known.0 known.1 says h).clashing refl)

    wide-clash : clashes clause ≡ true → ltb width_limit (length clause) ≡ true → WideClash room m bytes
    unfolding examine_bytes_by examine_or20_by
    wide-clash h k = record {
      first = c;
      second = d;
      pivot = p;
      variable = lowest_clash clause;
      resolves = says;
      gave = rw says (gave-24 room m c d p reached k);
      pair = ((clash-lowest clause order).0 h).held;
    }

  same-or-wide : (o : Option Record) → record_of bytes ≡ o → (examine_or20 room m o ≡ examine_or20_by width_first room m o) ⊎ WideClash room m bytes
  unfolding examine_or20_by examine_by tests_by rule_tests_by
  same-or-wide none says = inl refl
  same-or-wide (some (resolution c d p)) says = ⊎_elim (λ h. inl h) (λ h. inr (wide-clash c d p says h.0 h.1 h.2)) (either_order room m c d p)
  same-or-wide (some (reduction c l)) says = inl refl
  same-or-wide (some (fork c a b)) says = inl refl

  told-23 : WideClash room m bytes → Told
  unfolding examine_bytes_by examine_or20_by
  told-23 w =
      let c = w.first in
      let d = w.second in
      let p = w.pivot in
      let reached = reached-24 room m c d p (rw w.resolves at w.gave) in
      clash-told c d p w.resolves reached (held-clashes (E room m c d p) (order c d p w.resolves reached) w.variable w.pair)

  left-same : (examine_bytes room m bytes ≡ examine_bytes_by width_first room m bytes) ⊎ WideClash room m bytes
      → after m (examine_bytes room m bytes) ≡ after m (examine_bytes_by width_first room m bytes)
  unfolding after
  left-same (inl e) = ap (after m) e
  left-same (inr w) = rw (w.gave, (told-23 w).1)

pub steps-compared : StepsCompared
unfolding examine_bytes_by
steps-compared room m v bytes =
    let only = same-or-wide room m v bytes (record_of bytes) refl in
    record { only = only; each = told-23 room m v bytes; model = left-same room m v bytes only }

-- ---- a run

module _ (room : Room) where
  abbrev old : List (List ℕ) → ℕ → Model → Ran
  old rs n m = run_from_by width_first room rs n m

  abbrev new : List (List ℕ) → ℕ → Model → Ran
  new rs n m = run_from room rs n m

  -- behind n records the old run stopped with 24 at record i of rs, and the new one stops there
  record Stops (rs : List (List ℕ)) (n : ℕ) (m : Model) : Type 0 where
    i : ℕ
    step : ℕ
    number : step ≡ suc (n + i)
    stopped : (old rs n m).verdict ≡ bad step (refusal 24)
    clash : WideClash room (old rs n m).model (get_or rs i [])
    why : Refusal
    stops : (new rs n m).verdict ≡ bad step why
    told : Clash (old rs n m).model (get_or rs i []) why

  abbrev Verdicts : List (List ℕ) → ℕ → Model → Type 0
  Verdicts rs n m = ((new rs n m).verdict ≡ (old rs n m).verdict) ⊎ Stops rs n m

  abbrev Compared : List (List ℕ) → ℕ → Model → Type 0
  Compared rs n m = ((new rs n m).model ≡ (old rs n m).model) × Verdicts rs n m

  run_from-compared : (rs : List (List ℕ)) (n : ℕ) (m : Model) → Valid room m → Compared rs n m
  unfolding run_from_by go_on after
  run_from-compared [] n m v = (refl, inl refl)
  run_from-compared (bs ∷ rs) n m v = by (λ m' v'. run_from-compared rs (suc n) m' v') s.only
    where
      s : StepCompared room m bs
      s = steps-compared room m v bs

      later : (w : Examined) → examine_bytes_by width_first room m bs ≡ w → examine_bytes room m bs ≡ w
          → ((m' : Model) → Valid room m' → Compared rs (suc n) m') → Valid room (after m w) → Compared (bs ∷ rs) n m
      later (refuses x) e k rest v' = rw (e, k) (refl, inl refl)
      later (accepts a) e k rest v' = let q = rest (add m a) v' in (rw (e, k) q.0, go q.1)
        where
          go : Verdicts rs (suc n) (add m a) → Verdicts (bs ∷ rs) n m
          go (inl h) = inl (rw (e, k) h)
          go (inr t) = inr (record {
            i = suc t.i;
            step = t.step;
            number = omega (arith, t.number);
            stopped = rw e t.stopped;
            clash = rw e t.clash;
            why = t.why;
            stops = rw k t.stops;
            told = rw e t.told;
          })

      by : ((m' : Model) → Valid room m' → Compared rs (suc n) m') → (examine_bytes room m bs ≡ examine_bytes_by width_first room m bs) ⊎ WideClash room m bs → Compared (bs ∷ rs) n m
      by rest (inl e) = later (examine_bytes room m bs) (sym e) refl rest (bytes-keep room m v bs (examine_bytes room m bs) refl)
      by rest (inr w) = let t = s.each w in (
        rw (w.gave, t.1),
        inr (record {
          i = 0;
          step = suc n;
          number = omega arith;
          stopped = rw w.gave;
          clash = rw w.gave w;
          why = t.0;
          stops = rw t.1;
          told = rw w.gave t.2;
        }),
      )

-- a run that stops with 24 stops at no such resolution
not_stopped : (room : Room) (rs : List (List ℕ)) (m : Model) (k : ℕ) → Valid room (run_from room rs 0 m).model → (run_from room rs 0 m).verdict ≡ bad (suc k) (refusal 24)
    → WideClash room (run_from room rs 0 m).model (get_or rs k []) → ⊥
not_stopped room rs m k v h w =
    let s = stopped-at room rs 0 m (suc k) (refusal 24) h in
    let place : s.before ≡ k = omega (arith, s.step) in
    let t = (steps-compared room (run_from room rs 0 m).model v (get_or rs k [])).each w in
    let e = sym (rw place at s.refused) ∙ t.1 in
    omega (arith, ap (λ (x : Refusal). x.number) (refuses-is (refusal 24) t.0 e ∙ t.2.names))

module _ (room : Room) (m : Model) (v : Valid room m) (bs : List ℕ) where
  abbrev rs : List (List ℕ)
  rs = stretches (length bs) bs

  overlong : ltb records_limit (length bs) ≡ true → RunCompared room m bs
  unfolding run_by
  overlong e = record { model = rw e; only = inl (rw e); each = λ k s. absurd (let z : ◌≡◌ {A = ℕ} 0 (suc k) = cc (rw e at s.stopped) in omega arith) }

  within : ltb records_limit (length bs) ≡ false → RunCompared room m bs
  unfolding run_by
  within e = record { model = rw e q.0; only = go q.1; each = λ k s. at-step k (rw e at s.stopped) (rw e at s.clash) q.1 }
    where
      q : Compared room rs 0 m
      q = run_from-compared room rs 0 m v

      number-0 : (t : Stops room rs 0 m) → t.step ≡ suc t.i
      number-0 t = omega (arith, t.number)

      go : Verdicts room rs 0 m → ((run room m bs).verdict ≡ (run_by width_first room m bs).verdict) ⊎ ((k : ℕ) × StoppedWide room m bs k)
      go (inl h) = inl (rw e h)
      go (inr t) = inr (t.i, record { stopped = rw (e, ← (number-0 t)) t.stopped; clash = rw e t.clash })

      at-step : (k : ℕ) → (old room rs 0 m).verdict ≡ bad (suc k) (refusal 24) → WideClash room (old room rs 0 m).model (get_or rs k []) → Verdicts room rs 0 m
          → (x : Refusal) × ((run room m bs).verdict ≡ bad (suc k) x) × Clash (run room m bs).model (get_or rs k []) x
      at-step k h w (inl same) = absurd (not_stopped room rs m k (run_from-keeps room rs 0 m v) (same ∙ h) (rw q.0 w))
      at-step k h w (inr t) =
          let stops : t.step ≡ suc k = cc (h, t.stopped) in
          let place : t.i ≡ k = omega (arith, stops, number-0 t) in
          (t.why, rw (e, ← stops) t.stops, rw (e, q.0) (rw place at t.told))

pub runs-compared : RunsCompared
runs-compared room m v bs = ⊎_elim (λ e. overlong room m v bs e) (λ e. within room m v bs e) (either (ltb records_limit (length bs)))

-- ---- a list of calls

call-compared : (room : Room) (m : Model) → Valid room m → (c : Call) → next room m c ≡ next_by width_first room m c
unfolding next_by
call-compared room m v (step_call bs) = (steps-compared room m v bs).model
call-compared room m v (run_call bs) = (runs-compared room m v bs).model
call-compared room m v other_call = refl

pub calls-compared : CallsCompared
unfolding reached_by
calls-compared room m v [] = refl
calls-compared room m v (c ∷ cs) =
    calls-compared room (next room m c) (call-keeps room m v c) cs ∙ ap (λ (m' : Model). reached_by width_first room m' cs) (call-compared room m v c)

-- ---- by computation

pub some-compared : SomeCompared
unfolding
    bytes number Refusal.first same rank holds without join clashes lowest_clash total clauses used numbers zeros signed record_of hex_digits paired hex wide_model
    no_room clause_at unknown resolvent resolving resolution_test resolution_order resolution_tests_by rule_tests_by added tests_by width_first
    judged examine_by examine_or20_by examine_bytes_by
some-compared = record { text = wide-loaded; pair = record { before = refl; now = refl }; no-pair = record { before = refl; now = refl } }
