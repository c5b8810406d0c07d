-- What a refused run names, by the calculus' claims (dqbf, specs/Statements/ClashingVariable.antt): 23 a variable, which is not 0 and has 16 bits, every other number none.
-- Offers `Well`, `plain-well`, `named-well`, `run-well`.
use mathlib.Core.Path.{◌≡◌, refl, sym}
use mathlib.Core.Logic.{◌⊎◌, inl, inr, ◌≢◌}
use mathlib.Core.Bool.{Bool, true, false, cond, not}
use mathlib.Core.List.{List, []}
use Prim.Native.Nat.{ℕ, suc, ◌<◌}
use native.Mathlib.Omega.{arith}
use borrow.Author.Tests.{eqb-true, eqb-false, ne_eqb}
use lib.Dec.{eqb}
use lib.ListN.{length, get_or}
use Rattle.dqbf.specs.Limits.{tables}
use Rattle.dqbf.specs.Refusal.{Refusal, refusal, naming}
use Rattle.dqbf.specs.Model.{Model}
use Rattle.dqbf.specs.Valid.{Valid}
use Rattle.dqbf.specs.Record.{stretches}
use Rattle.dqbf.specs.Run.{bad, run}
use Rattle.dqbf.specs.Statements.ClashingVariable.{Named}
use Rattle.dqbf.proofs.ClashingVariable.{run-named}
use Rattle.tables.specs.Tables.{Tables, model_in}
use Rattle.tables.specs.WellFormed.{long, well_formed}
use Rattle.tables.specs.declared.State.{State}
use Rattle.tables.proofs.Laws.Spread.{valid-held}
use Rattle.steps.specs.Steps.{ran_on, run_refused, run_of}
use Rattle.results.specs.Results.{named_variable, refusal_in}

pub record Well (r : Refusal) : Type 0 where
  pub clash : r.number ≡ 23 → named_variable r ≢ 0
  pub others : r.number ≢ 23 → named_variable r ≡ 0
  pub back : refusal_in r.number (named_variable r) ≡ r
  pub short : named_variable r < 65536

pub plain-well : (n : ℕ) → n ≢ 23 → Well (refusal n)
unfolding named_variable refusal_in
plain-well n d = record { clash = λ e. absurd (d e); others = λ e. refl; back = refl; short = omega arith }

naming-well : (v : ℕ) → v ≢ 0 → v < 65536 → Well (naming 23 v)
unfolding named_variable refusal_in
naming-well v d h = record { clash = λ e. d; others = λ e. absurd (e refl); back = rw (ne_eqb v 0 d); short = h }

-- a refusal without values
values-well : (r : Refusal) → r.number ≢ 23 → r.values ≡ [] → Well r
values-well r d e = let q : refusal r.number ≡ r = λ i. record { number = r.number; values = sym e i } in rw (← q) (plain-well r.number d)

pub named-well : (m : Model) → Valid tables m → (bytes : List ℕ) (r : Refusal) → Named m bytes r → Well r
named-well m v bytes r h = go (eqb r.number 23) refl
  where
    go : (b : Bool) → eqb r.number 23 ≡ b → Well r
    go true e =
        let c = h.clashing (eqb-true r.number 23 e) in
        rw c.names (naming-well c.variable c.lowest.held.some (omega (arith, c.in_use, v.few-variables)))
    go false e = let d = eqb-false r.number 23 e in values-well r d (h.others d)

verdict-well : (m : Model) → Valid tables m → (records : List ℕ) (s : ℕ) (r : Refusal) → (run tables m records).verdict ≡ bad s r → Well r
verdict-well m v records s r e = go (run tables m records).model (λ k. get_or (stretches (length records) records) k []) (run-named tables m v records s r e)
  where
    go : (left : Model) (bytes : ℕ → List ℕ) → ((s ≡ 0) × (r ≡ refusal 11)) ⊎ ((k : ℕ) × (s ≡ suc k) × Valid tables left × Named left (bytes k) r) → Well r
    go left bytes (inl w) = rw w.1 (plain-well 11 (λ z. omega arith))
    go left bytes (inr w) = named-well left w.2 (bytes w.0) r w.3

-- of a run over any tables
pub run-well : (t : Tables) (s : State) (records : List ℕ) (k : ℕ) (r : Refusal) → (run_of t s records).answer ≡ bad k r → Well r
unfolding run_of run_refused ran_on
run-well t s records k r = by (long t) refl (well_formed t s) refl
  where
    by : (a : Bool) → long t ≡ a → (b : Bool) → well_formed t s ≡ b
        → (cond (not a) (run_refused t s 1) (cond (not b) (run_refused t s 2) (ran_on t (run tables (model_in t s) records)))).answer ≡ bad k r → Well r
    by false h b f q = let e : refusal 1 ≡ r = cc in rw (← e) (plain-well 1 (λ z. omega arith))
    by true h false f q = let e : refusal 2 ≡ r = cc in rw (← e) (plain-well 2 (λ z. omega arith))
    by true h true f q = verdict-well (model_in t s) (valid-held t s h f) records k r q
