-- A resolution that is refused with 23 names the lowest variable that its resolvent holds in both signs; no other refusal of a step has a value.
use mathlib.Core.Path.{◌≡◌, refl, sym, ◌∙◌}
use mathlib.Core.Logic.{◌⊎◌, inl, inr, ◌≢◌}
use mathlib.Core.Bool.{Bool, true, false, cond, true≢false}
use mathlib.Core.List.{List, [], ◌∷◌}
use mathlib.Core.Option.{Option, none, some}
use Prim.Native.Nat.{ℕ, suc, ◌≤◌}
use native.Mathlib.Omega.{arith}
use lib.Dec.{eqb, ltb}
use lib.IntN.{ℤ, pos, neg_ℤ, nat_abs}
use lib.ListN.{length, get_or}
use Rattle.dqbf.specs.Limits.{Room, records_limit}
use Rattle.dqbf.specs.Refusal.{Refusal, refusal, naming, Test, ◌when◌, first}
use Rattle.dqbf.specs.Literal.{Clause, ◌∈◌, clashes, lowest_clash}
use Rattle.dqbf.specs.Model.{Model, used}
use Rattle.dqbf.specs.Valid.{Valid}
use Rattle.dqbf.specs.Record.{Record, resolution, reduction, fork, record_of, stretches}
use Rattle.dqbf.specs.Rules.{clause_at, unknown, resolvent, resolution_test, resolution_order, resolution_tests_by, reduction_tests, fork_tests, rule_tests_by, added, tests, tests_by}
use Rattle.dqbf.specs.Run.{refuses, examine_by, examine_or20, examine_or20_by, examine_bytes_by, bad, Ran, run_from, run_by, run_call, next_by}
use Rattle.dqbf.specs.Statements.ClashingVariable.{Named, ClashingVariable, RunNamed}
use Rattle.dqbf.proofs.Laws.Tests.{eqb_same, some_is}
use Rattle.dqbf.proofs.Laws.Clashes.{clash-lowest}
use Rattle.dqbf.proofs.Laws.Models.{refused-first, there, in_use, resolvent-in-order}
use Rattle.dqbf.proofs.Laws.Clauses.{resolvent-is}
use Rattle.dqbf.proofs.Laws.Stopping.{stopped-at}
use Rattle.dqbf.proofs.StepsKeepValid.{call-keeps}

-- ---- the first test that applies

-- what holds of the refusal of each test, where those before it did not apply, holds of the first that applies
module _ (P : Refusal → Type 0) where
  abbrev All : List Test → Type 0
  All ts = (x : Refusal) → first ts ≡ some x → P x

  all_nil : All []
  unfolding first
  all_nil x h = absurd (let z : ◌≡◌ {A = ℕ} 0 1 = cc in omega arith)

  all_cons : (r : Refusal) (b : Bool) (ts : List Test) → (b ≡ true → P r) → (b ≡ false → All ts) → All ((r when b) ∷ ts)
  unfolding first
  all_cons r true ts h q x e = rw (← (some_is r x e)) (h refl)
  all_cons r false ts h q x e = q refl x e

-- ---- a step

module _ (room : Room) (m : Model) (v : Valid room m) (bytes : List ℕ) where
  abbrev N : Refusal → Type 0
  N = Named m bytes

  -- a refusal without a value, of another number
  plain-named : (n : ℕ) → eqb n 23 ≡ false → N (refusal n)
  plain-named n d = record { clashing = λ e. absurd (true≢false (sym (eqb_same 23) ∙ (rw e at d))); others = λ e. refl }

  skip-plain : (n : ℕ) → eqb n 23 ≡ false → (b : Bool) (ts : List Test) → All N ts → All N ((refusal n when b) ∷ ts)
  skip-plain n d b ts h = all_cons N (refusal n) b ts (λ e. plain-named n d) (λ e. h)

  -- a literal of a resolvent has a variable in use
  clause-used : (c : ℕ) → unknown m c ≡ false → (l : ℤ) → l ∈ clause_at m c → nat_abs l ≤ used m
  clause-used c k l q = in_use m (nat_abs l) ((v.kept (clause_at m c) (there m c k)).over l q)

  module _ (c d : ℕ) (p : ℤ) (known : unknown m c ≡ false) (known' : unknown m d ≡ false) where
    abbrev E : Clause
    E = resolvent (clause_at m c) (clause_at m d) p

    resolvent-used : (l : ℤ) → l ∈ E → nat_abs l ≤ used m
    resolvent-used l q = go ((resolvent-is (clause_at m c) (clause_at m d) p l).0 q)
      where
        go : ((l ∈ clause_at m c) × (l ≢ p)) ⊎ ((l ∈ clause_at m d) × (l ≢ neg_ℤ p)) → nat_abs l ≤ used m
        go (inl h) = clause-used c known l h.0
        go (inr h) = clause-used d known' l h.0

    pub resolvent-named : record_of bytes ≡ some (resolution c d p) → clashes E ≡ true → N (naming 23 (lowest_clash E))
    resolvent-named says h =
        let lowest = (clash-lowest E (resolvent-in-order room m v c d p known known')).0 h in
        record {
          clashing = λ e. record {
            first = c;
            second = d;
            pivot = p;
            variable = lowest_clash E;
            resolves = says;
            names = refl;
            lowest = lowest;
            in_use = resolvent-used (pos (lowest_clash E)) lowest.held.positive;
          };
          others = λ e. absurd (e refl);
        }

  all_named : (r : Record) → record_of bytes ≡ some r → All N (tests room m r)
  unfolding tests_by rule_tests_by resolution_tests_by resolution_test resolution_order reduction_tests fork_tests
  all_named (resolution c d p) h =
      all_cons N (refusal 21) _ _ (λ e. plain-named 21 refl)
      (λ k. all_cons N (refusal 21) _ _ (λ e. plain-named 21 refl)
      (λ k'. skip-plain 22 refl _ _ (all_cons N (naming 23 (lowest_clash (resolvent (clause_at m c) (clause_at m d) p))) _ _ (resolvent-named c d p k k' h) (λ e. skip-plain 24 refl _ _ (skip-plain 25 refl _ _ (all_nil N))))))
  all_named (reduction c l) h = skip-plain 21 refl _ _ (skip-plain 22 refl _ _ (skip-plain 26 refl _ _ (skip-plain 27 refl _ _ (skip-plain 25 refl _ _ (all_nil N)))))
  all_named (fork c a b) h = skip-plain 21 refl _ _ (skip-plain 28 refl _ _ (skip-plain 29 refl _ _ (skip-plain 25 refl _ _ (all_nil N))))

  read_named : (o : Option Record) → record_of bytes ≡ o → (x : Refusal) → examine_or20 room m o ≡ refuses x → N x
  unfolding examine_or20_by examine_by
  read_named none h x e = let q : refusal 20 ≡ x = cc in rw (← q) (plain-named 20 refl)
  read_named (some r) h x e = all_named r h x (refused-first (first (tests room m r)) (added m r) x e)

pub clashing-variable : ClashingVariable
unfolding examine_bytes_by
clashing-variable room m v bytes x h = read_named room m v bytes (record_of bytes) refl x h

-- ---- a run

pub run-named : RunNamed
unfolding run_by next_by
run-named room m v bs s x = go (ltb records_limit (length bs)) (call-keeps room m v (run_call bs))
  where
    rs : List (List ℕ)
    rs = stretches (length bs) bs

    ran_by : Bool → Ran
    ran_by b = cond b (record { model = m; verdict = bad 0 (refusal 11) }) (run_from room rs 0 m)

    go : (b : Bool) → Valid room (ran_by b).model → (ran_by b).verdict ≡ bad s x
        → ((s ≡ 0) × (x ≡ refusal 11)) ⊎ ((k : ℕ) × (s ≡ suc k) × Valid room (ran_by b).model × Named (ran_by b).model (get_or rs k []) x)
    go true w h = inl (cc, cc)
    go false w h =
        let t = stopped-at room rs 0 m s x h in
        inr (t.before, omega (arith, t.step), w, clashing-variable room (ran_by false).model w (get_or rs t.before []) x t.refused)
