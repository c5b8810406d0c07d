-- Universal reduction is accepted exactly if (∀Red) permits it within the limits.
use mathlib.Core.Path.{◌≡◌, refl, sym, ◌∙◌}
use mathlib.Core.Logic.{◌⊎◌, inl, inr, ◌≢◌, ◌↔◌}
use mathlib.Core.Bool.{true, false, true≢false}
use mathlib.Core.Option.{none}
use Prim.Native.Nat.{ℕ}
use lib.Dec.{eqb}
use lib.IntN.{ℤ, neg_ℤ, nat_abs}
use Rattle.dqbf.specs.Limits.{Room}
use Rattle.dqbf.specs.Refusal.{Refusal}
use Rattle.dqbf.specs.Literal.{Clause, ◌∈◌, holds, without}
use Rattle.dqbf.specs.Model.{Model, clauses, kind_of, set_of}
use Rattle.dqbf.specs.Record.{reduction}
use Rattle.dqbf.specs.Rules.{Addition, clause_at, unknown, reducing, reads, reduction_tests, rule_tests_by, added, tests, tests_by}
use Rattle.dqbf.specs.Run.{accepts, examine}
use Rattle.dqbf.specs.Valid.{Valid}
use Rattle.dqbf.specs.Published.{Red, Fits}
use Rattle.dqbf.proofs.Laws.Tests.{eqb_is, never, no-not, not-no, pass, passed}
use Rattle.dqbf.proofs.Laws.Order.{ascending-in-order, ascending-pure, in-order-same, without-ascending}
use Rattle.dqbf.proofs.Laws.Clauses.{holds-in, in-holds, stays, without_in}
use Rattle.dqbf.proofs.Laws.Literals.{neg-abs}
use Rattle.dqbf.proofs.RuleIff.Steps.{accept, nonzero, roomy}
use Rattle.dqbf.proofs.Laws.Models.{there, fits_in, in-number, number_in}
use Rattle.dqbf.proofs.Laws.Dependencies.{reads-is}
use Rattle.dqbf.specs.Refusal as Refusal

module _ (room : Room) (m : Model) (v : Valid room m) where
  without_is : (C : Clause) (l x : ℤ) → (x ∈ without l C) ↔ ((x ∈ C) × (x ≢ l))
  without_is C l x = (without_in l x C, λ h. go h (stays l h.0))
    where
      go : (x ∈ C) × (x ≢ l) → (x ≡ l) ⊎ (x ∈ without l C) → x ∈ without l C
      go h (inl e) = absurd (h.1 e)
      go h (inr w) = w

  pub red-to : (c : ℕ) (l : ℤ) → Refusal.first (tests room m (reduction c l)) ≡ none → Red m c l (added m (reduction c l)) × Fits room m (added m (reduction c l))
  unfolding tests_by rule_tests_by reduction_tests added reducing
  red-to c l h =
      let C = clause_at m c in
      let t1 = passed _ _ _ h in
      let t2 = passed _ _ _ t1.1 in
      let t3 = passed _ _ _ t2.1 in
      let t4 = passed _ _ _ t3.1 in
      let t5 = passed _ _ _ t4.1 in
      let in_c = there m c t1.0 in
      let s = (v.kept C in_c).ascends in
      let present = holds-in l C (not-no (holds l C) t2.0) in
      let universal = eqb_is (kind_of m (nat_abs l)) 1 (not-no (eqb (kind_of m (nat_abs l)) 1) t3.0) in (
        record {
          C = C;
          E = without l C;
          is_c = number_in m c t1.0;
          present = present;
          complement = λ q. nonzero room m v C in_c l present (ascending-pure C s l (neg_ℤ l) present q (sym (neg-abs l)));
          universal = universal;
          left = without_is C l;
          unread = λ d. true≢false (sym ((reads-is m (nat_abs l) universal (without l C)).1 d) ∙ t4.0);
          in_order = ascending-in-order (without l C) (without-ascending l C s);
          adds = refl;
        },
        fits_in room m (reducing C l) t5.0,
      )

  pub red-from : (c : ℕ) (l : ℤ) (a : Addition) → Red m c l a → Fits room m a → examine room m (reduction c l) ≡ accepts a
  unfolding tests_by rule_tests_by reduction_tests added reducing
  red-from c l a r f =
      accept room m v (reduction c l) a
      (pass _ _ _ e_c.0 (pass _ _ _ (no-not _ here) (pass _ _ _ (no-not (eqb (kind_of m (nat_abs l)) 1) (rw r.universal)) (pass _ _ _ unread (roomy room m v (reducing (clause_at m c) l) a is-a f)))))
      is-a
    where
      e_c : (unknown m c ≡ false) × (clause_at m c ≡ r.C)
      e_c = in-number m c r.C r.is_c

      in_c : r.C ∈ clauses m
      in_c = rw (← e_c.1) (there m c e_c.0)

      same : without l r.C ≡ r.E
      same = in-order-same (without l r.C) r.E (ascending-in-order (without l r.C) (without-ascending l r.C (v.kept r.C in_c).ascends)) r.in_order
          (λ x q. (r.left x).1 ((without_is r.C l x).0 q)) (λ x q. (without_is r.C l x).1 ((r.left x).0 q))

      is-a : reducing (clause_at m c) l ≡ a
      is-a = rw (e_c.1, same) (sym r.adds)

      here : holds l (clause_at m c) ≡ true
      here = rw e_c.1 (in-holds l r.present)

      unread : reads m (set_of m (nat_abs l)) (without l (clause_at m c)) ≡ false
      unread = rw (e_c.1, same) (never (reads m (set_of m (nat_abs l)) r.E) (λ h. r.unread ((reads-is m (nat_abs l) r.universal r.E).0 h)))
