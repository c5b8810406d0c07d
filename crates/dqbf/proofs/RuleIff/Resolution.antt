-- Resolution is accepted exactly if (Res) permits it within the limits.
use mathlib.Core.Path.{◌≡◌, refl, sym}
use mathlib.Core.Bool.{true, false, ◌&&◌}
use mathlib.Core.Option.{none}
use Prim.Native.Nat.{ℕ}
use lib.Dec.{ltb}
use lib.IntN.{ℤ, neg_ℤ}
use lib.ListN.{length}
use Rattle.dqbf.specs.Limits.{Room, width_limit}
use Rattle.dqbf.specs.Refusal.{Refusal}
use Rattle.dqbf.specs.Literal.{◌∈◌, holds, clashes}
use Rattle.dqbf.specs.Model.{Model, clauses}
use Rattle.dqbf.specs.Record.{resolution}
use Rattle.dqbf.specs.Rules.{Addition, clause_at, unknown, resolvent, resolving, resolution_test, resolution_order, resolution_tests_by, rule_tests_by, added, tests, tests_by}
use Rattle.dqbf.specs.Run.{accepts, examine}
use Rattle.dqbf.specs.Valid.{Valid}
use Rattle.dqbf.specs.Published.{Res, Fits}
use Rattle.dqbf.proofs.Laws.Tests.{and_left, and_right, both, ltb_no, ltb-not, no-not, not-no, pass, passed}
use Rattle.dqbf.proofs.Laws.Order.{calm, in-order-ascending, in-order-same, resolvent-order}
use Rattle.dqbf.proofs.Laws.Clauses.{holds-in, in-holds, resolvent-is}
use Rattle.dqbf.proofs.RuleIff.Steps.{accept, pure, roomy}
use Rattle.dqbf.proofs.Laws.Models.{there, resolvent-in-order, fits_in, in-number, number_in}
use Rattle.dqbf.specs.Refusal as Refusal

module _ (room : Room) (m : Model) (v : Valid room m) where
  pub res-to : (c d : ℕ) (p : ℤ) → Refusal.first (tests room m (resolution c d p)) ≡ none → Res m c d p (added m (resolution c d p)) × Fits room m (added m (resolution c d p))
  unfolding tests_by rule_tests_by resolution_tests_by resolution_test resolution_order added resolving
  res-to c d p h =
      let C = clause_at m c in
      let D = clause_at m d in
      let E = resolvent C D p in
      let t1 = passed _ _ _ h in
      let t2 = passed _ _ _ t1.1 in
      let t3 = passed _ _ _ t2.1 in
      let t4 = passed _ _ _ t3.1 in
      let t5 = passed _ _ _ t4.1 in
      let t6 = passed _ _ _ t5.1 in
      let here = not-no (holds p C && holds (neg_ℤ p) D) t3.0 in
      let in_c = there m c t1.0 in
      let in_d = there m d t2.0 in
      let order = resolvent-in-order room m v c d p t1.0 t2.0 in (
        record {
          C = C;
          D = D;
          E = E;
          is_c = number_in m c t1.0;
          is_d = number_in m d t2.0;
          pivot = holds-in p C (and_left (holds p C) (holds (neg_ℤ p) D) here);
          complement = holds-in (neg_ℤ p) D (and_right (holds p C) (holds (neg_ℤ p) D) here);
          resolvent = resolvent-is C D p;
          no-tautology = pure room m v C D E p in_c in_d (in-order-ascending E order t4.0) (λ x. (resolvent-is C D p x).0);
          in_order = order;
          narrow = ltb_no width_limit (length E) t5.0;
          adds = refl;
        },
        fits_in room m (resolving C D p) t6.0,
      )

  pub res-from : (c d : ℕ) (p : ℤ) (a : Addition) → Res m c d p a → Fits room m a → examine room m (resolution c d p) ≡ accepts a
  unfolding tests_by rule_tests_by resolution_tests_by resolution_test resolution_order added resolving
  res-from c d p a r f =
      accept room m v (resolution c d p) a
      (pass _ _ _ e_c.0 (pass _ _ _ e_d.0 (pass _ _ _ (no-not _ here) (pass _ _ _ quiet (pass _ _ _ narrow (roomy room m v (resolving (clause_at m c) (clause_at m d) p) a is-a f))))))
      is-a
    where
      e_c : (unknown m c ≡ false) × (clause_at m c ≡ r.C)
      e_c = in-number m c r.C r.is_c

      e_d : (unknown m d ≡ false) × (clause_at m d ≡ r.D)
      e_d = in-number m d r.D r.is_d

      in_c : r.C ∈ clauses m
      in_c = rw (← e_c.1) (there m c e_c.0)

      in_d : r.D ∈ clauses m
      in_d = rw (← e_d.1) (there m d e_d.0)

      same : resolvent r.C r.D p ≡ r.E
      same = in-order-same (resolvent r.C r.D p) r.E (resolvent-order r.C r.D p (v.kept r.C in_c).ascends (v.kept r.D in_d).ascends) r.in_order
          (λ x q. (r.resolvent x).1 ((resolvent-is r.C r.D p x).0 q)) (λ x q. (resolvent-is r.C r.D p x).1 ((r.resolvent x).0 q))

      is-a : resolving (clause_at m c) (clause_at m d) p ≡ a
      is-a = rw (e_c.1, e_d.1, same) (sym r.adds)

      here : (holds p (clause_at m c) && holds (neg_ℤ p) (clause_at m d)) ≡ true
      here = rw (e_c.1, e_d.1) (both (holds p r.C) (holds (neg_ℤ p) r.D) (in-holds p r.pivot) (in-holds (neg_ℤ p) r.complement))

      narrow : ltb width_limit (length (resolvent (clause_at m c) (clause_at m d) p)) ≡ false
      narrow = rw (e_c.1, e_d.1, same) (ltb-not width_limit (length r.E) r.narrow)

      quiet : clashes (resolvent (clause_at m c) (clause_at m d) p) ≡ false
      quiet = rw (e_c.1, e_d.1, same) (calm r.E r.in_order r.no-tautology)
