-- A fork is accepted exactly if (FEx) permits it within the limits.
use mathlib.Core.Path.{◌≡◌, refl, sym, ◌∙◌}
use mathlib.Core.Logic.{◌⊎◌, inl, inr}
use mathlib.Core.Bool.{true, false, ◌||◌, true≢false}
use mathlib.Core.List.{[], ◌∷◌, ◌++◌}
use mathlib.Core.Option.{none}
use Prim.Native.Nat.{ℕ, suc}
use native.Mathlib.Omega.{arith}
use lib.IntN.{ℤ, pos, negsuc, nat_abs}
use Rattle.dqbf.specs.Limits.{Room}
use Rattle.dqbf.specs.Refusal.{Refusal}
use Rattle.dqbf.specs.Literal.{Clause, ◌∈◌, pick, covers}
use Rattle.dqbf.specs.Set.{inside, common}
use Rattle.dqbf.specs.Model.{Model, clauses, used, clause_set}
use Rattle.dqbf.specs.Record.{fork}
use Rattle.dqbf.specs.Rules.{Addition, clause_at, unknown, forking, fork_tests, rule_tests_by, added, tests, tests_by}
use Rattle.dqbf.specs.Run.{accepts, examine}
use Rattle.dqbf.specs.Valid.{InOrder, Valid}
use Rattle.dqbf.specs.Published.{FEx, Fits}
use Rattle.dqbf.proofs.Laws.Tests.{never, no-not, no_or, not-no, or_no, pass, passed}
use Rattle.dqbf.proofs.Laws.Order.{ascending-in-order, in-order-same, more-ascending, pick-ascending}
use Rattle.dqbf.proofs.Laws.Masks.{covers-from, covers-to, pick_is}
use Rattle.dqbf.proofs.Laws.Clauses.{more-is, pick-in}
use Rattle.dqbf.proofs.RuleIff.Steps.{accept, roomy}
use Rattle.dqbf.proofs.Laws.Dependencies.{common-of-universals, common-universals, dep-subset, inside-universals, same-universals}
use Rattle.dqbf.proofs.Laws.Models.{there, fits_in, in-number, in_use, number_in}
use Rattle.dqbf.specs.Refusal as Refusal

module _ (room : Room) (m : Model) (v : Valid room m) where
  -- a part with a literal of the next number is in order
  part-order : (C : Clause) → C ∈ clauses m → (a : ℕ) (x : ℤ) → nat_abs x ≡ suc (used m) → InOrder (pick a C ++ (x ∷ []))
  part-order C c a x e =
      ascending-in-order (pick a C ++ (x ∷ []))
      (more-ascending (pick a C) x (pick-ascending a C (v.kept C c).ascends) (λ l q. let u = in_use m (nat_abs l) ((v.kept C c).over l (pick-in a C l q)) in omega arith))

  pub fork-to : (c a b : ℕ) → Refusal.first (tests room m (fork c a b)) ≡ none → FEx m c a b (added m (fork c a b)) × Fits room m (added m (fork c a b))
  unfolding tests_by rule_tests_by fork_tests added forking
  fork-to c a b h =
      let C = clause_at m c in
      let L = pick a C in
      let R = pick b C in
      let t1 = passed _ _ _ h in
      let t2 = passed _ _ _ t1.1 in
      let t3 = passed _ _ _ t2.1 in
      let t4 = passed _ _ _ t3.1 in
      let in_c = there m c t1.0 in
      let apart = or_no (inside (clause_set m L) (clause_set m R)) (inside (clause_set m R) (clause_set m L)) t3.0 in (
        record {
          C = C;
          L = L;
          R = R;
          E = L ++ (pos (suc (used m)) ∷ []);
          F = R ++ (negsuc (used m) ∷ []);
          s = common (clause_set m L) (clause_set m R);
          is_c = number_in m c t1.0;
          covers = covers-to a b C (not-no (covers a b C) t2.0);
          is_l = pick_is a C;
          is_r = pick_is b C;
          not-inside = λ i. true≢false (sym ((inside-universals room m v L R).1 i) ∙ apart.0);
          not-around = λ i. true≢false (sym ((inside-universals room m v R L).1 i) ∙ apart.1);
          universals = common-of-universals room m v L R;
          common = common-universals room m v L R;
          fresh = λ D q x k e. let u = in_use m (nat_abs x) ((v.kept D q).over x k) in omega arith;
          is_e = more-is L (pos (suc (used m)));
          is_f = more-is R (negsuc (used m));
          E-in-order = part-order C in_c a (pos (suc (used m))) refl;
          F-in-order = part-order C in_c b (negsuc (used m)) refl;
          adds = refl;
        },
        fits_in room m (forking m L R) t4.0,
      )

  pub fork-from : (c a b : ℕ) (x : Addition) → FEx m c a b x → Fits room m x → examine room m (fork c a b) ≡ accepts x
  unfolding tests_by rule_tests_by fork_tests added forking
  fork-from c a b x r f =
      accept room m v (fork c a b) x
      (pass _ _ _ e_c.0 (pass _ _ _ (no-not _ cover) (pass _ _ _ apart (roomy room m v (forking m (pick a (clause_at m c)) (pick b (clause_at m c))) x is_x f))))
      is_x
    where
      e_c : (unknown m c ≡ false) × (clause_at m c ≡ r.C)
      e_c = in-number m c r.C r.is_c

      in_c : r.C ∈ clauses m
      in_c = rw (← e_c.1) (there m c e_c.0)

      cover : covers a b (clause_at m c) ≡ true
      cover = rw e_c.1 (covers-from a b r.C r.covers)

      L : Clause
      L = pick a r.C

      R : Clause
      R = pick b r.C

      to-L : (y : ℤ) → y ∈ L → y ∈ r.L
      to-L y q = (r.is_l y).1 ((pick_is a r.C y).0 q)

      from-L : (y : ℤ) → y ∈ r.L → y ∈ L
      from-L y q = (pick_is a r.C y).1 ((r.is_l y).0 q)

      to-R : (y : ℤ) → y ∈ R → y ∈ r.R
      to-R y q = (r.is_r y).1 ((pick_is b r.C y).0 q)

      from-R : (y : ℤ) → y ∈ r.R → y ∈ R
      from-R y q = (pick_is b r.C y).1 ((r.is_r y).0 q)

      apart : (inside (clause_set m (pick a (clause_at m c))) (clause_set m (pick b (clause_at m c))) || inside (clause_set m (pick b (clause_at m c))) (clause_set m (pick a (clause_at m c)))) ≡ false
      apart = rw e_c.1 (no_or (inside (clause_set m L) (clause_set m R)) (inside (clause_set m R) (clause_set m L))
          (never (inside (clause_set m L) (clause_set m R)) (λ h. r.not-inside (λ u d. dep-subset m R r.R to-R u ((inside-universals room m v L R).0 h u (dep-subset m r.L L from-L u d)))))
          (never (inside (clause_set m R) (clause_set m L)) (λ h. r.not-around (λ u d. dep-subset m L r.L to-L u ((inside-universals room m v R L).0 h u (dep-subset m r.R R from-R u d))))))

      onward : {A B : Type 0} {Y : Type 0} → (A → B) → A ⊎ Y → B ⊎ Y
      onward g (inl p) = inl (g p)
      onward g (inr p) = inr p

      same-E : L ++ (pos (suc (used m)) ∷ []) ≡ r.E
      same-E = in-order-same (L ++ (pos (suc (used m)) ∷ [])) r.E (part-order r.C in_c a (pos (suc (used m))) refl) r.E-in-order
          (λ y q. (r.is_e y).1 (onward (to-L y) ((more-is L (pos (suc (used m))) y).0 q))) (λ y q. (more-is L (pos (suc (used m))) y).1 (onward (from-L y) ((r.is_e y).0 q)))

      same-F : R ++ (negsuc (used m) ∷ []) ≡ r.F
      same-F = in-order-same (R ++ (negsuc (used m) ∷ [])) r.F (part-order r.C in_c b (negsuc (used m)) refl) r.F-in-order
          (λ y q. (r.is_f y).1 (onward (to-R y) ((more-is R (negsuc (used m)) y).0 q))) (λ y q. (more-is R (negsuc (used m)) y).1 (onward (from-R y) ((r.is_f y).0 q)))

      same_s : common (clause_set m L) (clause_set m R) ≡ r.s
      same_s = same-universals room m v (common (clause_set m L) (clause_set m R)) r.s (common-of-universals room m v L R) r.universals
          (λ u h. let d = (common-universals room m v L R u).0 h in (r.common u).1 (dep-subset m L r.L to-L u d.0, dep-subset m R r.R to-R u d.1))
          (λ u h. let d = (r.common u).0 h in (common-universals room m v L R u).1 (dep-subset m r.L L from-L u d.0, dep-subset m r.R R from-R u d.1))

      is-added : forking m L R ≡ record { clauses = r.E ∷ r.F ∷ []; forks = r.s ∷ [] }
      is-added = λ i. record { clauses = same-E i ∷ same-F i ∷ []; forks = same_s i ∷ [] }

      is_x : forking m (pick a (clause_at m c)) (pick b (clause_at m c)) ≡ x
      is_x = rw e_c.1 (is-added ∙ sym r.adds)
