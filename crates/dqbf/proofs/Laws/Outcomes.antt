-- The outcome of examining a record (specs/Rules.antt, specs/Run.antt), one law for each refusal and one for acceptance, in the order of the tests: each
-- section assumes that the tests before it pass.
use mathlib.Core.Path.{◌≡◌}
use mathlib.Core.Bool.{true, false, ◌&&◌, ◌||◌}
use Prim.Native.Nat.{ℕ}
use lib.Dec.{eqb, ltb}
use lib.IntN.{ℤ, neg_ℤ, nat_abs}
use lib.ListN.{length}
use Rattle.dqbf.specs.Limits.{Room, width_limit}
use Rattle.dqbf.specs.Refusal.{refusal, naming, first}
use Rattle.dqbf.specs.Literal.{holds, without, clashes, lowest_clash, pick, covers}
use Rattle.dqbf.specs.Set.{inside}
use Rattle.dqbf.specs.Model.{Model, kind_of, set_of, clause_set}
use Rattle.dqbf.specs.Record.{Record, resolution, reduction, fork}
use Rattle.dqbf.specs.Rules.{no_room, clause_at, unknown, resolvent, resolving, resolution_test, resolution_order, resolution_tests_by, reads, reducing, reduction_tests, forking, fork_tests, rule_tests_by, added, tests_by}
use Rattle.dqbf.specs.Run.{accepts, refuses, judged, examine, examine_by}

-- ---- resolution: 21, 21, 22, 23, 24, 25

module _ (room : Room) (m : Model) (c d : ℕ) (p : ℤ) where
  abbrev r : Record
  r = resolution c d p

  pub resolution-first : unknown m c ≡ true → examine room m r ≡ refuses (refusal 21)
  unfolding examine_by tests_by rule_tests_by judged first
  resolution-first h = rw h

  module _ (known : unknown m c ≡ false) where
    pub resolution-second : unknown m d ≡ true → examine room m r ≡ refuses (refusal 21)
    unfolding examine_by tests_by rule_tests_by judged first
    resolution-second h = rw (known, h)

    module _ (known' : unknown m d ≡ false) where
      pub resolution-22 : (holds p (clause_at m c) && holds (neg_ℤ p) (clause_at m d)) ≡ false → examine room m r ≡ refuses (refusal 22)
      unfolding examine_by tests_by rule_tests_by resolution_tests_by resolution_test resolution_order judged first
      resolution-22 h = rw (known, known', h)

      module _ (held : (holds p (clause_at m c) && holds (neg_ℤ p) (clause_at m d)) ≡ true) where
        pub resolution-23 : clashes (resolvent (clause_at m c) (clause_at m d) p) ≡ true → examine room m r ≡ refuses (naming 23 (lowest_clash (resolvent (clause_at m c) (clause_at m d) p)))
        unfolding examine_by tests_by rule_tests_by resolution_tests_by resolution_test resolution_order judged first
        resolution-23 h = rw (known, known', held, h)

        module _ (calm : clashes (resolvent (clause_at m c) (clause_at m d) p) ≡ false) where
          pub resolution-24 : ltb width_limit (length (resolvent (clause_at m c) (clause_at m d) p)) ≡ true → examine room m r ≡ refuses (refusal 24)
          unfolding examine_by tests_by rule_tests_by resolution_tests_by resolution_test resolution_order judged first
          resolution-24 h = rw (known, known', held, calm, h)

          module _ (narrow : ltb width_limit (length (resolvent (clause_at m c) (clause_at m d) p)) ≡ false) where
            pub resolution-25 : no_room room m (resolving (clause_at m c) (clause_at m d) p) ≡ true → examine room m r ≡ refuses (refusal 25)
            unfolding examine_by tests_by rule_tests_by resolution_tests_by resolution_test resolution_order added judged first
            resolution-25 h = rw (known, known', held, calm, narrow, h)

            pub resolution-accepted : no_room room m (resolving (clause_at m c) (clause_at m d) p) ≡ false
                → examine room m r ≡ accepts (resolving (clause_at m c) (clause_at m d) p)
            unfolding examine_by tests_by rule_tests_by resolution_tests_by resolution_test resolution_order added judged first
            resolution-accepted h = rw (known, known', held, calm, narrow, h)

-- ---- universal reduction: 21, 22, 26, 27, 25

module _ (room : Room) (m : Model) (c : ℕ) (l : ℤ) where
  abbrev u : Record
  u = reduction c l

  pub reduction-21 : unknown m c ≡ true → examine room m u ≡ refuses (refusal 21)
  unfolding examine_by tests_by rule_tests_by judged first
  reduction-21 h = rw h

  module _ (known : unknown m c ≡ false) where
    pub reduction-22 : holds l (clause_at m c) ≡ false → examine room m u ≡ refuses (refusal 22)
    unfolding examine_by tests_by rule_tests_by reduction_tests judged first
    reduction-22 h = rw (known, h)

    module _ (held : holds l (clause_at m c) ≡ true) where
      pub reduction-26 : eqb (kind_of m (nat_abs l)) 1 ≡ false → examine room m u ≡ refuses (refusal 26)
      unfolding examine_by tests_by rule_tests_by reduction_tests judged first
      reduction-26 h = rw (known, held, h)

      module _ (universal : eqb (kind_of m (nat_abs l)) 1 ≡ true) where
        pub reduction-27 : reads m (set_of m (nat_abs l)) (without l (clause_at m c)) ≡ true → examine room m u ≡ refuses (refusal 27)
        unfolding examine_by tests_by rule_tests_by reduction_tests judged first
        reduction-27 h = rw (known, held, universal, h)

        module _ (unread : reads m (set_of m (nat_abs l)) (without l (clause_at m c)) ≡ false) where
          pub reduction-25 : no_room room m (reducing (clause_at m c) l) ≡ true → examine room m u ≡ refuses (refusal 25)
          unfolding examine_by tests_by rule_tests_by reduction_tests added judged first
          reduction-25 h = rw (known, held, universal, unread, h)

          pub reduction-accepted : no_room room m (reducing (clause_at m c) l) ≡ false → examine room m u ≡ accepts (reducing (clause_at m c) l)
          unfolding examine_by tests_by rule_tests_by reduction_tests added judged first
          reduction-accepted h = rw (known, held, universal, unread, h)

-- ---- fork: 21, 28, 29, 25

module _ (room : Room) (m : Model) (c a b : ℕ) where
  abbrev f : Record
  f = fork c a b

  pub fork-21 : unknown m c ≡ true → examine room m f ≡ refuses (refusal 21)
  unfolding examine_by tests_by rule_tests_by judged first
  fork-21 h = rw h

  module _ (known : unknown m c ≡ false) where
    pub fork-28 : covers a b (clause_at m c) ≡ false → examine room m f ≡ refuses (refusal 28)
    unfolding examine_by tests_by rule_tests_by fork_tests judged first
    fork-28 h = rw (known, h)

    module _ (whole : covers a b (clause_at m c) ≡ true) where
      pub fork-29 :
          (inside (clause_set m (pick a (clause_at m c))) (clause_set m (pick b (clause_at m c))) || inside (clause_set m (pick b (clause_at m c))) (clause_set m (pick a (clause_at m c))))
          ≡ true
          → examine room m f ≡ refuses (refusal 29)
      unfolding examine_by tests_by rule_tests_by fork_tests judged first
      fork-29 h = rw (known, whole, h)

      module _
          (apart : (inside (clause_set m (pick a (clause_at m c))) (clause_set m (pick b (clause_at m c))) || inside (clause_set m (pick b (clause_at m c))) (clause_set m (pick a (clause_at m c)))) ≡ false)
        where
          pub fork-25 : no_room room m (forking m (pick a (clause_at m c)) (pick b (clause_at m c))) ≡ true → examine room m f ≡ refuses (refusal 25)
          unfolding examine_by tests_by rule_tests_by fork_tests added judged first
          fork-25 h = rw (known, whole, apart, h)

          pub fork-accepted : no_room room m (forking m (pick a (clause_at m c)) (pick b (clause_at m c))) ≡ false
              → examine room m f ≡ accepts (forking m (pick a (clause_at m c)) (pick b (clause_at m c)))
          unfolding examine_by tests_by rule_tests_by fork_tests added judged first
          fork-accepted h = rw (known, whole, apart, h)
