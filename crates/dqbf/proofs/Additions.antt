-- What an accepted step adds, and that nothing else changes; a fork's parts are smaller than the clause.
use mathlib.Core.Path.{◌≡◌, refl, sym}
use Prim.Native.Nat.{suc, ◌≤◌}
use native.Mathlib.Omega.{arith}
use lib.ListN.{length, length-append}
use Rattle.dqbf.specs.Refusal.{Refusal}
use Rattle.dqbf.specs.Literal.{pick}
use Rattle.dqbf.specs.Model.{Model, steps, clause_set}
use Rattle.dqbf.specs.Record.{Record, resolution, reduction, fork}
use Rattle.dqbf.specs.Rules.{Addition, add, resolving, reducing, forking, added, tests, tests_by, clause_at, fork_tests, rule_tests_by}
use Rattle.dqbf.specs.Run.{examine_by}
use Rattle.dqbf.specs.Statements.Additions.{Additions, ForkNarrow}
use Rattle.dqbf.specs.Set.{inside}
use Rattle.dqbf.specs.Cases.{left, right}
use Rattle.dqbf.proofs.Laws.Models.{judged-is, more-clauses, used-more}
use Rattle.dqbf.proofs.Laws.Tests.{or_no, passed}
use Rattle.dqbf.proofs.Laws.Dependencies.{part-short}
use Rattle.dqbf.specs.Refusal as Refusal

-- a record adds one clause, or two and a variable
added-one : (m : Model) (r : Record) → length (added m r).clauses ≡ suc (length (added m r).forks)
unfolding added resolving reducing forking
added-one m (resolution c d p) = refl
added-one m (reduction c l) = refl
added-one m (fork c a b) = refl

steps-add : (m : Model) (a : Addition) → length m.forks ≤ length m.derived → length a.clauses ≡ suc (length a.forks) → steps (add m a) ≡ suc (steps m)
unfolding steps add
steps-add m a h e = omega (arith, length-append m.derived a.clauses, length-append m.forks a.forks)

pub additions : Additions
unfolding add examine_by
additions room m v r a h =
    let e = (judged-is (Refusal.first (tests room m r)) (added m r) a h).1 in
    let one : length a.clauses ≡ suc (length a.forks) = rw e at (added-one m r) in
    record {
      rules = sym e;
      new-clauses = more-clauses m a;
      new-variables = used-more m a;
      one-step = steps-add m a v.made one;
      in_step = one;
      same-kinds = refl;
      same-sets = refl;
      same-formula = refl;
      new-sets = refl;
    }

pub fork-narrow : ForkNarrow
unfolding examine_by tests_by rule_tests_by fork_tests
fork-narrow room m v c left right a h =
    let C = clause_at m c in
    let L = clause_set m (pick left C) in
    let R = clause_set m (pick right C) in
    let t1 = passed _ _ _ (judged-is (Refusal.first (tests room m (fork c left right))) (added m (fork c left right)) a h).0 in
    let t2 = passed _ _ _ t1.1 in
    let t3 = passed _ _ _ t2.1 in
    let apart = or_no (inside L R) (inside R L) t3.0 in
    (part-short m C left right apart.1, part-short m C right left apart.0)
