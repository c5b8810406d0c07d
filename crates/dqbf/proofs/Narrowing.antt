-- Two models that differ in sets only, as the two rules of `e` lines make them (specs/Statements/ELines.antt): where a set differs, the old one was `top`, which
-- contains every set, and the new one is smaller.
--
-- A part of a clause that holds a variable with the set `top` contains the other part, so that no accepted fork has one: both parts of an accepted fork keep their
-- sets. Sets that become smaller let reductions through and stop none. So a record gets the same answer in both models, or was refused with 27 or 29.
use mathlib.Core.Path.{◌≡◌, refl, sym, ◌∙◌, ap, ap₂}
use mathlib.Core.Logic.{◌⊎◌, inl, inr}
use mathlib.Core.Bool.{Bool, true, false, cond, not, ◌||◌, true≢false}
use mathlib.Core.List.Memᴰ
use mathlib.Core.List.{List, [], ◌∷◌, ◌++◌, append-nil, append_assoc}
use mathlib.Core.Option.{Option, none, some}
use Prim.Native.Nat.{ℕ, zero, suc, ◌≤◌}
use native.Mathlib.Omega.{arith}
use lib.Dec.{eqb}
use lib.IntN.{nat_abs}
use lib.ListN.{length, get_or, replicate}
use Rattle.dqbf.specs.Limits.{Room}
use Rattle.dqbf.specs.Refusal.{Refusal, refusal, ◌when◌}
use Rattle.dqbf.specs.Literal.{Clause, ◌∈◌, holds, without, pick, covers}
use Rattle.dqbf.specs.Set.{Set, union, inside}
use Rattle.dqbf.specs.Model.{Model, clauses, used, steps, lowest_empty, kind_of, set_of, clause_set}
use Rattle.dqbf.specs.Record.{Record, resolution, reduction, fork, record_of}
use Rattle.dqbf.specs.Rules.{Addition, add, no_room, clause_at, unknown, resolving, reducing, reads, reduction_tests, forking, fork_tests, rule_tests_by, added, tests, tests_by}
use Rattle.dqbf.specs.Run.{Examined, accepts, refuses, judged, examine, examine_by, examine_or20, examine_or20_by, examine_bytes, examine_bytes_by, refuted, open', bad, Verdict, Ran, verdict_of, go_on, run_from, run_from_by}
use Rattle.dqbf.specs.Statements.ELines.{onward, beginning, Lifted, Stays}
use Rattle.dqbf.proofs.Laws.Tests.{eqb_is, never, no_or, not-no, or_no}
use Rattle.dqbf.proofs.Laws.Containment.{inside-trans, inside-self, none_inside, inside-left, inside-right, union-inside, common-inside}
use Rattle.dqbf.proofs.Laws.Models.{judged-is}
use Rattle.dqbf.specs.Refusal as Refusal

-- ---- answers by truth values: the same one; or the old one was lifted, and the record is accepted or finds no room

abbrev Eased : (old new : Examined) → Type 0
Eased old new = (new ≡ old) ⊎ ((x : Refusal) × Lifted x × (old ≡ refuses x) × (((a : Addition) × (new ≡ accepts a)) ⊎ (new ≡ refuses (refusal 25))))

reduction-eased : (unknown absent other read read' full : Bool) (a : Addition) → (other ≡ false → read ≡ false → read' ≡ false)
    → Eased (judged (Refusal.first ((refusal 21 when unknown) ∷ (refusal 22 when absent) ∷ (refusal 26 when other) ∷ (refusal 27 when read) ∷ (refusal 25 when full) ∷ [])) a)
    (judged (Refusal.first ((refusal 21 when unknown) ∷ (refusal 22 when absent) ∷ (refusal 26 when other) ∷ (refusal 27 when read') ∷ (refusal 25 when full) ∷ [])) a)
unfolding Refusal.first judged
reduction-eased true absent other read read' full a h = inl refl
reduction-eased false true other read read' full a h = inl refl
reduction-eased false false true read read' full a h = inl refl
reduction-eased false false false true true full a h = inl refl
reduction-eased false false false true false true a h = inr (refusal 27, inl refl, refl, inr refl)
reduction-eased false false false true false false a h = inr (refusal 27, inl refl, refl, inl (a, refl))
reduction-eased false false false false read' full a h = rw (h refl refl) (inl refl)

fork-eased : (unknown uncovered contains contains' full full' : Bool) (a b : Addition)
    → (contains ≡ false → (contains' ≡ false) × (full' ≡ full) × (b ≡ a))
    → Eased (judged (Refusal.first ((refusal 21 when unknown) ∷ (refusal 28 when uncovered) ∷ (refusal 29 when contains) ∷ (refusal 25 when full) ∷ [])) a)
    (judged (Refusal.first ((refusal 21 when unknown) ∷ (refusal 28 when uncovered) ∷ (refusal 29 when contains') ∷ (refusal 25 when full') ∷ [])) b)
unfolding Refusal.first judged
fork-eased true uncovered contains contains' full full' a b h = inl refl
fork-eased false true contains contains' full full' a b h = inl refl
fork-eased false false true true full full' a b h = inl refl
fork-eased false false true false full true a b h = inr (refusal 29, inr refl, refl, inr refl)
fork-eased false false true false full false a b h = inr (refusal 29, inr refl, refl, inl (b, refl))
fork-eased false false false contains' full full' a b h = let k = h refl in rw (k.0, k.1, k.2) (inl refl)

-- ---- the two models

unfoldable pub with_sets : Model → List Set → Model
with_sets m ts = record { kinds = m.kinds; sets = ts; formula = m.formula; forks = m.forks; derived = m.derived }

-- of a variable of kind k the set s, which lies inside `top`, became t: a universal's set stays; another stays too, or was `top` and is a set inside it
pub record Narrower (top : Set) (k : ℕ) (s t : Set) : Type 0 where
  pub within : inside s top ≡ true
  pub kept : k ≡ 1 → t ≡ s
  pub smaller : (t ≡ s) ⊎ ((s ≡ top) × (inside t top ≡ true))

pub data Entries (top : Set) : List ℕ → List Set → List Set → Type 0 where
  done : Entries top [] [] []
  more : {k : ℕ} {s t : Set} {ks ss ts : List ℕ} → Narrower top k s t → Entries top ks ss ts → Entries top (k ∷ ks) (s ∷ ss) (t ∷ ts)

abbrev pub AllInside : Set → List Set → Type 0
AllInside top fs = (s : Set) → s ∈ fs → inside s top ≡ true

same_set : (top : Set) (k : ℕ) (s : Set) → inside s top ≡ true → Narrower top k s s
same_set top k s h = record { within = h; kept = λ e. refl; smaller = inl refl }

at-inside : (top : Set) (fs : List Set) → AllInside top fs → (i : ℕ) → inside (get_or fs i 0) top ≡ true
at-inside top [] h i = none_inside top
at-inside top (f ∷ fs) h zero = h f (Memᴰ.head refl)
at-inside top (f ∷ fs) h (suc i) = at-inside top fs (λ s q. h s (Memᴰ.tail q)) i

look : (top : Set) {ks ss ts : List ℕ} → Entries top ks ss ts → (ns fs : List ℕ) → AllInside top fs → (i : ℕ)
    → Narrower top (get_or (ks ++ ns) i 0) (get_or (ss ++ fs) i 0) (get_or (ts ++ fs) i 0)
look top done ns fs h i = same_set top (get_or ns i 0) (get_or fs i 0) (at-inside top fs h i)
look top (more e es) ns fs h zero = e
look top (more e es) ns fs h (suc i) = look top es ns fs h i

module _ (room : Room) (top : Set) (ts : List Set) where
  module _ (m : Model) (es : Entries top m.kinds m.sets ts) (forks-in : AllInside top m.forks) where
    abbrev n : Model
    n = with_sets m ts

    -- ---- what does not depend on sets

    same-clause : (c : ℕ) → clause_at n c ≡ clause_at m c
    unfolding clause_at clauses with_sets
    same-clause zero = refl
    same-clause (suc i) = refl

    same-unknown : (c : ℕ) → unknown n c ≡ unknown m c
    unfolding unknown clauses with_sets
    same-unknown c = refl

    same_kind : (v : ℕ) → kind_of n v ≡ kind_of m v
    unfolding kind_of with_sets
    same_kind zero = refl
    same_kind (suc i) = refl

    same-room : (a : Addition) → no_room room n a ≡ no_room room m a
    unfolding no_room clauses used with_sets
    same-room a = refl

    same-used : used n ≡ used m
    unfolding used with_sets
    same-used = refl

    -- ---- the sets

    entry : (v : ℕ) → Narrower top (kind_of m v) (set_of m v) (set_of n v)
    unfolding kind_of set_of with_sets
    entry zero = same_set top 0 0 (none_inside top)
    entry (suc i) = look top es (replicate (length m.forks) 3) m.forks forks-in i

    less : (v : ℕ) → inside (set_of n v) (set_of m v) ≡ true
    less v = go (entry v).smaller
      where
        go : (set_of n v ≡ set_of m v) ⊎ ((set_of m v ≡ top) × (inside (set_of n v) top ≡ true)) → inside (set_of n v) (set_of m v) ≡ true
        go (inl e) = rw e (inside-self (set_of m v))
        go (inr h) = rw h.0 h.1

    clause-in : (C : Clause) → inside (clause_set m C) top ≡ true
    unfolding clause_set
    clause-in [] = none_inside top
    clause-in (l ∷ C) = union-inside (set_of m (nat_abs l)) (clause_set m C) top (entry (nat_abs l)).within (clause-in C)

    -- a clause has the same set, or had every universal
    clause-set : (C : Clause) → (clause_set n C ≡ clause_set m C) ⊎ (inside top (clause_set m C) ≡ true)
    unfolding clause_set
    clause-set [] = inl refl
    clause-set (l ∷ C) = go (entry (nat_abs l)).smaller (clause-set C)
      where
        s : Set
        s = set_of m (nat_abs l)

        go : (set_of n (nat_abs l) ≡ s) ⊎ ((s ≡ top) × (inside (set_of n (nat_abs l)) top ≡ true)) → (clause_set n C ≡ clause_set m C) ⊎ (inside top (clause_set m C) ≡ true)
            → (union (set_of n (nat_abs l)) (clause_set n C) ≡ union s (clause_set m C)) ⊎ (inside top (union s (clause_set m C)) ≡ true)
        go (inl e) (inl f) = inl (ap₂ union e f)
        go (inl e) (inr f) = inr (inside-trans top (clause_set m C) (union s (clause_set m C)) f (inside-right s (clause_set m C)))
        go (inr e) f = inr (inside-trans top s (union s (clause_set m C)) (rw e.0 (inside-self top)) (inside-left s (clause_set m C)))

    -- a part that does not contain the other keeps its set
    part-set : (C D : Clause) → inside (clause_set m D) (clause_set m C) ≡ false → clause_set n C ≡ clause_set m C
    part-set C D h = go (clause-set C)
      where
        go : (clause_set n C ≡ clause_set m C) ⊎ (inside top (clause_set m C) ≡ true) → clause_set n C ≡ clause_set m C
        go (inl e) = e
        go (inr k) = absurd (true≢false (sym (inside-trans (clause_set m D) top (clause_set m C) (clause-in D) k) ∙ h))

    -- what no set had, none has
    reads-less : (s : Set) (C : Clause) → reads m s C ≡ false → reads n s C ≡ false
    unfolding reads
    reads-less s [] h = refl
    reads-less s (l ∷ C) h =
        let k = or_no (inside s (set_of m (nat_abs l))) (reads m s C) h in
        no_or (inside s (set_of n (nat_abs l))) (reads n s C)
        (never (inside s (set_of n (nat_abs l))) (λ b. true≢false (sym (inside-trans s (set_of n (nat_abs l)) (set_of m (nat_abs l)) b (less (nat_abs l))) ∙ k.0)))
        (reads-less s C k.1)

    -- ---- a record gets the same answer, or was refused with 27 or 29

    -- an accepted fork: both parts keep their sets
    forking-same : (L R : Clause) → clause_set n L ≡ clause_set m L → clause_set n R ≡ clause_set m R → forking n L R ≡ forking m L R
    unfolding forking
    forking-same L R e f = rw (same-used, e, f)

    record-eased : (r : Record) → Eased (examine room m r) (examine room n r)
    unfolding examine_by tests_by rule_tests_by reduction_tests fork_tests added
    record-eased (resolution c d p) =
        rw (same-unknown c, same-unknown d, same-clause c, same-clause d, same-room (resolving (clause_at m c) (clause_at m d) p)) (inl refl)
    record-eased (reduction c l) =
        let v = nat_abs l in
        let C = clause_at m c in
        let D = without l C in
        rw (same-unknown c, same-clause c, same_kind v, same-room (reducing C l))
        (reduction-eased (unknown m c) (not (holds l C)) (not (eqb (kind_of m v) 1)) (reads m (set_of m v) D) (reads n (set_of n v) D) (no_room room m (reducing C l)) (reducing C l)
        (λ k r. rw ((entry v).kept (eqb_is (kind_of m v) 1 (not-no (eqb (kind_of m v) 1) k))) (reads-less (set_of m v) D r)))
    record-eased (fork c a b) =
        let C = clause_at m c in
        let L = pick a C in
        let R = pick b C in
        let L' = clause_set m L in
        let R' = clause_set m R in
        rw (same-unknown c, same-clause c)
        (fork-eased (unknown m c) (not (covers a b C)) (inside L' R' || inside R' L') (inside (clause_set n L) (clause_set n R) || inside (clause_set n R) (clause_set n L))
        (no_room room m (forking m L R)) (no_room room n (forking n L R)) (forking m L R) (forking n L R)
        (λ h. let apart = or_no (inside L' R') (inside R' L') h in
        let l = part-set L R apart.1 in
        let r = part-set R L apart.0 in
        let f = forking-same L R l r in
        (rw (l, r) h, same-room (forking n L R) ∙ ap (no_room room m) f, f)))

    step-eased : (bs : List ℕ) → Eased (examine_bytes room m bs) (examine_bytes room n bs)
    unfolding examine_bytes_by examine_or20_by
    step-eased bs = go (record_of bs)
      where
        go : (o : Option Record) → Eased (examine_or20 room m o) (examine_or20 room n o)
        go none = inl refl
        go (some r) = record-eased r

    -- ---- what an accepted record adds lies inside `top`

    added-inside : (r : Record) → AllInside top (added m r).forks
    unfolding added resolving reducing forking
    added-inside (resolution c d p) s q = absurd (Memᴰ.not-nil q)
    added-inside (reduction c l) s q = absurd (Memᴰ.not-nil q)
    added-inside (fork c a b) s q =
        let C = clause_at m c in
        rw (Memᴰ.eq_of_singleton q) (common-inside (clause_set m (pick a C)) (clause_set m (pick b C)) top (clause-in (pick a C)))

    forks-too : (bs : List ℕ) (a : Addition) → examine_bytes room m bs ≡ accepts a → AllInside top (add m a).forks
    unfolding examine_bytes_by examine_or20_by examine_by add
    forks-too bs a = go (record_of bs)
      where
        go : (o : Option Record) → examine_or20 room m o ≡ accepts a → AllInside top (m.forks ++ a.forks)
        go none h = absurd (let z : ◌≡◌ {A = ℕ} 0 1 = cc in omega arith)
        go (some r) h = λ s q. two s (Memᴰ.append_cases m.forks q)
          where
            two : (s : Set) → (s ∈ m.forks) ⊎ (s ∈ a.forks) → inside s top ≡ true
            two s (inl k) = forks-in s k
            two s (inr k) = added-inside r s (rw (judged-is (Refusal.first (tests room m r)) (added m r) a h).1 k)

  -- ---- lists of records

  pub beginning-stays : (rs : List (List ℕ)) (m : Model) → Entries top m.kinds m.sets ts → AllInside top m.forks
      → (more : List Addition) × (beginning room (with_sets m ts) rs ≡ beginning room m rs ++ more)
  unfolding beginning onward add with_sets
  beginning-stays [] m es f = ([], refl)
  beginning-stays (bs ∷ rs) m es f = go (examine_bytes room m bs) (step-eased m es f bs) (λ a h. beginning-stays rs (add m a) es (forks-too m es f bs a h)) refl
    where
      go : (e : Examined) → Eased e (examine_bytes room (with_sets m ts) bs)
          → ((a : Addition) → examine_bytes room m bs ≡ accepts a → (more : List Addition) × (beginning room (with_sets (add m a) ts) rs ≡ beginning room (add m a) rs ++ more))
          → examine_bytes room m bs ≡ e → (more : List Addition) × (beginning room (with_sets m ts) (bs ∷ rs) ≡ onward e (λ a. beginning room (add m a) rs) ++ more)
      go (refuses x) s rest e = (beginning room (with_sets m ts) (bs ∷ rs), refl)
      go (accepts a) (inl s) rest e = let r = rest a e in (r.0, rw s (ap (λ (as' : List Addition). a ∷ as') r.1))
      go (accepts a) (inr l) rest e = absurd (let k = l.2 in let z : ◌≡◌ {A = ℕ} 0 1 = cc in omega arith)

  -- ---- runs

  -- a run adds behind what was there, and names a step behind those before
  record Grows (k : ℕ) (m : Model) (r : Ran) : Type 0 where
    clauses : (Cs : List Clause) × (r.model.derived ≡ m.derived ++ Cs)
    forks : (ss : List Set) × (r.model.forks ≡ m.forks ++ ss)
    later : (i : ℕ) (x : Refusal) → r.verdict ≡ bad i x → suc k ≤ i

  not-bad : (m : Model) (i : ℕ) (x : Refusal) → verdict_of m ≡ bad i x → ⊥
  unfolding verdict_of
  not-bad m i x = go (eqb (lowest_empty m) 0)
    where
      go : (b : Bool) → cond b (open' (steps m)) (refuted (steps m) (lowest_empty m)) ≡ bad i x → ⊥
      go true h = let z : ◌≡◌ {A = ℕ} 0 1 = cc in omega arith
      go false h = let z : ◌≡◌ {A = ℕ} 0 1 = cc in omega arith

  run-grows : (rs : List (List ℕ)) (k : ℕ) (m : Model) → Grows k m (run_from room rs k m)
  unfolding run_from_by go_on add
  run-grows [] k m = record { clauses = ([], sym (append-nil m.derived)); forks = ([], sym (append-nil m.forks)); later = λ i x h. absurd (not-bad m i x h) }
  run-grows (bs ∷ rs) k m = go (examine_bytes room m bs) (λ a. run-grows rs (suc k) (add m a))
    where
      go : (e : Examined) → ((a : Addition) → Grows (suc k) (add m a) (run_from room rs (suc k) (add m a)))
          → Grows k m (go_on e m (suc k) (λ m'. run_from room rs (suc k) m'))
      go (refuses x) rest = record {
        clauses = ([], sym (append-nil m.derived));
        forks = ([], sym (append-nil m.forks));
        later = λ i y h. let z : suc k ≡ i = cc in omega arith;
      }
      go (accepts a) rest = let g = rest a in record {
        clauses = (a.clauses ++ g.clauses.0, g.clauses.1 ∙ append_assoc m.derived a.clauses g.clauses.0);
        forks = (a.forks ++ g.forks.0, g.forks.1 ∙ append_assoc m.forks a.forks g.forks.0);
        later = λ i y h. let z = g.later i y h in omega arith;
      }

  -- the same verdict in both models, with nothing added
  pub ends-alike : (m : Model) (v : Verdict) → Stays (record { model = m; verdict = v }) (record { model = with_sets m ts; verdict = v })
  unfolding with_sets
  ends-alike m v = record {
    clauses = ([], sym (append-nil m.derived));
    forks = ([], sym (append-nil m.forks));
    verdict = λ h. (refl, refl, refl);
    no-earlier = λ i j x y h k. let z : i ≡ j = cc in omega arith;
    same_step = λ i x y h k. inl cc;
  }

  pub run-stays : (rs : List (List ℕ)) (k : ℕ) (m : Model) → Entries top m.kinds m.sets ts → AllInside top m.forks
      → Stays (run_from room rs k m) (run_from room rs k (with_sets m ts))
  unfolding run_from_by go_on add with_sets verdict_of steps lowest_empty clauses
  run-stays [] k m es f = ends-alike m (verdict_of m)
  run-stays (bs ∷ rs) k m es f = go (examine_bytes room m bs) (step-eased m es f bs) (λ a h. run-stays rs (suc k) (add m a) es (forks-too m es f bs a h)) refl
    where
      go : (e : Examined) → Eased e (examine_bytes room (with_sets m ts) bs)
          → ((a : Addition) → examine_bytes room m bs ≡ accepts a → Stays (run_from room rs (suc k) (add m a)) (run_from room rs (suc k) (with_sets (add m a) ts)))
          → examine_bytes room m bs ≡ e → Stays (go_on e m (suc k) (λ m'. run_from room rs (suc k) m')) (run_from room (bs ∷ rs) k (with_sets m ts))
      go (refuses x) (inl s) rest e = rw s (ends-alike m (bad (suc k) x))
      go (refuses x) (inr l) rest e = let g = run-grows (bs ∷ rs) k (with_sets m ts) in record {
        clauses = g.clauses;
        forks = g.forks;
        verdict = λ h. absurd (h (suc k) l.0 l.1 (let k = l.2 in let z : x ≡ l.0 = cc in rw z));
        no-earlier = λ i j y z h q. let w : suc k ≡ i = cc in let t = g.later j z q in omega arith;
        same_step = λ i y z h q. inr (let w : suc k ≡ i = cc in again l.3 i z q w);
      }
        where
          -- an accepted step is not named by the run, and one without room is named with 25
          again : ((a : Addition) × (examine_bytes room (with_sets m ts) bs ≡ accepts a)) ⊎ (examine_bytes room (with_sets m ts) bs ≡ refuses (refusal 25))
              → (i : ℕ) (z : Refusal) → (run_from room (bs ∷ rs) k (with_sets m ts)).verdict ≡ bad i z → suc k ≡ i → z ≡ refusal 25
          again (inl h) i z = rw h.1 (λ q w. absurd (let t = (run-grows rs (suc k) (add (with_sets m ts) h.0)).later i z q in omega arith))
          again (inr h) i z = rw h (λ q w. cc)
      go (accepts a) (inl s) rest e = rw s (rest a e)
      go (accepts a) (inr l) rest e = absurd (let k = l.2 in let z : ◌≡◌ {A = ℕ} 0 1 = cc in omega arith)
