-- What a step leaves of tables that hold a model (specs/Adding.antt): one law for a refusal, one for each addition, one for each outcome of `fitted` and `tested`.
use mathlib.Core.Path.{◌≡◌, refl, sym, ◌∙◌, ap}
use mathlib.Core.Bool.{Bool, true, false, cond}
use mathlib.Core.List.{List, [], ◌∷◌, ◌++◌, append_assoc}
use mathlib.Core.Option.{Option, none, some}
use native.Mathlib.Nat.{add-zero}
use Prim.Native.Nat.{ℕ, suc, ◌+◌, ◌-◌, ◌≤◌, ◌<◌}
use native.Mathlib.Omega.{arith}
use lib.Dec.{ltb}
use lib.IntN.{ℤ, pos, negsuc, neg_ℤ, nat_abs}
use mir.Syntax.{w16}
use mir.Val.{SFits, to_z}
use mir.Facts.{to_z_pos}
use native.Mathlib.Numerals.{add-one}
use lib.ListN.{length, set, take, drop, replicate, length-append, length-drop, take-append-drop}
use lib.Seq.{length-take-le, drop-append-le}
use borrow.Rule.Slice.PartMut.{put_mid, put_same}
use Rattle.tables.proofs.Laws.Rows.{stored-stored, stored-tail}
use Rattle.dqbf.specs.Limits.{tables, width_limit, clause_limit, literal_limit, variable_limit}
use Rattle.dqbf.specs.Refusal.{Refusal, refusal, naming}
use Rattle.dqbf.specs.Literal.{Clause, clashes, lowest_clash, total}
use Rattle.dqbf.specs.Set.{Set}
use Rattle.dqbf.specs.Model.{Model}
use Rattle.dqbf.specs.Rules.{Addition, no_room}
use Rattle.dqbf.specs.Run.{Examined, accepts, refuses, after, refusal_of}
use Rattle.dqbf.specs.Published.{Fits}
use Rattle.dqbf.proofs.Laws.Models.{fits_in}
use Rattle.tables.specs.Tables.{Tables, rows_of, model_in, stretch}
use Rattle.tables.specs.Adding.{stored, clause_ended, variable_added, step_counted, full, RoomFor}
use Rattle.tables.specs.declared.State.{State}
use Rattle.tables.proofs.Laws.Spread.{model-held, state-held}
use Rattle.tables.proofs.Laws.Adding.{one-clause, two-clauses, room-told, room-one, room-two, step_room}
use Rattle.tables.specs.WellFormed.{is_zero_literal}
use Rattle.tables.proofs.Laws.Tests.{all_same}
use Rattle.tables.proofs.Laws.Held.{zero-literal-is}
use Rattle.tables.proofs.Laws.Formed.{long-is, formed-is}
use Rattle.dqbf.proofs.Laws.Tests.{ltb_no}
use Rattle.joins.specs.Joining.{overlaid}
use Rattle.joins.proofs.Laws.Overlays.{overlaid-fits}
use Rattle.std.specs.Prelude as Code
use Rattle.std.specs.Prelude.{is_some}
use Rattle.std.specs.Option.{unwrap_or}
use Rattle.additions.specs.Examined.{AfterStep, examined}
use Rattle.additions.specs.Adding.{Holding, After, One, Two, fitted, tested, joined_refusal, resolvent_refusal}

module _ (t : Tables) (s : State) (h : Holding t s) where
  abbrev m : Model
  m = model_in t s

  -- a refusal changes nothing
  pub left-refused : (x : Refusal) → ◌≡◌ {A = AfterStep} (record { tables = t; state = s; answer = some x }) (examined t m (refuses x))
  unfolding examined after refusal_of
  left-refused x = λ i. record { tables = sym (model-held t s h.lent h.formed) i; state = sym (state-held t s h.lent h.formed) i; answer = some x }

  -- one clause more
  pub left_one : (C : Clause) → Fits tables m (One C)
      → ◌≡◌ {A = AfterStep}
      (record {
        tables = rows_of (stored t.literals s.literals C) (set t.ends s.clauses.0 (s.literals + length C)) t.sets t.spare t.kinds;
        state = step_counted (clause_ended s (length C));
        answer = none;
      })
      (examined t m (accepts (One C)))
  unfolding examined after refusal_of
  left_one C fits = let a = one-clause t s h.lent h.formed C fits in λ i. record { tables = a.tables i; state = a.state i; answer = none }

  -- two clauses and a variable more
  pub left-two : (C D : Clause) (w : Set) → Fits tables m (Two C D w)
      → ◌≡◌ {A = AfterStep}
      (record {
        tables = rows_of (stored (stored t.literals s.literals C) (s.literals + length C) D)
            (set (set t.ends s.clauses.0 (s.literals + length C)) (s.clauses.0 + 1) (s.literals + length C + length D)) (set t.sets s.variables.0 w)
            t.spare (set t.kinds s.variables.0 3);
        state = step_counted (variable_added (clause_ended (clause_ended s (length C)) (length D)));
        answer = none;
      })
      (examined t m (accepts (Two C D w)))
  unfolding examined after refusal_of
  left-two C D w fits = let a = two-clauses t s h.lent h.formed C D w fits in λ i. record { tables = a.tables i; state = a.state i; answer = none }

-- ---- the outcomes

pub fitted-25 : (m : Model) (a : Addition) → no_room tables m a ≡ true → fitted m a ≡ refuses (refusal 25)
unfolding fitted
fitted-25 m a h = rw h

pub fitted-accepted : (m : Model) (a : Addition) → no_room tables m a ≡ false → fitted m a ≡ accepts a
unfolding fitted
fitted-accepted m a h = rw h

-- ---- the refusal of a joined clause is that of the resolvent

pub joined-told : (s : State) (C : Clause) (n : ℕ) (clash : Code.Option ℕ) → n ≡ length C → is_some clash ≡ clashes C → unwrap_or clash 0 ≡ lowest_clash C → joined_refusal s n clash ≡ resolvent_refusal s C
unfolding joined_refusal resolvent_refusal
joined-told s C n (Code.Some x) p q r = rw (← q, ← r)
joined-told s C n Code.None p q r = rw (← q, p)

-- ---- what the functions of src/adding.rt leave

-- the tail lent to a writer, back with what it wrote
pub tail-stored : {A : Type 0} (xs ys zs : List A) (n : ℕ) → zs ≡ ys ++ drop (length ys) (take (length xs - n) (drop n xs)) → put_mid n (length xs - n) xs zs ≡ stored xs n ys
tail-stored xs ys zs n e = rw e (stored-tail xs n ys)

-- a part of it lent, and back with what was written over its front
pub part-stored : {A : Type 0} (xs ys : List A) (n m : ℕ) → n + length ys ≤ m → m ≤ length xs → put_mid n (m - n) xs (overlaid ys (take (m - n) (drop n xs))) ≡ stored xs n ys
unfolding stored
part-stored xs ys n m h k =
    let room : length (take (m - n) (drop n xs)) ≡ m - n = length-take-le (m - n) (drop n xs) (omega (arith, length-drop n xs)) in
    let fits : length ys ≤ length (take (m - n) (drop n xs)) = omega arith in
    rw (
      overlaid-fits ys (take (m - n) (drop n xs)) fits,
      append_assoc ys (drop (length ys) (take (m - n) (drop n xs))) (drop (m - n) (drop n xs)),
      ← drop-append-le (length ys) (take (m - n) (drop n xs)) (drop (m - n) (drop n xs)) fits,
      take-append-drop (m - n) (drop n xs),
    )

module _ (t : Tables) (s : State) (h : Holding t s) where
  -- a refusal that the tests come to
  pub after-refused : (e : Examined) (x : Refusal) → e ≡ refuses x → After t s e t s (some x)
  after-refused e x p = rw p (left-refused t s h x)

  -- one clause: e comes to the test of room, of which f tells
  module _ (e : Examined) (C : Clause) (is : e ≡ fitted (model_in t s) (One C)) {w : ℕ} (width : w ≡ length C) {f : Bool} (told : f ≡ full s 1 w 0) where
    no_room-is : no_room tables (model_in t s) (One C) ≡ f
    unfolding total
    no_room-is = room-told t s h.lent h.formed (One C) ∙ rw (add-zero (length C), told, width)

    pub one-full : f ≡ true → After t s e t s (some (refusal 25))
    one-full b = after-refused e (refusal 25) (is ∙ fitted-25 (model_in t s) (One C) (no_room-is ∙ b))

    module _ (free : f ≡ false) where
      fits : Fits tables (model_in t s) (One C)
      fits = fits_in tables (model_in t s) (One C) (no_room-is ∙ free)

      -- the tail has room for it
      pub one-room : s.literals + length C ≤ length t.literals
      one-room = omega (arith, (room-one t s h.lent h.formed C fits).literals-fit, (long-is t h.lent).literals)

      -- what `tables::adding::add_clause` asks
      pub one-asked : {n : ℕ} → n ≡ length C → RoomFor s 1 n 0 × (clause_limit ≤ length t.ends) × (s.steps.0 < clause_limit)
      one-asked q = (rw q (room-one t s h.lent h.formed C fits), (long-is t h.lent).ends, step_room t s h.lent h.formed (One C) fits (omega arith))

      pub one-added : {n : ℕ} {l : List ℤ} {d : List ℕ} {r : State} → n ≡ length C → l ≡ stored t.literals s.literals C → d ≡ set t.ends s.clauses.0 (s.literals + n) → r ≡ step_counted (clause_ended s n)
          → After t s e (rows_of l d t.sets t.spare t.kinds) r none
      one-added q o u v = rw (is, fitted-accepted (model_in t s) (One C) (no_room-is ∙ free), o, u, v, q) (left_one t s h C fits)

  -- ---- a resolvent, by its refusal

  module _ (C : Clause) where
    room-is : no_room tables (model_in t s) (One C) ≡ full s 1 (length C) 0
    room-is = no_room-is (fitted (model_in t s) (One C)) C refl refl refl

    -- z is what is left of the tail that was lent for it
    abbrev back : List ℤ → List ℤ
    back z = put_mid s.literals (literal_limit - s.literals) t.literals z

    pub resolvent-refused : {x : Refusal} {z : List ℤ} → some x ≡ resolvent_refusal s C → z ≡ stretch s.literals literal_limit t.literals
        → After t s (tested (model_in t s) C) (rows_of (back z) t.ends t.sets t.spare t.kinds) s (some x)
    unfolding tested fitted resolvent_refusal
    resolvent-refused {x} {z} e left =
        let same : back z ≡ t.literals = rw left (put_same s.literals (literal_limit - s.literals) t.literals) in
        rw same (after-refused (tested (model_in t s) C) x (rw room-is (go (clashes C) (ltb width_limit (length C)) (full s 1 (length C) 0) e)))
      where
        go : (a b f : Bool) → ◌≡◌ {A = Option Refusal} (some x) (cond a (some (naming 23 (lowest_clash C))) (cond b (some (refusal 24)) (cond f (some (refusal 25)) none)))
            → cond a (refuses (naming 23 (lowest_clash C))) (cond b (refuses (refusal 24)) (cond f (refuses (refusal 25)) (accepts (One C)))) ≡ refuses x
        go true b f p = cc
        go false true f p = cc
        go false false true p = cc
        go false false false p = absurd (cc)

    module _ (z : ◌≡◌ {A = Option Refusal} none (resolvent_refusal s C)) where
      resolvent-passes : (clashes C ≡ false) × (ltb width_limit (length C) ≡ false) × (full s 1 (length C) 0 ≡ false)
      unfolding resolvent_refusal
      resolvent-passes = go (clashes C) (ltb width_limit (length C)) (full s 1 (length C) 0) z
        where
          go : (a b f : Bool) → ◌≡◌ {A = Option Refusal} none (cond a (some (naming 23 (lowest_clash C))) (cond b (some (refusal 24)) (cond f (some (refusal 25)) none)))
              → (a ≡ false) × (b ≡ false) × (f ≡ false)
          go true b f q = absurd (cc)
          go false true f q = absurd (cc)
          go false false true q = absurd (cc)
          go false false false q = (refl, refl, refl)

      pub resolvent-fitted : tested (model_in t s) C ≡ fitted (model_in t s) (One C)
      unfolding tested
      resolvent-fitted = rw (resolvent-passes.0, resolvent-passes.1)

      pub resolvent-fits : (length C ≤ width_limit) × (full s 1 (length C) 0 ≡ false) × (s.literals + length C ≤ literal_limit)
      resolvent-fits =
          let free = resolvent-passes.2 in
          (ltb_no width_limit (length C) resolvent-passes.1, free, (room-one t s h.lent h.formed C (fits_in tables (model_in t s) (One C) (room-is ∙ free))).literals-fit)

      pub resolvent-stored : {w : List ℤ} → w ≡ overlaid C (stretch s.literals literal_limit t.literals) → back w ≡ stored t.literals s.literals C
      resolvent-stored e = rw e (part-stored t.literals C s.literals literal_limit resolvent-fits.2 (long-is t h.lent).literals)

  -- the tail that is lent for it has zeros
  pub zero-tail : let tail = stretch s.literals literal_limit t.literals in tail ≡ replicate (length tail) (pos 0)
  zero-tail = all_same is_zero_literal (pos 0) zero-literal-is (stretch s.literals literal_limit t.literals) (formed-is t s h.formed).zero-literals

-- ---- two clauses and a variable

-- two entries of a tail written in one go
pub stored-two : {A : Type 0} (t : List A) (i : ℕ) (xs ys : List A) → i ≤ length t → stored (stored t i xs) (i + length xs) ys ≡ stored t i (xs ++ ys)
stored-two t i xs ys h = stored-stored t i xs ys h

module _ (t : Tables) (s : State) (h : Holding t s) (e : Examined) (C D : Clause) (w : Set) (is : e ≡ fitted (model_in t s) (Two C D w)) {a b n : ℕ} (left : a ≡ length C)
    (right : b ≡ length D) (both : n ≡ a + b) {f : Bool} (told : f ≡ full s 2 n 1) where
  no-room-two : no_room tables (model_in t s) (Two C D w) ≡ f
  unfolding total
  no-room-two = room-told t s h.lent h.formed (Two C D w) ∙ rw (add-zero (length D), told, both, left, right)

  pub two-full : f ≡ true → After t s e t s (some (refusal 25))
  two-full k = after-refused t s h e (refusal 25) (is ∙ fitted-25 (model_in t s) (Two C D w) (no-room-two ∙ k))

  module _ (free : f ≡ false) where
    fits-two : Fits tables (model_in t s) (Two C D w)
    fits-two = fits_in tables (model_in t s) (Two C D w) (no-room-two ∙ free)

    room : RoomFor s 2 (length C + length D) 1
    room = room-two t s h.lent h.formed C D w fits-two

    pub two-room : s.literals + (length C + length D) ≤ length t.literals
    two-room = omega (arith, room.literals-fit, (long-is t h.lent).literals)

    pub two-variable : s.variables.0 < variable_limit
    two-variable = omega (arith, room.variables-fit)

    -- what `tables::adding::add_fork` asks
    pub two-asked : RoomFor s 2 (a + b) 1 × (clause_limit ≤ length t.ends) × (variable_limit ≤ length t.sets) × (variable_limit ≤ length t.kinds) × (s.steps.0 < clause_limit)
    two-asked = (
      rw (left, right) room,
      (long-is t h.lent).ends,
      (long-is t h.lent).sets,
      (long-is t h.lent).kinds,
      step_room t s h.lent h.formed (Two C D w) fits-two (omega arith),
    )

    pub two-added : {l z : List ℤ} {d u v k : List ℕ} {r : State}
        → z ≡ (C ++ D) ++ drop (length (C ++ D)) (take (length t.literals - s.literals) (drop s.literals t.literals))
        → l ≡ put_mid s.literals (length t.literals - s.literals) t.literals z
        → d ≡ set (set t.ends s.clauses.0 (s.literals + a)) (s.clauses.0 + 1) (s.literals + a + b) → u ≡ set t.sets s.variables.0 w → v ≡ t.spare
        → k ≡ set t.kinds s.variables.0 3 → r ≡ step_counted (variable_added (clause_ended (clause_ended s a) b))
        → After t s e (rows_of l d u v k) r none
    two-added {z = z} p o q x spare y v =
        let inside : s.literals ≤ length t.literals = omega (arith, two-room) in
        rw (
          is,
          fitted-accepted (model_in t s) (Two C D w) (no-room-two ∙ free),
          o,
          tail-stored t.literals (C ++ D) z s.literals p,
          ← stored-two t.literals s.literals C D inside,
          q,
          x,
          spare,
          y,
          v,
          left,
          right,
        )
        (left-two t s h C D w fits-two)

pub one_more : {A : Type 0} (xs : List A) (x : A) {n : ℕ} → n ≡ length xs → n + 1 ≡ length (xs ++ (x ∷ []))
one_more xs x e = rw e (sym (length-append xs (x ∷ [])))

-- the new variable as a literal of 16 bits
pub new-literal : (v : ℕ) → v < variable_limit → to_z w16 (v + 1) ≡ pos (suc v)
new-literal v h = to_z_pos w16 {n = v + 1} (omega arith) ∙ ap pos (add-one v)

pub new-fits : (v : ℕ) → v < variable_limit → SFits w16 (pos (v + 1))
new-fits v h = record { sfits = omega arith }

pub new-small : (v : ℕ) → v < variable_limit → nat_abs (to_z w16 (v + 1)) < 32768
new-small v h = rw (new-literal v h) (omega arith)

-- ---- the parts of a fork

module _ (t : Tables) (s : State) (h : Holding t s) (X Y : Clause) (w : Set) {a b : ℕ} (is_a : a ≡ length X) (is_b : b ≡ length Y) {f : Bool}
    (told : f ≡ full s 2 (a + 1 + (b + 1)) 1) where
  abbrev C : Clause
  C = X ++ (pos (suc s.variables.0) ∷ [])

  abbrev D : Clause
  D = Y ++ (negsuc s.variables.0 ∷ [])

  abbrev forked : Examined
  forked = fitted (model_in t s) (Two C D w)

  first : a + 1 ≡ length C
  first = one_more X (pos (suc s.variables.0)) is_a

  second : b + 1 ≡ length D
  second = one_more Y (negsuc s.variables.0) is_b

  pub fork-full : f ≡ true → After t s forked t s (some (refusal 25))
  fork-full = two-full t s h forked C D w refl first second refl told

  module _ (free : f ≡ false) where
    pub fork-variable : s.variables.0 < variable_limit
    fork-variable = two-variable t s h forked C D w refl first second refl told free

    pub fork-room : s.literals + (length X + length Y + 2) ≤ length t.literals
    fork-room = omega (arith, two-room t s h forked C D w refl first second refl told free, first, second, is_a, is_b)

    pub fork-asked : RoomFor s 2 (a + 1 + (b + 1)) 1 × (clause_limit ≤ length t.ends) × (variable_limit ≤ length t.sets) × (variable_limit ≤ length t.kinds)
        × (s.steps.0 < clause_limit)
    fork-asked = two-asked t s h forked C D w refl first second refl told free

    pub fork-added : {l z : List ℤ} {d u v k : List ℕ} {r : State}
        → z ≡ ((X ++ (to_z w16 (s.variables.0 + 1) ∷ [])) ++ (Y ++ (neg_ℤ (to_z w16 (s.variables.0 + 1)) ∷ [])))
        ++ drop (length ((X ++ (to_z w16 (s.variables.0 + 1) ∷ [])) ++ (Y ++ (neg_ℤ (to_z w16 (s.variables.0 + 1)) ∷ []))))
        (take (length t.literals - s.literals) (drop s.literals t.literals))
        → l ≡ put_mid s.literals (length t.literals - s.literals) t.literals z
        → d ≡ set (set t.ends s.clauses.0 (s.literals + (a + 1))) (s.clauses.0 + 1) (s.literals + (a + 1) + (b + 1))
        → u ≡ set t.sets s.variables.0 w → v ≡ t.spare → k ≡ set t.kinds s.variables.0 3
        → r ≡ step_counted (variable_added (clause_ended (clause_ended s (a + 1)) (b + 1))) → After t s forked (rows_of l d u v k) r none
    fork-added p = two-added t s h forked C D w refl first second refl told free (rw (new-literal s.variables.0 fork-variable) at p)
