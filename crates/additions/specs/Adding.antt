-- What the last tests of a step leave: clash and width of a resolvent, and room (document 01, "Numbers of refusal": 23, 24, 25, in the order of document 02, Note 5).
--     Holding                        the tables are long enough and well formed
--     After                          what a step leaves of them
--     One, Two, Splits               one clause more, two and a variable; a clause split in two
--     fitted, tested                 the last tests, of room and of a resolvent
--     joined_refusal                   the same tests as the code makes them, of the width and the clash of a joined clause
--     resolvent_refusal                the same of a resolvent
--     WrittenOrErased                what writing a resolvent leaves and tells
use Rattle.std.specs.Prelude.{◌≡◌, Bool, cond, true, List, [], ◌∷◌, ℕ, ◌≤◌, eqb, ltb, ℤ, length}
use Rattle.dqbf.specs.Limits.{tables, width_limit}
use Rattle.std.proofs.Math.Option.{Option, none, some}
use Rattle.std.specs.Prelude as Code
use Rattle.std.specs.Result.{MatchResult}
use Rattle.dqbf.specs.Refusal.{Refusal, refusal, naming, refusal_in}
use Rattle.dqbf.specs.declared.refusal.Refusal as Case
use Rattle.dqbf.specs.Literal.{Clause, clashes, lowest_clash, pick}
use Rattle.dqbf.specs.Set.{Set}
use Rattle.dqbf.specs.Model.{Model}
use Rattle.dqbf.specs.Rules.{Addition, no_room}
use Rattle.dqbf.specs.Run.{Examined, accepts, refuses}
use Rattle.tables.specs.Tables.{Tables, model_in}
use Rattle.tables.specs.Adding.{full}
use Rattle.tables.specs.WellFormed.{long, well_formed}
use Rattle.tables.specs.declared.State.{State}
use Rattle.additions.specs.Examined.{AfterStep, examined}
use Rattle.additions.specs.declared.adding.Split.{Split}
use Rattle.joins.specs.Joining.{overlaid}

-- 1 and 2 are ruled out
pub record Holding (t : Tables) (s : State) : Type 0 where
  pub lent : long t ≡ true
  pub formed : well_formed t s ≡ true

-- the tables t', the state s' and the refusal r are what an examined record leaves of the tables t and the state s, and answers
abbrev pub After : Tables → State → Examined → Tables → State → Option Refusal → Type 0
After t s e t' s' r = ◌≡◌ {A = AfterStep} (record { tables = t'; state = s'; answer = r }) (examined t (model_in t s) e)

abbrev pub One : Clause → Addition
One C = record { clauses = C ∷ []; forks = [] }

abbrev pub Two : Clause → Clause → Set → Addition
Two C D w = record { clauses = C ∷ D ∷ []; forks = w ∷ [] }

-- the masks of r pick so many literals of C as r says, at most 32 each
pub record Splits (C : Clause) (r : Split) : Type 0 where
  pub first : r.first ≡ length (pick r.left C)
  pub second : r.second ≡ length (pick r.right C)
  pub narrow : length C ≤ width_limit
  pub first-narrow : r.first ≤ width_limit
  pub second-narrow : r.second ≤ width_limit

-- 25
unfoldable pub fitted : Model → Addition → Examined
fitted m a = cond (no_room tables m a) (refuses (refusal 25)) (accepts a)

-- 23 and 24 of a resolvent, then 25
unfoldable pub tested : Model → Clause → Examined
tested m C =
    cond (clashes C) (refuses (naming 23 (lowest_clash C))) (cond (ltb width_limit (length C)) (refuses (refusal 24)) (fitted m (One C)))

-- the same tests of a joined clause, by its width and its lowest clashing variable, as the code makes them
unfoldable pub joined_refusal : State → ℕ → Code.Option ℕ → Option Refusal
joined_refusal s width (Code.Some x) = some (naming 23 x)
joined_refusal s width Code.None = cond (ltb width_limit width) (some (refusal 24)) (cond (full s 1 width 0) (some (refusal 25)) none)

-- 23, 24 and 25 of a resolvent, as they are told
unfoldable pub resolvent_refusal : State → Clause → Option Refusal
resolvent_refusal s C =
    cond (clashes C) (some (naming 23 (lowest_clash C))) (cond (ltb width_limit (length C)) (some (refusal 24)) (cond (full s 1 (length C) 0) (some (refusal 25)) none))

-- Of the tail xs, writing the resolvent C left zs and answered r: C stands over it, or nothing changed.
pub record WrittenOrErased (s : State) (C : Clause) (xs zs : List ℤ) (r : Code.Result ℕ Case.Refusal) : Type 0 where
  pub refusal : refusal_in r ≡ resolvent_refusal s C
  pub left : MatchResult r (λ n. (n ≡ length C) × (zs ≡ overlaid C xs)) (λ x. zs ≡ xs)
