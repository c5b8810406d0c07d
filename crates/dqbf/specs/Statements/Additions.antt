-- What an accepted step adds, and that nothing else changes (demand 2: "adds just the clauses and the variable of that rule"; document 01, "A fork never
-- makes a clause too wide, since both parts are smaller than the clause").
use Rattle.std.specs.Prelude.{◌≡◌, ◌++◌, ℕ, suc, ◌+◌, ◌<◌, length}
use Rattle.dqbf.specs.Limits.{Room}
use Rattle.dqbf.specs.Literal.{pick}
use Rattle.dqbf.specs.Model.{Model, clauses, used, steps}
use Rattle.dqbf.specs.Valid.{Valid}
use Rattle.dqbf.specs.Record.{Record, fork}
use Rattle.dqbf.specs.Rules.{Addition, add, added, clause_at}
use Rattle.dqbf.specs.Run.{accepts, examine}

-- The clauses are those before with the rule's behind them, the variables those before with the rule's behind them; a step counts one, and makes one
-- clause more than variables. The formula's part stays.
pub record Adds (m : Model) (r : Record) (a : Addition) : Type 0 where
  pub rules : a ≡ added m r
  pub new-clauses : clauses (add m a) ≡ clauses m ++ a.clauses
  pub new-variables : used (add m a) ≡ used m + length a.forks
  pub one-step : steps (add m a) ≡ suc (steps m)
  pub in_step : length a.clauses ≡ suc (length a.forks)
  pub same-kinds : (add m a).kinds ≡ m.kinds
  pub same-sets : (add m a).sets ≡ m.sets
  pub same-formula : (add m a).formula ≡ m.formula
  pub new-sets : (add m a).forks ≡ m.forks ++ a.forks

abbrev pub Additions : Type 0
Additions = (room : Room) (m : Model) → Valid room m → (r : Record) (a : Addition) → examine room m r ≡ accepts a → Adds m r a

abbrev pub ForkNarrow : Type 0
ForkNarrow =
    (room : Room) (m : Model) → Valid room m → (c left right : ℕ) (a : Addition) → examine room m (fork c left right) ≡ accepts a
    → (length (pick left (clause_at m c)) < length (clause_at m c)) × (length (pick right (clause_at m c)) < length (clause_at m c))
