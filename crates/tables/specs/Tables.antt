-- The four lent tables, and the model that they hold with a state (document 01, "The four lent tables").
--     Tables, rows_of                 the four tables, the sets as sets
--     tables_of                       the tables as they are lent: four words for each set (document 02, Note 6)
--     stretch, cut, entry            a part of a table; the clauses between their ends; an entry by its number
--     kinds_in, sets_in, clauses_in     the entries in use
--     model_in                        the model
use Rattle.std.specs.Prelude.{List, [], ◌∷◌, ℕ, zero, suc, ◌-◌, ℤ, take, drop, get_or}
use Rattle.dqbf.specs.Literal.{Clause}
use Rattle.dqbf.specs.Set.{Set}
use Rattle.dqbf.specs.Model.{Model}
use Rattle.sets.specs.Words.{words_each, as_sets, spare_in}
use Rattle.tables.specs.declared.State.{State}

pub record Tables : Type 0 where
  pub literals : List ℤ  -- the clauses, one behind the other
  pub ends : List ℕ  -- end of clause 1, 2, .. in the literals
  pub sets : List Set  -- dependency set of variable 1, 2, ..
  pub spare : List ℕ  -- words of a longer table behind the last whole set
  pub kinds : List ℕ  -- 0 undeclared, 1 universal, 2 existential, 3 fork

abbrev pub rows_of : List ℤ → List ℕ → List Set → List ℕ → List ℕ → Tables
rows_of literals ends sets spare kinds = record { literals = literals; ends = ends; sets = sets; spare = spare; kinds = kinds }

-- the words of the sets table, `words_each` for each variable, the lowest bits first
abbrev pub tables_of : List ℤ → List ℕ → List ℕ → List ℕ → Tables
tables_of literals ends words kinds = rows_of literals ends (as_sets words_each words) (spare_in words_each words) kinds

-- the entries from one place up to another
abbrev pub stretch : {A : Type 0} → ℕ → ℕ → List A → List A
stretch from to l = take (to - from) (drop from l)

-- the clauses between their ends, the first of which starts at a place
unfoldable pub cut : ℕ → List ℕ → List ℤ → List Clause
cut from [] literals = []
cut from (end ∷ ends) literals = stretch from end literals ∷ cut end ends literals

-- the entry with a number, from 1; 0 for number 0 and past the end
unfoldable pub entry : List ℕ → ℕ → ℕ
entry l zero = 0
entry l (suc i) = get_or l i 0

-- ---- the entries in use

abbrev pub kinds_in : Tables → State → List ℕ
kinds_in t s = take s.variables.0 t.kinds

abbrev pub sets_in : Tables → State → List Set
sets_in t s = take s.variables.0 t.sets

abbrev pub ends_in : Tables → State → List ℕ
ends_in t s = take s.clauses.0 t.ends

abbrev pub clauses_in : Tables → State → List Clause
clauses_in t s = cut 0 (ends_in t s) t.literals

unfoldable pub model_in : Tables → State → Model
model_in t s = record {
  kinds = take s.bound.0 (kinds_in t s);
  sets = take s.bound.0 (sets_in t s);
  formula = take s.formula.0 (clauses_in t s);
  forks = drop s.bound.0 (sets_in t s);
  derived = drop s.formula.0 (clauses_in t s);
}
