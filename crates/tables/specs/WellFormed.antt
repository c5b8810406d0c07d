-- When tables are lent long enough and are well formed (document 01, "The tables are well formed when"): the sixteen conditions of the paragraph, each under a
-- name of its own, and no more. Those on the entries in use are stated on lists, so that `well_formed`, of tables, and `valid`, of a model, share them.
--     long                                             no table is lent too short
--     within_limits, bound_in_use, clauses_add_up           the counts: counts_fit
--     ends_rise, clauses_ascend, clauses_narrow, clauses_in_use, formula_declared, empty_told     the clauses: clauses_fit, and the first and the last
--     universals_counted, universals_fill, others_inside, kinds_known, undeclared_bare, forks_above     the variables: variables_fit
--     rest_zero                                         the entries that are not in use
--     well_formed, valid                                all of them, of tables with a state and of a model
use Rattle.std.specs.Prelude.{Bool, true, cond, not, ◌&&◌, List, [], ◌∷◌, ℕ, zero, suc, ◌+◌, ◌-◌, ◌^◌, leb, ltb, eqb, ℤ, pos, nat_abs, length, take}
use Rattle.dqbf.specs.Limits.{clause_limit, literal_limit, variable_limit, universal_limit, width_limit}
use Rattle.dqbf.specs.Literal.{Clause, same}
use Rattle.dqbf.specs.Set.{Set, empty_set, union, common, inside, size}
use Rattle.dqbf.specs.Model.{Model, clauses, universals_in, universal_count, empty_from}
use Rattle.tables.specs.Tables.{Tables, stretch, entry, kinds_in, sets_in, ends_in, clauses_in}
use Rattle.tables.specs.Spread.{kind_row, set_row, state_of}
use Rattle.tables.specs.declared.State.{State}

-- ---- tests of lists

-- every condition of a list holds
unfoldable pub every : List Bool → Bool
every [] = true
every (b ∷ bs) = b && every bs

unfoldable pub all_of : {A : Type 0} → (A → Bool) → List A → Bool
all_of p [] = true
all_of p (x ∷ xs) = p x && all_of p xs

-- of the kind and the set of each variable
unfoldable pub all_variables : (ℕ → Set → Bool) → List ℕ → List Set → Bool
all_variables p [] sets = true
all_variables p (k ∷ kinds) [] = true
all_variables p (k ∷ kinds) (s ∷ sets) = p k s && all_variables p kinds sets

-- ---- number 1: a table is lent too short

unfoldable pub long : Tables → Bool
long t = every (leb literal_limit (length t.literals) ∷ leb clause_limit (length t.ends) ∷ leb variable_limit (length t.sets) ∷ leb variable_limit (length t.kinds) ∷ [])

-- ---- the counts

-- "the counts are within the limits"
unfoldable pub within_limits : State → Bool
within_limits s =
    every (leb s.bound.0 variable_limit ∷ leb s.variables.0 variable_limit ∷ leb s.universals universal_limit
    ∷ leb s.formula.0 clause_limit ∷ leb s.clauses.0 clause_limit ∷ leb s.literals literal_limit ∷ [])

-- "V does not exceed the variables in use"
unfoldable pub bound_in_use : State → Bool
bound_in_use s = leb s.bound.0 s.variables.0

-- "clauses are formula clauses, accepted steps and fork variables added up"
unfoldable pub clauses_add_up : State → Bool
clauses_add_up s = eqb s.clauses.0 (s.formula.0 + s.steps.0 + (s.variables.0 - s.bound.0))

unfoldable pub counts_fit : State → Bool
counts_fit s = every (within_limits s ∷ bound_in_use s ∷ clauses_add_up s ∷ [])

-- ---- the clauses

-- "the ends never fall and the last, 0 if there is none, is the literal count": n, from the place where the first clause starts
unfoldable pub ends_rise : ℕ → List ℕ → ℕ → Bool
ends_rise from [] n = eqb from n
ends_rise from (end ∷ ends) n = leb from end && ends_rise end ends n

-- strictly ascending by variable, all above x
unfoldable pub ascending : ℕ → Clause → Bool
ascending x [] = true
ascending x (l ∷ C) = ltb x (nat_abs l) && ascending (nat_abs l) C

unfoldable pub narrow : Clause → Bool
narrow C = leb (length C) width_limit

-- over variables in use of the kinds 1 to k
unfoldable pub over_kinds : ℕ → List ℕ → Clause → Bool
over_kinds k kinds C = all_of (λ l. ltb 0 (entry kinds (nat_abs l)) && leb (entry kinds (nat_abs l)) k) C

-- "each clause is ascending"
abbrev pub clauses_ascend : List Clause → Bool
clauses_ascend Cs = all_of (ascending 0) Cs

-- "of at most 32 literals"
abbrev pub clauses_narrow : List Clause → Bool
clauses_narrow Cs = all_of narrow Cs

-- "over declared or fork variables in use"
abbrev pub clauses_in_use : List ℕ → List Clause → Bool
clauses_in_use kinds Cs = all_of (over_kinds 3 kinds) Cs

-- "a formula clause over declared ones only"
abbrev pub formula_declared : ℕ → List ℕ → List Clause → Bool
formula_declared formula kinds Cs = all_of (over_kinds 2 kinds) (take formula Cs)

unfoldable pub clauses_fit : ℕ → List ℕ → List Clause → Bool
clauses_fit formula kinds Cs = every (clauses_ascend Cs ∷ clauses_narrow Cs ∷ clauses_in_use kinds Cs ∷ formula_declared formula kinds Cs ∷ [])

-- "the lowest empty clause is as the state says"
unfoldable pub empty_told : State → List Clause → Bool
empty_told s Cs = eqb s.empty.0 (empty_from 1 Cs)

-- ---- the variables

-- the lowest n places
unfoldable pub lowest : ℕ → Set
lowest n = 2 ^ n - 1

-- a single bit, other than those seen before
unfoldable pub new_bit : Set → Set → Bool
new_bit seen s = eqb (size s) 1 && eqb (common seen s) empty_set

-- the universals' sets are single different bits that fill the places, together with those seen before
unfoldable pub universal_bits : Set → Set → List ℕ → List Set → Bool
universal_bits seen places [] sets = eqb seen places
universal_bits seen places (k ∷ kinds) [] = eqb seen places
universal_bits seen places (k ∷ kinds) (s ∷ sets) =
    cond (eqb k 1) (new_bit seen s && universal_bits (union seen s) places kinds sets) (universal_bits seen places kinds sets)

unfoldable pub other_inside : Set → ℕ → Set → Bool
other_inside places k s = cond (leb 2 k) (inside s places) true

unfoldable pub is_kind : ℕ → Bool
is_kind k = leb k 3

unfoldable pub bare_if_undeclared : ℕ → Set → Bool
bare_if_undeclared k s = cond (eqb k 0) (eqb s empty_set) true

-- "the universals are the entries of kind 1"
abbrev pub universals_counted : ℕ → List ℕ → Bool
universals_counted n kinds = eqb (universals_in kinds) n

-- "the universals' sets are single different bits that fill the lowest places"
abbrev pub universals_fill : ℕ → List ℕ → List Set → Bool
universals_fill n kinds sets = universal_bits empty_set (lowest n) kinds sets

-- "every other declared or fork set lies inside these"
abbrev pub others_inside : ℕ → List ℕ → List Set → Bool
others_inside n kinds sets = all_variables (other_inside (lowest n)) kinds sets

-- "kinds are 0 to 3"
abbrev pub kinds_known : List ℕ → Bool
kinds_known kinds = all_of is_kind kinds

-- "undeclared variables have set 0"
abbrev pub undeclared_bare : List ℕ → List Set → Bool
undeclared_bare kinds sets = all_variables bare_if_undeclared kinds sets

-- "kind 3 stands on all numbers above V in use and nowhere else": the bound is what is left of V
unfoldable pub forks_above : ℕ → List ℕ → Bool
forks_above bound [] = true
forks_above zero (k ∷ kinds) = eqb k 3 && forks_above zero kinds
forks_above (suc bound) (k ∷ kinds) = not (eqb k 3) && forks_above bound kinds

unfoldable pub variables_fit : ℕ → ℕ → List ℕ → List Set → Bool
variables_fit bound universals kinds sets =
    every (universals_counted universals kinds ∷ universals_fill universals kinds sets ∷ others_inside universals kinds sets
    ∷ kinds_known kinds ∷ undeclared_bare kinds sets ∷ forks_above bound kinds ∷ [])

-- ---- the entries that are not in use

unfoldable pub is_zero : ℕ → Bool
is_zero n = eqb n 0

unfoldable pub is_zero_literal : ℤ → Bool
is_zero_literal l = same l (pos 0)

-- "all entries between the counts and the table's size above are 0"
unfoldable pub rest_zero : Tables → State → Bool
rest_zero t s =
    every (all_of is_zero_literal (stretch s.literals literal_limit t.literals) ∷ all_of is_zero (stretch s.clauses.0 clause_limit t.ends)
    ∷ all_of is_zero (stretch s.variables.0 variable_limit t.sets) ∷ all_of is_zero (stretch s.variables.0 variable_limit t.kinds) ∷ [])

-- ---- number 2: tables not well formed

unfoldable pub well_formed : Tables → State → Bool
well_formed t s =
    every (counts_fit s ∷ ends_rise 0 (ends_in t s) s.literals ∷ clauses_fit s.formula.0 (kinds_in t s) (clauses_in t s)
    ∷ variables_fit s.bound.0 s.universals (kinds_in t s) (sets_in t s) ∷ empty_told s (clauses_in t s) ∷ rest_zero t s ∷ [])

-- ---- the same of a model: its counts are functions of it, and it has a set for each kind

unfoldable pub valid : Model → Bool
valid m =
    every (eqb (length m.sets) (length m.kinds) ∷ counts_fit (state_of m) ∷ clauses_fit (length m.formula) (kind_row m) (clauses m)
    ∷ variables_fit (length m.kinds) (universal_count m) (kind_row m) (set_row m) ∷ [])

-- ---- what the conditions ask of one clause, and of one variable: the test goes through them once

unfoldable pub clause_fits : ℕ → List ℕ → Clause → Bool
clause_fits k kinds C = every (ascending 0 C ∷ narrow C ∷ over_kinds k kinds C ∷ [])

-- a variable is declared if its number is at most V
unfoldable pub kind_stands : Bool → ℕ → Bool
kind_stands declared k = cond declared (not (eqb k 3)) (eqb k 3)

unfoldable pub variable_fits : Bool → Set → ℕ → Set → Bool
variable_fits declared places k s = every (other_inside places k s ∷ is_kind k ∷ bare_if_undeclared k s ∷ kind_stands declared k ∷ [])
