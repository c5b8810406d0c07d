-- What is claimed of tables and models, and proved in proofs/Refinement.antt. With these a call on tables is `spread`, behind a definition of the calculus, behind `model_in`.
use Rattle.std.specs.Prelude.{◌≡◌, true, ◌↔◌, List, [], ◌∷◌, ◌++◌, ℕ, ◌^◌, ◌≤◌, ◌<◌, leb, ℤ, length, get_or, drop}
use Rattle.dqbf.specs.Limits.{clause_limit, literal_limit, variable_limit, tables}
use Rattle.dqbf.specs.Model.{Model}
use Rattle.dqbf.specs.Valid.{Valid}
use Rattle.tables.specs.declared.State.{State}
use Rattle.sets.specs.Words.{words_each, table_words, table_of}
use Rattle.tables.specs.Tables.{Tables, tables_of, model_in}
use Rattle.tables.specs.Spread.{spread, state_of, blank, zero_state}
use Rattle.tables.specs.WellFormed.{every, long, well_formed, valid}

-- The test of a model is the calculus' own notion of validity.
abbrev pub ValidExactly : Type 0
ValidExactly = (m : Model) → (valid m ≡ true) ↔ Valid tables m

-- Well-formed tables are the spread of the model in them, the state is that model's, and the model is valid.
abbrev pub HoldsItsModel : Type 0
HoldsItsModel =
    (t : Tables) (s : State) → long t ≡ true → well_formed t s ≡ true → (spread (model_in t s) t ≡ t) × (state_of (model_in t s) ≡ s) × Valid tables (model_in t s)

-- A valid model's spread is well formed with the model's state, and the model is read back.
abbrev pub ReadsBack : Type 0
ReadsBack = (m : Model) → Valid tables m → (t : Tables) → (well_formed (spread m t) (state_of m) ≡ true) × (model_in (spread m t) (state_of m) ≡ m)

-- Of two models spread one after the other the last counts; the tables stay long enough.
abbrev pub LastCounts : Type 0
LastCounts = (m : Model) → Valid tables m → (t : Tables) → ((n : Model) → spread n (spread m t) ≡ spread n t) × (long t ≡ true → long (spread m t) ≡ true)

-- "Entries of a longer table past these counts are never changed"
pub record Framed (t t' : Tables) : Type 0 where
  pub literals : drop literal_limit t'.literals ≡ drop literal_limit t.literals
  pub ends : drop clause_limit t'.ends ≡ drop clause_limit t.ends
  pub sets : drop variable_limit t'.sets ≡ drop variable_limit t.sets
  pub spare : t'.spare ≡ t.spare
  pub kinds : drop variable_limit t'.kinds ≡ drop variable_limit t.kinds

abbrev pub RestStays : Type 0
RestStays = (m : Model) → Valid tables m → (t : Tables) → Framed t (spread m t)

-- ---- the sets table in words (document 02, Note 6)

-- words of 64 bits
abbrev pub Below : List ℕ → Type 0
Below words = (i : ℕ) → get_or words i 0 < 2 ^ 64

-- The words of a lent sets table follow from its sets and the words behind the last whole one; so an equation of tables fixes every word.
abbrev pub WordsFollow : Type 0
WordsFollow =
    (literals : List ℤ) (ends words kinds : List ℕ) → Below words
    → table_of words_each (tables_of literals ends words kinds).sets ++ (tables_of literals ends words kinds).spare ≡ words

abbrev pub WordsFixed : Type 0
WordsFixed =
    (literals literals' : List ℤ) (ends ends' words words' kinds kinds' : List ℕ) → Below words → Below words'
    → tables_of literals' ends' words' kinds' ≡ tables_of literals ends words kinds → words' ≡ words

-- Every word past 2,048 stays.
abbrev pub RestInWords : Type 0
RestInWords =
    (literals literals' : List ℤ) (ends ends' words words' kinds kinds' : List ℕ) → Below words → Below words' → table_words ≤ length words → table_words ≤ length words'
    → Framed (tables_of literals ends words kinds) (tables_of literals' ends' words' kinds') → drop table_words words' ≡ drop table_words words

-- "the sets table grows to 2,048 words, four for each variable"
abbrev pub LongInWords : Type 0
LongInWords =
    (literals : List ℤ) (ends words kinds : List ℕ) → long (tables_of literals ends words kinds)
    ≡ every (leb literal_limit (length literals) ∷ leb clause_limit (length ends) ∷ leb table_words (length words) ∷ leb variable_limit (length kinds) ∷ [])

-- Zero tables with a zero state hold a valid model, with no variable and no clause.
abbrev pub BlankValid : Type 0
BlankValid = Valid tables blank × (state_of blank ≡ zero_state)
