-- Worked cases of the spelling (document 02, Note 1): a text is loaded, and the formula part of its model is spelled.
use Rattle.std.specs.Prelude.{List, [], ◌∷◌, ℕ, pos, negsuc}
use Prim.Native.String.{String}
use Rattle.dqbf.specs.Reading.{Loaded, accepted, refused}
use Rattle.dqbf.specs.Model.{Model, model_of}
use Rattle.dqbf.specs.Spelled.{spelled}

unfoldable pub tidied : Loaded → List ℕ
tidied (accepted φ) = spelled (model_of φ)
tidied (refused line number) = []

pub record Case : Type 0 where
  pub given : String
  pub tidy : String

unfoldable pub cases : List Case
cases =
    -- no variable and no clause; the empty clause
    record { given = "c nothing\np cnf 0 0\n"; tidy = "p cnf 0 0\n" }
    ∷ record { given = "p cnf 0 1\n0\n"; tidy = "p cnf 0 1\n0\n" }
    -- universals in order of declaration on one line; sets and literals ascending, repeats once; variable 5 is undeclared
    ∷ record {
      given = "c untidy\np cnf  6  3\na 4 0\nd 2 4  4 0\na 1 0\nd 6 4 1 0\nd 3 0\n2 -1 2 0\n0\n-6 4   3 -1 0\n";
      tidy = "p cnf 6 3\na 4 1 0\nd 2 4 0\nd 3 0\nd 6 1 4 0\n-1 2 0\n0\n-1 3 4 -6 0\n";
    }
    -- an `e` line becomes `d` lines
    ∷ record { given = "p cnf 12 1\na 11 12 0\ne 10 9 0\n-12 10 0\n"; tidy = "p cnf 12 1\na 11 12 0\nd 9 11 12 0\nd 10 11 12 0\n10 -12 0\n" }
    -- each with the universals before it (Note 3)
    ∷ record { given = "p cnf 5 2\na 4 0\ne 2 0\nd 5 4 4 0\na 3 1 0\n2  -5 2 0\n0\n"; tidy = "p cnf 5 2\na 4 3 1 0\nd 2 4 0\nd 5 4 0\n2 -5 0\n0\n" }
    ∷ []

-- a fork variable and the clauses of its fork do not appear
abbrev pub forked : Model
forked = record {
  kinds = 1 ∷ 1 ∷ 0 ∷ 2 ∷ [];
  sets = 1 ∷ 2 ∷ 0 ∷ 2 ∷ [];
  formula = (pos 1 ∷ pos 4 ∷ []) ∷ [];
  forks = 0 ∷ [];
  derived = (pos 1 ∷ pos 5 ∷ []) ∷ (pos 4 ∷ negsuc 4 ∷ []) ∷ [];
}
