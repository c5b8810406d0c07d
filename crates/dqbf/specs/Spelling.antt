-- The one clean spelling of lines (document 02, Note 1): words parted by single spaces, numbers as `digits_of` writes them, and a line feed behind each line.
-- It is the spelling of a form of a line (specs/Reading.antt), so that what is written and what is read are stated on the same lines.
--     joined         words, parted by single spaces
--     literal_word    a literal: its variable, behind a minus if it is negated
--     closed_words    words, and the closing 0
--     line_words      the words of a line
--     line_text, text a line, and lines one behind the other, as bytes
use Rattle.std.specs.Prelude.{List, [], ◌∷◌, ◌++◌, map, ℕ, suc, ℤ, pos, negsuc}
use Rattle.dqbf.specs.Bytes.{bytes}
use Rattle.dqbf.specs.Text.{line_feed, space, minus}
use Rattle.dqbf.specs.Reading.{Form, comment, header, a_line, e_line, d_line, clause_line, no_form}
use Rattle.dqbf.specs.Line.{digits_of}

unfoldable pub joined : List (List ℕ) → List ℕ
joined [] = []
joined (w ∷ []) = w
joined (w ∷ v ∷ vs) = w ++ (space ∷ joined (v ∷ vs))

unfoldable pub literal_word : ℤ → List ℕ
literal_word (pos x) = digits_of x
literal_word (negsuc k) = minus ∷ digits_of (suc k)

unfoldable pub closed_words : List (List ℕ) → List (List ℕ)
closed_words ws = ws ++ (bytes "0" ∷ [])

-- No line of a model is a comment or without form (`lines_of`); these have no words.
unfoldable pub line_words : Form → List (List ℕ)
line_words comment = []
line_words (header v c) = bytes "p" ∷ bytes "cnf" ∷ digits_of v ∷ digits_of c ∷ []
line_words (a_line xs) = bytes "a" ∷ closed_words (map digits_of xs)
line_words (e_line xs) = bytes "e" ∷ closed_words (map digits_of xs)
line_words (d_line x S) = bytes "d" ∷ closed_words (map digits_of (x ∷ S))
line_words (clause_line C) = closed_words (map literal_word C)
line_words no_form = []

unfoldable pub line_text : Form → List ℕ
line_text f = joined (line_words f) ++ (line_feed ∷ [])

unfoldable pub text : List Form → List ℕ
text [] = []
text (f ∷ fs) = line_text f ++ text fs
