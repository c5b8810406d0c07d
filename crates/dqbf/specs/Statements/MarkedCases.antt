-- The marked cases of document 01 ("Formulas on the desk"): every row of the table (specs/Cases.antt) holds.
-- Beside them lines with two faults, clashing variables (document 02, Notes 4 and 5), 256 universals (Note 6), and the example of 002, section 5.
use Rattle.dqbf.specs.Literal.{◌∈◌}
use Rattle.dqbf.specs.Cases.{Row, Holds, marked, two_faults, clashing, many_universals, section_five}

abbrev pub MarkedCases : Type 0
MarkedCases = (r : Row) → r ∈ marked → Holds r

abbrev pub TwoFaults : Type 0
TwoFaults = (r : Row) → r ∈ two_faults → Holds r

abbrev pub Clashing : Type 0
Clashing = (r : Row) → r ∈ clashing → Holds r

abbrev pub ManyUniversals : Type 0
ManyUniversals = (r : Row) → r ∈ many_universals → Holds r

abbrev pub SectionFive : Type 0
SectionFive = Holds section_five
