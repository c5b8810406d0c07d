-- The worked cases of specs/Cases.antt, computed.
use mathlib.Core.Path.{◌≡◌, refl}
use mathlib.Core.List.{map}
use lib.Count.{ones}
use Rattle.dqbf.specs.Bytes.{bytes, same_bytes}
use Rattle.dqbf.specs.Refusal.{first}
use Rattle.dqbf.specs.Literal.{same, rank, join, sorted, clashes, total}
use Rattle.dqbf.specs.Formula.{universals_of, declared, e_set, declared_as, var_by}
use Rattle.dqbf.specs.Text.{onto, pieces, is_empty, non_empty, last_of, parted, tokens, all_digits, value_from, number_of, not_zero, variable_of, literal_of, is_zero, prepend, closed}
use Rattle.dqbf.specs.Reading.{header_of, header_form, prefix_form, clause_form, tokens_form, is_comment, form_of, is_opening, takes_clauses, takes_prefix, elem, all_in, different, fresh, undeclarable, line_tests, declaring, taken, at_end, unless, read_from, load}
use Rattle.dqbf.specs.Set.{bit}
use Rattle.dqbf.specs.Meaning.{is}
use Rattle.dqbf.specs.Spelled.{formula_part}
use Rattle.dqbf.specs.Model.{universals_in, universal_count, kind_of, set_of, place, word_of, kind_for, set_for, numbers, model_by}
use Rattle.deciding.specs.Deciding.{table_bits, offset, total_bits, row, function_at, value_for, value_at, literal_at, clause_at, all_below, always_true, all_true, makes_true, least_from, first_family, decided, above, true_by, decide}
use Rattle.deciding.specs.Cases.{decided_text, cases, stepped}

pub worked : map (λ c. decided_text (load (bytes c.text))) cases ≡ map (λ c. c.answer) cases
unfolding decided_text cases
    bytes same_bytes first same rank join sorted clashes total universals_of declared e_set declared_as var_by
    onto pieces is_empty non_empty last_of parted tokens all_digits value_from number_of not_zero variable_of literal_of is_zero prepend closed
    header_of header_form prefix_form clause_form tokens_form is_comment form_of is_opening takes_clauses takes_prefix elem all_in different fresh undeclarable line_tests declaring taken at_end unless read_from load
    ones bit is universals_in universal_count kind_of set_of place word_of kind_for set_for numbers model_by
    formula_part table_bits offset total_bits row function_at value_for value_at literal_at clause_at all_below always_true all_true makes_true least_from first_family decided above decide
worked = refl

pub not-stepped : decide stepped ≡ true_by 3
unfolding ones bit is universals_in universal_count kind_of set_of
    formula_part table_bits offset total_bits row function_at value_for value_at literal_at clause_at all_below always_true all_true makes_true least_from first_family decided above decide
not-stepped = refl
