-- The worked cases of specs/SpelledCases.antt, computed.
use mathlib.Core.Path.{◌≡◌, refl}
use mathlib.Core.List.{map}
use Rattle.dqbf.specs.Bytes.{bytes, same_bytes}
use Rattle.dqbf.specs.Refusal.{first}
use Rattle.dqbf.specs.Literal.{same, rank, join, sorted, clashes, total}
use Rattle.dqbf.specs.Formula.{universals_of, declared, e_set, declared_as, var_by}
use Rattle.dqbf.specs.Text.{onto, pieces, is_empty, non_empty, last_of, parted, tokens, all_digits, value_from, number_of, not_zero, variable_of, literal_of, is_zero, prepend, closed}
use Rattle.dqbf.specs.Reading.{header_of, header_form, prefix_form, clause_form, tokens_form, is_comment, form_of, is_opening, takes_clauses, takes_prefix, elem, all_in, different, fresh, undeclarable, line_tests, declaring, taken, at_end, unless, read_from, load}
use Rattle.dqbf.specs.Model.{universals_in, universal_count, kind_of, set_of, place, word_of, kind_for, set_for, numbers, model_by}
use Rattle.dqbf.specs.Line.{decimal, digits_of}
use Rattle.dqbf.specs.Spelling.{joined, literal_word, closed_words, line_words, line_text, text}
use Rattle.dqbf.specs.Spelled.{formula_part, select, first_of, is_universal, is_at, universal_at, universals_from, declaration_order, is_member, members_of, is_existential, existentials, a_lines, d_line_of, lines_of, spelled}
use Rattle.dqbf.specs.SpelledCases.{tidied, cases, forked}

pub worked : map (λ c. tidied (load (bytes c.given))) cases ≡ map (λ c. bytes c.tidy) cases
unfolding tidied cases
    bytes same_bytes first same rank join sorted clashes total universals_of declared e_set declared_as var_by
    onto pieces is_empty non_empty last_of parted tokens all_digits value_from number_of not_zero variable_of literal_of is_zero prepend closed
    header_of header_form prefix_form clause_form tokens_form is_comment form_of is_opening takes_clauses takes_prefix elem all_in different fresh undeclarable line_tests declaring taken at_end unless read_from load
    universals_in universal_count kind_of set_of place word_of kind_for set_for numbers model_by decimal digits_of
    joined literal_word closed_words line_words line_text text
    formula_part select first_of is_universal is_at universal_at universals_from declaration_order is_member members_of is_existential existentials a_lines d_line_of lines_of spelled
worked = refl

pub no-forks : spelled forked ≡ bytes "p cnf 4 1\na 1 2 0\nd 4 2 0\n1 4 0\n"
unfolding bytes universals_in universal_count kind_of set_of numbers decimal digits_of joined literal_word closed_words line_words line_text text
    formula_part select first_of is_universal is_at universal_at universals_from declaration_order is_member members_of is_existential existentials a_lines d_line_of lines_of spelled
no-forks = refl
