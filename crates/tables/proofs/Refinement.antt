-- The claims of specs/Statements.antt, from the laws.
use mathlib.Core.Path.{◌≡◌, ap, ap₂, sym, ◌∙◌}
use mathlib.Core.List.{List, ◌++◌}
use Prim.Native.Nat.{ℕ, ◌≤◌}
use native.Mathlib.Omega.{arith}
use lib.Dec.{lit<}
use lib.ListN.{length, drop}
use lib.Seq.{drop-append-le}
use Rattle.dqbf.specs.Limits.{variable_limit}
use Rattle.dqbf.specs.Set.{Set}
use Rattle.sets.specs.Words.{words_each, table_words, as_sets, spare_in, table_of}
use Rattle.sets.proofs.Laws.Sets.{table-back}
use Rattle.sets.proofs.Laws.Tables.{table-length, table-drop}
use Rattle.tables.specs.Tables.{Tables}
use Rattle.tables.proofs.Laws.Lent.{leb-words, words_long}
use Rattle.tables.specs.WellFormed.{long}
use Rattle.tables.specs.Statements.{Below, WordsFollow, WordsFixed, RestInWords, LongInWords, ValidExactly, HoldsItsModel, ReadsBack, LastCounts, RestStays, BlankValid}
use Rattle.tables.proofs.Laws.Valid.{valid-is, valid-from}
use Rattle.tables.proofs.Laws.Spread.{model-held, state-held, valid-held, model-back, formed-spread, spread-again, long-spread, frame, blank-valid, blank-state}

pub valid-exactly : ValidExactly
valid-exactly m = (valid-is m, valid-from m)

pub holds-its-model : HoldsItsModel
holds-its-model t s lent formed = (model-held t s lent formed, state-held t s lent formed, valid-held t s lent formed)

pub reads-back : ReadsBack
reads-back m v t = (formed-spread m v t, model-back m v t)

pub last-counts : LastCounts
last-counts m v t = (spread-again m v t, long-spread m v t)

pub rest-stays : RestStays
rest-stays m v t = frame m v t

pub blank-holds : BlankValid
blank-holds = (blank-valid, blank-state)

pub words-follow : WordsFollow
words-follow literals ends words kinds fits = table-back 4 (lit< tt) words fits

pub words-fixed : WordsFixed
words-fixed l l' e e' w w' k k' f f' p = sym (words-follow l' e' w' k' f') ∙ ap (λ (t : Tables). table_of words_each t.sets ++ t.spare) p ∙ words-follow l e w k f

-- the words past the first 512 sets
pub rest-words : (w : List ℕ) → Below w → table_words ≤ length w → drop table_words w ≡ table_of words_each (drop variable_limit (as_sets words_each w)) ++ spare_in words_each w
rest-words w f h =
    let S = as_sets words_each w in
    let long : table_words ≤ length (table_of words_each S) = omega (arith, table-length 4 S, words_long w h) in
    ap (drop table_words) (sym (table-back 4 (lit< tt) w f)) ∙ drop-append-le table_words (table_of words_each S) (spare_in words_each w) long ∙ ap (λ (l : List ℕ). l ++ spare_in words_each w) (table-drop 4 512 S)

pub rest-in-words : RestInWords
rest-in-words l l' e e' w w' k k' f f' h h' r =
    rest-words w' f' h' ∙ ap₂ (λ (S : List Set) (v : List ℕ). table_of words_each S ++ v) r.sets r.spare ∙ sym (rest-words w f h)

pub long-in-words : LongInWords
unfolding long
long-in-words literals ends words kinds = rw (leb-words words)
