-- Sets in any number of words: specs/Statements.antt, `AnyWidth`.
use Rattle.sets.specs.Statements.{AnyWidth}
use Rattle.sets.proofs.Laws.Words.{set_below, words-of, set_back, words_back, union-words, union-set, common-words, common-set, inside-set, size-set, none-set, same_set}
use Rattle.sets.proofs.Laws.Sets.{table-back}
use Rattle.sets.proofs.Laws.Tables.{sets-again, spare-again}

pub any_width : AnyWidth
any_width n = (
  record { words-of = words-of n; set_back = set_back n; words_back = words_back n; below = set_below n },
  record {
    unions = λ s t h k. (union-words n s t h k, union-set n s t h k);
    commons = λ s t h k. (common-words n s t h k, common-set n s t h k);
    insides = inside-set n;
    sizes = size-set n;
    nones = none-set n;
    sames = same_set n;
  },
  λ some. record { words-follow = λ words. table-back n some words; sets-back = sets-again n some; none-spare = spare-again n some },
)
