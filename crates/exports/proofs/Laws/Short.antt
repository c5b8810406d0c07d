-- Numbers of 16 bits: the numbers of refusal and the variables that they name, the lines of a text, the steps and clauses of a run.
use mathlib.Core.Path.{◌≡◌, refl}
use mathlib.Core.Bool.{◌&&◌, Bool, true, false, cond}
use mathlib.Core.List.{List, [], ◌∷◌, ◌++◌}
use mathlib.Core.Option.{Option, none, some}
use Prim.Native.Nat.{ℕ, zero, suc, ◌+◌, ◌<◌, ◌≤◌}
use native.Mathlib.Omega.{arith}
use borrow.Author.Tests.{ltb-false}
use lib.Dec.{eqb, ltb}
use lib.ListN.{get_or, replicate, length, drop}
use Rattle.dqbf.specs.Set.{inside, size, count}
use Rattle.dqbf.specs.Literal.{Clause, total}
use Rattle.dqbf.specs.Questions.{members}
use Rattle.dqbf.specs.Limits.{tables, records_limit, text_limit, record_size}
use Rattle.dqbf.specs.Refusal.{Refusal, refusal, Test, ◌when◌, first}
use Rattle.dqbf.specs.Model.{Model, clauses, used, kind_of, set_of, steps, lowest_empty}
use Rattle.dqbf.specs.Valid.{Valid}
use Rattle.dqbf.specs.Text.{onto, pieces, is_empty, line_feed}
use Rattle.dqbf.specs.Reading.{Form, comment, header, a_line, e_line, d_line, clause_line, no_form, form_of, Phase, opening, prefix_lines, clause_lines, Reader, start, line_tests, taken, Loaded, accepted, refused, at_end, unless, read_from, load}
use Rattle.dqbf.specs.Record.{Record, resolution, reduction, fork, record_of, stretches}
use Rattle.dqbf.specs.Rules.{clause_at, added, resolution_test, resolution_order, resolution_tests_by, reduction_tests, fork_tests, rule_tests_by, no_room, tests, tests_by}
use Rattle.dqbf.specs.Run.{Examined, accepts, refuses, judged, examine_by, examine_or20, examine_or20_by, examine_bytes, examine_bytes_by, after, Verdict, refuted, open', bad, verdict_of, go_on, run_from, run_from_by, run, run_by}
use Rattle.dqbf.specs.Run as Run
use Rattle.dqbf.proofs.ClashingVariable.{clashing-variable}
use Rattle.dqbf.proofs.SetSize.{set-size}
use Rattle.dqbf.proofs.StepsKeepValid.{call-keeps}
use Rattle.tables.specs.Spread.{state_of}
use Rattle.codec.specs.State.{counts}
use Rattle.results.specs.Results.{named_variable}
use Rattle.exports.proofs.Laws.Named.{named-well}
use Rattle.exports.proofs.Laws.Fits.{each_append, each_member, counts-small}

abbrev pub Short : ℕ → Type 0
Short n = n < 65536

-- ---- numbers of refusal

ShortTests : List Test → Type 0
ShortTests [] = Unit {0}
ShortTests ((r when c) ∷ ts) = Short r.number × ShortTests ts

ShortRefusal : Option Refusal → Type 0
ShortRefusal none = Unit {0}
ShortRefusal (some r) = Short r.number

first_short : (ts : List Test) → ShortTests ts → ShortRefusal (first ts)
unfolding first ShortTests ShortRefusal
first_short [] h = tt
first_short ((r when true) ∷ ts) h = h.0
first_short ((r when false) ∷ ts) h = first_short ts h.1

one_more : (ts : List Test) (r : Refusal) (c : Bool) → Short r.number → ShortTests ts → ShortTests (ts ++ ((r when c) ∷ []))
unfolding ShortTests
one_more [] r c s h = (s, tt)
one_more ((q when d) ∷ ts) r c s h = (h.0, one_more ts r c s h.1)

rule-short : (m : Model) (r : Record) → ShortTests (rule_tests_by resolution_order m r)
unfolding ShortTests rule_tests_by resolution_tests_by resolution_test resolution_order reduction_tests fork_tests
rule-short m (resolution c d p) = (omega arith, (omega arith, (omega arith, (omega arith, (omega arith, tt)))))
rule-short m (reduction c l) = (omega arith, (omega arith, (omega arith, (omega arith, tt))))
rule-short m (fork c a b) = (omega arith, (omega arith, (omega arith, tt)))

ShortExamined : Examined → Type 0
ShortExamined (accepts a) = Unit {0}
ShortExamined (refuses r) = Short r.number

judged-short : (m : Model) (r : Record) (o : Option Refusal) → ShortRefusal o → ShortExamined (judged o (added m r))
unfolding judged ShortRefusal ShortExamined
judged-short m r none h = tt
judged-short m r (some x) h = h

record-short : (m : Model) (o : Option Record) → ShortExamined (examine_or20 tables m o)
unfolding examine_or20_by examine_by ShortExamined tests_by
record-short m none = omega arith
record-short m (some r) =
    judged-short m r (first (tests tables m r)) (first_short (tests tables m r) (one_more (rule_tests_by resolution_order m r) (refusal 25) (no_room tables m (added m r)) (omega arith) (rule-short m r)))

-- ---- the variable that a refusal names

ShortNamed : Examined → Type 0
ShortNamed (accepts a) = Unit {0}
ShortNamed (refuses r) = Short r.number × Short (named_variable r)

examine-short : (m : Model) → Valid tables m → (bytes : List ℕ) → ShortNamed (examine_bytes tables m bytes)
unfolding ShortNamed ShortExamined examine_bytes_by
examine-short m v bytes = go (examine_bytes tables m bytes) refl (record-short m (record_of bytes))
  where
    go : (e : Examined) → examine_bytes tables m bytes ≡ e → ShortExamined e → ShortNamed e
    go (accepts a) q h = tt
    go (refuses r) q h = (h, (named-well m v bytes r (clashing-variable tables m v bytes r q)).short)

-- ---- a run

unfoldable pub ShortVerdict : Verdict → Type 0
ShortVerdict (refuted s k) = Short s × Short k
ShortVerdict (open' s) = Short s
ShortVerdict (bad s r) = Short s × Short r.number × Short (named_variable r)

told-short : (m : Model) → Short (steps m) → Short (lowest_empty m) → (c : Bool) → ShortVerdict (cond c (open' (steps m)) (refuted (steps m) (lowest_empty m)))
unfolding ShortVerdict
told-short m s k true = s
told-short m s k false = (s, k)

verdict-short : (m : Model) → Valid tables m → ShortVerdict (verdict_of m)
unfolding verdict_of counts state_of
verdict-short m v = told-short m (counts-small m v 6) (counts-small m v 7) (eqb (lowest_empty m) 0)

going-short : (m : Model) (n : ℕ) (rest : Model → Run.Ran) → Short n → ((m' : Model) → Valid tables m' → ShortVerdict (rest m').verdict)
    → (e : Examined) → ShortNamed e → Valid tables (after m e) → ShortVerdict (go_on e m n rest).verdict
unfolding go_on after ShortNamed ShortVerdict
going-short m n rest h f (accepts a) k v = f _ v
going-short m n rest h f (refuses r) k v = (h, k.0, k.1)

from-short : (rs : List (List ℕ)) (n : ℕ) → n + length rs < 65536 → (m : Model) → Valid tables m → ShortVerdict (run_from tables rs n m).verdict
unfolding run_from_by Run.next_by
from-short [] n h m v = verdict-short m v
from-short (bytes ∷ rs) n h m v =
    going-short m (suc n) (λ m'. run_from tables rs (suc n) m') (omega arith) (from-short rs (suc n) (omega arith)) (examine_bytes tables m bytes) (examine-short m v bytes)
    (call-keeps tables m v (Run.step_call bytes))

stretches-few : (n : ℕ) (bytes : List ℕ) → length (stretches n bytes) ≤ n
unfolding stretches
stretches-few zero bytes = omega arith
stretches-few (suc n) [] = omega arith
stretches-few (suc n) (b ∷ bytes) = let h = stretches-few n (drop record_size (b ∷ bytes)) in omega arith

pub run_short-is : (m : Model) → Valid tables m → (bytes : List ℕ) → ShortVerdict (run tables m bytes).verdict
unfolding run_by ShortVerdict named_variable
run_short-is m v bytes = go (ltb records_limit (length bytes)) refl
  where
    go : (c : Bool) → ltb records_limit (length bytes) ≡ c
        → ShortVerdict (cond c (record { model = m; verdict = bad 0 (refusal 11) }) (run_from tables (stretches (length bytes) bytes) 0 m)).verdict
    go true e = (omega arith, omega arith, omega arith)
    go false e = from-short (stretches (length bytes) bytes) 0 (omega (arith, stretches-few (length bytes) bytes, ltb-false records_limit (length bytes) e)) m v

-- ---- a load

unfoldable pub ShortLoaded : Loaded → Type 0
ShortLoaded (accepted φ) = Unit {0}
ShortLoaded (refused line number) = Short line × Short number

line-short : (r : Reader) (f : Form) → ShortTests (line_tests r f)
unfolding ShortTests line_tests
line-short r comment = (omega arith, tt)
line-short r (header v c) = (omega arith, (omega arith, tt))
line-short r (a_line xs) = (omega arith, (omega arith, (omega arith, tt)))
line-short r (e_line xs) = (omega arith, (omega arith, tt))
line-short r (d_line x S) = (omega arith, (omega arith, tt))
line-short r (clause_line C) = (omega arith, (omega arith, (omega arith, (omega arith, (omega arith, tt)))))
line-short r no_form = (omega arith, tt)

counted-short : (r : Reader) (n : ℕ) → suc n < 65536 → (c : Bool) → ShortLoaded (cond c (accepted r.formula) (refused n 14))
unfolding ShortLoaded
counted-short r n h true = tt
counted-short r n h false = (omega arith, omega arith)

end_short : (p : Phase) (r : Reader) (n : ℕ) → suc n < 65536 → ShortLoaded (at_end p r n)
unfolding at_end ShortLoaded
end_short opening r n h = (h, omega arith)
end_short prefix_lines r n h = counted-short r n h (eqb (length r.formula.clauses) r.count)
end_short clause_lines r n h = counted-short r n h (eqb (length r.formula.clauses) r.count)

unless-short : (o : Option Refusal) (n : ℕ) (go : Unit {0} → Loaded) → ShortRefusal o → Short n → ShortLoaded (go tt) → ShortLoaded (unless o n go)
unfolding unless ShortRefusal ShortLoaded
unless-short none n go k h f = f
unless-short (some r) n go k h f = (h, k)

last-short : (c : Bool) (r : Reader) (n : ℕ) → suc n < 65536 → ShortLoaded (cond c (at_end r.phase r n) (refused (suc n) 10))
unfolding ShortLoaded
last-short true r n h = end_short r.phase r n h
last-short false r n h = (h, omega arith)

read_short : (ls : List (List ℕ)) (n : ℕ) (r : Reader) → n + length ls + 1 < 65536 → ShortLoaded (read_from ls n r)
unfolding read_from
read_short [] n r h = end_short r.phase r n (omega arith)
read_short (l ∷ []) n r h = last-short (is_empty l) r n (omega arith)
read_short (l ∷ k ∷ ls) n r h =
    unless-short (first (line_tests r (form_of l))) (suc n) (λ u. read_from (k ∷ ls) (suc n) (taken r (form_of l))) (first_short (line_tests r (form_of l)) (line-short r (form_of l))) (omega arith)
    (read_short (k ∷ ls) (suc n) (taken r (form_of l)) (omega arith))

onto-length : (b : ℕ) (ws : List (List ℕ)) → length (onto b ws) ≤ suc (length ws)
unfolding onto
onto-length b [] = omega arith
onto-length b (w ∷ ws) = omega arith

pieces-few : (s : ℕ) (bytes : List ℕ) → length (pieces s bytes) ≤ suc (length bytes)
unfolding pieces
pieces-few s [] = omega arith
pieces-few s (b ∷ bytes) = go (eqb b s) (pieces-few s bytes)
  where
    go : (c : Bool) → length (pieces s bytes) ≤ suc (length bytes) → length (cond c ([] ∷ pieces s bytes) (onto b (pieces s bytes))) ≤ suc (suc (length bytes))
    go true h = omega arith
    go false h = omega (arith, onto-length b (pieces s bytes))

pub load-short : (text : List ℕ) → ShortLoaded (load text)
unfolding load ShortLoaded
load-short text = go (ltb text_limit (length text)) refl
  where
    go : (c : Bool) → ltb text_limit (length text) ≡ c → ShortLoaded (cond c (refused 0 11) (read_from (pieces line_feed text) 0 start))
    go true e = (omega arith, omega arith)
    go false e = read_short (pieces line_feed text) 0 start (omega (arith, pieces-few line_feed text, ltb-false text_limit (length text) e))

-- ---- questions

at-total : (Cs : List Clause) (i : ℕ) → length (get_or Cs i []) ≤ total Cs
unfolding total
at-total [] i = omega arith
at-total (C ∷ Cs) zero = omega arith
at-total (C ∷ Cs) (suc i) = let h = at-total Cs i in omega arith

pub length-short : (m : Model) → Valid tables m → (c : ℕ) → Short (length (clause_at m c))
unfolding clause_at
length-short m v zero = omega arith
length-short m v (suc i) = omega (arith, at-total (clauses m) i, v.few-literals)

threes : (n i : ℕ) → get_or (replicate n 3) i 0 ≤ 3
threes zero i = omega arith
threes (suc n) zero = omega arith
threes (suc n) (suc i) = threes n i

pub kind-short : (m : Model) → Valid tables m → (x : ℕ) → Short (kind_of m x)
unfolding kind_of
kind-short m v zero = omega arith
kind-short m v (suc i) =
    let low = each_append (λ k. k ≤ 3) 0 (omega arith) m.kinds (replicate (length m.forks) 3)
    (each_member (λ k. k ≤ 3) 0 (omega arith) m.kinds (λ k q. let h = v.kinds-low k q in omega arith)) (threes (length m.forks)) i in
    omega arith

one-most : (c : Bool) → cond c 1 0 ≤ 1
one-most true = omega arith
one-most false = omega arith

count_most : (d : ℕ) (P : ℕ → Bool) → count d P ≤ d
unfolding count
count_most zero P = omega arith
count_most (suc d) P = omega (arith, one-most (P 0), count_most d (λ i. P (suc i)))

pub size-short : (m : Model) → Valid tables m → (x : ℕ) → Short (size (set_of m x))
unfolding members used
size-short m v x =
    rw (set-size tables m v x)
    (omega (arith, count_most (length m.kinds) (λ k. eqb (kind_of m (suc k)) 1 && inside (set_of m (suc k)) (set_of m x)), v.few-variables))
