-- THE REFUTATION THEOREM for the printed line: specs/Statements.antt.
use mathlib.Core.Path.{◌≡◌, refl, sym, ap}
use mathlib.Core.Bool.{Bool, true, false}
use mathlib.Core.List.Memᴰ
use mathlib.Core.List.{List, [], ◌∷◌}
use Prim.Native.Nat.{ℕ}
use native.Mathlib.Omega.{arith}
use lib.ListN.{take, get_or}
use Rattle.dqbf.specs.Limits as Limits
use Rattle.dqbf.specs.Bytes.{bytes}
use Rattle.dqbf.specs.Formula.{Formula}
use Rattle.dqbf.specs.Meaning.{Refuted}
use Rattle.dqbf.specs.Reading.{Loaded, accepted, refused, load}
use Rattle.dqbf.specs.Model.{model_of}
use Rattle.dqbf.specs.Run.{Verdict, refuted, open', bad, ran, run_call, answer, answers, run}
use Rattle.dqbf.specs.Line.{verdict_line, formula_line, printed, program}
use Rattle.dqbf.proofs.Refutation.{refutation}
use Rattle.tables.specs.Tables.{Tables}
use Rattle.tables.specs.WellFormed.{long}
use Rattle.verdict.specs.Judging.{judged_line}
use Rattle.verdict.specs.Statements.{LineRefutes}

abbrev SaysRefuted : List ℕ → Type 0
SaysRefuted line = take 7 line ≡ bytes "refuted"

-- the lines of the other verdicts begin with another letter
open-not : (s : ℕ) → SaysRefuted (verdict_line (open' s)) → ⊥
unfolding verdict_line bytes
open-not s h = let z : ◌≡◌ {A = ℕ} 111 114 = ap (λ (xs : List ℕ). get_or xs 0 0) h in omega (arith, z)

bad-not : (s : ℕ) (x : _) → SaysRefuted (verdict_line (bad s x)) → ⊥
unfolding verdict_line bytes
bad-not s x h = let z : ◌≡◌ {A = ℕ} 98 114 = ap (λ (xs : List ℕ). get_or xs 0 0) h in omega (arith, z)

formula-not : (l n : ℕ) → SaysRefuted (formula_line l n) → ⊥
unfolding formula_line bytes
formula-not l n h = let z : ◌≡◌ {A = ℕ} 102 114 = ap (λ (xs : List ℕ). get_or xs 0 0) h in omega (arith, z)

verdict-is : (v : Verdict) → SaysRefuted (verdict_line v) → (s : ℕ) × (k : ℕ) × (v ≡ refuted s k)
verdict-is (refuted s k) h = (s, k, refl)
verdict-is (open' s) h = absurd (open-not s h)
verdict-is (bad s x) h = absurd (bad-not s x h)

-- a run that answers refuted, as a list of one call
run-refutes : (text records : List ℕ) (φ : Formula) (s k : ℕ) → load text ≡ accepted φ → (run Limits.tables (model_of φ) records).verdict ≡ refuted s k → Refuted φ
unfolding answers answer
run-refutes text records φ s k h e = refutation Limits.tables text φ h (run_call records ∷ []) s k (Memᴰ.head (ap ran (sym e)))

printed-refutes : (text records : List ℕ) (o : Loaded) → load text ≡ o → SaysRefuted (printed o records) → (φ : Formula) × (load text ≡ accepted φ) × Refuted φ
unfolding printed
printed-refutes text records (accepted φ) h q =
    let (s, k, e) = verdict-is (run Limits.tables (model_of φ) records).verdict q in
    (φ, h, run-refutes text records φ s k h e)
printed-refutes text records (refused l n) h q = absurd (formula-not l n q)

line-refutes-if : (t : Tables) (text records : List ℕ) (b : Bool) → long t ≡ b → SaysRefuted (judged_line t text records)
    → (φ : Formula) × (load text ≡ accepted φ) × Refuted φ
unfolding judged_line program
line-refutes-if t text records true h q = printed-refutes text records (load text) refl (rw h at q)
line-refutes-if t text records false h q = absurd (formula-not 0 1 (rw h at q))

pub line-refutes : LineRefutes
line-refutes t text records q = line-refutes-if t text records (long t) refl q
