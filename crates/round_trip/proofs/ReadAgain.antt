-- The claims of specs/Statements.antt: the text that was written is the spelling of the formula part, which reads back (dqbf's specs/Statements/ReadsBack.antt).
use mathlib.Core.Path.{◌≡◌, refl, sym, ◌∙◌, ap}
use mathlib.Core.Bool.{true}
use mathlib.Core.List.{List}
use Prim.Native.Nat.{ℕ, ◌≤◌}
use native.Mathlib.Omega.{arith}
use lib.ListN.{length, take, drop}
use lib.Seq.{take_at}
use Rattle.dqbf.specs.Limits.{text_limit, tables}
use Rattle.dqbf.specs.Refusal.{refusal}
use Rattle.dqbf.specs.Formula.{Formula}
use Rattle.dqbf.specs.Reading.{load, accepted}
use Rattle.dqbf.specs.Model.{Model, model_by, model_of}
use Rattle.dqbf.specs.Valid.{Valid}
use Rattle.dqbf.proofs.LoadValid.{load-valid}
use Rattle.tables.specs.declared.State.{State}
use Rattle.tables.specs.Tables.{Tables, model_in}
use Rattle.tables.specs.Spread.{spread, state_of}
use Rattle.tables.specs.WellFormed.{long, well_formed}
use Rattle.tables.proofs.Laws.Spread.{valid-held, model-back, spread-again, long-spread}
use Rattle.dqdimacs.specs.Loading.{load_answer, loaded_model, loaded_on, load_of}
use Rattle.dqdimacs.specs.Loading.{Accepted}
use Rattle.dqdimacs.proofs.LoadFormed.{accepted-exactly}
use Rattle.dqbf.specs.Spelled.{formula_part, spelled, formula_of}
use Rattle.dqbf.proofs.ReadsBack.{loads-back}
use Rattle.dqbf.proofs.Exact.{exact}
use Rattle.formula_text.specs.Writing.{TextAnswer, text_length, no_text, in_front}
use Rattle.formula_text.proofs.Laws.Lengths.{spelled-short}
use Rattle.formula_text.proofs.Laws.Written.{written-by}
use Rattle.round_trip.specs.Statements.{WroteText, text_of, LongEnough, loaded, ReadAgain, LoadedAgain, SameText}

-- ---- what was written

pub record Told (t : Tables) (s : State) (n : ℕ) (text : List ℕ) : Type 0 where
  pub lent : long t ≡ true
  pub formed : well_formed t s ≡ true
  pub count : n ≡ length (spelled (model_in t s))
  pub is : text ≡ spelled (model_in t s)

told : (t : Tables) (s : State) (out : List ℕ) (n : ℕ) → WroteText t s out n → Told t s n (text_of t s out n)
unfolding in_front
told t s out n =
    written-by t s out (λ x. x.answer ≡ text_length n → Told t s n (take n x.output)) (λ k h short e. absurd (let z : ◌≡◌ {A = ℕ} 0 1 = cc in omega arith))
    (λ lent formed fits e.
    let T = spelled (model_in t s) in
    let is : n ≡ length T = cc in
    record { lent = lent; formed = formed; count = is; is = take_at T (drop (length T) out) n (sym is) })

-- ---- no text is longer

number_in : TextAnswer → ℕ
number_in (text_length n) = 0
number_in (no_text r) = r.number

pub long-enough : LongEnough
unfolding number_in
long-enough t s out room =
    written-by t s out (λ x. x.answer ≡ no_text (refusal 30) → ⊥)
    (λ n h short e. let w = short (ap number_in e) in omega (arith, room, w.2, spelled-short (model_in t s) (valid-held t s w.0 w.1))) (λ lent formed fits e. omega (arith, ap number_in e))

-- ---- read again

pub on-accepted : (t : Tables) (text : List ℕ) (φ : Formula) → long t ≡ true → load text ≡ accepted φ → load_of t text ≡ loaded (model_of φ) t
unfolding load_of loaded_on loaded_model load_answer
on-accepted t text φ h e = rw (h, e)

pub read_again : ReadAgain
read_again t s out n h short t' lent =
    let w = told t s out n h in
    let r = loads-back (model_in t s) (valid-held t s w.lent w.formed) (omega (arith, w.count)) in
    ap (load_of t') w.is ∙ on-accepted t' (spelled (model_in t s)) (formula_of (formula_part (model_in t s))) lent r.0 ∙ ap (λ (m : Model). loaded m t') r.1

pub part-formula : (φ : Formula) → formula_part (model_of φ) ≡ model_of φ
unfolding formula_part model_by
part-formula φ = refl

-- a model without steps, over the tables that hold it
again : (t : Tables) (m : Model) → Valid tables m → formula_part m ≡ m → long t ≡ true → (out : List ℕ) (n : ℕ) → WroteText (spread m t) (state_of m) out n → n ≤ text_limit
    → load_of (spread m t) (text_of (spread m t) (state_of m) out n) ≡ loaded m t
again t m v e lent out n h short =
    read_again (spread m t) (state_of m) out n h short (spread m t) (long-spread m v t lent)
    ∙ ap (λ (p : Model). loaded p (spread m t)) (ap formula_part (model-back m v t) ∙ e)
    ∙ ap (λ (u : Tables). record { tables = u; state = state_of m; answer = Accepted }) (spread-again m v t m)

pub loaded-again : LoadedAgain
loaded-again t text out n a h short =
    let q = (accepted-exactly t text).0 a in
    let φ = q.1.0 in
    let e = on-accepted t text φ q.0 q.1.1 in
    rw e (again t (model_of φ) (load-valid text φ q.1.1) (part-formula φ) q.0 out n (rw e at h) short)

pub same_text : SameText
same_text t t' s s' out out' n n' h h' =
    let w = told t s out n h in
    let w' = told t' s' out' n' h' in
    let e = exact (model_in t s) (model_in t' s') (valid-held t s w.lent w.formed) (valid-held t' s' w'.lent w'.formed) in
    ((λ p. e.0 (sym w.is ∙ p ∙ w'.is)), (λ q. w.is ∙ e.1 q ∙ sym w'.is))
