-- The claim of specs/Statements/Reloading.antt: behind the last load the calls are a list of specs/Statements/Refutation.antt.
use mathlib.Core.Path.{◌≡◌, refl, sym, ◌∙◌, ap}
use mathlib.Core.List.Memᴰ
use mathlib.Core.List.{List, [], ◌∷◌, ◌++◌}
use mathlib.Core.Option.{none, some}
use Prim.Native.Nat.{ℕ}
use Rattle.dqbf.specs.Literal.{◌∈◌}
use Rattle.dqbf.specs.Formula.{Formula}
use Rattle.dqbf.specs.Meaning.{Refuted}
use Rattle.dqbf.specs.Reading.{load, accepted}
use Rattle.dqbf.specs.Run.{refuted, Call, Answer, ran}
use Rattle.tables.specs.Tables.{Tables}
use Rattle.dqdimacs.specs.Loading.{LoadAnswer, load_of}
use Rattle.steps.specs.Statements.Refutation.{Lent, next, answer, answers}
use Rattle.calls.specs.Statements.Refutation.{loaded}
use Rattle.calls.specs.Statements.Reloading.{AnyCall, load_call, later_call, Standing, text_if, next_of, Told, all_told, Reloading}
use Rattle.calls.proofs.Refutation.{refutation}

-- what a list of calls leaves
pub after : Lent → List Call → Lent
after y [] = y
after y (c ∷ cs) = after (next y c) cs

after_one : (y : Lent) (cs : List Call) (c : Call) → after y (cs ++ (c ∷ [])) ≡ next (after y cs) c
unfolding after
after_one y [] c = refl
after_one y (d ∷ cs) c = after_one (next y d) cs c

answer-among : (y : Lent) (cs : List Call) (c : Call) → answer (after y cs) c ∈ answers y (cs ++ (c ∷ []))
unfolding after answers
answer-among y [] c = Memᴰ.head refl
answer-among y (d ∷ cs) c = Memᴰ.tail (answer-among (next y d) cs c)

-- the calls since the accepted load of a text
pub record Since (x : Lent) (text : List ℕ) : Type 0 where
  pub tables : Tables
  pub accepts : (load_of tables text).answer ≡ LoadAnswer.Accepted
  pub calls : List Call
  pub reached : x ≡ after (loaded tables text) calls

abbrev Founded : Standing → Type 0
Founded x = (text : List ℕ) → some text ≡ x.text → Since x.lent text

accepted-text : (a : LoadAnswer) (text text' : List ℕ) → some text' ≡ text_if a text → (a ≡ LoadAnswer.Accepted) × (text' ≡ text)
unfolding text_if
accepted-text LoadAnswer.Accepted text text' e = (refl, cc)
accepted-text (LoadAnswer.Refused line number) text text' e = cc

founded-next : (x : Standing) (c : AnyCall) → Founded x → Founded (next_of x c)
unfolding next_of after
founded-next x (load_call text) h text' e =
    let a = accepted-text (load_of x.lent.tables text).answer text text' e in
    rw a.1 (record { tables = x.lent.tables; accepts = a.0; calls = []; reached = refl })
founded-next x (later_call c) h text e =
    let s = h text e in
    record {
      tables = s.tables;
      accepts = s.accepts;
      calls = s.calls ++ (c ∷ []);
      reached = ap (λ (y : Lent). next y c) s.reached ∙ sym (after_one (loaded s.tables text) s.calls c);
    }

module _ (text : List ℕ) (steps clause : ℕ) where
  abbrev told : Answer
  told = ran (refuted steps clause)

  abbrev Said : Type 0
  Said = (φ : Formula) × (load text ≡ accepted φ) × Refuted φ

  since-said : (x : Lent) → Since x text → (c : Call) → told ≡ answer x c → Said
  since-said x s c e =
      let y = loaded s.tables text in
      let same : told ≡ answer (after y s.calls) c = e ∙ ap (λ (z : Lent). answer z c) s.reached in
      refutation s.tables text s.accepts (s.calls ++ (c ∷ [])) steps clause (rw same (answer-among y s.calls c))

  among : (x : Standing) → Founded x → (cs : List AnyCall) → ◌∈◌ {A = Told} (record { text = some text; answer = told }) (all_told x cs) → Said
  unfolding all_told
  among x h [] q = absurd (Memᴰ.not-nil q)
  among x h (load_call t ∷ cs) q = among (next_of x (load_call t)) (founded-next x (load_call t) h) cs q
  among x h (later_call c ∷ cs) (Memᴰ.head e) =
      since-said x.lent (h text (ap (λ (a : Told). a.text) e)) c (ap (λ (a : Told). a.answer) e)
  among x h (later_call c ∷ cs) (Memᴰ.tail q) = among (next_of x (later_call c)) (founded-next x (later_call c) h) cs q

pub reloading : Reloading
reloading x calls text steps clause q = among text steps clause (record { lent = x; text = none }) nothing calls q
  where
    nothing : Founded (record { lent = x; text = none })
    nothing text' e = cc
