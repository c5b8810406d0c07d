-- The clauses between their ends, a line for each (specs/Working.antt: `Rises`; tables' specs/Tables.antt: `cut`).
use mathlib.Core.Path.{◌≡◌, refl, ◌∙◌, ap}
use mathlib.Core.Bool.{true}
use mathlib.Core.List.{List, [], ◌∷◌, ◌++◌, map}
use Prim.Native.Nat.{ℕ, zero, suc, ◌+◌, ◌≤◌, ◌<◌}
use native.Mathlib.Numerals.{add-one}
use native.Mathlib.Omega.{arith}
use lib.Dec.{leb}
use lib.IntN.{ℤ}
use lib.ListN.{length, take, drop, get_or, drop_of_length-le}
use lib.Seq.{drop-cons}
use Rattle.dqbf.specs.Reading.{clause_line}
use Rattle.dqbf.proofs.Laws.Tests.{and_left, and_right, eqb_is, leb_yes}
use Rattle.tables.specs.Tables.{stretch, cut}
use Rattle.tables.specs.WellFormed.{ends_rise}
use Rattle.dqbf.specs.Spelling.{line_text, text}
use Rattle.words.specs.Laid.{Fits, Wrote}
use Rattle.formula_lines.specs.Working.{Rises}
use Rattle.words.proofs.Laws.Laid.{Writing, writing-fits, writing-next, writing-done}

-- ---- ends that never fall

pub rises-up : (from : ℕ) (ends : List ℕ) (n : ℕ) → Rises from ends n → from ≤ n
unfolding Rises
rises-up from [] n r = r
rises-up from (end ∷ ends) n r = let k = rises-up end ends n r.1 in omega (arith, r.0)

pub rises-more : (from : ℕ) (ends : List ℕ) (n m : ℕ) → n ≤ m → Rises from ends n → Rises from ends m
unfolding Rises
rises-more from [] n m h r = omega arith
rises-more from (end ∷ ends) n m h r = (r.0, rises-more end ends n m h r.1)

pub rises-take : (k from : ℕ) (ends : List ℕ) (n : ℕ) → Rises from ends n → Rises from (take k ends) n
unfolding Rises
rises-take zero from ends n r = rises-up from ends n r
rises-take (suc k) from [] n r = r
rises-take (suc k) from (end ∷ ends) n r = (r.0, rises-take k end ends n r.1)

pub rises-from : (from : ℕ) (ends : List ℕ) (n : ℕ) → ends_rise from ends n ≡ true → Rises from ends n
unfolding Rises ends_rise
rises-from from [] n h = let e = eqb_is from n h in omega arith
rises-from from (end ∷ ends) n h = (leb_yes from end (and_left (leb from end) (ends_rise end ends n) h), rises-from end ends n (and_right (leb from end) (ends_rise end ends n) h))

-- ---- a loop over the ends: what is left starts where the last clause ended

abbrev pub clause_texts : ℕ → List ℕ → List ℤ → List ℕ
clause_texts from ends literals = text (map clause_line (cut from ends literals))

next-text : (from end : ℕ) (ends : List ℕ) (literals : List ℤ) → clause_texts from (end ∷ ends) literals ≡ line_text (clause_line (stretch from end literals)) ++ clause_texts end ends literals
unfolding text cut
next-text from end ends literals = refl

module _ (literals : List ℤ) (ends : List ℕ) (from i : ℕ) where
  abbrev end : ℕ
  end = get_or ends i 0

  split : i < length ends → drop i ends ≡ end ∷ drop (i + 1) ends
  split h = rw (add-one i) (drop-cons ends i 0 h)

  pub end-rises : i < length ends → Rises from (drop i ends) (length literals) → (from ≤ end) × Rises end (drop (i + 1) ends) (length literals)
  unfolding Rises
  end-rises h r = rw (split h) at r

  pub end-between : i < length ends → Rises from (drop i ends) (length literals) → (from ≤ end) × (end ≤ length literals)
  end-between h r = let k = end-rises h r in (k.0, rises-up end (drop (i + 1) ends) (length literals) k.1)

  texts-behind : i < length ends → clause_texts from (drop i ends) literals ≡ line_text (clause_line (stretch from end literals)) ++ clause_texts end (drop (i + 1) ends) literals
  texts-behind h = ap (λ (es : List ℕ). clause_texts from es literals) (split h) ∙ next-text from end (drop (i + 1) ends) literals

  module _ {T : List ℕ} {at₀ : ℕ} {out₀ : List ℕ} {at : ℕ} {out : List ℕ} (w : Writing T at₀ out₀ (clause_texts from (drop i ends) literals) at out) where
    pub clauses-fit : i < length ends → Fits at₀ T → Fits at (line_text (clause_line (stretch from end literals)))
    clauses-fit h f = writing-fits (line_text (clause_line (stretch from end literals))) (clause_texts end (drop (i + 1) ends) literals) (rw (texts-behind h) at w) f

    pub clauses-next : i < length ends → {out' : List ℕ} {r : ℕ} → Wrote (line_text (clause_line (stretch from end literals))) at out out' r
        → Writing T at₀ out₀ (clause_texts end (drop (i + 1) ends) literals) r out'
    clauses-next h u = writing-next (line_text (clause_line (stretch from end literals))) (clause_texts end (drop (i + 1) ends) literals) (rw (texts-behind h) at w) u

    pub clauses-done : length ends ≤ i → Wrote T at₀ out₀ out at
    unfolding text cut
    clauses-done h = writing-done (rw (drop_of_length-le ends {i = i} h) at w)
