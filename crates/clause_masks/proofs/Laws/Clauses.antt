-- Families left by one setting after the other and one clause after the other (family_bits' specs/Left.antt: `Narrowed`).
use mathlib.Core.Path.{◌≡◌, refl, sym, ◌∙◌, ap}
use mathlib.Core.Bool.{Bool, ◌&&◌}
use mathlib.Core.List.Memᴰ
use mathlib.Core.List.{List}
use Prim.Native.Nat.{ℕ, zero, suc, ◌+◌, ◌*◌, ◌^◌, ◌≤◌, ◌<◌}
use native.Mathlib.Numerals.{add-one}
use lib.IntN.{ℤ}
use lib.ListN.{length, get_or, drop, drop_of_length-le}
use Rattle.dqbf.specs.Literal.{Clause}
use Rattle.dqbf.specs.Model.{Model, universal_count}
use Rattle.tables.specs.Tables.{stretch, cut}
use Rattle.deciding.specs.Deciding.{clause_at, all_below, always_true, all_true}
use Rattle.tables.proofs.Laws.FormulaEntries.{cut-next}
use Rattle.family_bits.specs.Left.{met, word_bits, is_left, Narrowed}
use Rattle.family_bits.proofs.Laws.Left.{and_one, and_assoc, narrowed-all, narrowed-same, narrowed-next}
use Rattle.std.specs.Prelude.{Some, None}
use Rattle.clause_masks.specs.declared.Masks.{Masks}
use Rattle.clause_masks.specs.Masking.{Over, OverAll, masks_met, MasksOf}

-- ---- settings

below_more : (n : ℕ) (P : ℕ → Bool) → all_below (suc n) P ≡ (all_below n P && P n)
unfolding all_below
below_more zero P = and_one (P 0)
below_more (suc n) P = ap (P 0 &&◌) (below_more n (λ i. P (suc i))) ∙ sym (and_assoc (P 0) (all_below n (λ i. P (suc i))) (P (suc n)))

module _ (m : Model) (C : Clause) where
  -- true at the settings below w
  abbrev pub true_below : ℕ → ℕ → Bool
  true_below w f = all_below w (λ v. clause_at m f v C)

  pub below-start : (a : List ℕ) → Narrowed a a (true_below 0)
  unfolding all_below
  below-start a = narrowed-all a (true_below 0) (λ f. refl)

  more : (w f : ℕ) → true_below (w + 1) f ≡ (true_below w f && clause_at m f w C)
  more w f = ap (λ (k : ℕ). true_below k f) (add-one w) ∙ below_more w (λ v. clause_at m f v C)

  module _ (w : ℕ) {a b : List ℕ} (n : Narrowed a b (true_below w)) where
    pub below-always : MasksOf m w C None → Narrowed a b (true_below (w + 1))
    unfolding masks_met
    below-always o = narrowed-same (true_below (w + 1)) n (λ f. more w f ∙ ap (true_below w f &&◌) (o.same f) ∙ and_one (true_below w f))

    pub below-met : (r : Masks) → MasksOf m w C (Some r) → {c : List ℕ} → Narrowed b c (met r.ones r.zeros) → Narrowed a c (true_below (w + 1))
    unfolding masks_met
    below-met r o k = narrowed-next (true_below (w + 1)) n k (λ f. more w f ∙ ap (true_below w f &&◌) (o.same f))

  pub below-done : {a b : List ℕ} (w u : ℕ) → Narrowed a b (true_below w) → w ≡ 2 ^ u → u ≡ universal_count m → Narrowed a b (λ f. always_true m f C)
  unfolding always_true
  below-done w u n e q = narrowed-same (λ f. always_true m f C) n (λ f. ap (λ (k : ℕ). true_below k f) (ap (2 ^◌) (sym q) ∙ sym e))

-- ---- clauses between their ends

module _ (literals : List ℤ) (ends : List ℕ) (from i : ℕ) where
  abbrev end : ℕ
  end = get_or ends i 0

  module _ (m : Model) where
    pub over_first : i < length ends → OverAll m (cut from (drop i ends) literals) → Over m (stretch from end literals)
    over_first h o = o (stretch from end literals) (rw (cut-next literals ends from i h) (Memᴰ.head refl))

    pub over-rest : i < length ends → OverAll m (cut from (drop i ends) literals) → OverAll m (cut end (drop (i + 1) ends) literals)
    over-rest h o C q = o C (rw (cut-next literals ends from i h) (Memᴰ.tail q))

  -- what was kept of all clauses is what was kept so far, of those to come
  pub record Remains (m : Model) (Cs : List Clause) (a b : List ℕ) : Type 0 where
    pub words : length b ≡ length a
    pub kept : (f : ℕ) → f < word_bits * length a → (is_left a f && all_true m f Cs) ≡ (is_left b f && all_true m f (cut from (drop i ends) literals))

module _ (m : Model) (literals : List ℤ) (ends : List ℕ) (Cs : List Clause) (a : List ℕ) where
  pub remains-start : Cs ≡ cut 0 ends literals → Remains literals ends 0 0 m Cs a a
  remains-start e = record { words = refl; kept = λ f h. ap (λ (Ds : List Clause). is_left a f && all_true m f Ds) e }

  pub remains-next : (from i : ℕ) (b c : List ℕ) → i < length ends → Remains literals ends from i m Cs a b
      → Narrowed b c (λ f. always_true m f (stretch from (get_or ends i 0) literals)) → Remains literals ends (get_or ends i 0) (i + 1) m Cs a c
  unfolding all_true
  remains-next from i b c h r n = record {
    words = n.words ∙ r.words;
    kept = λ f l.
        let rest = all_true m f (cut (get_or ends i 0) (drop (i + 1) ends) literals) in
        let here = always_true m f (stretch from (get_or ends i 0) literals) in
        r.kept f l ∙ ap (λ (Ds : List Clause). is_left b f && all_true m f Ds) (cut-next literals ends from i h)
        ∙ sym (and_assoc (is_left b f) here rest) ∙ ap (◌&& rest) (sym (n.kept f (rw r.words l)));
  }

  pub remains-done : (from i : ℕ) (b : List ℕ) → length ends ≤ i → Remains literals ends from i m Cs a b → Narrowed a b (λ f. all_true m f Cs)
  unfolding all_true cut
  remains-done from i b h r = record {
    words = r.words;
    kept = λ f l. sym (r.kept f l ∙ ap (λ (es : List ℕ). is_left b f && all_true m f (cut from es literals)) (drop_of_length-le ends {i = i} h) ∙ and_one (is_left b f));
  }
