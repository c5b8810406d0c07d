-- `Lent::is_rest_zero` meets its contract.
use mathlib.Core.List.{[], ◌∷◌}
use mathlib.Core.Path.{sym, ◌∙◌}
use native.Mathlib.Omega.{arith}
use Rattle.tables.specs.WellFormed.{rest_zero}
use Rattle.tables.proofs.Laws.Formed.{long-is, counts-is}
use Rattle.tables.proofs.Laws.Lent.{long-words, zeros-told}
use Rattle.tables.proofs.Laws.Tests.{every-fails, every-last}
use Rattle.tables.proofs.Laws.Zeros.{zero-literals, zero-entries}
use Rattle.tables.proofs.Lent.is_rest_zero.Goals as goal

pub slice_bounds-all_are-count : goal.slice_bounds-all_are-count
slice_bounds-all_are-count c = (counts-is _ c.requires.1).literals

pub slice_bounds-all_are-start : goal.slice_bounds-all_are-start
slice_bounds-all_are-start c = (counts-is _ c.requires.1).literals

pub slice_bounds-all_are-end : goal.slice_bounds-all_are-end
slice_bounds-all_are-end c = (long-is _ c.requires.0).literals

pub returns-then-not-all_are : goal.returns-then-not-all_are
unfolding rest_zero
returns-then-not-all_are c = sym (every-fails _ 0 (sym (zero-literals _) ∙ sym c.all_are.ensures ∙ c.if-not-all_are.true))

pub slice_bounds-all_are-count-2 : goal.slice_bounds-all_are-count-2
slice_bounds-all_are-count-2 c = (counts-is _ c.requires.1).clauses

pub slice_bounds-all_are-start-2 : goal.slice_bounds-all_are-start-2
slice_bounds-all_are-start-2 c = (counts-is _ c.requires.1).clauses

pub slice_bounds-all_are-end-2 : goal.slice_bounds-all_are-end-2
slice_bounds-all_are-end-2 c = (long-is _ c.requires.0).ends

pub returns-then-not-all_are-2 : goal.returns-then-not-all_are-2
unfolding rest_zero
returns-then-not-all_are-2 c = sym (every-fails _ 1 (sym (zero-entries _) ∙ sym c.all_are-2.ensures ∙ c.if-not-all_are-2.true))

pub overflow_mul-words : goal.overflow_mul-words
overflow_mul-words c =
    omega (arith, (counts-is _ c.requires.1).variables)

pub offset_bounds-self-words : goal.offset_bounds-self-words
offset_bounds-self-words c =
    omega (arith, (counts-is _ c.requires.1).variables)

pub slice_bounds-all_are-count-3 : goal.slice_bounds-all_are-count-3
slice_bounds-all_are-count-3 c =
    omega (arith, (counts-is _ c.requires.1).variables)

pub slice_bounds-all_are-start-3 : goal.slice_bounds-all_are-start-3
slice_bounds-all_are-start-3 c =
    omega (arith, (counts-is _ c.requires.1).variables)

pub slice_bounds-all_are-end-3 : goal.slice_bounds-all_are-end-3
slice_bounds-all_are-end-3 c =
    long-words _ (long-is _ c.requires.0).sets

pub returns-then-not-all_are-3 : goal.returns-then-not-all_are-3
unfolding rest_zero
returns-then-not-all_are-3 c =
    let told = zeros-told c.args.self.now.sets.now c.args.self.now.state.variables.0 (counts-is _ c.requires.1).variables (long-words _ (long-is _ c.requires.0).sets) in
    sym (every-fails _ 2 (sym told ∙ sym (zero-entries _) ∙ sym c.all_are-3.ensures ∙ c.if-not-all_are-3.true))

pub slice_bounds-all_are-count-4 : goal.slice_bounds-all_are-count-4
slice_bounds-all_are-count-4 c =
    (counts-is _ c.requires.1).variables

pub slice_bounds-all_are-start-4 : goal.slice_bounds-all_are-start-4
slice_bounds-all_are-start-4 c =
    (counts-is _ c.requires.1).variables

pub slice_bounds-all_are-end-4 : goal.slice_bounds-all_are-end-4
slice_bounds-all_are-end-4 c =
    (long-is _ c.requires.0).kinds

pub returns : goal.returns
unfolding rest_zero
returns c =
    let rest = sym (zero-literals _) ∙ sym c.all_are.ensures ∙ c.if-not-all_are.false in
    let told = zeros-told c.args.self.now.sets.now c.args.self.now.state.variables.0 (counts-is _ c.requires.1).variables (long-words _ (long-is _ c.requires.0).sets) in
    c.all_are-4.ensures ∙ zero-entries _ ∙ every-last (_ ∷ _ ∷ _ ∷ []) _ (rest, (sym (zero-entries _) ∙ sym c.all_are-2.ensures ∙ c.if-not-all_are-2.false, (sym told ∙ sym (zero-entries _) ∙ sym c.all_are-3.ensures ∙ c.if-not-all_are-3.false, tt)))
