-- `formed::is_well_formed` meets its contract.
use mathlib.Core.Bool.{not}
use mathlib.Core.Path.{ap, sym, ◌∙◌}
use Prim.Native.Nat.{◌*◌}
use native.Mathlib.Omega.{arith}
use lib.ListN.{length}
use lib.Seq.{length-take-le}
use Rattle.tables.proofs.Laws.Lent.{long-words, taken-sets}
use Rattle.tables.proofs.Laws.Formed.{Counts, long-is, counts-is, ends-in, kinds-in, sets-in, ill-counts, ill-clauses, ill-variables, rest-decides}
use Rattle.tables.proofs.formed.is_well_formed.Goals as goal

pub returns-then-not-counts_fit : goal.returns-then-not-counts_fit
returns-then-not-counts_fit c = sym (ill-counts _ _ (sym c.counts_fit.ensures ∙ c.if-not-counts_fit.true))

pub overflow_mul-words : goal.overflow_mul-words
overflow_mul-words c =
    let counted : Counts c.args.lent.now.state = (counts-is _ (sym c.counts_fit.ensures ∙ c.if-not-counts_fit.false)) in
    omega (arith, (counted).variables)

pub slice_bounds-clauses_fit-end : goal.slice_bounds-clauses_fit-end
slice_bounds-clauses_fit-end c =
    let counted : Counts c.args.lent.now.state = (counts-is _ (sym c.counts_fit.ensures ∙ c.if-not-counts_fit.false)) in
    sym (ends-in _ _ (long-is _ c.requires) (counted))

pub slice_bounds-clauses_fit-end-2 : goal.slice_bounds-clauses_fit-end-2
slice_bounds-clauses_fit-end-2 c =
    let counted : Counts c.args.lent.now.state = (counts-is _ (sym c.counts_fit.ensures ∙ c.if-not-counts_fit.false)) in
    sym (kinds-in _ _ (long-is _ c.requires) (counted))

pub clauses_fit-requires : goal.clauses_fit-requires
clauses_fit-requires c =
    let counted : Counts c.args.lent.now.state = (counts-is _ (sym c.counts_fit.ensures ∙ c.if-not-counts_fit.false)) in
    let k = counted in
    let l = long-is _ c.requires in
    (omega (arith, k.literals, l.literals), omega (arith, ends-in _ _ l k, k.clauses))

pub returns-then-not-clauses_fit : goal.returns-then-not-clauses_fit
returns-then-not-clauses_fit c = sym (ill-clauses _ _ (sym c.clauses_fit.ensures ∙ c.if-not-clauses_fit.true))

pub slice_bounds-variables_fit-end : goal.slice_bounds-variables_fit-end
slice_bounds-variables_fit-end c =
    let counted : Counts c.args.lent.now.state = (counts-is _ (sym c.counts_fit.ensures ∙ c.if-not-counts_fit.false)) in
    sym (kinds-in _ _ (long-is _ c.requires) (counted))

pub slice_bounds-variables_fit-end-2 : goal.slice_bounds-variables_fit-end-2
slice_bounds-variables_fit-end-2 c =
    let counted : Counts c.args.lent.now.state = (counts-is _ (sym c.counts_fit.ensures ∙ c.if-not-counts_fit.false)) in
    sym (length-take-le (4 * c.args.lent.now.state.variables.0) c.args.lent.now.sets.now (omega (arith, (counted).variables, long-words _ (long-is _ c.requires).sets)))

pub variables_fit-requires : goal.variables_fit-requires
variables_fit-requires c =
    let counted : Counts c.args.lent.now.state = (counts-is _ (sym c.counts_fit.ensures ∙ c.if-not-counts_fit.false)) in
    let k = counted in
    let l = long-is _ c.requires in
    (k.universals, ap length (taken-sets c.args.lent.now.sets.now c.args.lent.now.state.variables.0 (omega (arith, k.variables, long-words _ l.sets))) ∙ sets-in _ _ l k ∙ sym (kinds-in _ _ l k))

pub returns-then-not-variables_fit : goal.returns-then-not-variables_fit
returns-then-not-variables_fit c =
    let counted : Counts c.args.lent.now.state = (counts-is _ (sym c.counts_fit.ensures ∙ c.if-not-counts_fit.false)) in
    let taken = taken-sets c.args.lent.now.sets.now c.args.lent.now.state.variables.0 (omega (arith, (counted).variables, long-words _ (long-is _ c.requires).sets)) in
    sym (ill-variables _ _ (sym (rw taken at c.variables_fit.ensures) ∙ c.if-not-variables_fit.true))

pub is_rest_zero-requires : goal.is_rest_zero-requires
is_rest_zero-requires c =
    (c.requires, sym c.counts_fit.ensures ∙ c.if-not-counts_fit.false)

pub returns : goal.returns
returns c =
    let counted : Counts c.args.lent.now.state = (counts-is _ (sym c.counts_fit.ensures ∙ c.if-not-counts_fit.false)) in
    let taken = taken-sets c.args.lent.now.sets.now c.args.lent.now.state.variables.0 (omega (arith, (counted).variables, long-words _ (long-is _ c.requires).sets)) in
    rest-decides _ _ c.counts_fit.ensures (ap not c.if-not-counts_fit.false) c.clauses_fit.ensures (ap not c.if-not-clauses_fit.false) (rw taken at c.variables_fit.ensures) (ap not c.if-not-variables_fit.false) c.is_rest_zero.ensures
