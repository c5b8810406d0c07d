use mathlib.Core.Path.{sym}
use native.Mathlib.Omega.{arith}
use lib.Seq.{length-take-le}
use Rattle.texts.proofs.Laws.OpeningLines.{malformed}
use Rattle.texts.proofs.Laws.LineForms.{form-comment, form-header, form-malformed, form-universals, inside-universals, positive-universals, form-existentials, inside-existentials, positive-existentials, form-dependent, inside-dependent, some-dependent, positive-dependent, form-clause, known-comment, known-header, known-e, known-d, known-clause}
use Rattle.texts.proofs.lines.read_line.Goals as goal

pub slice_bounds-universal_line-end : goal.slice_bounds-universal_line-end
slice_bounds-universal_line-end c = inside-universals c.args.line.now _ _ c.in-Some.ensures c.in-Universals.is

pub slice_bounds-universal_line-end-in-Universals : goal.slice_bounds-universal_line-end-in-Universals
slice_bounds-universal_line-end-in-Universals c = sym (length-take-le _ c.form.new.numbers (inside-universals c.args.line.now _ _ c.in-Some.ensures c.in-Universals.is))

pub universal_line-requires : goal.universal_line-requires
universal_line-requires c = (positive-universals c.args.line.now _ _ c.in-Some.ensures c.in-Universals.is, omega (arith, c.requires.1.bound, c.requires.5), omega (arith, c.requires.1.bound, c.requires.6), c.requires.1.universals, c.requires.2)

pub slice_bounds-existential_line-end : goal.slice_bounds-existential_line-end
slice_bounds-existential_line-end c = inside-existentials c.args.line.now _ _ c.in-Some.ensures c.in-Existentials.is

pub slice_bounds-existential_line-end-in-Existentials : goal.slice_bounds-existential_line-end-in-Existentials
slice_bounds-existential_line-end-in-Existentials c = sym (length-take-le _ c.form.new.numbers (inside-existentials c.args.line.now _ _ c.in-Some.ensures c.in-Existentials.is))

pub existential_line-requires : goal.existential_line-requires
existential_line-requires c = (positive-existentials c.args.line.now _ _ c.in-Some.ensures c.in-Existentials.is, omega (arith, c.requires.1.bound), omega (arith, c.requires.1.bound), c.requires.1.universals)

pub slice_bounds-dependent_line-end : goal.slice_bounds-dependent_line-end
slice_bounds-dependent_line-end c = inside-dependent c.args.line.now _ _ c.in-Some.ensures c.in-Dependent.is

pub slice_bounds-dependent_line-end-in-Dependent : goal.slice_bounds-dependent_line-end-in-Dependent
slice_bounds-dependent_line-end-in-Dependent c = sym (length-take-le _ c.form.new.numbers (inside-dependent c.args.line.now _ _ c.in-Some.ensures c.in-Dependent.is))

pub dependent_line-requires : goal.dependent_line-requires
dependent_line-requires c = (some-dependent c.args.line.now _ _ c.in-Some.ensures c.in-Dependent.is, positive-dependent c.args.line.now _ _ c.in-Some.ensures c.in-Dependent.is, omega (arith, c.requires.1.bound), omega (arith, c.requires.1.bound))

pub slice_bounds-clause_line-end : goal.slice_bounds-clause_line-end
slice_bounds-clause_line-end c = (form-clause c.args.line.now _ _ c.in-Some.ensures c.in-Clause.is).2.inside

pub slice_bounds-clause_line-end-in-Clause : goal.slice_bounds-clause_line-end-in-Clause
slice_bounds-clause_line-end-in-Clause c = sym (length-take-le _ c.form.new.numbers (form-clause c.args.line.now _ _ c.in-Some.ensures c.in-Clause.is).2.inside)

pub returns-in-Comment-clause-read : goal.returns-in-Comment-clause-read
returns-in-Comment-clause-read c = λ t r h k. rw (form-comment c.args.line.now _ c.in-Some.ensures c.in-Comment.is) (c.comment_line.ensures t r _ _ h, λ z. known-comment r _ k)

pub returns-in-Header-clause-read : goal.returns-in-Header-clause-read
returns-in-Header-clause-read c = λ t r h k. rw (form-header c.args.line.now _ c.in-Some.ensures _ _ c.in-Header.is) (c.header_line.ensures.read t r h, λ z. known-header r _ k _ _)

pub returns-in-Universals-clause-read : goal.returns-in-Universals-clause-read
returns-in-Universals-clause-read c = λ t r h k. rw (form-universals c.args.line.now _ _ c.in-Some.ensures c.in-Universals.is) (c.universal_line.ensures.read t r h k)

pub returns-in-Existentials-clause-read : goal.returns-in-Existentials-clause-read
returns-in-Existentials-clause-read c = λ t r h k. rw (form-existentials c.args.line.now _ _ c.in-Some.ensures c.in-Existentials.is) (c.existential_line.ensures.read t r h, λ z. known-e r _ k _)

pub returns-in-Dependent-clause-read : goal.returns-in-Dependent-clause-read
returns-in-Dependent-clause-read c = λ t r h k. rw (form-dependent c.args.line.now _ _ c.in-Some.ensures c.in-Dependent.is) (c.dependent_line.ensures.read t r h, λ z. known-d r _ k _ _)

pub returns-in-Clause-clause-read : goal.returns-in-Clause-clause-read
returns-in-Clause-clause-read c = let w = form-clause c.args.line.now _ _ c.in-Some.ensures c.in-Clause.is in λ t r h k. rw w.1 (c.clause_line.ensures.read t r w.0 h w.2.front, λ z. known-clause r _ k _)

pub returns-in_default-clause-read : goal.returns-in_default-clause-read
returns-in_default-clause-read c = λ t r h k. rw (form-malformed c.args.line.now _ c.in_default.ensures) (malformed h, λ z. cc)
