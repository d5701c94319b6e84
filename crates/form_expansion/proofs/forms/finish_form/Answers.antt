-- The form is finished, and what is local to it is forgotten.
use Rattle.forgotten_locals.specs.Outside.{outside}
use Rattle.root_laws.proofs.RootStates.{forgets}
use Rattle.std.proofs.Common.{subst}
use Rattle.scheme_model.specs.ScopedExpansion.{ScopedState}
use Rattle.unit_scopes.specs.Editions.{EditionsTell}
use Rattle.unit_scopes.specs.Stepped.{turned}
use Rattle.noted_steps.specs.Noting.{state_of}
use Rattle.expander.specs.UnitNotes.{part_begun}
use Rattle.form_expansion.specs.Forms.{left_noting}
use Rattle.form_expansion.proofs.BenchLaws.{forgets_by, forgotten_same, stays_forgotten, stays_on}
use Rattle.form_expansion.proofs.FormsFinish.{ends_outside, noted_outside}
use Rattle.form_expansion.proofs.forms.finish_form.Goals as goal

pub forget_locals-requires : goal.forget_locals-requires
forget_locals-requires g c = c.in_ok-finished.ensures.stays.first c.requires.stands.first

pub returns-clause-same : goal.returns-clause-same
returns-clause-same g c = λ un.
    let b = c.finish.new.bench in let e = c.in_ok-finished.ensures.same un in
    (forgotten_same c.args.bench.now b c.forget_locals.new.self e.0 (forgets_by b c.forget_locals.new.self c.forget_locals.ensures.after c.forget_locals.ensures.all_own c.forget_locals.ensures.rests), e.1, e.2)

pub returns-clause-ends : goal.returns-clause-ends
returns-clause-ends g c = λ known ls s notes r knows stands own h.
    let b = c.finish.new.bench in
    ends_outside c.args.bench.now b c.forget_locals.new.self (forgets_by b c.forget_locals.new.self c.forget_locals.ensures.after c.forget_locals.ensures.all_own c.forget_locals.ensures.rests) known c.args.unit c.args.number r s stands.macros
    c.args.total.now c.finish.new.total c.args.steps.now c.finish.new.steps c.in_ok-finished.finished.1 c.in_ok-finished.finished.0 (c.in_ok-finished.ensures.finishes known ls s notes r knows stands own h)

pub returns-clause-stays : goal.returns-clause-stays
returns-clause-stays g c =
    let b = c.finish.new.bench in
    let f = forgets_by b c.forget_locals.new.self c.forget_locals.ensures.after c.forget_locals.ensures.all_own c.forget_locals.ensures.rests in
    stays_on c.args.bench.now b (record b { scope = c.forget_locals.new.self }) c.in_ok-finished.ensures.stays (stays_forgotten b c.forget_locals.new.self c.in_ok-finished.ensures.stays.opened f)

pub returns-clause-noted : goal.returns-clause-noted
returns-clause-noted g c = λ known ls s notes l editions ms knows stands own h can few.
    let b = c.finish.new.bench in
    let n = left_noting known l (part_begun (s.uses c.args.number) notes editions ms (turned c.args.number s)) in
    let x = c.in_ok-finished.ensures.noted known ls s notes l editions ms knows stands own h can few in
    noted_outside b.work b.scope.macros c.forget_locals.new.self.macros c.in_ok-finished.finished.0.trace n x (c.forget_locals.ensures.editions b.work.symbols (state_of n) (outside (state_of n)) n.since.editions (forgets (state_of n)) x.editions)

pub returns-clause-editions : goal.returns-clause-editions
returns-clause-editions g c = λ ls s notes r editions ms stands own h may.
    let b = c.finish.new.bench in
    let x = c.in_ok-finished.ensures.editions ls s notes r editions ms stands own h may in
    subst (λ (t : ScopedState). EditionsTell b.work.symbols c.forget_locals.new.self.macros t editions) stands.outside (c.forget_locals.ensures.editions b.work.symbols s (outside s) editions (forgets s) x)
