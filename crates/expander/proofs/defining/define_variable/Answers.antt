use Rattle.std.proofs.Common.{◌≡◌, ◌+◌, ◌≤◌, [], ◌∷◌, Bool, true, false, None, Ok, Err, refl, sym, ap, ◌∙◌, subst, arith}
use Rattle.scheme_model.specs.Ident.{Ident as Identifier}
use Rattle.scheme_model.specs.Order.{Form, Going, Item, Pass, Renamed, Value, Assigned, Assigns, binder_at, told, put, run_variable}
use Rattle.scheme_model.specs.Substitution.{unchanged}
use Rattle.scheme_model.specs.ScopedExpansion.{FramedIdent, body_around}
use Rattle.expander.specs.Passed.{GoesOn}
use Rattle.form_parts.specs.declared.items.Kept.TheVariants as kept
use Rattle.unit_scopes.specs.State.{most_locals}
use Rattle.unit_scopes.specs.declared.scope.UnitScope.{UnitScope}
use Rattle.expander.proofs.DefinitionSteps.{goes_handed, goes_failing, aside_goes, aside_now, binder_here}
use Rattle.expander.proofs.LooseLaws.{place_on, go_on}
use Rattle.expander.proofs.NotedPass.{goes_noted, pending_noted}
use Rattle.expander.proofs.defining.define_variable.Goals as goal
use Rattle.noted_steps.specs.Noting.{Noting, state_of, assigned, noting}
use Rattle.noted_steps.proofs.NoteLaws.{plainly}

abbrev Step : Type 0
Step = Going Identifier FramedIdent Noting → Pass Identifier FramedIdent × Noting

pub returns-then-is_assigned : goal.returns-then-is_assigned
returns-then-is_assigned c = λ known region ls s fs n t p given knows stands placed is on pending notes one.
    let work = c.args.work.now in
    let u = c.args.units.now in
    let u1 = c.is_assigned.new.units in
    let same = c.is_assigned.ensures.rest in
    let form = c.args.form in
    let m : Form Identifier = record { here = form.here; tree = t } in
    let s1 = (noting known).ask (Assigns fs n.name ∷ []) s in
    let stands1 = c.is_assigned.ensures.noted known work ls s fs n.name stands placed is.0 in
    let placed1 = place_on work u u1 same ls s s1 c.args.spot fs refl placed in
    let pending1 = pending_noted work region u u1 same c.args.pending.now p pending in
    let new = (record c.args.pending.now { aside = c.push.new.self }) in
    let step : Bool → Step = λ b go. run_variable (noting known) go form.here fs n t b p s1 in
    let so = sym (c.is_assigned.ensures.assigned known work ls s fs n.name stands placed is.0) ∙ c.if-is_assigned.true in
    subst (λ (f : Step). GoesOn work work region u u1 ls c.args.spot fs p.todo given new c.args.asked.now (Ok tt) f) (sym (ap step so))
    (goes_noted work region u u1 same ls c.args.spot fs s s1 stands stands1 p.todo given new c.args.asked.now u1 (Ok tt) (step true)
    (aside_now work region u1 u1 ls c.args.spot fs s1 p c.args.pending.now new c.args.asked.now given (Assigned n m) (kept.Assigned c.args.name form) pending1 notes
    (c.args.name, form, refl, is, (refl, on)) (refl, refl) c.in_ok-push.ensures.items stands1 placed1 refl one))

pub define-requires-clause-can : goal.define-requires-clause-can
define-requires-clause-can c = go_on c.args.work.now c.args.units.now c.is_assigned.new.units c.is_assigned.ensures.rest c.args.spot c.args.asked.now c.requires.can

pub define-requires-clause-room : goal.define-requires-clause-room
define-requires-clause-room c = subst (λ (x : UnitScope). x.form.budget.locals + 1 ≤ most_locals x.form.budget.nodes) (sym c.is_assigned.ensures.rest) c.requires.room

pub returns-in_err-define : goal.returns-in_err-define
returns-in_err-define c = λ known region ls s fs n t p given knows stands placed is on pending notes one.
    let work = c.args.work.now in
    let u = c.args.units.now in
    let u1 = c.is_assigned.new.units in
    let same = c.is_assigned.ensures.rest in
    let form = c.args.form in
    let s1 = (noting known).ask (Assigns fs n.name ∷ []) s in
    let stands1 = c.is_assigned.ensures.noted known work ls s fs n.name stands placed is.0 in
    let placed1 = place_on work u u1 same ls s s1 c.args.spot fs refl placed in
    let pending1 = pending_noted work region u u1 same c.args.pending.now p pending in
    let m : Item Identifier = Value (binder_at (noting known) fs s1 n) (record { here = form.here; tree = t }) in
    let v = c.define.new.units in
    let step : Bool → Step = λ b go. run_variable (noting known) go form.here fs n t b p s1 in
    let so = sym (c.is_assigned.ensures.assigned known work ls s fs n.name stands placed is.0) ∙ c.if-is_assigned.false in
    let ends = c.in_err-define.ensures.defined known ls s1 fs n None (put m p) stands1 placed1 is tt notes in
    let e = c.in_err-define.field-0.0 in
    goes_handed work region u v ls c.args.spot fs p.todo given c.args.pending.now c.args.asked.now c.from_residual-in_err-define.result e (step (assigned s (body_around fs) n.name)) c.from_residual-in_err-define.ensures.1
    (subst (λ (f : Step). GoesOn work work region u v ls c.args.spot fs p.todo given c.args.pending.now c.args.asked.now (Err e) f) (sym (ap step so))
    (goes_noted work region u u1 same ls c.args.spot fs s s1 stands stands1 p.todo given c.args.pending.now c.args.asked.now v (Err e) (step false)
    (goes_failing work region u1 v ls c.args.spot fs p.todo given c.args.pending.now c.args.asked.now p.notes (λ (done : Unit {0}) (made : Renamed Identifier FramedIdent). made ≡ unchanged (put m p)) e
    (told form.here ((noting known).define n None fs (put m p) s1)) (λ go made. go made.pending) stands1.form.few_nodes ends notes)))

pub returns : goal.returns
returns c = λ known region ls s fs n t p given knows stands placed is on pending notes one.
    let work = c.args.work.now in
    let u = c.args.units.now in
    let u1 = c.is_assigned.new.units in
    let same = c.is_assigned.ensures.rest in
    let form = c.args.form in
    let s1 = (noting known).ask (Assigns fs n.name ∷ []) s in
    let stands1 = c.is_assigned.ensures.noted known work ls s fs n.name stands placed is.0 in
    let placed1 = place_on work u u1 same ls s s1 c.args.spot fs refl placed in
    let pending1 = pending_noted work region u u1 same c.args.pending.now p pending in
    let v = c.define.new.units in
    let m : Item Identifier = Value (binder_at (noting known) fs s1 n) (record { here = form.here; tree = t }) in
    let new = (record c.args.pending.now { aside = c.push-2.new.self }) in
    let x = told form.here ((noting known).define n None fs (put m p) s1) in
    let step : Bool → Step = λ b go. run_variable (noting known) go form.here fs n t b p s1 in
    let so = sym (c.is_assigned.ensures.assigned known work ls s fs n.name stands placed is.0) ∙ c.if-is_assigned.false in
    let ends = c.in_ok-define.ensures.defined known ls s1 fs n None (put m p) stands1 placed1 is tt notes in
    let binder = binder_here work u1 ls s1 c.next_binder-binder.result (binder_at (noting known) fs s1 n) stands1 (c.next_binder-binder.ensures known work ls (state_of s1) fs n (plainly work u1 ls s1 stands1) placed1 is) in
    subst (λ (f : Step). GoesOn work work region u v ls c.args.spot fs p.todo given new c.args.asked.now (Ok tt) f) (sym (ap step so))
    (goes_noted work region u u1 same ls c.args.spot fs s s1 stands stands1 p.todo given new c.args.asked.now v (Ok tt) (step false)
    (aside_goes work region u1 v ls c.args.spot fs s1 p c.args.pending.now new c.args.asked.now given m (kept.Value c.next_binder-binder.result form) pending1 notes
    (c.next_binder-binder.result, form, refl, binder, (refl, on)) (refl, refl) c.in_ok-push-2.ensures.items 1 ends.0 x (λ go made. go made.pending) ends.1 ends.2 c.in_ok-define.ensures.counts.uses c.in_ok-define.ensures.counts.locals (omega arith) one (λ go. ap (λ (made : Renamed Identifier FramedIdent). go made.pending x.1) ends.3)))
