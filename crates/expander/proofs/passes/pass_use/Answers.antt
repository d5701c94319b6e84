use Rattle.std.proofs.Common.{◌≡◌, ◌+◌, List, true, Some, Result, Ok, Err, OnOk, refl, sym, ap, subst}
use Rattle.scheme_model.specs.Order.{Going, Pass, comparisons, run_use, use_of}
use Rattle.scheme_model.specs.Ident.{Ident as Identifier}
use Rattle.scheme_model.specs.ScopedExpansion.{FramedIdent}
use Rattle.core_tree.specs.Names.{AllMatch}
use Rattle.unit_scopes.specs.Kept.{PendingFor}
use Rattle.unit_scopes.specs.declared.uses.Instance as code_instance
use Rattle.unit_scopes.specs.Used.{ComparisonFor, InstanceFor}
use Rattle.feature_requirements.specs.declared.fault.ExpandFault.{ExpandFault}
use Rattle.feature_requirements.specs.declared.fault.ExpandFault.TheVariants as fault
use Rattle.unit_scopes.specs.declared.scope.UnitScope.{UnitScope}
use Rattle.unit_scopes.specs.declared.uses.Comparison.{Comparison}
use Rattle.expander.specs.Ready.{rules_asked}
use Rattle.expander.proofs.DefinitionSteps.{goes_without}
use Rattle.expander.proofs.LooseLaws.{use_on}
use Rattle.expander.proofs.PassLaws.{goes_err, goes_after, spot_same}
use Rattle.expander.proofs.UsePass.{use_goes, use_fails}
use Rattle.expander.proofs.passes.pass_use.Goals as goal
use Rattle.noted_steps.specs.Noting.{Noting, noting}
use Rattle.noted_steps.specs.Outcomes.{EndsHere}
use Rattle.noted_steps.specs.Used.{compared_first}
use Rattle.noted_steps.proofs.UsesMet.{left_behind}
use Rattle.noted_steps.proofs.OutcomeLaws.{noted_stays}

abbrev Step : Type 0
Step = Going Identifier FramedIdent Noting → Pass Identifier FramedIdent × Noting

pub note_comparisons-requires : goal.note_comparisons-requires
note_comparisons-requires c =
    let u = c.requires.usable in
    let q = c.in_ok-scope.ensures.compared (λ l. true) u.layout u.state u.frames u.keyword u.transformer u.parts u.tail u.stands u.there u.used in (
      u.layout,
      comparisons (noting (λ l. true)) u.frames u.transformer u.parts u.tail u.state,
      subst (λ (cs : List Comparison). AllMatch (ComparisonFor c.args.work.now u.layout c.in_ok-scope.scope c.args.at.scope) cs (comparisons (noting (λ l. true)) u.frames u.transformer u.parts u.tail u.state)) (sym c.deref.ensures.value) q.1,
    )

pub apply_use-applied-requires-clause-usable : goal.apply_use-applied-requires-clause-usable
apply_use-applied-requires-clause-usable c = use_on c.args.work.now c.args.units.now c.compare_use.new.units c.compare_use.ensures.rest c.args.at c.requires.usable

pub returns-in_err-scope : goal.returns-in_err-scope
returns-in_err-scope c = λ known ls s spot fs keyword m form ts tail p given knows stands placed there used pending notes one.
    let u = c.args.units.now in
    let step : Step = λ go. run_use (noting known) go c.args.at.here fs keyword (Some m) form ts tail p (rules_asked known keyword s) in
    goes_without c.args.work.now c.args.region.now u c.compare_use.new.units ls spot fs p.todo given c.args.pending.now c.args.asked.now c.from_residual.result step c.from_residual.ensures.1 stands.form.few_nodes

pub returns-in_err-note_comparisons : goal.returns-in_err-note_comparisons
returns-in_err-note_comparisons c = λ known ls s spot fs keyword m form ts tail p given knows stands placed there used pending notes one.
    let u = c.args.units.now in
    let step : Step = λ go. run_use (noting known) go c.args.at.here fs keyword (Some m) form ts tail p (rules_asked known keyword s) in
    goes_without c.args.work.now c.args.region.now u c.compare_use.new.units ls spot fs p.todo given c.args.pending.now c.note_comparisons.new.asked c.from_residual-in_err-note_comparisons.result step c.from_residual-in_err-note_comparisons.ensures.1 stands.form.few_nodes

pub returns-in_err-given : goal.returns-in_err-given
returns-in_err-given c = λ known ls s spot fs keyword m form ts tail p given knows stands placed there used pending notes one.
    let u = c.args.units.now in
    let w = c.compare_use.new.units in
    let v = c.apply_use-applied.new.units in
    let old = c.args.work.now in
    let new = c.apply_use-applied.new.work in
    let region = c.args.region.now in
    let at = c.args.at in
    let t = rules_asked known keyword s in
    let a = compared_first (noting known) fs m ts tail t in
    let qs = comparisons (noting known) fs m ts tail t in
    let compared = c.in_ok-scope.ensures.compared known ls s fs keyword m ts tail stands there used in
    let found = c.in_ok-note_comparisons.ensures ls qs p.notes (subst (λ (cs : List Comparison). AllMatch (ComparisonFor old ls c.in_ok-scope.scope at.scope) cs qs) (sym c.deref.ensures.value) compared.1) notes in
    let ends = c.apply_use-applied.ensures.used known ls t fs keyword m ts tail c.in_ok-scope.scope compared.2 there used (subst (λ (cs : List Comparison). AllMatch (ComparisonFor old ls c.in_ok-scope.scope at.scope) cs qs) (sym c.deref-2.ensures.value) compared.1) in
    let e = c.in_err-given.field-0.0 in
    let step : Step = λ go. run_use (noting known) go at.here fs keyword (Some m) form ts tail p t in
    let failed : EndsHere (InstanceFor new region v.unit v.form.number) old new region w v ls (Err e) (use_of (noting known) at.here fs keyword m ts tail t) =
    subst (λ (r : Result code_instance.Instance ExpandFault). EndsHere (InstanceFor new region v.unit v.form.number) old new region w v ls r (use_of (noting known) at.here fs keyword m ts tail t)) c.in_err-given.was ends in
    let rest = c.compare_use.ensures.rest in
    let waits = subst (λ (x : UnitScope). PendingFor old region x.unit x.form.number c.args.pending.now p) (sym rest) pending in
    let there1 = spot_same old u w ls s t spot fs (ap (λ (x : UnitScope). x.env) rest) (ap (λ (x : UnitScope). x.root) rest) refl placed in
    goes_err region ls spot fs p.todo given c.args.pending.now c.note_comparisons.new.asked old new u v c.from_residual-in_err-given.result e step c.from_residual-in_err-given.ensures.1
    (goes_after region ls spot fs p.todo given c.args.pending.now c.note_comparisons.new.asked old old new u w v a (Err e) step (noted_stays old region u w ls s a stands rest compared.2) (ap (λ (x : UnitScope). x.form.budget.uses) rest) (ap (λ (x : UnitScope). x.form.budget.locals) rest)
    (use_fails known old new region w v ls t spot fs at.here keyword m form ts tail p given c.args.pending.now c.args.pending.now c.note_comparisons.new.asked compared.2 there1 waits found c.told_apart.ensures.idents c.apply_use-applied.ensures.scopes e failed))

pub returns-in_err-push : goal.returns-in_err-push
returns-in_err-push c = λ known ls s spot fs keyword m form ts tail p given knows stands placed there used pending notes one.
    let u = c.args.units.now in
    let w = c.compare_use.new.units in
    let v = c.apply_use-applied.new.units in
    let old = c.args.work.now in
    let new = c.apply_use-applied.new.work in
    let region = c.args.region.now in
    let at = c.args.at in
    let t = rules_asked known keyword s in
    let a = compared_first (noting known) fs m ts tail t in
    let qs = comparisons (noting known) fs m ts tail t in
    let compared = c.in_ok-scope.ensures.compared known ls s fs keyword m ts tail stands there used in
    let ends = c.apply_use-applied.ensures.used known ls t fs keyword m ts tail c.in_ok-scope.scope compared.2 there used (subst (λ (cs : List Comparison). AllMatch (ComparisonFor old ls c.in_ok-scope.scope at.scope) cs qs) (sym c.deref-2.ensures.value) compared.1) in
    let step : Step = λ go. run_use (noting known) go at.here fs keyword (Some m) form ts tail p t in
    let done : EndsHere (InstanceFor new region v.unit v.form.number) old new region w v ls (Ok c.in_ok-given.given) (use_of (noting known) at.here fs keyword m ts tail t) =
    subst (λ (r : Result code_instance.Instance ExpandFault). EndsHere (InstanceFor new region v.unit v.form.number) old new region w v ls r (use_of (noting known) at.here fs keyword m ts tail t)) c.in_ok-given.was ends in
    let rest = c.compare_use.ensures.rest in
    let todo = record c.args.pending.now { todo = c.push.new.self } in
    goes_err region ls spot fs p.todo given todo c.note_comparisons.new.asked old new u v c.from_residual-in_err-push.result fault.Memory step c.from_residual-in_err-push.ensures.1
    (goes_after region ls spot fs p.todo given todo c.note_comparisons.new.asked old old new u w v a (Err fault.Memory) step (noted_stays old region u w ls s a stands rest compared.2) (ap (λ (x : UnitScope). x.form.budget.uses) rest) (ap (λ (x : UnitScope). x.form.budget.locals) rest)
    (left_behind old new region w v ls (use_of (noting known) at.here fs keyword m ts tail t).1 done.1))

pub returns-in_err-push-2 : goal.returns-in_err-push-2
returns-in_err-push-2 c = λ known ls s spot fs keyword m form ts tail p given knows stands placed there used pending notes one.
    let u = c.args.units.now in
    let w = c.compare_use.new.units in
    let v = c.apply_use-applied.new.units in
    let old = c.args.work.now in
    let new = c.apply_use-applied.new.work in
    let region = c.args.region.now in
    let at = c.args.at in
    let t = rules_asked known keyword s in
    let a = compared_first (noting known) fs m ts tail t in
    let qs = comparisons (noting known) fs m ts tail t in
    let compared = c.in_ok-scope.ensures.compared known ls s fs keyword m ts tail stands there used in
    let ends = c.apply_use-applied.ensures.used known ls t fs keyword m ts tail c.in_ok-scope.scope compared.2 there used (subst (λ (cs : List Comparison). AllMatch (ComparisonFor old ls c.in_ok-scope.scope at.scope) cs qs) (sym c.deref-2.ensures.value) compared.1) in
    let step : Step = λ go. run_use (noting known) go at.here fs keyword (Some m) form ts tail p t in
    let done : EndsHere (InstanceFor new region v.unit v.form.number) old new region w v ls (Ok c.in_ok-given.given) (use_of (noting known) at.here fs keyword m ts tail t) =
    subst (λ (r : Result code_instance.Instance ExpandFault). EndsHere (InstanceFor new region v.unit v.form.number) old new region w v ls r (use_of (noting known) at.here fs keyword m ts tail t)) c.in_ok-given.was ends in
    let rest = c.compare_use.ensures.rest in
    let todo = record c.args.pending.now { todo = c.push.new.self; uses = c.push-2.new.self } in
    goes_err region ls spot fs p.todo given todo c.note_comparisons.new.asked old new u v c.from_residual-in_err-push-2.result fault.Memory step c.from_residual-in_err-push-2.ensures.1
    (goes_after region ls spot fs p.todo given todo c.note_comparisons.new.asked old old new u w v a (Err fault.Memory) step (noted_stays old region u w ls s a stands rest compared.2) (ap (λ (x : UnitScope). x.form.budget.uses) rest) (ap (λ (x : UnitScope). x.form.budget.locals) rest)
    (left_behind old new region w v ls (use_of (noting known) at.here fs keyword m ts tail t).1 done.1))

pub returns : goal.returns
returns c = λ known ls s spot fs keyword m form ts tail p given knows stands placed there used pending notes one.
    let u = c.args.units.now in
    let w = c.compare_use.new.units in
    let v = c.apply_use-applied.new.units in
    let old = c.args.work.now in
    let new = c.apply_use-applied.new.work in
    let region = c.args.region.now in
    let at = c.args.at in
    let before = c.args.pending.now in
    let t = rules_asked known keyword s in
    let a = compared_first (noting known) fs m ts tail t in
    let qs = comparisons (noting known) fs m ts tail t in
    let compared = c.in_ok-scope.ensures.compared known ls s fs keyword m ts tail stands there used in
    let found = c.in_ok-note_comparisons.ensures ls qs p.notes (subst (λ (cs : List Comparison). AllMatch (ComparisonFor old ls c.in_ok-scope.scope at.scope) cs qs) (sym c.deref.ensures.value) compared.1) notes in
    let ends = c.apply_use-applied.ensures.used known ls t fs keyword m ts tail c.in_ok-scope.scope compared.2 there used (subst (λ (cs : List Comparison). AllMatch (ComparisonFor old ls c.in_ok-scope.scope at.scope) cs qs) (sym c.deref-2.ensures.value) compared.1) in
    let x = c.in_ok-given.given in
    let done : EndsHere (InstanceFor new region v.unit v.form.number) old new region w v ls (Ok x) (use_of (noting known) at.here fs keyword m ts tail t) =
    subst (λ (r : Result code_instance.Instance ExpandFault). EndsHere (InstanceFor new region v.unit v.form.number) old new region w v ls r (use_of (noting known) at.here fs keyword m ts tail t)) c.in_ok-given.was ends in
    let counted : v.form.budget.uses ≡ w.form.budget.uses + 1 = subst (λ (r : Result code_instance.Instance ExpandFault). OnOk r (v.form.budget.uses ≡ w.form.budget.uses + 1)) c.in_ok-given.was c.apply_use-applied.ensures.counted in
    let locals : v.form.budget.locals ≡ w.form.budget.locals = subst (λ (r : Result code_instance.Instance ExpandFault). OnOk r (v.form.budget.locals ≡ w.form.budget.locals)) c.in_ok-given.was c.apply_use-applied.ensures.locals in
    let rest = c.compare_use.ensures.rest in
    let todo = record before { todo = c.push.new.self; uses = c.push-2.new.self } in
    let step : Step = λ go. run_use (noting known) go at.here fs keyword (Some m) form ts tail p t in
    let waits = subst (λ (x : UnitScope). PendingFor old region x.unit x.form.number before p) (sym rest) pending in
    let there1 = spot_same old u w ls s t spot fs (ap (λ (x : UnitScope). x.env) rest) (ap (λ (x : UnitScope). x.root) rest) refl placed in
    goes_after region ls spot fs p.todo given todo c.note_comparisons.new.asked old old new u w v a (Ok tt) step (noted_stays old region u w ls s a stands rest compared.2) (ap (λ (x : UnitScope). x.form.budget.uses) rest) (ap (λ (x : UnitScope). x.form.budget.locals) rest)
    (use_goes known old new region w v ls t spot fs at.here keyword m form ts tail p given before todo c.note_comparisons.new.asked compared.2 there1 waits found c.told_apart.ensures.idents c.apply_use-applied.ensures.scopes
    x done counted locals c.in_ok-push.ensures.items refl c.in_ok-push-2.ensures.items)
