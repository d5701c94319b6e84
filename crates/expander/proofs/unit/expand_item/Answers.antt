use Rattle.std.proofs.Common.{◌≡◌, ℕ, ◌+◌, ◌-◌, Err, sym, ap, subst, arith}
use Rattle.scheme_model.specs.Ident.{Ident as Identifier}
use Rattle.scheme_model.specs.Order.{Item}
use Rattle.core_tree.specs.Cores.{PartStands}
use Rattle.feature_requirements.specs.Judged.{Knows}
use Rattle.unit_scopes.specs.Kept.{NotesFor}
use Rattle.unit_scopes.specs.Stepped.{turned}
use Rattle.unit_scopes.specs.Units.{ItemFor, expanded}
use Rattle.feature_requirements.specs.declared.fault.ExpandFault.{ExpandFault}
use Rattle.unit_scopes.specs.declared.scope.Budget.{Budget}
use Rattle.unit_scopes.specs.declared.scope.UnitScope.{UnitScope}
use Rattle.unit_scopes.proofs.CallLaws.{can_set, turned_to, expands, expands_fault}
use Rattle.core_tree.specs.declared.cores.CorePart.{CorePart}
use Rattle.core_tree.specs.declared.traces.Trace.{Trace}
use Rattle.expander.specs.UnitNotes.{CanNote, HasNoted, OnEnded, expand_noting, part_begun}
use Rattle.noted_steps.specs.Noting.{Noting}
use Rattle.expander.proofs.PartLaws.{note_turned}
use Rattle.expander.proofs.unit.expand_item.Goals as goal
use Rattle.unit_scopes.specs.Outcomes.{Ends}

pub expand_apart-part-requires-clause-item : goal.expand_apart-part-requires-clause-item
expand_apart-part-requires-clause-item g c = subst (λ (x : UnitScope). (i : Item Identifier) × ItemFor c.args.work.now c.args.region.now x.unit x.form.number c.args.item.now i) (sym c.turn.ensures) c.requires.item

pub expand_apart-part-requires-clause-can : goal.expand_apart-part-requires-clause-can
expand_apart-part-requires-clause-can g c = can_set c.args.work.now c.args.units.now c.turn.new.units c.args.number c.args.budget.now c.args.trace.now c.turn.ensures c.requires.stands

pub returns-in-Ok-clause-expanded : goal.returns-in-Ok-clause-expanded
returns-in-Ok-clause-expanded g c = λ known ls s notes i knows stands counts item.
    let old = c.args.work.now in let new = c.expand_apart-part.new.work in let region = c.args.region.now in let n = c.args.number in let b = c.args.budget.now in let tr = c.args.trace.now in
    let u = c.args.units.now in let u1 = c.turn.new.units in let v = c.expand_apart-part.new.units in let after = c.rest.new.budget in
    let knows1 = subst (λ (x : UnitScope). Knows x.libraries known) (sym c.turn.ensures) knows in
    let item1 = subst (λ (x : UnitScope). ItemFor old region x.unit x.form.number c.args.item.now i) (sym c.turn.ensures) item in
    let h = c.in-Ok.ensures.part known ls (turned n s) i knows1 (turned_to old u u1 n b tr ls s notes c.turn.ensures stands counts) item1 in
    let now : after.nodes ≡ v.form.budget.nodes = ap (λ (x : Budget). x.nodes) c.rest.ensures.budget in
    let then : u1.form.budget.nodes ≡ b.nodes = ap (λ (x : UnitScope). x.form.budget.nodes) c.turn.ensures in
    let counted : after.nodes - b.nodes + b.nodes ≡ after.nodes = omega (arith, now, then, c.in-Ok.ensures.counts.nodes) in
    expands old new region u u1 v c.rest.new.units n b after tr c.rest.new.trace c.turn.new.trace c.turn.ensures c.rest.ensures.scope c.rest.ensures.budget c.rest.ensures.trace ls notes c.in-Ok.ensures.asked stands.notes c.told_apart.ensures.idents
    c.in-Ok.part (after.nodes - b.nodes) (expanded known n i s) counted h

pub returns-in-Err-At-clause-expanded : goal.returns-in-Err-At-clause-expanded
returns-in-Err-At-clause-expanded g c = λ known ls s notes i knows stands counts item.
    let old = c.args.work.now in let new = c.expand_apart-part.new.work in let region = c.args.region.now in let n = c.args.number in let b = c.args.budget.now in let tr = c.args.trace.now in
    let u = c.args.units.now in let u1 = c.turn.new.units in let v = c.expand_apart-part.new.units in
    let knows1 = subst (λ (x : UnitScope). Knows x.libraries known) (sym c.turn.ensures) knows in
    let item1 = subst (λ (x : UnitScope). ItemFor old region x.unit x.form.number c.args.item.now i) (sym c.turn.ensures) item in
    let h = c.in-Err-At.ensures.part known ls (turned n s) i knows1 (turned_to old u u1 n b tr ls s notes c.turn.ensures stands counts) item1 in
    let h1 = subst (λ (e : ExpandFault). Ends (λ layout. PartStands new v.unit v.form.number) old new region u1 v ls (Err e) (expanded known n i s)) c.in-Err-At.field-0-is h in
    expands_fault old new region u u1 v c.rest-in-Err-At.new.units n b c.rest-in-Err-At.new.budget tr c.rest-in-Err-At.new.trace c.turn.new.trace c.turn.ensures c.rest-in-Err-At.ensures.scope c.rest-in-Err-At.ensures.budget c.rest-in-Err-At.ensures.trace
    ls notes c.in-Err-At.ensures.asked stands.notes c.told_apart.ensures.idents c.in-Err-At.fault (expanded known n i s) h1

pub returns-in-Ok-clause-noted : goal.returns-in-Ok-clause-noted
returns-in-Ok-clause-noted g c = λ known ls s notes i editions ms knows stands counts item can.
    let old = c.args.work.now in let new = c.expand_apart-part.new.work in let region = c.args.region.now in let n = c.args.number in let b = c.args.budget.now in let tr = c.args.trace.now in
    let u = c.args.units.now in let u1 = c.turn.new.units in let v = c.expand_apart-part.new.units in
    let knows1 = subst (λ (x : UnitScope). Knows x.libraries known) (sym c.turn.ensures) knows in
    let item1 = subst (λ (x : UnitScope). ItemFor old region x.unit x.form.number c.args.item.now i) (sym c.turn.ensures) item in
    let begun : u1.form.trace.notes.begun ≡ tr.notes.begun = ap (λ (x : UnitScope). x.form.trace.notes.begun) c.turn.ensures in
    let can1 = subst (λ (k : ℕ). CanNote old u1 u1.form.trace k editions ms (turned n s)) (sym begun) (note_turned old u u1 n b tr tr.notes.begun editions ms (turned n s) c.turn.ensures can) in
    let h = c.in-Ok.ensures.noted known ls (turned n s) notes i editions ms knows1 (turned_to old u u1 n b tr ls s notes c.turn.ensures stands counts)
    (subst (λ (x : UnitScope). NotesFor old ls x.asked notes) (sym c.turn.ensures) stands.notes) item1 can1 in
    let p : ℕ → Noting = λ k. (expand_noting known i (part_begun k notes editions ms (turned n s))).1 in
    subst (λ (x : UnitScope). HasNoted new x.macros c.rest.new.trace (p tr.notes.begun)) (sym c.rest.ensures.scope)
    (subst (λ (x : Trace). HasNoted new v.macros x (p tr.notes.begun)) (sym c.rest.ensures.trace) (subst (λ (k : ℕ). HasNoted new v.macros v.form.trace (p k)) begun h))

pub returns-in-Err-At-clause-noted : goal.returns-in-Err-At-clause-noted
returns-in-Err-At-clause-noted g c = λ known ls s notes i editions ms knows stands counts item can.
    let old = c.args.work.now in let new = c.expand_apart-part.new.work in let region = c.args.region.now in let n = c.args.number in let b = c.args.budget.now in let tr = c.args.trace.now in
    let u = c.args.units.now in let u1 = c.turn.new.units in let v = c.expand_apart-part.new.units in
    let knows1 = subst (λ (x : UnitScope). Knows x.libraries known) (sym c.turn.ensures) knows in
    let item1 = subst (λ (x : UnitScope). ItemFor old region x.unit x.form.number c.args.item.now i) (sym c.turn.ensures) item in
    let begun : u1.form.trace.notes.begun ≡ tr.notes.begun = ap (λ (x : UnitScope). x.form.trace.notes.begun) c.turn.ensures in
    let can1 = subst (λ (k : ℕ). CanNote old u1 u1.form.trace k editions ms (turned n s)) (sym begun) (note_turned old u u1 n b tr tr.notes.begun editions ms (turned n s) c.turn.ensures can) in
    let p : ℕ → Noting = λ k. (expand_noting known i (part_begun k notes editions ms (turned n s))).1 in
    let h = c.in-Err-At.ensures.noted known ls (turned n s) notes i editions ms knows1 (turned_to old u u1 n b tr ls s notes c.turn.ensures stands counts)
    (subst (λ (x : UnitScope). NotesFor old ls x.asked notes) (sym c.turn.ensures) stands.notes) item1 can1 in
    let h1 = subst (λ (e : ExpandFault). OnEnded {X = CorePart} (Err e) (HasNoted new v.macros v.form.trace (p u1.form.trace.notes.begun))) c.in-Err-At.field-0-is h in
    subst (λ (x : UnitScope). HasNoted new x.macros c.rest-in-Err-At.new.trace (p tr.notes.begun)) (sym c.rest-in-Err-At.ensures.scope)
    (subst (λ (x : Trace). HasNoted new v.macros x (p tr.notes.begun)) (sym c.rest-in-Err-At.ensures.trace) (subst (λ (k : ℕ). HasNoted new v.macros v.form.trace (p k)) begun h1))
