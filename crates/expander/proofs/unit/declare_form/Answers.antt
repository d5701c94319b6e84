use Rattle.std.proofs.Common.{Err, sym, subst}
use Rattle.feature_requirements.specs.Judged.{Knows}
use Rattle.unit_scopes.specs.Kept.{NotesFor}
use Rattle.unit_scopes.specs.Stepped.{turned}
use Rattle.unit_scopes.specs.Units.{Sets, declared}
use Rattle.feature_requirements.specs.declared.fault.ExpandFault.{ExpandFault}
use Rattle.unit_scopes.specs.declared.scope.UnitScope.{UnitScope}
use Rattle.unit_scopes.proofs.CallLaws.{can_set, turned_to, declares, declares_fault}
use Rattle.core_tree.specs.declared.traces.Trace.{Trace}
use Rattle.form_parts.specs.declared.items.Left.{Left}
use Rattle.expander.specs.UnitNotes.{HasNoted, OnEnded, part_begun, set_noting}
use Rattle.expander.proofs.PartLaws.{note_turned}
use Rattle.expander.proofs.unit.declare_form.Goals as goal

pub declare-requires-clause-can : goal.declare-requires-clause-can
declare-requires-clause-can g c = can_set c.args.work.now c.args.units.now c.turn.new.units c.args.number c.args.budget.now c.args.trace.now c.turn.ensures c.requires.stands

pub returns-in-Ok-clause-declared : goal.returns-in-Ok-clause-declared
returns-in-Ok-clause-declared g c = λ known ls s notes t knows stands counts for.
    let old = c.args.work.now in let new = c.declare.new.work in let region = c.args.region.now in let n = c.args.number in let b = c.args.budget.now in let tr = c.args.trace.now in
    let u = c.args.units.now in let u1 = c.turn.new.units in let v = c.declare.new.units in
    let knows1 = subst (λ (x : UnitScope). Knows x.libraries known) (sym c.turn.ensures) knows in
    let noted = subst (λ (x : UnitScope). NotesFor old ls x.asked notes) (sym c.turn.ensures) stands.notes in
    let h = c.in-Ok.ensures.sets known ls (turned n s) notes t knows1 (turned_to old u u1 n b tr ls s notes c.turn.ensures stands counts) noted for in
    declares old new region u u1 v c.rest.new.units n b c.rest.new.budget tr c.rest.new.trace c.turn.new.trace c.turn.ensures c.rest.ensures.scope c.rest.ensures.budget c.rest.ensures.trace ls c.in-Ok.left (declared known n t notes s) h

pub returns-in-Err-At-clause-declared : goal.returns-in-Err-At-clause-declared
returns-in-Err-At-clause-declared g c = λ known ls s notes t knows stands counts for.
    let old = c.args.work.now in let new = c.declare.new.work in let region = c.args.region.now in let n = c.args.number in let b = c.args.budget.now in let tr = c.args.trace.now in
    let u = c.args.units.now in let u1 = c.turn.new.units in let v = c.declare.new.units in
    let knows1 = subst (λ (x : UnitScope). Knows x.libraries known) (sym c.turn.ensures) knows in
    let noted = subst (λ (x : UnitScope). NotesFor old ls x.asked notes) (sym c.turn.ensures) stands.notes in
    let h = c.in-Err-At.ensures.sets known ls (turned n s) notes t knows1 (turned_to old u u1 n b tr ls s notes c.turn.ensures stands counts) noted for in
    let h1 = subst (λ (e : ExpandFault). Sets old new region u1 v ls (Err e) (declared known n t notes s)) c.in-Err-At.field-0-is h in
    declares_fault old new region u u1 v c.rest-in-Err-At.new.units n b c.rest-in-Err-At.new.budget tr c.rest-in-Err-At.new.trace c.turn.new.trace c.turn.ensures c.rest-in-Err-At.ensures.scope c.rest-in-Err-At.ensures.budget c.rest-in-Err-At.ensures.trace
    ls c.in-Err-At.fault (declared known n t notes s) h1

pub returns-in-Ok-clause-noted : goal.returns-in-Ok-clause-noted
returns-in-Ok-clause-noted g c = λ known ls s notes t editions ms knows stands counts for can.
    let old = c.args.work.now in let new = c.declare.new.work in let n = c.args.number in let b = c.args.budget.now in let tr = c.args.trace.now in
    let u = c.args.units.now in let u1 = c.turn.new.units in
    let knows1 = subst (λ (x : UnitScope). Knows x.libraries known) (sym c.turn.ensures) knows in
    let noted = subst (λ (x : UnitScope). NotesFor old ls x.asked notes) (sym c.turn.ensures) stands.notes in
    let h = c.in-Ok.ensures.noted known ls (turned n s) notes t editions ms knows1 (turned_to old u u1 n b tr ls s notes c.turn.ensures stands counts) noted for (note_turned old u u1 n b tr (s.uses n) editions ms (turned n s) c.turn.ensures can) in
    let v = c.declare.new.units in let p = set_noting known t notes (part_begun (s.uses n) notes editions ms (turned n s)) in
    subst (λ (x : UnitScope). HasNoted new x.macros c.rest.new.trace p.1) (sym c.rest.ensures.scope) (subst (λ (x : Trace). HasNoted new v.macros x p.1) (sym c.rest.ensures.trace) h)

pub returns-in-Err-At-clause-noted : goal.returns-in-Err-At-clause-noted
returns-in-Err-At-clause-noted g c = λ known ls s notes t editions ms knows stands counts for can.
    let old = c.args.work.now in let new = c.declare.new.work in let n = c.args.number in let b = c.args.budget.now in let tr = c.args.trace.now in
    let u = c.args.units.now in let u1 = c.turn.new.units in let v = c.declare.new.units in
    let knows1 = subst (λ (x : UnitScope). Knows x.libraries known) (sym c.turn.ensures) knows in
    let noted = subst (λ (x : UnitScope). NotesFor old ls x.asked notes) (sym c.turn.ensures) stands.notes in
    let p = set_noting known t notes (part_begun (s.uses n) notes editions ms (turned n s)) in
    let h = c.in-Err-At.ensures.noted known ls (turned n s) notes t editions ms knows1 (turned_to old u u1 n b tr ls s notes c.turn.ensures stands counts) noted for (note_turned old u u1 n b tr (s.uses n) editions ms (turned n s) c.turn.ensures can) in
    let h1 = subst (λ (e : ExpandFault). OnEnded {X = Left} (Err e) (HasNoted new v.macros v.form.trace p.1)) c.in-Err-At.field-0-is h in
    subst (λ (x : UnitScope). HasNoted new x.macros c.rest-in-Err-At.new.trace p.1) (sym c.rest-in-Err-At.ensures.scope) (subst (λ (x : Trace). HasNoted new v.macros x p.1) (sym c.rest-in-Err-At.ensures.trace) h1)
