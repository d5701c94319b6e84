use Rattle.std.proofs.Common.{Option, Err, refl, sym, subst}
use Rattle.std.proofs.lemmas.Result.{IfOk-from_err}
use Rattle.core_tree.specs.declared.traces.FormFault.{FormFault}
use Rattle.unit_scopes.specs.Units.{declared, Declares}
use Rattle.feature_requirements.specs.declared.fault.ExpandFault.{ExpandFault}
use Rattle.expansion_laws.proofs.OtherForms.{declared_stays}
use Rattle.expansion_laws.proofs.TopForms.{declared_binds}
use Rattle.form_expansion.specs.Forms.{PassesTo, declared_as, known_by}
use Rattle.expander.specs.UnitNotes.{HasNoted, OnEnded, part_begun, set_noting}
use Rattle.form_parts.specs.declared.items.Left.{Left}
use Rattle.unit_scopes.specs.Stepped.{turned}
use Rattle.form_expansion.specs.declared.forms.Bench.{Bench}
use Rattle.form_expansion.specs.declared.forms.Declared as code
use Rattle.form_expansion.proofs.BenchLaws.{same_root, stays_by}
use Rattle.form_expansion.proofs.FormSteps.{passes_ok, passes_at}
use Rattle.form_expansion.proofs.forms.declare_tree.Goals as goal

pub returns-in-Ok-clause-passes : goal.returns-in-Ok-clause-passes
returns-in-Ok-clause-passes g c = λ known ls s notes t knows stands counts for.
    let b = c.args.bench.now in let d = c.declare_form in let n = c.args.number in
    let k : Bench = record { work = d.new.work; region = b.region; scope = d.new.units } in
    let p = declared known n t notes s in
    subst (λ (f : Option FormFault). PassesTo b k s.unit n s p (declared_as (record { budget = d.new.budget; trace = d.new.trace; fault = f }) c.in-Ok.left)) (sym c.requires.blank.fault)
    (passes_ok b k d.ensures.keeps d.ensures.names refl n s p (declared_stays n known t notes s) (declared_binds known n t notes s) c.args.blank.so_far.budget d.new.budget ls d.new.trace
    c.in-Ok.left c.in-Ok.ensures.space (c.in-Ok.ensures.declared known ls s notes t knows stands counts for))

pub returns-in-Ok-clause-stays : goal.returns-in-Ok-clause-stays
returns-in-Ok-clause-stays g c =
    let b = c.args.bench.now in let d = c.declare_form in let at = c.requires.stands in let t = c.requires.form.0 in
    let k : Bench = record { work = d.new.work; region = b.region; scope = d.new.units } in
    let known = known_by b.scope.libraries in let p = declared known c.args.number t.0 at.notes at.state in
    let goes = (c.in-Ok.ensures.declared known at.layout at.state at.notes t.0 (λ n _. refl) at.stands at.counts t.1).2 in
    stays_by b k c.requires.region refl d.ensures.keeps d.ensures.names d.ensures.added d.ensures.regions goes.units
    (same_root b.work k.work b.scope k.scope at.layout goes.layout at.state p.1 at.notes p.0.notes at.stands goes.stands (declared_stays c.args.number known t.0 at.notes at.state).unit goes.units) goes.libraries

pub returns-in_ok-form_fault-in-Err-clause-passes : goal.returns-in_ok-form_fault-in-Err-clause-passes
returns-in_ok-form_fault-in-Err-clause-passes g c = λ known ls s notes t knows stands counts for.
    let b = c.args.bench.now in let d = c.declare_form in let n = c.args.number in let e = c.in_ok-form_fault-in-Err.field-0 in
    let k : Bench = record { work = d.new.work; region = b.region; scope = d.new.units } in
    let p = declared known n t notes s in
    passes_at b k d.ensures.keeps d.ensures.names refl n s p (declared_stays n known t notes s) (declared_binds known n t notes s) c.args.blank.so_far.budget d.new.budget ls d.new.trace
    c.args.blank.left e
    (subst (λ (x : ExpandFault). Declares b.work k.work b.region b.scope k.scope c.args.blank.so_far.budget d.new.budget ls n d.new.trace (Err x) p) c.in_ok-form_fault-in-Err.ensures (c.in-Err.ensures.declared known ls s notes t knows stands counts for))

pub returns-in_ok-form_fault-in-Err-clause-stays : goal.returns-in_ok-form_fault-in-Err-clause-stays
returns-in_ok-form_fault-in-Err-clause-stays g c =
    let b = c.args.bench.now in let d = c.declare_form in let at = c.requires.stands in let t = c.requires.form.0 in
    let k : Bench = record { work = d.new.work; region = b.region; scope = d.new.units } in
    let known = known_by b.scope.libraries in
    let goes = (subst (λ (x : ExpandFault). Declares b.work k.work b.region b.scope k.scope c.args.blank.so_far.budget d.new.budget at.layout c.args.number d.new.trace (Err x) (declared known c.args.number t.0 at.notes at.state)) c.in_ok-form_fault-in-Err.ensures
    (c.in-Err.ensures.declared known at.layout at.state at.notes t.0 (λ n _. refl) at.stands at.counts t.1)).2 in
    let p = declared known c.args.number t.0 at.notes at.state in
    stays_by b k c.requires.region refl d.ensures.keeps d.ensures.names d.ensures.added d.ensures.regions goes.units
    (same_root b.work k.work b.scope k.scope at.layout goes.layout at.state p.1 at.notes p.0.notes at.stands goes.stands (declared_stays c.args.number known t.0 at.notes at.state).unit goes.units) goes.libraries

pub returns-in_err-form_fault-in-Err-clause-passes : goal.returns-in_err-form_fault-in-Err-clause-passes
returns-in_err-form_fault-in-Err-clause-passes g c = λ known ls s notes t knows stands counts for.
    let b = c.args.bench.now in let d = c.declare_form in let n = c.args.number in
    let k : Bench = record { work = d.new.work; region = b.region; scope = d.new.units } in
    IfOk-from_err c.from_residual.result (PassesTo b k s.unit n s (declared known n t notes s)) c.from_residual.ensures.0

pub returns-in-Ok-clause-noted : goal.returns-in-Ok-clause-noted
returns-in-Ok-clause-noted g c = λ known ls s notes t editions ms knows stands counts for can. c.in-Ok.ensures.noted known ls s notes t editions ms knows stands counts for can

pub returns-in_ok-form_fault-in-Err-clause-noted : goal.returns-in_ok-form_fault-in-Err-clause-noted
returns-in_ok-form_fault-in-Err-clause-noted g c = λ known ls s notes t editions ms knows stands counts for can.
    let d = c.declare_form in
    subst (λ (x : ExpandFault). OnEnded {X = Left} (Err x) (HasNoted d.new.work d.new.units.macros d.new.trace (set_noting known t notes (part_begun (s.uses c.args.number) notes editions ms (turned c.args.number s))).1)) c.in_ok-form_fault-in-Err.ensures
    (c.in-Err.ensures.noted known ls s notes t editions ms knows stands counts for can)

pub returns-in_err-form_fault-in-Err-clause-noted : goal.returns-in_err-form_fault-in-Err-clause-noted
returns-in_err-form_fault-in-Err-clause-noted g c = λ known ls s notes t editions ms knows stands counts for can.
    let d = c.declare_form in
    IfOk-from_err c.from_residual.result (λ (form : code.Declared). HasNoted d.new.work d.new.units.macros form.so_far.trace (set_noting known t notes (part_begun (s.uses c.args.number) notes editions ms (turned c.args.number s))).1) c.from_residual.ensures.0
