use Rattle.std.proofs.Common.{◌≡◌, ◌+◌, ◌^◌, ◌<◌, ◌≤◌, List, [], length, Ok, Err, sym, ap, subst, arith}
use Rattle.std.proofs.lemmas.Option.{slice_get_within}
use Rattle.expander.specs.Bodies.{BodyFor, body_pass}
use Rattle.scope_env.specs.Environment.{Environment}
use Rattle.feature_requirements.specs.declared.fault.ExpandFault.TheVariants as fault
use Rattle.core_tree.specs.Names.{AllMatch}
use Rattle.unit_scopes.specs.Kept.{WaitsFor}
use Rattle.form_parts.specs.declared.items.Pending as code_pending
use Rattle.form_parts.specs.declared.items.WaitingUse as code_waiting
use Rattle.unit_scopes.specs.declared.scope.UnitScope.{UnitScope}
use Rattle.expander.proofs.AfterLaws.{all_known}
use Rattle.expander.proofs.BodyPass.{can_pass_inside, pass_inside, can_meet, body_ends, body_lost, body_fails, body_locals}
use Rattle.unit_scopes.proofs.OutcomeLaws.{leaves_itself}
use Rattle.expander.proofs.bodies.pass_body.Goals as goal
use Rattle.noted_steps.proofs.NodeLaws.{ends_err}

abbrev in_env : UnitScope → Environment → UnitScope
in_env u e = record u { env = e }

pub child-requires : goal.child-requires
child-requires c =
    let l = c.requires.can.look in
    let inside : c.args.at.scope < length l.layout = slice_get_within l.layout c.args.at.scope l.frames l.at in
    let count = l.stands.env.count in
    omega (arith, inside, count)

pub returns-in_err-scope-clause-passed : goal.returns-in_err-scope-clause-passed
returns-in_err-scope-clause-passed c = λ ts turns stand small enough known ls s fs knows stands at.
    let work = c.args.work.now in
    let u = c.args.units.now in
    let region = c.args.region.now in
    ends_err (BodyFor work region u.unit u.form.number) work work region u (in_env u c.child.new.self) ls c.from_residual.result fault.Memory (body_pass turns c.args.at.here ts known fs s) c.from_residual.ensures.1
    (leaves_itself work region u stands.form.few_nodes)

pub returns-in_err-forms_at-clause-passed : goal.returns-in_err-forms_at-clause-passed
returns-in_err-forms_at-clause-passed c = λ ts turns stand small enough known ls s fs knows stands at.
    let work = c.args.work.now in
    let u = c.args.units.now in
    let region = c.args.region.now in
    ends_err (BodyFor work region u.unit u.form.number) work work region u (in_env u c.child.new.self) ls c.from_residual-in_err-forms_at.result fault.Memory (body_pass turns c.args.at.here ts known fs s) c.from_residual-in_err-forms_at.ensures.1
    (leaves_itself work region u stands.form.few_nodes)

pub pass-requires-clause-can : goal.pass-requires-clause-can
pass-requires-clause-can c =
    let work = c.args.work.now in
    let u = c.args.units.now in
    let region = c.args.region.now in
    let h = c.requires.can in
    let l = h.look in
    can_pass_inside work region u (in_env u c.child.new.self) c.args.at.scope c.in_ok-scope.scope c.args.at.here c.args.forms.now h.trees (record { todo = c.in_ok-forms_at.field-0; aside = c.new.result; uses = c.new-2.result }) c.new-asked.result
    (ap (in_env u) c.in_ok-scope.ensures.added) c.in_ok-scope.ensures.ok c.sound.ensures c.new-asked.ensures.notes (c.new-asked.ensures.stands work.symbols) c.in_ok-forms_at.ensures (c.new.ensures.items, c.new-2.ensures.items) h.stand h.named h.small
    l.layout l.state l.frames l.at l.stands h.room

pub returns-in_err-pass-clause-passed : goal.returns-in_err-pass-clause-passed
returns-in_err-pass-clause-passed c = λ ts turns stand small enough known ls s fs knows stands at.
    let work = c.args.work.now in
    let u = c.args.units.now in
    let region = c.args.region.now in
    let w = in_env u c.child.new.self in
    let here = c.args.at.here in
    let inner = c.in_ok-scope.scope in
    let todo : code_pending.Pending = record { todo = c.in_ok-forms_at.field-0; aside = c.new.result; uses = c.new-2.result } in
    let asked = c.new-asked.result in
    let ns = c.args.forms.now in
    let child = ap (in_env u) c.in_ok-scope.ensures.added in
    let newest = c.in_ok-scope.ensures.ok in
    let none = c.new-asked.ensures.notes in
    let asks = c.new-asked.ensures.stands work.symbols in
    let forms = c.in_ok-forms_at.ensures in
    let aside : (c.new.result.items ≡ []) × (c.new-2.result.items ≡ []) = (c.new.ensures.items, c.new-2.ensures.items) in
    let named = c.requires.can.named in
    let new = c.pass.new.work in
    let v = c.pass.new.units in
    let last = c.pass.new.pending in
    let e = c.in_err-pass.field-0.0 in
    let h = pass_inside work region u w c.args.at.scope inner here ns ts todo asked child newest c.sound.ensures none asks forms aside stand named small ls s fs at stands known turns new v last c.pass.new.asked (Err e) knows enough c.in_err-pass.ensures in
    let P = BodyFor new region v.unit v.form.number in
    ends_err P work new region u v ls c.from_residual-in_err-pass.result e (body_pass turns here ts known fs s) c.from_residual-in_err-pass.ensures.1
    (body_fails work region u w c.args.at.scope inner here ns ts todo asked child newest c.sound.ensures none asks forms aside stand named small ls s fs at stands known turns new v last c.pass.new.asked P e h)

pub meet_all-requires-clause-look : goal.meet_all-requires-clause-look
meet_all-requires-clause-look c =
    let work = c.args.work.now in
    let u = c.args.units.now in
    let region = c.args.region.now in
    let w = in_env u c.child.new.self in
    let here = c.args.at.here in
    let inner = c.in_ok-scope.scope in
    let todo : code_pending.Pending = record { todo = c.in_ok-forms_at.field-0; aside = c.new.result; uses = c.new-2.result } in
    let asked = c.new-asked.result in
    let ns = c.args.forms.now in
    let can = c.requires.can in
    let ts = can.trees in
    let l = can.look in
    let k = all_known u.libraries in
    let child = ap (in_env u) c.in_ok-scope.ensures.added in
    let newest = c.in_ok-scope.ensures.ok in
    let none = c.new-asked.ensures.notes in
    let asks = c.new-asked.ensures.stands work.symbols in
    let forms = c.in_ok-forms_at.ensures in
    let aside : (c.new.result.items ≡ []) × (c.new-2.result.items ≡ []) = (c.new.ensures.items, c.new-2.ensures.items) in
    let new = c.pass.new.work in
    let v = c.pass.new.units in
    let last = c.pass.new.pending in
    let h = pass_inside work region u w c.args.at.scope inner here ns ts todo asked child newest c.sound.ensures none asks forms aside can.stand can.named can.small l.layout l.state l.frames l.at l.stands k.0 (2 ^ 39) new v last c.pass.new.asked (Ok tt) k.1 (omega arith) c.in_ok-pass.ensures in
    can_meet work region u w c.args.at.scope inner here ns ts todo asked child newest c.sound.ensures none asks forms aside can.stand can.named can.small l.layout l.state l.frames l.at l.stands k.0 (2 ^ 39) new v last c.pass.new.asked h

pub meet_all-requires-clause-waits : goal.meet_all-requires-clause-waits
meet_all-requires-clause-waits c =
    let work = c.args.work.now in
    let u = c.args.units.now in
    let region = c.args.region.now in
    let w = in_env u c.child.new.self in
    let here = c.args.at.here in
    let inner = c.in_ok-scope.scope in
    let todo : code_pending.Pending = record { todo = c.in_ok-forms_at.field-0; aside = c.new.result; uses = c.new-2.result } in
    let asked = c.new-asked.result in
    let ns = c.args.forms.now in
    let can = c.requires.can in
    let ts = can.trees in
    let l = can.look in
    let k = all_known u.libraries in
    let child = ap (in_env u) c.in_ok-scope.ensures.added in
    let newest = c.in_ok-scope.ensures.ok in
    let none = c.new-asked.ensures.notes in
    let asks = c.new-asked.ensures.stands work.symbols in
    let forms = c.in_ok-forms_at.ensures in
    let aside : (c.new.result.items ≡ []) × (c.new-2.result.items ≡ []) = (c.new.ensures.items, c.new-2.ensures.items) in
    let new = c.pass.new.work in
    let v = c.pass.new.units in
    let last = c.pass.new.pending in
    let h = pass_inside work region u w c.args.at.scope inner here ns ts todo asked child newest c.sound.ensures none asks forms aside can.stand can.named can.small l.layout l.state l.frames l.at l.stands k.0 (2 ^ 39) new v last c.pass.new.asked (Ok tt) k.1 (omega arith) c.in_ok-pass.ensures in
    (h.0.uses, subst (λ (xs : List code_waiting.WaitingUse). AllMatch (WaitsFor new v.unit v.form.number) xs h.0.uses) (sym c.as_slice.ensures.value) h.3.uses)

pub returns-in_err-meet_all-clause-passed : goal.returns-in_err-meet_all-clause-passed
returns-in_err-meet_all-clause-passed c = λ ts turns stand small enough known ls s fs knows stands at.
    let work = c.args.work.now in
    let u = c.args.units.now in
    let region = c.args.region.now in
    let w = in_env u c.child.new.self in
    let here = c.args.at.here in
    let inner = c.in_ok-scope.scope in
    let todo : code_pending.Pending = record { todo = c.in_ok-forms_at.field-0; aside = c.new.result; uses = c.new-2.result } in
    let asked = c.new-asked.result in
    let ns = c.args.forms.now in
    let named = c.requires.can.named in
    let child = ap (in_env u) c.in_ok-scope.ensures.added in
    let newest = c.in_ok-scope.ensures.ok in
    let none = c.new-asked.ensures.notes in
    let asks = c.new-asked.ensures.stands work.symbols in
    let forms = c.in_ok-forms_at.ensures in
    let aside : (c.new.result.items ≡ []) × (c.new-2.result.items ≡ []) = (c.new.ensures.items, c.new-2.ensures.items) in
    let new = c.pass.new.work in
    let v = c.pass.new.units in
    let last = c.pass.new.pending in
    let h = pass_inside work region u w c.args.at.scope inner here ns ts todo asked child newest c.sound.ensures none asks forms aside stand named small ls s fs at stands known turns new v last c.pass.new.asked (Ok tt) knows enough c.in_ok-pass.ensures in
    let x = c.meet_all.new.units in
    ends_err (BodyFor new region x.unit x.form.number) work new region u x ls c.from_residual-in_err-meet_all.result fault.Memory (body_pass turns here ts known fs s) c.from_residual-in_err-meet_all.ensures.1
    (body_lost work region u w c.args.at.scope inner here ns ts todo asked child newest c.sound.ensures none asks forms aside stand named small ls s fs at stands known turns new v last c.pass.new.asked h)

pub returns-clause-passed : goal.returns-clause-passed
returns-clause-passed c = λ ts turns stand small enough known ls s fs knows stands at.
    let work = c.args.work.now in
    let u = c.args.units.now in
    let region = c.args.region.now in
    let w = in_env u c.child.new.self in
    let here = c.args.at.here in
    let inner = c.in_ok-scope.scope in
    let todo : code_pending.Pending = record { todo = c.in_ok-forms_at.field-0; aside = c.new.result; uses = c.new-2.result } in
    let asked = c.new-asked.result in
    let ns = c.args.forms.now in
    let child = ap (in_env u) c.in_ok-scope.ensures.added in
    let newest = c.in_ok-scope.ensures.ok in
    let none = c.new-asked.ensures.notes in
    let asks = c.new-asked.ensures.stands work.symbols in
    let forms = c.in_ok-forms_at.ensures in
    let aside : (c.new.result.items ≡ []) × (c.new-2.result.items ≡ []) = (c.new.ensures.items, c.new-2.ensures.items) in
    let named = c.requires.can.named in
    let new = c.pass.new.work in
    let v = c.pass.new.units in
    let last = c.pass.new.pending in
    let h = pass_inside work region u w c.args.at.scope inner here ns ts todo asked child newest c.sound.ensures none asks forms aside stand named small ls s fs at stands known turns new v last c.pass.new.asked (Ok tt) knows enough c.in_ok-pass.ensures in
    body_ends work region u w c.args.at.scope inner here ns ts todo asked child newest c.sound.ensures none asks forms aside stand named small ls s fs at stands known turns new v last c.pass.new.asked h c.meet_all.new.units c.in_ok-meet_all.ensures.rest
    (λ known ls s fs us stands at waits. c.in_ok-meet_all.ensures.met known ls s fs us stands at (subst (λ (xs : List code_waiting.WaitingUse). AllMatch (WaitsFor new v.unit v.form.number) xs us) (sym c.as_slice.ensures.value) waits))

pub returns-clause-locals : goal.returns-clause-locals
returns-clause-locals c =
    let work = c.args.work.now in
    let u = c.args.units.now in
    let region = c.args.region.now in
    let w = in_env u c.child.new.self in
    let here = c.args.at.here in
    let inner = c.in_ok-scope.scope in
    let todo : code_pending.Pending = record { todo = c.in_ok-forms_at.field-0; aside = c.new.result; uses = c.new-2.result } in
    let asked = c.new-asked.result in
    let ns = c.args.forms.now in
    let can = c.requires.can in
    let ts = can.trees in
    let l = can.look in
    let k = all_known u.libraries in
    let child = ap (in_env u) c.in_ok-scope.ensures.added in
    let newest = c.in_ok-scope.ensures.ok in
    let none = c.new-asked.ensures.notes in
    let asks = c.new-asked.ensures.stands work.symbols in
    let forms = c.in_ok-forms_at.ensures in
    let aside : (c.new.result.items ≡ []) × (c.new-2.result.items ≡ []) = (c.new.ensures.items, c.new-2.ensures.items) in
    let new = c.pass.new.work in
    let v = c.pass.new.units in
    let last = c.pass.new.pending in
    let h = pass_inside work region u w c.args.at.scope inner here ns ts todo asked child newest c.sound.ensures none asks forms aside can.stand can.named can.small l.layout l.state l.frames l.at l.stands k.0 (2 ^ 39) new v last c.pass.new.asked (Ok tt) k.1 (omega arith) c.in_ok-pass.ensures in
    subst (λ (x : UnitScope). x.form.budget.locals ≤ u.form.budget.locals + 2 ^ 38) (sym c.in_ok-meet_all.ensures.rest)
    (body_locals work region u w c.args.at.scope inner here ns ts todo asked child newest c.sound.ensures none asks forms aside can.stand can.named can.small l.layout l.state l.frames l.at l.stands k.0 (2 ^ 39) new v last c.pass.new.asked h)
