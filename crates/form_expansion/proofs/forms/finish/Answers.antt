-- A form's uses are met, and what it set aside is expanded, item by item.
use Rattle.std.proofs.Common.{◌≡◌, ℕ, suc, ◌+◌, ◌-◌, ◌≤◌, List, length, Some, Err, sym, ap, ◌∙◌, subst, refl, arith, true≢false}
use Rattle.std.specs.Option.{is_some}
use Rattle.scheme_model.specs.Ident.{Ident as Identifier}
use Rattle.scheme_model.specs.Order.{WaitingUse}
use Rattle.scheme_model.specs.UnitExpansion.{max_total}
use Rattle.core_tree.specs.Names.{AllMatch}
use Rattle.core_tree.specs.declared.traces.FormFault.{FormFault}
use Rattle.core_tree.specs.declared.units.ExpandedItem.{ExpandedItem}
use Rattle.feature_requirements.specs.declared.fault.ExpandFault.{ExpandFault}
use Rattle.form_parts.specs.declared.items.Item as code_item
use Rattle.form_parts.specs.declared.items.WaitingUse as code_waiting
use Rattle.unit_scopes.specs.Kept.{WaitsFor}
use Rattle.unit_scopes.specs.declared.scope.UnitScope.{UnitScope}
use Rattle.form_expansion.specs.Forms.{HasSpaceLeft, declared_as}
use Rattle.form_expansion.proofs.BenchLaws.{grows_then, stays_itself}
use Rattle.form_expansion.proofs.FormsHold.{is_few}
use Rattle.form_expansion.proofs.FormsFinish.{none_of, broken_first, never_left, with_scope}
use Rattle.form_expansion.proofs.FormLoop.{none_there, can_meet, uses_wait, uses_continue, uses_stay, still_blank, can_go_on, item_ready, ok_stays, at_stays, ok_finishes, at_finishes, finishes_by, at_notes, at_tells, notes_by, tells_by, Meets, MeetsNoting, Step, StepNoting, Continues}
use Rattle.form_expansion.proofs.forms.finish.Goals as goal
use Rattle.form_expansion.proofs.forms.finish.Goals.{else-loop-item-test, then-loop-item-test+then-is_large}

pub returns-then-is_some-clause-finishes : goal.returns-then-is_some-clause-finishes
returns-then-is_some-clause-finishes g c = λ known ls s notes r knows stands own h.
    broken_first c.args.bench.now known c.args.unit c.args.number ls s notes (declared_as c.args.so_far c.args.left.now) r c.args.total.now c.broken.result stands own h c.requires.few (sym c.is_some.ensures ∙ c.if-is_some.true) c.broken.ensures.fault c.broken.ensures.definitions c.args.steps.now

pub returns-then-is_some-clause-stays : goal.returns-then-is_some-clause-stays
returns-then-is_some-clause-stays g c = stays_itself c.args.bench.now c.requires.region

pub returns-then-is_some-clause-blank : goal.returns-then-is_some-clause-blank
returns-then-is_some-clause-blank g c = λ un. absurd (true≢false (sym c.if-is_some.true ∙ c.is_some.ensures ∙ ap (λ f. is_some f) un.fault))

pub returns-then-is_some-clause-same : goal.returns-then-is_some-clause-same
returns-then-is_some-clause-same g c = λ un. (refl, refl, refl)

pub meet_uses-requires-clause-stands : goal.meet_uses-requires-clause-stands
meet_uses-requires-clause-stands g c =
    let none = none_of c.args.so_far.fault (sym c.is_some.ensures ∙ c.if-is_some.false) in
    can_meet c.args.bench.now c.args.unit c.args.number (declared_as c.args.so_far c.args.left.now) none c.requires.stands

pub meet_uses-requires-clause-waits : goal.meet_uses-requires-clause-waits
meet_uses-requires-clause-waits g c =
    let none = none_of c.args.so_far.fault (sym c.is_some.ensures ∙ c.if-is_some.false) in
    subst (λ (xs : List code_waiting.WaitingUse). (us : List (WaitingUse Identifier)) × AllMatch (WaitsFor c.args.bench.now.work c.args.bench.now.scope.unit c.args.number) xs us) (sym c.as_slice.ensures.value)
    (uses_wait c.args.bench.now c.args.unit c.args.number (declared_as c.args.so_far c.args.left.now) none c.requires.stands)

pub loop-item-init : goal.loop-item-init
loop-item-init g c =
    let none = none_of c.args.so_far.fault (sym c.is_some.ensures ∙ c.if-is_some.false) in
    let b = c.args.bench.now in
    let u = c.meet_uses.new.units in
    let call = subst (λ (xs : List code_waiting.WaitingUse). Meets b u c.args.number c.args.so_far.budget c.args.so_far.trace c.meet_uses.new.trace xs) c.as_slice.ensures.value c.in_ok-meet_uses.ensures.met in
    let noted = subst (λ (xs : List code_waiting.WaitingUse). MeetsNoting b u c.args.number c.args.so_far.budget c.args.so_far.trace c.meet_uses.new.trace xs) c.as_slice.ensures.value c.in_ok-meet_uses.ensures.noted in
    record {
      space = subst (HasSpaceLeft c.args.so_far.budget) none c.requires.stands.form_is.space;
      stays = uses_stay b u c.requires.region c.in_ok-meet_uses.ensures.scope;
      so = subst (λ (xs : List ExpandedItem). Continues b (with_scope b u) c.args.unit c.args.number (declared_as c.args.so_far c.args.left.now) 0 c.args.total.now c.args.total.now c.args.so_far.budget c.meet_uses.new.trace xs) (sym c.new-items.ensures)
          (uses_continue b c.args.unit c.args.number (declared_as c.args.so_far c.args.left.now) none u c.meet_uses.new.trace call noted c.args.total.now c.requires.few);
      none = λ un. (c.new-items.ensures, still_blank b c.args.unit c.args.number (declared_as c.args.so_far c.args.left.now) none u c.meet_uses.new.trace call un c.requires.stands, ap (λ (v : UnitScope). with_scope b v) c.in_ok-meet_uses.ensures.scope, refl, refl);
      steps = refl;
    }

pub expand-requires-clause-item : goal.expand-requires-clause-item
expand-requires-clause-item g c =
    let none = none_of c.args.so_far.fault (sym c.is_some.ensures ∙ c.if-is_some.false) in let l = c.loop-item in
    item_ready c.args.bench.now l.bench c.args.unit c.args.number (declared_as c.args.so_far c.args.left.now) none l.invariant.stays l.item-index c.args.total.now l.total l.budget l.trace l.items l.invariant.so c.as_slice-item-items.result.now c.as_slice-item-items.ensures c.item-item.result c.loop-item-test.true c.item-item.is c.requires.stands

pub expand-requires-clause-stands : goal.expand-requires-clause-stands
expand-requires-clause-stands g c =
    let none = none_of c.args.so_far.fault (sym c.is_some.ensures ∙ c.if-is_some.false) in let l = c.loop-item in
    can_go_on c.args.bench.now l.bench c.args.unit c.args.number (declared_as c.args.so_far c.args.left.now) none l.item-index c.args.total.now l.total l.budget l.trace l.items l.invariant.so c.requires.stands

pub loop-item-preserved : goal.loop-item-preserved
loop-item-preserved g c =
    let none = none_of c.args.so_far.fault (sym c.is_some.ensures ∙ c.if-is_some.false) in let e = c.expand in let l = c.loop-item in
    let few = sym c.is_large.ensures ∙ c.if-is_large.false in
    record {
      space = c.in-Ok.ensures.space;
      stays = ok_stays c.args.bench.now l.bench c.args.unit c.args.number (declared_as c.args.so_far c.args.left.now) none l.invariant.stays l.item-index c.args.total.now l.total l.budget l.trace l.items l.invariant.so c.as_slice-item-items.result.now c.as_slice-item-items.ensures c.item-item.result c.loop-item-test.true c.item-item.is
          e.new.bench e.new.budget e.new.trace e.ensures.keeps e.ensures.names e.ensures.added e.ensures.regions e.ensures.region c.requires.stands c.in-Ok.expanded c.in-Ok.ensures.expanded;
      so =
          subst (λ (k : ℕ). Continues c.args.bench.now e.new.bench c.args.unit c.args.number (declared_as c.args.so_far c.args.left.now) k c.args.total.now (l.total + c.in-Ok.expanded.count) e.new.budget e.new.trace c.push.new.self) (let at : suc l.item-index ≡ l.item-index + 1 = omega arith in at)
          (subst (λ (xs : List ExpandedItem). Continues c.args.bench.now e.new.bench c.args.unit c.args.number (declared_as c.args.so_far c.args.left.now) (suc l.item-index) c.args.total.now (l.total + c.in-Ok.expanded.count) e.new.budget e.new.trace xs) (sym c.in_ok-push-in-Ok.ensures.ok)
          (ok_finishes c.args.bench.now l.bench c.args.unit c.args.number (declared_as c.args.so_far c.args.left.now) none l.invariant.stays l.item-index c.args.total.now l.total l.budget l.trace l.items l.invariant.so c.as_slice-item-items.result.now c.as_slice-item-items.ensures c.item-item.result c.loop-item-test.true c.item-item.is
          e.new.bench e.new.budget e.new.trace e.ensures.keeps e.ensures.names e.ensures.added e.ensures.regions e.ensures.region c.in-Ok.expanded few c.in-Ok.ensures.expanded c.in-Ok.ensures.noted));
      none = λ un. none_there c.as_slice-item-items.result.now c.args.left.now.items c.as_slice-item-items.ensures un.aside l.item-index c.loop-item-test.true;
      steps = let more = e.ensures.steps in let was = l.invariant.steps in omega (arith, more, was);
    }

pub overflow_sub-total : goal.overflow_sub-total
overflow_sub-total g c =
    let none = none_of c.args.so_far.fault (sym c.is_some.ensures ∙ c.if-is_some.false) in let e = c.expand in let l = c.loop-item in
    (at_stays c.args.bench.now l.bench c.args.unit c.args.number (declared_as c.args.so_far c.args.left.now) none l.invariant.stays l.item-index c.args.total.now l.total l.budget l.trace l.items l.invariant.so c.as_slice-item-items.result.now c.as_slice-item-items.ensures c.item-item.result c.loop-item-test.true c.item-item.is
    e.new.bench e.new.budget e.new.trace e.ensures.keeps e.ensures.names e.ensures.added e.ensures.regions e.ensures.region c.requires.stands c.in-Err-At.fault
    (subst (λ (x : ExpandFault). Step l.bench e.new.bench c.args.number l.budget e.new.budget l.trace e.new.trace c.item-item.result (Err x)) c.in-Err-At.field-0-is c.in-Err-At.ensures.expanded)).1

pub returns-in-Err-At-clause-finishes : goal.returns-in-Err-At-clause-finishes
returns-in-Err-At-clause-finishes g c =
    let none = none_of c.args.so_far.fault (sym c.is_some.ensures ∙ c.if-is_some.false) in let e = c.expand in let l = c.loop-item in
    let few = sym c.is_large.ensures ∙ c.if-is_large.false in
    let step = (subst (λ (x : ExpandFault). Step l.bench e.new.bench c.args.number l.budget e.new.budget l.trace e.new.trace c.item-item.result (Err x)) c.in-Err-At.field-0-is c.in-Err-At.ensures.expanded) in
    let more : l.budget.nodes ≤ e.new.budget.nodes = (at_stays c.args.bench.now l.bench c.args.unit c.args.number (declared_as c.args.so_far c.args.left.now) none l.invariant.stays l.item-index c.args.total.now l.total l.budget l.trace l.items l.invariant.so c.as_slice-item-items.result.now c.as_slice-item-items.ensures c.item-item.result c.loop-item-test.true c.item-item.is
    e.new.bench e.new.budget e.new.trace e.ensures.keeps e.ensures.names e.ensures.added e.ensures.regions e.ensures.region c.requires.stands c.in-Err-At.fault step).1 in
    at_finishes c.args.bench.now l.bench c.args.unit c.args.number (declared_as c.args.so_far c.args.left.now) none l.invariant.stays l.item-index c.args.total.now l.total l.budget l.trace l.items l.invariant.so c.as_slice-item-items.result.now c.as_slice-item-items.ensures c.item-item.result c.loop-item-test.true c.item-item.is
    e.new.bench e.new.budget e.new.trace e.ensures.keeps e.ensures.names e.ensures.added e.ensures.regions e.ensures.region c.in-Err-At.fault (l.total + (e.new.budget.nodes - l.budget.nodes)) (omega (arith, more)) few step
    c.broken-in-Err-At.result (c.broken-in-Err-At.ensures.fault ∙ ap (λ (f : FormFault). Some f) c.in-Err-At.fault-is) c.broken-in-Err-At.ensures.definitions
    c.args.steps.now e.new.steps (let one = e.ensures.steps in let was = l.invariant.steps in omega (arith, one, was))

pub returns-in-Err-At-clause-stays : goal.returns-in-Err-At-clause-stays
returns-in-Err-At-clause-stays g c =
    let none = none_of c.args.so_far.fault (sym c.is_some.ensures ∙ c.if-is_some.false) in let e = c.expand in let l = c.loop-item in
    (at_stays c.args.bench.now l.bench c.args.unit c.args.number (declared_as c.args.so_far c.args.left.now) none l.invariant.stays l.item-index c.args.total.now l.total l.budget l.trace l.items l.invariant.so c.as_slice-item-items.result.now c.as_slice-item-items.ensures c.item-item.result c.loop-item-test.true c.item-item.is
    e.new.bench e.new.budget e.new.trace e.ensures.keeps e.ensures.names e.ensures.added e.ensures.regions e.ensures.region c.requires.stands c.in-Err-At.fault
    (subst (λ (x : ExpandFault). Step l.bench e.new.bench c.args.number l.budget e.new.budget l.trace e.new.trace c.item-item.result (Err x)) c.in-Err-At.field-0-is c.in-Err-At.ensures.expanded)).0

pub returns-in-Err-At-clause-blank : goal.returns-in-Err-At-clause-blank
returns-in-Err-At-clause-blank g c = λ un. none_there c.as_slice-item-items.result.now c.args.left.now.items c.as_slice-item-items.ensures un.aside c.loop-item.item-index c.loop-item-test.true

pub returns-in-Err-At-clause-same : goal.returns-in-Err-At-clause-same
returns-in-Err-At-clause-same g c = λ un. none_there c.as_slice-item-items.result.now c.args.left.now.items c.as_slice-item-items.ensures un.aside c.loop-item.item-index c.loop-item-test.true

pub returns-clause-finishes : goal.returns-clause-finishes
returns-clause-finishes g c =
    let none = none_of c.args.so_far.fault (sym c.is_some.ensures ∙ c.if-is_some.false) in let l = c.loop-item in
    finishes_by c.args.bench.now l.bench c.args.unit c.args.number (declared_as c.args.so_far c.args.left.now) none l.item-index c.args.total.now l.total l.budget l.trace l.items l.invariant.so
    (λ few.
    elim c.loop-item-test.branch [
      | else-loop-item-test w ↦ subst (λ (xs : List code_item.Item). length xs ≤ l.item-index) c.as_slice-item-items.ensures w.loop-item-test.false
      | then-loop-item-test+then-is_large w ↦ absurd (true≢false (sym w.if-is_large.true ∙ w.is_large.ensures ∙ few))
    ])
    c.args.steps.now l.steps l.invariant.steps

pub returns-clause-blank : goal.returns-clause-blank
returns-clause-blank g c = λ un.
    let h = c.loop-item.invariant.none un in record { items = h.0; definitions = h.1.definitions; keywords = h.1.keywords; uses = h.1.uses; fault = refl }

pub returns-clause-same : goal.returns-clause-same
returns-clause-same g c = λ un. let h = c.loop-item.invariant.none un in (h.2, h.3, h.4)

pub overflow_add-total : goal.overflow_add-total
overflow_add-total g c =
    let below : c.loop-item.total ≤ max_total = is_few c.loop-item.total (sym c.is_large.ensures ∙ c.if-is_large.false) in
    omega arith

pub overflow_add-total-in-Err-At : goal.overflow_add-total-in-Err-At
overflow_add-total-in-Err-At g c =
    let below : c.loop-item.total ≤ max_total = is_few c.loop-item.total (sym c.is_large.ensures ∙ c.if-is_large.false) in
    omega arith

pub expand-requires-clause-opened : goal.expand-requires-clause-opened
expand-requires-clause-opened g c = c.loop-item.invariant.stays.opened

pub expand-requires-clause-space : goal.expand-requires-clause-space
expand-requires-clause-space g c = c.loop-item.invariant.space

pub returns-clause-stays : goal.returns-clause-stays
returns-clause-stays g c = c.loop-item.invariant.stays

pub returns-in_err-push-in-Ok-clause-grows : goal.returns-in_err-push-in-Ok-clause-grows
returns-in_err-push-in-Ok-clause-grows g c =
    grows_then c.args.bench.now c.loop-item.bench c.expand.new.bench.work c.loop-item.invariant.stays
    (record { trees = c.expand.ensures.keeps; names = c.expand.ensures.names; regions = c.expand.ensures.regions; added = c.expand.ensures.added })

pub returns-in-Err-At-clause-grows : goal.returns-in-Err-At-clause-grows
returns-in-Err-At-clause-grows g c =
    grows_then c.args.bench.now c.loop-item.bench c.expand.new.bench.work c.loop-item.invariant.stays
    (record { trees = c.expand.ensures.keeps; names = c.expand.ensures.names; regions = c.expand.ensures.regions; added = c.expand.ensures.added })

pub returns-in-Err-Full-clause-grows : goal.returns-in-Err-Full-clause-grows
returns-in-Err-Full-clause-grows g c =
    grows_then c.args.bench.now c.loop-item.bench c.expand.new.bench.work c.loop-item.invariant.stays
    (record { trees = c.expand.ensures.keeps; names = c.expand.ensures.names; regions = c.expand.ensures.regions; added = c.expand.ensures.added })

pub returns-in-Err-Memory-clause-grows : goal.returns-in-Err-Memory-clause-grows
returns-in-Err-Memory-clause-grows g c =
    grows_then c.args.bench.now c.loop-item.bench c.expand.new.bench.work c.loop-item.invariant.stays
    (record { trees = c.expand.ensures.keeps; names = c.expand.ensures.names; regions = c.expand.ensures.regions; added = c.expand.ensures.added })

pub returns-then-is_some-clause-noted : goal.returns-then-is_some-clause-noted
returns-then-is_some-clause-noted g c = λ known ls s notes l editions ms knows stands own h can few.
    never_left c.args.bench.now.work c.args.bench.now.region c.args.unit c.args.number s (declared_as c.args.so_far c.args.left.now) l h (sym c.is_some.ensures ∙ c.if-is_some.true)

pub returns-in-Err-At-clause-noted : goal.returns-in-Err-At-clause-noted
returns-in-Err-At-clause-noted g c = λ known ls s notes l editions ms knows stands own h can still.
    let none = none_of c.args.so_far.fault (sym c.is_some.ensures ∙ c.if-is_some.false) in let e = c.expand in let i = c.loop-item in
    let few = sym c.is_large.ensures ∙ c.if-is_large.false in
    let step = (subst (λ (x : ExpandFault). Step i.bench e.new.bench c.args.number i.budget e.new.budget i.trace e.new.trace c.item-item.result (Err x)) c.in-Err-At.field-0-is c.in-Err-At.ensures.expanded) in
    let noted = (subst (λ (x : ExpandFault). StepNoting i.bench e.new.bench c.args.number i.budget e.new.budget i.trace e.new.trace c.item-item.result (Err x)) c.in-Err-At.field-0-is c.in-Err-At.ensures.noted) in
    at_notes c.args.bench.now i.bench c.args.unit c.args.number (declared_as c.args.so_far c.args.left.now) none i.invariant.stays i.item-index c.args.total.now i.total i.budget i.trace i.items i.invariant.so c.as_slice-item-items.result.now c.as_slice-item-items.ensures c.item-item.result c.loop-item-test.true c.item-item.is
    e.new.bench e.new.budget e.new.trace e.ensures.keeps e.ensures.names e.ensures.added e.ensures.regions e.ensures.region c.in-Err-At.fault few step noted c.broken-in-Err-At.result c.broken-in-Err-At.ensures.notes
    known ls s notes l editions ms knows stands own h can

pub returns-clause-noted : goal.returns-clause-noted
returns-clause-noted g c = λ known ls s notes l editions ms knows stands own h can few.
    let none = none_of c.args.so_far.fault (sym c.is_some.ensures ∙ c.if-is_some.false) in let i = c.loop-item in
    elim c.loop-item-test.branch [
      | else-loop-item-test w ↦
          notes_by c.args.bench.now i.bench c.args.unit c.args.number (declared_as c.args.so_far c.args.left.now) none i.item-index c.args.total.now i.total i.budget i.trace i.items i.invariant.so
          (subst (λ (xs : List code_item.Item). length xs ≤ i.item-index) c.as_slice-item-items.ensures w.loop-item-test.false) known ls s notes l editions ms knows stands own h can
      | then-loop-item-test+then-is_large w ↦ absurd (true≢false (sym w.if-is_large.true ∙ w.is_large.ensures ∙ few))
    ]

pub returns-then-is_some-clause-editions : goal.returns-then-is_some-clause-editions
returns-then-is_some-clause-editions g c = λ ls s notes r editions ms stands own h may. may.tells

pub returns-in-Err-At-clause-editions : goal.returns-in-Err-At-clause-editions
returns-in-Err-At-clause-editions g c = λ ls s notes r editions ms stands own h may.
    let none = none_of c.args.so_far.fault (sym c.is_some.ensures ∙ c.if-is_some.false) in let e = c.expand in let i = c.loop-item in
    let few = sym c.is_large.ensures ∙ c.if-is_large.false in
    let noted = (subst (λ (x : ExpandFault). StepNoting i.bench e.new.bench c.args.number i.budget e.new.budget i.trace e.new.trace c.item-item.result (Err x)) c.in-Err-At.field-0-is c.in-Err-At.ensures.noted) in
    at_tells c.args.bench.now i.bench c.args.unit c.args.number (declared_as c.args.so_far c.args.left.now) none i.invariant.stays i.item-index c.args.total.now i.total i.budget i.trace i.items i.invariant.so c.as_slice-item-items.result.now c.as_slice-item-items.ensures c.item-item.result c.loop-item-test.true c.item-item.is
    e.new.bench e.new.budget e.new.trace e.ensures.keeps e.ensures.names e.ensures.added e.ensures.regions e.ensures.region few c.in-Err-At.fault noted ls s notes r editions ms stands own h may

pub returns-clause-editions : goal.returns-clause-editions
returns-clause-editions g c = λ ls s notes r editions ms stands own h may.
    let none = none_of c.args.so_far.fault (sym c.is_some.ensures ∙ c.if-is_some.false) in let i = c.loop-item in
    tells_by c.args.bench.now i.bench c.args.unit c.args.number (declared_as c.args.so_far c.args.left.now) none i.item-index c.args.total.now i.total i.budget i.trace i.items i.invariant.so ls s notes r editions ms stands own h may
