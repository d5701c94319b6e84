use Rattle.std.proofs.Common.{◌≡◌, ℕ, suc, ◌+◌, ◌≤◌, List, drop, length, sym, ap, ◌∙◌, subst, arith, true≢false}
use Rattle.std.proofs.lemmas.List.{length_push}
use Rattle.scheme_model.specs.Ident.{Written}
use Rattle.scheme_model.specs.ScopedProgram.{forms_over}
use Rattle.unit_sources.specs.UnitsRead.{forms_of}
use Rattle.form_expansion.specs.declared.forms.Declared as code
use Rattle.form_expansion.proofs.BenchLaws.{grows_then, stays_itself, stays_on}
use Rattle.form_expansion.specs.Forms.{used_by}
use Rattle.form_expansion.proofs.FormsHold.{used_more, Holds, PassedFrom, none_held, next_form, none_from, next_from, all_passed, dropped_all, can_pass, read_here, few_more}
use Rattle.form_expansion.proofs.forms.declare_all.Goals as goal
use Rattle.form_expansion.proofs.forms.declare_all.Goals.{else-loop-place-test, then-loop-place-test+then-is_large}

pub loop-place-init : goal.loop-place-init
loop-place-init g c = record {
  holds = subst (λ (ds : List code.Declared). Holds c.args.bench.now c.args.unit ds) (sym c.new-all.ensures.items) (none_held c.args.bench.now c.args.unit c.requires.begun);
  count = ap (λ (ds : List code.Declared). length ds) c.new-all.ensures.items;
  within = omega arith;
  few = omega (arith, c.requires.nothing);
  stays = stays_itself c.args.bench.now c.requires.begun.region;
  so =
      subst (λ (n : ℕ). PassedFrom c.args.bench.now c.args.bench.now c.args.unit n 0 c.args.forms.now c.new-all.result.items) (sym c.requires.nothing)
      (subst (λ (ds : List code.Declared). PassedFrom c.args.bench.now c.args.bench.now c.args.unit 0 0 c.args.forms.now ds) (sym c.new-all.ensures.items)
      (none_from c.args.bench.now c.args.unit c.args.forms.now c.requires.begun.region c.requires.begun.first));
  steps = subst (λ (ds : List code.Declared). c.args.steps.now ≡ c.args.steps.now + used_by ds) (sym c.new-all.ensures.items) (omega arith);
}

pub declare-requires-clause-read : goal.declare-requires-clause-read
declare-requires-clause-read g c = read_here c.args.forms.now c.requires.read c.loop-place.place c.index-forms-place.result c.loop-place-test.true c.index-forms-place.is

pub declare-requires-clause-stands : goal.declare-requires-clause-stands
declare-requires-clause-stands g c =
    let i = c.loop-place.invariant in
    can_pass c.loop-place.bench c.args.unit c.loop-place.all.items (i.stays.first c.requires.begun.first) i.holds c.in_ok-number.number (omega (arith, i.count, c.in_ok-number.ensures))

pub loop-place-preserved : goal.loop-place-preserved
loop-place-preserved g c =
    let l = c.loop-place in let i = l.invariant in let d = c.in_ok-declared.declared in let e = c.in_ok-declared.ensures in
    let items = c.in_ok-push.ensures.items in let long = length_push l.all.items d in
    record {
      holds = subst (λ (ds : List code.Declared). Holds c.declare.new.bench c.args.unit ds) (sym items)
          (next_form l.bench c.args.unit l.all.items i.holds d c.declare.new.bench c.in_ok-number.number (c.in_ok-number.ensures ∙ sym i.count) c.index-forms-place.result e.blank e.same e.passes);
      count = ap (λ (ds : List code.Declared). length ds) items ∙ (let at = i.count in omega (arith, long, at));
      within = let here = c.loop-place-test.true in omega (arith, here);
      few = few_more l.total d.so_far.budget.nodes (sym c.is_large.ensures ∙ c.if-is_large.false) e.few;
      stays = stays_on c.args.bench.now l.bench c.declare.new.bench i.stays e.stays;
      so =
          subst (λ (n : ℕ). PassedFrom c.args.bench.now c.declare.new.bench c.args.unit (l.total + d.so_far.budget.nodes) n c.args.forms.now c.push.new.self.items) (let at : suc l.place ≡ l.place + 1 = omega arith in at)
          (subst (λ (ds : List code.Declared). PassedFrom c.args.bench.now c.declare.new.bench c.args.unit (l.total + d.so_far.budget.nodes) (suc l.place) c.args.forms.now ds) (sym items)
          (next_from c.args.bench.now l.bench c.declare.new.bench c.args.unit l.total l.place c.args.forms.now l.all.items i.so i.stays (sym i.count) (sym c.is_large.ensures ∙ c.if-is_large.false) d
          c.in_ok-number.number c.in_ok-number.ensures c.index-forms-place.result c.loop-place-test.true c.index-forms-place.is e.blank e.same e.passes));
      steps =
          let more = e.steps in let was = i.steps in let one = used_more l.all.items d in
          subst (λ (ds : List code.Declared). c.declare.new.steps ≡ c.args.steps.now + used_by ds) (sym items) (omega (arith, more, was, one));
    }

pub declare-requires-clause-region : goal.declare-requires-clause-region
declare-requires-clause-region g c = c.loop-place.invariant.stays.opened

pub overflow_add-total : goal.overflow_add-total
overflow_add-total g c =
    let few : c.loop-place.total + c.in_ok-declared.declared.so_far.budget.nodes ≤ 700000 = few_more c.loop-place.total c.in_ok-declared.declared.so_far.budget.nodes (sym c.is_large.ensures ∙ c.if-is_large.false) c.in_ok-declared.ensures.few in
    omega arith

pub returns-clause-held : goal.returns-clause-held
returns-clause-held g c = c.loop-place.invariant.holds.held

pub returns-clause-stays : goal.returns-clause-stays
returns-clause-stays g c = c.loop-place.invariant.stays

pub returns-clause-passes : goal.returns-clause-passes
returns-clause-passes g c = λ known ls s knows stands own fresh.
    let l = c.loop-place in let fs = c.args.forms.now in
    all_passed known c.args.unit (forms_over (Written c.args.unit) c.args.unit 0 (forms_of fs)) s l.bench l.total l.place l.all.items (drop l.place (forms_of fs)) (l.invariant.so known ls s knows stands own fresh)
    (λ few.
    elim c.loop-place-test.branch [
      | else-loop-place-test w ↦ dropped_all fs l.place w.loop-place-test.false
      | then-loop-place-test+then-is_large w ↦ absurd (true≢false (sym w.if-is_large.true ∙ w.is_large.ensures ∙ few))
    ])

pub returns-clause-count : goal.returns-clause-count
returns-clause-count g c = λ few.
    let l = c.loop-place in
    let at = l.invariant.count in
    let within = l.invariant.within in
    elim c.loop-place-test.branch [
      | else-loop-place-test w ↦ omega (arith, at, within, w.loop-place-test.false, l.all.ok.0)
      | then-loop-place-test+then-is_large w ↦ absurd (true≢false (sym w.if-is_large.true ∙ w.is_large.ensures ∙ few))
    ]

pub returns-in_err-declared-clause-grows : goal.returns-in_err-declared-clause-grows
returns-in_err-declared-clause-grows g c = grows_then c.args.bench.now c.loop-place.bench c.declare.new.bench.work c.loop-place.invariant.stays c.declare.ensures.grows

pub returns-in_err-push-clause-grows : goal.returns-in_err-push-clause-grows
returns-in_err-push-clause-grows g c = grows_then c.args.bench.now c.loop-place.bench c.declare.new.bench.work c.loop-place.invariant.stays c.declare.ensures.grows
