-- Each form more is finished, and stands for what came of it.
use Rattle.std.proofs.Common.{◌≡◌, suc, ◌∷◌, [], ◌++◌, ◌<◌, slice_get, Some, List, ℕ, length, sym, ap, ◌∙◌, subst, arith, true≢false}
use Rattle.std.proofs.lemmas.List.{length_push}
use Rattle.std.proofs.lemmas.Iterator.Adapters.{YieldsList-from_vec}
use Rattle.std.proofs.lemmas.Iterator.Consumers.{YieldsList-from_enumerate, YieldsList-turn, YieldsList-end}
use Rattle.core_tree.specs.declared.units.UnitForm.{UnitForm}
use Rattle.form_expansion.proofs.BenchLaws.{grows_then, stays_itself, stays_on}
use Rattle.read_documents.proofs.Enumerated.{next_placed, all_placed}
use Rattle.form_expansion.proofs.FormsHold.{held_bench, is_few}
use Rattle.form_expansion.proofs.FormLoop.{Ended}
use Rattle.form_expansion.proofs.FormsFinished.{AreFinished, AllFrom, none_finished, can_finish_at, finished_at, all_finished_formed, none_from, next_from, all_from}
use Rattle.form_expansion.proofs.forms.finish_all.Goals as goal
use Rattle.form_expansion.proofs.forms.finish_all.Goals.{In-Some, in-None, in-Some+then-is_large}
use Rattle.form_expansion.proofs.forms.finish_all.Given.{Over}

-- the form's place, and what was gone through of it
turn : (g : Over) (c : In-Some g) → (c.in-Some.place ≡ length c.loop-place.yielded) × (slice_get c.args.declared.items (length c.loop-place.yielded) ≡ Some c.in-Some.form) × (length c.loop-place.yielded < length c.args.declared.items)
turn g c =
    let l = c.loop-place in let ds = c.args.declared.items in
    next_placed ds (length l.yielded) (c.in-Some.place, c.in-Some.form)
    (YieldsList-turn (YieldsList-from_enumerate (YieldsList-from_vec ds (cc) (cc)) (cc)) l.yielded l.place-iterator l.yielded_by c.next.result c.next.new.self (c.in-Some.place, c.in-Some.form) c.in-Some.is c.next.ensures.steps)

pub loop-place-init : goal.loop-place-init
loop-place-init g c = record {
  finished =
      subst (λ (cs : List UnitForm). AreFinished c.args.bench.now c.args.unit 0 c.args.declared.items cs) (sym c.new-forms.ensures)
      (none_finished c.args.bench.now c.args.unit c.args.declared.items c.requires.held);
  count = ap (λ (cs : List UnitForm). length cs) c.new-forms.ensures;
  stays = stays_itself c.args.bench.now c.requires.region;
  so =
      subst (λ (cs : List UnitForm). AllFrom c.args.bench.now c.args.bench.now c.args.unit c.args.declared.items c.args.total.now c.args.total.now 0 c.args.steps.now c.args.steps.now cs) (sym c.new-forms.ensures)
      (none_from c.args.bench.now c.args.unit c.args.declared.items c.args.total.now c.args.steps.now);
}

pub finish_form-requires-clause-stands : goal.finish_form-requires-clause-stands
finish_form-requires-clause-stands g c =
    let l = c.loop-place in let ds = c.args.declared.items in
    let p = turn g (goal.at.finish_form-requires-clause-stands g c).In-Some in
    can_finish_at l.bench c.args.unit (length l.yielded) ds (l.invariant.stays.first c.requires.first) l.invariant.finished.held c.in_ok-number.number (c.in_ok-number.ensures ∙ p.0) c.in-Some.form p.1

pub loop-place-preserved : goal.loop-place-preserved
loop-place-preserved g c =
    let l = c.loop-place in let ds = c.args.declared.items in let e = c.in_ok-form.ensures in let k = c.in_ok-form.form in let spent = c.in_ok-form.field-0-1 in
    let p = turn g (goal.at.loop-place-preserved g c).In-Some in
    let done : Ended l.bench c.finish_form.new.bench c.args.unit (length l.yielded) c.in-Some.form l.total c.finish_form.new.total l.steps c.finish_form.new.steps spent k =
    subst (λ (m : ℕ). Ended l.bench c.finish_form.new.bench c.args.unit m c.in-Some.form l.total c.finish_form.new.total l.steps c.finish_form.new.steps spent k) (c.in_ok-number.ensures ∙ p.0) e.ends in
    let x = finished_at l.bench c.finish_form.new.bench c.args.unit (length l.yielded) ds l.forms k l.invariant.finished e.stays.trees e.stays.names c.in-Some.form p.1 l.total c.finish_form.new.total l.steps c.finish_form.new.steps spent done in
    let next : suc (length l.yielded) ≡ length (l.yielded ++ (c.in-Some.place, c.in-Some.form) ∷ []) = let long = length_push l.yielded (c.in-Some.place, c.in-Some.form) in omega (arith, long) in
    record {
      finished =
          subst (λ (cs : List UnitForm). AreFinished c.finish_form.new.bench c.args.unit (length (l.yielded ++ (c.in-Some.place, c.in-Some.form) ∷ [])) ds cs) (sym c.in_ok-push.ensures.ok)
          (subst (λ (n : ℕ). AreFinished c.finish_form.new.bench c.args.unit n ds (l.forms ++ k ∷ [])) next x);
      count = ap (λ (cs : List UnitForm). length cs) c.in_ok-push.ensures.ok ∙ (let one = length_push l.forms k in let at = l.invariant.count in omega (arith, one, at, next));
      stays = stays_on c.args.bench.now l.bench c.finish_form.new.bench l.invariant.stays e.stays;
      so =
          subst (λ (cs : List UnitForm). AllFrom c.args.bench.now c.finish_form.new.bench c.args.unit ds c.args.total.now c.finish_form.new.total (length (l.yielded ++ (c.in-Some.place, c.in-Some.form) ∷ [])) c.args.steps.now c.finish_form.new.steps cs) (sym c.in_ok-push.ensures.ok)
          (subst (λ (n : ℕ). AllFrom c.args.bench.now c.finish_form.new.bench c.args.unit ds c.args.total.now c.finish_form.new.total n c.args.steps.now c.finish_form.new.steps (l.forms ++ k ∷ [])) next
          (next_from c.args.bench.now l.bench c.finish_form.new.bench c.args.unit ds c.args.total.now l.total (length l.yielded) c.args.steps.now l.steps l.forms l.invariant.so l.invariant.stays e.stays (sym c.is_large.ensures ∙ c.if-is_large.false)
          c.in-Some.form p.1 k c.finish_form.new.total c.finish_form.new.steps spent e.blank e.same done));
    }

pub finish_form-requires-clause-few : goal.finish_form-requires-clause-few
finish_form-requires-clause-few g c = is_few c.loop-place.total (sym c.is_large.ensures ∙ c.if-is_large.false)

pub returns-clause-formed : goal.returns-clause-formed
returns-clause-formed g c = λ few.
    let l = c.loop-place in let ds = c.args.declared.items in
    elim c.match-next.branch [
      | in-None w ↦
          let t = YieldsList-end (YieldsList-from_enumerate (YieldsList-from_vec ds (cc) (cc)) (cc)) l.yielded l.place-iterator l.yielded_by c.next.result c.next.new.self w.in-None.is c.next.ensures.steps in
          all_finished_formed l.bench c.args.unit (length l.yielded) ds l.forms (all_placed ds (length l.yielded) t.1) l.invariant.finished
      | in-Some+then-is_large w ↦ absurd (true≢false (sym w.if-is_large.true ∙ w.is_large.ensures ∙ few))
    ]

pub returns-clause-bench : goal.returns-clause-bench
returns-clause-bench g c = held_bench c.loop-place.bench c.args.unit (length c.loop-place.yielded) c.args.declared.items c.loop-place.invariant.stays.opened c.loop-place.invariant.finished.held

pub returns-clause-stays : goal.returns-clause-stays
returns-clause-stays g c = c.loop-place.invariant.stays

pub finish_form-requires-clause-region : goal.finish_form-requires-clause-region
finish_form-requires-clause-region g c = c.loop-place.invariant.stays.opened

pub returns-clause-finishes : goal.returns-clause-finishes
returns-clause-finishes g c =
    let l = c.loop-place in let ds = c.args.declared.items in
    all_from c.args.bench.now l.bench c.args.unit ds c.args.total.now l.total (length l.yielded) c.args.steps.now l.steps l.forms l.invariant.so
    (λ few.
    elim c.match-next.branch [
      | in-None w ↦
          let t = YieldsList-end (YieldsList-from_enumerate (YieldsList-from_vec ds (cc) (cc)) (cc)) l.yielded l.place-iterator l.yielded_by c.next.result c.next.new.self w.in-None.is c.next.ensures.steps in
          all_placed ds (length l.yielded) t.1
      | in-Some+then-is_large w ↦ absurd (true≢false (sym w.if-is_large.true ∙ w.is_large.ensures ∙ few))
    ])

pub returns-clause-count : goal.returns-clause-count
returns-clause-count g c = λ few.
    let l = c.loop-place in let ds = c.args.declared.items in
    let at = l.invariant.count in
    elim c.match-next.branch [
      | in-None w ↦
          let t = YieldsList-end (YieldsList-from_enumerate (YieldsList-from_vec ds (cc) (cc)) (cc)) l.yielded l.place-iterator l.yielded_by c.next.result c.next.new.self w.in-None.is c.next.ensures.steps in
          let all = all_placed ds (length l.yielded) t.1 in omega (arith, at, all, c.args.declared.ok.0)
      | in-Some+then-is_large w ↦ absurd (true≢false (sym w.if-is_large.true ∙ w.is_large.ensures ∙ few))
    ]

pub returns-in_err-form-clause-grows : goal.returns-in_err-form-clause-grows
returns-in_err-form-clause-grows g c = grows_then c.args.bench.now c.loop-place.bench c.finish_form.new.bench.work c.loop-place.invariant.stays c.finish_form.ensures.grows

pub returns-in_err-push-clause-grows : goal.returns-in_err-push-clause-grows
returns-in_err-push-clause-grows g c = grows_then c.args.bench.now c.loop-place.bench c.finish_form.new.bench.work c.loop-place.invariant.stays c.finish_form.ensures.grows
