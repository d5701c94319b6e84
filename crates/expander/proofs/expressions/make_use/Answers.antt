use Rattle.std.proofs.Common.{◌+◌, List, true, Ok, Err, sym, ap, ◌∙◌, subst}
use Rattle.scheme_model.specs.Order.{use_of, comparisons}
use Rattle.scheme_model.specs.Requirements.{Known}
use Rattle.core_tree.specs.Names.{AllMatch}
use Rattle.unit_scopes.specs.declared.uses.Comparison.{Comparison}
use Rattle.unit_scopes.specs.declared.scope.UnitScope.{UnitScope}
use Rattle.unit_scopes.specs.Outcomes.{WorksOn}
use Rattle.unit_scopes.specs.Used.{ComparisonFor, InstanceFor}
use Rattle.feature_requirements.specs.declared.fault.ExpandFault.TheVariants as fault
use Rattle.expander.specs.Ready.{rules_asked, use_met}
use Rattle.unit_scopes.proofs.OutcomeLaws.{leaves_itself}
use Rattle.expander.proofs.UseSteps.{use_ends, use_breaks}
use Rattle.expander.proofs.expressions.make_use.Goals as goal
use Rattle.noted_steps.specs.Noting.{noting}
use Rattle.noted_steps.specs.Used.{compared_first}
use Rattle.noted_steps.proofs.UsesMet.{left_behind}
use Rattle.noted_steps.proofs.NodeLaws.{here_err}
use Rattle.noted_steps.proofs.OutcomeLaws.{here_after, noted_stays}

pub returns-in_err-comparisons-clause-used : goal.returns-in_err-comparisons-clause-used
returns-in_err-comparisons-clause-used c = λ known ls s fs keyword m ts tail e at for.
    let w = c.args.work.now in
    let u = c.args.units.now in
    let v = c.compare_use.new.units in
    let region = c.args.region.now in
    here_err (WorksOn w region) w w region u v ls c.from_residual.result fault.Memory (use_met known c.args.at.here fs keyword m ts tail s) c.from_residual.ensures.1 (leaves_itself w region u e.form.few_nodes)

pub apply_use-requires-clause-usable : goal.apply_use-requires-clause-usable
apply_use-requires-clause-usable c =
    let l = c.requires.usable in
    let known : Known = λ n. true in
    let compared = c.in_ok-comparisons.ensures.compared known l.layout l.state l.frames l.keyword l.transformer l.parts l.tail l.stands l.there l.used in
    record {
      layout = l.layout;
      state = compared_first (noting known) l.frames l.transformer l.parts l.tail (rules_asked known l.keyword l.state);
      frames = l.frames;
      stands = compared.2;
      there = l.there;
      keyword = l.keyword;
      transformer = l.transformer;
      parts = l.parts;
      tail = l.tail;
      used = l.used;
    }

pub returns-in_err-given-clause-used : goal.returns-in_err-given-clause-used
returns-in_err-given-clause-used c = λ known ls s fs keyword m ts tail e at for.
    let work = c.args.work.now in
    let new = c.apply_use.new.work in
    let region = c.args.region.now in
    let u = c.args.units.now in
    let w = c.compare_use.new.units in
    let v = c.apply_use.new.units in
    let t = rules_asked known keyword s in
    let a = compared_first (noting known) fs m ts tail t in
    let compared = c.in_ok-comparisons.ensures.compared known ls s fs keyword m ts tail e at for in
    let are = subst (λ (xs : List Comparison). AllMatch (ComparisonFor work ls c.in_ok-comparisons.field-0-0 c.args.at.scope) xs (comparisons (noting known) fs m ts tail t)) (sym c.deref.ensures.value) compared.1 in
    let x = c.in_err-given.field-0.0 in
    let ends = c.in_err-given.ensures.used known ls t fs keyword m ts tail c.in_ok-comparisons.field-0-0 compared.2 at for are in
    here_err (WorksOn new region) work new region u v ls c.from_residual-in_err-given.result x (use_met known c.args.at.here fs keyword m ts tail s) c.from_residual-in_err-given.ensures.1
    (here_after (WorksOn new region) work work new region u w v ls a (Err x) (use_met known c.args.at.here fs keyword m ts tail s) (noted_stays work region u w ls s a e c.compare_use.ensures.rest compared.2)
    (use_breaks known c.args.at.here fs keyword m ts tail s work new region w v v ls (InstanceFor new region v.unit v.form.number) (WorksOn new region) x ends))

pub meet-requires-clause-look : goal.meet-requires-clause-look
meet-requires-clause-look c =
    let l = c.requires.usable in
    let known : Known = λ n. true in
    let t = rules_asked known l.keyword l.state in
    let compared = c.in_ok-comparisons.ensures.compared known l.layout l.state l.frames l.keyword l.transformer l.parts l.tail l.stands l.there l.used in
    let are = subst (λ (xs : List Comparison). AllMatch (ComparisonFor c.args.work.now l.layout c.in_ok-comparisons.field-0-0 c.args.at.scope) xs (comparisons (noting known) l.frames l.transformer l.parts l.tail t)) (sym c.deref.ensures.value) compared.1 in
    let ends = c.in_ok-given.ensures.used known l.layout t l.frames l.keyword l.transformer l.parts l.tail c.in_ok-comparisons.field-0-0 compared.2 l.there l.used are in
    record { layout = l.layout; state = (use_of (noting known) c.args.at.here l.frames l.keyword l.transformer l.parts l.tail t).1; frames = l.frames; stands = ends.1.stands; at = l.there }

pub meet-requires-clause-waits : goal.meet-requires-clause-waits
meet-requires-clause-waits c =
    let l = c.requires.usable in
    let known : Known = λ n. true in
    let t = rules_asked known l.keyword l.state in
    let compared = c.in_ok-comparisons.ensures.compared known l.layout l.state l.frames l.keyword l.transformer l.parts l.tail l.stands l.there l.used in
    let are = subst (λ (xs : List Comparison). AllMatch (ComparisonFor c.args.work.now l.layout c.in_ok-comparisons.field-0-0 c.args.at.scope) xs (comparisons (noting known) l.frames l.transformer l.parts l.tail t)) (sym c.deref.ensures.value) compared.1 in
    let ends = c.in_ok-given.ensures.used known l.layout t l.frames l.keyword l.transformer l.parts l.tail c.in_ok-comparisons.field-0-0 compared.2 l.there l.used are in
    (ends.0.met, ends.3.1)

pub returns-in_err-meet-clause-used : goal.returns-in_err-meet-clause-used
returns-in_err-meet-clause-used c = λ known ls s fs keyword m ts tail e at for.
    let work = c.args.work.now in
    let new = c.apply_use.new.work in
    let region = c.args.region.now in
    let u = c.args.units.now in
    let w = c.compare_use.new.units in
    let v = c.apply_use.new.units in
    let t = rules_asked known keyword s in
    let a = compared_first (noting known) fs m ts tail t in
    let p = use_met known c.args.at.here fs keyword m ts tail s in
    let compared = c.in_ok-comparisons.ensures.compared known ls s fs keyword m ts tail e at for in
    let are = subst (λ (xs : List Comparison). AllMatch (ComparisonFor work ls c.in_ok-comparisons.field-0-0 c.args.at.scope) xs (comparisons (noting known) fs m ts tail t)) (sym c.deref.ensures.value) compared.1 in
    let ends = c.in_ok-given.ensures.used known ls t fs keyword m ts tail c.in_ok-comparisons.field-0-0 compared.2 at for are in
    here_err (WorksOn new region) work new region u c.meet.new.units ls c.from_residual-in_err-meet.result fault.Memory p c.from_residual-in_err-meet.ensures.1
    (here_after (WorksOn new region) work work new region u w c.meet.new.units ls a (Err fault.Memory) p (noted_stays work region u w ls s a e c.compare_use.ensures.rest compared.2)
    (left_behind work new region w v ls (use_of (noting known) c.args.at.here fs keyword m ts tail t).1 ends.1))

pub returns-clause-used : goal.returns-clause-used
returns-clause-used c = λ known ls s fs keyword m ts tail e at for.
    let work = c.args.work.now in
    let new = c.apply_use.new.work in
    let region = c.args.region.now in
    let u = c.args.units.now in
    let w = c.compare_use.new.units in
    let v = c.apply_use.new.units in
    let t = rules_asked known keyword s in
    let a = compared_first (noting known) fs m ts tail t in
    let p = use_met known c.args.at.here fs keyword m ts tail s in
    let compared = c.in_ok-comparisons.ensures.compared known ls s fs keyword m ts tail e at for in
    let are = subst (λ (xs : List Comparison). AllMatch (ComparisonFor work ls c.in_ok-comparisons.field-0-0 c.args.at.scope) xs (comparisons (noting known) fs m ts tail t)) (sym c.deref.ensures.value) compared.1 in
    let ends = c.in_ok-given.ensures.used known ls t fs keyword m ts tail c.in_ok-comparisons.field-0-0 compared.2 at for are in
    let met = c.in_ok-meet.ensures.met known ls (use_of (noting known) c.args.at.here fs keyword m ts tail t).1 fs ends.0.met ends.1.stands at ends.3.1 in
    here_after (WorksOn new region) work work new region u w c.meet.new.units ls a (Ok c.in_ok-given.given.tree) p (noted_stays work region u w ls s a e c.compare_use.ensures.rest compared.2)
    (use_ends known c.args.at.here fs keyword m ts tail s work new region w v c.meet.new.units ls c.in_ok-given.given ends met c.in_ok-meet.ensures.rest)

pub returns-clause-counted : goal.returns-clause-counted
returns-clause-counted c =
    let one = c.in_ok-given.ensures.counted in
    ap (λ (x : UnitScope). x.form.budget.uses) c.in_ok-meet.ensures.rest ∙ (one ∙ ap (λ (x : UnitScope). x.form.budget.uses + 1) c.compare_use.ensures.rest)

pub returns-clause-locals : goal.returns-clause-locals
returns-clause-locals c = ap (λ (x : UnitScope). x.form.budget.locals) c.in_ok-meet.ensures.rest ∙ (c.in_ok-given.ensures.locals ∙ ap (λ (x : UnitScope). x.form.budget.locals) c.compare_use.ensures.rest)
