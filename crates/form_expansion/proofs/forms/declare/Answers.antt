-- The tree of the form is added, and then gone through.
use Rattle.std.proofs.Common.{refl}
use Rattle.unit_sources.specs.UnitsRead.{form_of}
use Rattle.unit_scopes.specs.Units.{declared}
use Rattle.unit_scopes.proofs.FreshLaws.{none_count}
use Rattle.form_expansion.specs.Forms.{known_by, taken}
use Rattle.form_expansion.specs.declared.forms.Bench.{Bench}
use Rattle.root_laws.proofs.RootRuns.{declared_root}
use Rattle.form_expansion.proofs.BenchLaws.{forgets_by, grows_then, stays_forgotten, stays_on}
use Rattle.form_expansion.proofs.FormSteps.{passes_from, passes_outside}
use Rattle.form_expansion.proofs.forms.declare.Goals as goal

pub declare_tree-requires-clause-stands : goal.declare_tree-requires-clause-stands
declare_tree-requires-clause-stands g c =
    let at = c.requires.stands in let none = c.blank-2.ensures in let k = c.blank-2.result in record {
      layout = at.layout;
      state = at.state;
      notes = at.notes;
      stands = (c.in_ok-tree.ensures.stands at.layout at.state at.notes at.stands).stands;
      counts = none_count c.seeded.new.bench.work at.state c.args.number k.so_far.budget k.so_far.trace at.fresh none.uses none.nodes none.locals none.definitions none.keywords none.met;
    }

pub returns-clause-passes : goal.returns-clause-passes
returns-clause-passes g c = λ known ls s notes off knows stands own fresh.
    let b = c.args.bench.now in let none = c.blank-2.ensures in let k = c.blank-2.result in let n = c.args.number in
    let t = taken c.args.unit n (form_of c.args.form.now) in
    let m = c.seeded.new.bench in
    let root = declared_root known n t notes s stands.macros stands.notes in
    let stay = c.in_ok-tree.ensures.stays in
    passes_outside b c.declare_tree.new.bench c.forget_locals.new.self (forgets_by c.declare_tree.new.bench c.forget_locals.new.self c.forget_locals.ensures.after c.forget_locals.ensures.all_own c.forget_locals.ensures.rests) c.args.unit n s (declared known n t notes s)
    c.in_ok-declared.declared
    (passes_from b m c.declare_tree.new.bench stay.trees stay.names stay.region c.args.unit n s own (declared known n t notes s) c.in_ok-declared.declared
    (c.in_ok-declared.ensures.passes known ls s notes t (stay.libraries known knows) (c.in_ok-tree.ensures.stands ls s notes stands).stands
    (none_count m.work s n k.so_far.budget k.so_far.trace fresh none.uses none.nodes none.locals none.definitions none.keywords none.met) c.in_ok-tree.ensures.tree)) root.0 root.1

pub returns-clause-few : goal.returns-clause-few
returns-clause-few g c =
    let b = c.args.bench.now in let none = c.blank-2.ensures in let k = c.blank-2.result in let n = c.args.number in let at = c.requires.stands in
    let known = known_by b.scope.libraries in let t = taken c.args.unit n (form_of c.args.form.now) in
    (c.in_ok-declared.ensures.passes known at.layout at.state at.notes t (c.in_ok-tree.ensures.stays.libraries known (λ m _. refl)) (c.in_ok-tree.ensures.stands at.layout at.state at.notes at.stands).stands
    (none_count c.seeded.new.bench.work at.state n k.so_far.budget k.so_far.trace at.fresh none.uses none.nodes none.locals none.definitions none.keywords none.met) c.in_ok-tree.ensures.tree).form_is.counts.few_nodes

pub returns-clause-stays : goal.returns-clause-stays
returns-clause-stays g c =
    let b = c.args.bench.now in let m = c.seeded.new.bench in let d = c.declare_tree.new.bench in
    let f = forgets_by d c.forget_locals.new.self c.forget_locals.ensures.after c.forget_locals.ensures.all_own c.forget_locals.ensures.rests in
    let e : Bench = record d { scope = c.forget_locals.new.self } in
    stays_on b m e c.in_ok-tree.ensures.stays (stays_on m d e c.in_ok-declared.ensures.stays (stays_forgotten d c.forget_locals.new.self c.in_ok-declared.ensures.stays.opened f))

pub forget_locals-requires : goal.forget_locals-requires
forget_locals-requires g c = c.in_ok-declared.ensures.stays.first (c.in_ok-tree.ensures.stays.first c.requires.stands.first)

pub declare_tree-requires-clause-region : goal.declare_tree-requires-clause-region
declare_tree-requires-clause-region g c = c.in_ok-tree.ensures.stays.opened

pub returns-in_err-declared-clause-grows : goal.returns-in_err-declared-clause-grows
returns-in_err-declared-clause-grows g c = grows_then c.args.bench.now c.seeded.new.bench c.declare_tree.new.bench.work c.in_ok-tree.ensures.stays c.declare_tree.ensures.grows

pub returns-clause-grows : goal.returns-clause-grows
returns-clause-grows g c = grows_then c.args.bench.now c.seeded.new.bench c.declare_tree.new.bench.work c.in_ok-tree.ensures.stays c.declare_tree.ensures.grows
