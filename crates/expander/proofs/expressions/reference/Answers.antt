use Rattle.std.proofs.Common.{◌≡◌, ℕ, ◌≤◌, [], ◌∷◌, Result, Ok, Err, refl, sym, ap, subst, ◌∙◌}
use Rattle.scheme_model.specs.Cores.{Core, Ref}
use Rattle.scheme_model.specs.Steps.{Broken, Step, done}
use Rattle.scheme_model.specs.Order.{Headed, head_of, target_of}
use Rattle.scheme_model.specs.Expression.{node, reference}
use Rattle.core_tree.specs.Cores.{CoreStands}
use Rattle.core_tree.specs.declared.cores.Core.TheVariants as cores
use Rattle.expander.proofs.ReadLaws.{unless_goes, tested_fails, target_at}
use Rattle.unit_scopes.specs.declared.scope.UnitScope.{UnitScope}
use Rattle.noted_steps.specs.Noting.{Noting, noting}
use Rattle.noted_steps.specs.Stepped.{spent}
use Rattle.noted_steps.specs.Outcomes.{EndsHere}
use Rattle.noted_steps.proofs.NodeLaws.{begins_goes, begins_fails, here_done, here_err}
use Rattle.noted_steps.proofs.OutcomeLaws.{here_after, noted_stays}
use Rattle.expander.proofs.expressions.reference.Goals as goal

pub returns-in_err-target-clause-referred : goal.returns-in_err-target-clause-referred
returns-in_err-target-clause-referred c = λ known region ls s fs n e at is.
    let w = c.args.work.now in
    let u = c.args.units.now in
    let m = c.variable.new.units in
    let t = (noting known).ask (Headed fs n.name ∷ []) s in
    let parts : ℕ → Step Noting Core = λ below t. done (Ref (target_of (noting known) fs t n.name n.occ)) t in
    let h = head_of (noting known) fs s n.name in
    let P = CoreStands w u.unit u.form.number in
    let stays = noted_stays w region u m ls s t e c.variable.ensures.rest (c.variable.ensures.noted known ls s fs n e at is) in
    here_err P w w region u m ls c.from_residual.result c.in_err-target.field-0.0 (reference (noting known) c.args.at.depth c.args.at.here fs n s) c.from_residual.ensures.1
    (here_after P w w w region u m m ls t (Err c.in_err-target.field-0.0) (reference (noting known) c.args.at.depth c.args.at.here fs n s) stays
    (tested_fails known w region m ls t c.args.at.here n (node (noting known) c.args.at.here 1 c.args.at.depth parts) h P c.in_err-target.field-0.0 stays.stands (c.in_err-target.ensures.tested known ls s fs n e at is)))

pub begin_node-requires : goal.begin_node-requires
begin_node-requires c =
    let l = c.requires.look in
    subst (λ v. v.form.budget.nodes ≤ 200000) (sym c.variable.ensures.rest) l.stands.form.few_nodes

pub returns-in_err-begin_node-clause-referred : goal.returns-in_err-begin_node-clause-referred
returns-in_err-begin_node-clause-referred c = λ known region ls s fs n e at is.
    let w = c.args.work.now in
    let u = c.args.units.now in
    let m = c.variable.new.units in
    let v = c.begin_node.new.self in
    let t = (noting known).ask (Headed fs n.name ∷ []) s in
    let parts : ℕ → Step Noting Core = λ below t. done (Ref (target_of (noting known) fs t n.name n.occ)) t in
    let go = node (noting known) c.args.at.here 1 c.args.at.depth parts in
    let h = head_of (noting known) fs s n.name in
    let P = CoreStands w u.unit u.form.number in
    let stays = noted_stays w region u m ls s t e c.variable.ensures.rest (c.variable.ensures.noted known ls s fs n e at is) in
    let all : reference (noting known) c.args.at.depth c.args.at.here fs n s ≡ go t = unless_goes known c.args.at.here n go t h (c.in_ok-target.ensures.tested known ls s fs n e at is) in
    here_err P w w region u v ls c.from_residual-in_err-begin_node.result c.in_err-begin_node.field-0.0 (reference (noting known) c.args.at.depth c.args.at.here fs n s) c.from_residual-in_err-begin_node.ensures.1
    (subst (λ (p : Result Core Broken × Noting). EndsHere P w w region u v ls (Err c.in_err-begin_node.field-0.0) p) (sym all)
    (here_after P w w w region u m v ls t (Err c.in_err-begin_node.field-0.0) (go t) stays
    (begins_fails known w region m v ls t c.args.at.here 1 stays.stands parts c.args.at.depth P c.in_err-begin_node.field-0.0 c.in_err-begin_node.ensures)))

pub returns-clause-referred : goal.returns-clause-referred
returns-clause-referred c = λ known region ls s fs n e at is.
    let w = c.args.work.now in
    let u = c.args.units.now in
    let m = c.variable.new.units in
    let v = c.begin_node.new.self in
    let t = (noting known).ask (Headed fs n.name ∷ []) s in
    let parts : ℕ → Step Noting Core = λ below t. done (Ref (target_of (noting known) fs t n.name n.occ)) t in
    let go = node (noting known) c.args.at.here 1 c.args.at.depth parts in
    let h = head_of (noting known) fs s n.name in
    let P = CoreStands w u.unit u.form.number in
    let stays = noted_stays w region u m ls s t e c.variable.ensures.rest (c.variable.ensures.noted known ls s fs n e at is) in
    let all : reference (noting known) c.args.at.depth c.args.at.here fs n s ≡ go t = unless_goes known c.args.at.here n go t h (c.in_ok-target.ensures.tested known ls s fs n e at is) in
    let goes = begins_goes known w region m v ls t c.args.at.here 1 stays.stands parts c.args.at.depth c.in_ok-begin_node.field-0 c.in_ok-begin_node.ensures in
    let x = target_of (noting known) fs (spent 1 t) n.name n.occ in
    let target = c.in_ok-target.ensures.target ls s fs n e at is in
    subst (λ (p : Result Core Broken × Noting). EndsHere P w w region u v ls (Ok (cores.Ref c.in_ok-target.target)) p) (sym all)
    (here_after P w w w region u m v ls t (Ok (cores.Ref c.in_ok-target.target)) (go t) stays
    (here_done P w w region m v ls (cores.Ref c.in_ok-target.target) (go t) (Ref x) (spent 1 t) goes.0 goes.1
    (c.in_ok-target.target, refl, target_at w.symbols u.unit u.form.number s.unit s.form c.in_ok-target.target x e.unit e.form.number target)))

pub returns-clause-locals : goal.returns-clause-locals
returns-clause-locals c = ap (λ (x : UnitScope). x.form.budget.locals) c.in_ok-begin_node.ensures.2 ∙ ap (λ (x : UnitScope). x.form.budget.locals) c.variable.ensures.rest
