use Rattle.std.proofs.Common.{ℕ, refl}
use Rattle.scheme_model.specs.Cores.{Core, Const}
use Rattle.scheme_model.specs.Steps.{Step, done}
use Rattle.scheme_model.specs.Expression.{node}
use Rattle.core_tree.specs.Cores.{CoreStands}
use Rattle.core_tree.specs.declared.cores.Core.TheVariants as cores
use Rattle.expander.proofs.expressions.constant.Goals as goal
use Rattle.noted_steps.specs.Noting.{Noting, noting}
use Rattle.noted_steps.specs.Stepped.{spent}
use Rattle.noted_steps.proofs.NodeLaws.{begins_goes, begins_fails, here_done, here_err}

pub returns-in_err-begin_node-clause-constant : goal.returns-in_err-begin_node-clause-constant
returns-in_err-begin_node-clause-constant c = λ known region ls s a o e is.
    let w = c.args.work.now in
    let u = c.args.units.now in
    let v = c.begin_node.new.self in
    let parts : ℕ → Step Noting Core = λ below. done (Const a) in
    let P = CoreStands w u.unit u.form.number in
    here_err P w w region u v ls c.from_residual.result c.in_err-begin_node.field-0.0 (node (noting known) c.args.at.here 2 c.args.at.depth parts s) c.from_residual.ensures.1
    (begins_fails known w region u v ls s c.args.at.here 2 e parts c.args.at.depth P c.in_err-begin_node.field-0.0 c.in_err-begin_node.ensures)

pub returns-clause-constant : goal.returns-clause-constant
returns-clause-constant c = λ known region ls s a o e is.
    let w = c.args.work.now in
    let u = c.args.units.now in
    let v = c.begin_node.new.self in
    let parts : ℕ → Step Noting Core = λ below. done (Const a) in
    let P = CoreStands w u.unit u.form.number in
    let goes = begins_goes known w region u v ls s c.args.at.here 2 e parts c.args.at.depth c.in_ok-begin_node.field-0 c.in_ok-begin_node.ensures in
    here_done P w w region u v ls (cores.Const c.args.form) (node (noting known) c.args.at.here 2 c.args.at.depth parts s) (Const a) (spent 2 s) goes.0 goes.1 (c.args.form, o, refl, is)
