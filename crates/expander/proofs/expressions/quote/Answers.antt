use Rattle.std.proofs.Common.{◌≡◌, ℕ, ◌+◌, ◌≤◌, Ok, Err, refl, subst, arith}
use Rattle.scheme_model.specs.Ident.{symbol_of}
use Rattle.scheme_model.specs.Measures.{tree_size}
use Rattle.scheme_model.specs.Trees.{map_tree}
use Rattle.scheme_model.specs.Cores.{Core, Quote}
use Rattle.scheme_model.specs.Steps.{Step, done}
use Rattle.scheme_model.specs.Expression.{node}
use Rattle.core_tree.specs.Cores.{CoreStands}
use Rattle.core_tree.specs.declared.cores.Core.TheVariants as cores
use Rattle.expander.proofs.expressions.quote.Goals as goal
use Rattle.noted_steps.specs.Noting.{Noting, noting}
use Rattle.noted_steps.specs.Stepped.{spent}
use Rattle.noted_steps.specs.Outcomes.{EndsHere}
use Rattle.noted_steps.proofs.NodeLaws.{begins_goes, begins_fails, here_done, here_err}

pub overflow_add-size : goal.overflow_add-size
overflow_add-size c =
    let d = c.requires.datum in
    let size : c.size.result ≡ tree_size d.0 = c.size.ensures d.0 d.1 in
    let few : tree_size d.0 ≤ 4194304 = c.trees_fit.ensures.nodes c.args.datum d.0 d.1 in
    omega arith

pub returns-in_err-begin_node-clause-quoted : goal.returns-in_err-begin_node-clause-quoted
returns-in_err-begin_node-clause-quoted c = λ known region ls s t e is.
    let w = c.args.work.now in
    let u = c.args.units.now in
    let v = c.begin_node.new.self in
    let parts : ℕ → Step Noting Core = λ below. done (Quote (map_tree symbol_of t)) in
    let same : c.size.result + 1 ≡ 1 + tree_size t = omega (arith, c.size.ensures t is) in
    let P = CoreStands w u.unit u.form.number in
    here_err P w w region u v ls c.from_residual.result c.in_err-begin_node.field-0.0 (node (noting known) c.args.at.here (1 + tree_size t) c.args.at.depth parts s) c.from_residual.ensures.1
    (subst (λ (n : ℕ). EndsHere P w w region u v ls (Err c.in_err-begin_node.field-0.0) (node (noting known) c.args.at.here n c.args.at.depth parts s)) same
    (begins_fails known w region u v ls s c.args.at.here (c.size.result + 1) e parts c.args.at.depth P c.in_err-begin_node.field-0.0 c.in_err-begin_node.ensures))

pub returns-clause-quoted : goal.returns-clause-quoted
returns-clause-quoted c = λ known region ls s t e is.
    let w = c.args.work.now in
    let u = c.args.units.now in
    let v = c.begin_node.new.self in
    let parts : ℕ → Step Noting Core = λ below. done (Quote (map_tree symbol_of t)) in
    let same : c.size.result + 1 ≡ 1 + tree_size t = omega (arith, c.size.ensures t is) in
    let P = CoreStands w u.unit u.form.number in
    subst (λ (n : ℕ). EndsHere P w w region u v ls (Ok (cores.Quote c.args.datum)) (node (noting known) c.args.at.here n c.args.at.depth parts s)) same
    (let goes = begins_goes known w region u v ls s c.args.at.here (c.size.result + 1) e parts c.args.at.depth c.in_ok-begin_node.field-0 c.in_ok-begin_node.ensures in
    here_done P w w region u v ls (cores.Quote c.args.datum) (node (noting known) c.args.at.here (c.size.result + 1) c.args.at.depth parts s) (Quote (map_tree symbol_of t)) (spent (c.size.result + 1) s) goes.0 goes.1 (c.args.datum, t, refl, is, refl))
