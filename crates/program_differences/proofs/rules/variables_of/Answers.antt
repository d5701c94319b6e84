use Rattle.std.proofs.Common.{[], List, sym, refl, subst, arith, false}
use Rattle.std.specs.Prelude.{None}
use Rattle.std.specs.List.{flat_map}
use Rattle.scheme_model.specs.RulesShape.{role_of}
use Rattle.syntax_tree.specs.Macros.{identifiers}
use Rattle.syntax_tree.specs.Placed.{IsNamed}
use Rattle.syntax_tree.specs.declared.rules.Named as code
use Rattle.program_leaves.specs.Adds.{Adds}
use Rattle.program_leaves.proofs.AddLaws.{adds_none, all_match}
use Rattle.program_leaves.proofs.VariableLaws.{match_at}
use Rattle.alpha_equal.specs.declared.trees.TreeNode.TheVariants as nodes
use Rattle.alpha_equal.specs.Nodes.{IsNode}
use Rattle.program_differences.specs.Variables.{variable_in}
use Rattle.program_differences.proofs.RuleLaws.{adds_next, adds_all}
use Rattle.program_differences.proofs.rules.variables_of.Goals as goal

pub loop-node-init : goal.loop-node-init
loop-node-init c = λ r ts tells match.
    let named = IsNamed c.args.work.now.symbols in
    subst (λ (xs : List code.Named). Adds named [] xs []) (sym c.new-found.ensures.items) (adds_none named [])

pub add_variable-requires : goal.add_variable-requires
add_variable-requires c =
    let a = match_at (IsNode c.args.work.now.symbols) c.args.nodes.now c.requires.0 c.loop-node.node-index (nodes.Name 0 false None) c.requires.1 (omega arith) in
    (a.item, a.is)

pub loop-node-preserved : goal.loop-node-preserved
loop-node-preserved c = λ r ts tells match.
    let k = c.loop-node.node-index in
    let a = match_at (IsNode c.args.work.now.symbols) c.args.nodes.now ts k (nodes.Name 0 false None) match (omega arith) in
    adds_next (IsNamed c.args.work.now.symbols) (variable_in (role_of identifiers r)) [] c.loop-node.found.items c.add_variable.new.found.items ts k a.item a.more (c.loop-node.invariant r ts tells match) (c.in_ok-add_variable.ensures r a.item tells a.is)

pub returns : goal.returns
returns c = λ r ts tells match.
    let named = IsNamed c.args.work.now.symbols in
    let f = variable_in (role_of identifiers r) in
    all_match named [] c.loop-node.found.items (flat_map f ts) refl
    (adds_all named f (IsNode c.args.work.now.symbols) [] c.loop-node.found.items c.args.nodes.now ts c.loop-node.node-index match (omega arith) (c.loop-node.invariant r ts tells match))
