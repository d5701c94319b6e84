use Rattle.std.proofs.Common.{None, arith}
use Rattle.rename_model.specs.Walks.{data_point}
use Rattle.program_leaves.proofs.AddLaws.{adds_none}
use Rattle.program_leaves.proofs.VariableLaws.{match_at}
use Rattle.alpha_equal.specs.declared.data.DatumNode.TheVariants as nodes
use Rattle.alpha_equal.specs.Data.{IsDatumNode}
use Rattle.alpha_equal.specs.Points.{IsPoint}
use Rattle.program_differences.proofs.RuleLaws.{adds_next, adds_all}
use Rattle.program_differences.proofs.forms.add_data.Goals as goal

pub loop-node-init : goal.loop-node-init
loop-node-init c = λ unit form ts match. adds_none (IsPoint c.args.work.now.symbols unit form) c.args.points.now.items

pub add_datum_node-requires : goal.add_datum_node-requires
add_datum_node-requires c =
    let a = match_at (IsDatumNode c.args.work.now.symbols) c.args.nodes.now c.requires.0 c.loop-node.node-index (nodes.Name 0 None) c.requires.1 (omega arith) in
    (a.item, a.is)

pub loop-node-preserved : goal.loop-node-preserved
loop-node-preserved c = λ unit form ts match.
    let names = c.args.work.now.symbols in
    let k = c.loop-node.node-index in
    let a = match_at (IsDatumNode names) c.args.nodes.now ts k (nodes.Name 0 None) match (omega arith) in
    adds_next (IsPoint names unit form) data_point c.args.points.now.items c.loop-node.points.items c.add_datum_node.new.points.items ts k a.item a.more (c.loop-node.invariant unit form ts match) (c.in_ok-add_datum_node.ensures unit form a.item a.is)

pub returns : goal.returns
returns c = λ unit form ts match.
    adds_all (IsPoint c.args.work.now.symbols unit form) data_point (IsDatumNode c.args.work.now.symbols) c.args.points.now.items c.loop-node.points.items c.args.nodes.now ts c.loop-node.node-index match (omega arith) (c.loop-node.invariant unit form ts match)
