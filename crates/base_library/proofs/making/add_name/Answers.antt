use Rattle.std.proofs.Common.{Ok, Err, refl, ap, arith}
use Rattle.syntax_tree.specs.declared.trees.faults.PoolFault.{PoolFault}
use Rattle.syntax_tree.specs.declared.trees.faults.PoolFault.TheVariants as fault
use Rattle.datum_reader.proofs.Growing.{handed_on, leaf_failed, leaf_prepared, interns_keep, put_last, not_put}
use Rattle.base_library.specs.Sketches.{name_tree}
use Rattle.base_library.proofs.making.add_name.Goals as goal

pub returns-in_err-node : goal.returns-in_err-node
returns-in_err-node c =
    let w = c.args.work.now in
    let names = c.name_node.new.symbols in
    let t = name_tree c.args.name.now in
    handed_on w (record { trees = w.trees; symbols = names }) c.args.region.now t c.from_residual.result fault.Memory c.from_residual.ensures.1
    (leaf_failed w names c.args.region.now t t c.in_err-node.field-0.0 refl refl c.in_err-node.ensures)

pub add-requires-clause-small : goal.add-requires-clause-small
add-requires-clause-small c = (name_tree c.args.name.now, c.in_ok-node.ensures.0.tree c.args.work.now.trees.nodes, omega arith, omega arith)

pub returns-in_err-add : goal.returns-in_err-add
returns-in_err-add c =
    let w = c.args.work.now in
    let names = c.name_node.new.symbols in
    let t = name_tree c.args.name.now in
    let e = c.in_err-add.field-0.0 in
    let ready = leaf_prepared w names c.args.region.now t t c.in_ok-node.node refl refl (interns_keep w.symbols names t (Ok c.in_ok-node.node) c.in_ok-node.ensures) c.in_ok-node.ensures in
    handed_on w c.add.new.self c.args.region.now t c.from_residual-in_err-add.result e c.from_residual-in_err-add.ensures.1
    (not_put w (record { trees = w.trees; symbols = names }) c.args.region.now t c.in_ok-node.node ready c.add.new.self e c.in_err-add.ensures.err (λ is. c.in_err-add.ensures.full.0 (ap (λ (f : PoolFault). Err f) is)))

pub returns : goal.returns
returns c =
    let w = c.args.work.now in
    let names = c.name_node.new.symbols in
    let t = name_tree c.args.name.now in
    let done = c.in_ok-add.ensures in
    let ready = leaf_prepared w names c.args.region.now t t c.in_ok-node.node refl refl (interns_keep w.symbols names t (Ok c.in_ok-node.node) c.in_ok-node.ensures) c.in_ok-node.ensures in
    put_last w (record { trees = w.trees; symbols = names }) c.args.region.now t c.in_ok-node.node ready c.add.new.self c.in_ok-add.field-0 done.keeps done.regions done.symbols done.put done.one_more
    (done.tree t (c.in_ok-node.ensures.0.tree w.trees.nodes)) done.region
