use Rattle.std.proofs.Common.{◌∷◌, [], arith}
use Rattle.base_library.specs.Sketches.{left_by, tree_by}
use Rattle.base_library.proofs.RowLaws.{size_append, depth_size, put_on}
use Rattle.base_library.proofs.making.take_step.Goals as goal

pub add-requires-clause-small : goal.add-requires-clause-small
add-requires-clause-small c =
    let given = c.requires.small in
    let ts = given.1 in
    let t = tree_by ts c.args.step in
    let ready = c.in_ok-node.ensures given.0 ts given.2 in
    let few = given.3 in
    let size = size_append (left_by ts c.args.step) (t ∷ []) in
    let deep = depth_size t in
    (t, ready.of_last, omega (arith, few, size, deep), omega (arith, few, size, deep))

pub returns : goal.returns
returns c = λ start ts h.
    let ready = c.in_ok-node.ensures start ts h in
    let t = tree_by ts c.args.step in
    let done = c.in_ok-add.ensures in
    put_on start c.step_node.new.work c.args.region.now (left_by ts c.args.step) t c.step_node.new.trees.items c.in_ok-node.node ready c.add.new.self c.in_ok-add.field-0 done.keeps done.regions done.symbols done.put done.one_more
    (done.tree t ready.of_last) done.region
