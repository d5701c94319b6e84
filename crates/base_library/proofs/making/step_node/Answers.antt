use Rattle.std.proofs.Common.{◌-◌, ℕ, length, take, drop, Some, None, refl, sym, ap, ◌∙◌, subst, arith}
use Rattle.scheme_model.specs.Trees.{Boolean, atom, proper, dotted}
use Rattle.syntax_tree.specs.declared.trees.Work.{Work}
use Rattle.syntax_tree.specs.declared.trees.nodes.Node.TheVariants as node
use Rattle.syntax_tree.specs.declared.trees.nodes.Leaf.TheVariants as leaf
use Rattle.syntax_tree.specs.declared.trees.faults.PoolFault.TheVariants as fault
use Rattle.datum_reader.proofs.Growing.{grows_itself}
use Rattle.base_library.specs.declared.sketch.Step.{Step}
use Rattle.base_library.specs.Sketches.{name_tree, left_by, tree_by, after}
use Rattle.base_library.specs.Rows.{IsReady, Breaks}
use Rattle.base_library.proofs.RowLaws.{as_many, nothing_done, leaf_ready, leaf_broken, gathered, tail_broken, readies_broken}
use Rattle.base_library.proofs.making.step_node.Goals as goal

-- ---- leaves

pub returns-in_err-name_node-in-Name : goal.returns-in_err-name_node-in-Name
returns-in_err-name_node-in-Name c = λ start ts h.
    let w = c.args.work.now in
    let new : Work = record { trees = w.trees; symbols = c.name_node.new.symbols } in
    let r = c.args.region.now in
    let fails = c.in_err-name_node-in-Name in
    readies_broken start new r ts c.args.step c.args.trees.now.items c.from_residual.result fault.Memory c.from_residual.ensures.1
    (subst (λ (s : Step). Breaks start new r (after ts s) fault.Memory) (sym c.in-Name.is)
    (leaf_broken start w r ts c.args.trees.now.items h c.name_node.new.symbols (name_tree c.in-Name.name.now) fails.field-0.0 fails.ensures))

pub returns-in_ok-name_node-in-Name : goal.returns-in_ok-name_node-in-Name
returns-in_ok-name_node-in-Name c = λ start ts h.
    let w = c.args.work.now in
    let new : Work = record { trees = w.trees; symbols = c.name_node.new.symbols } in
    let r = c.args.region.now in
    let done = c.in_ok-name_node-in-Name in
    subst (λ (s : Step). IsReady start new r (left_by ts s) (tree_by ts s) c.args.trees.now.items done.field-0) (sym c.in-Name.is)
    (leaf_ready start w r ts c.args.trees.now.items h c.name_node.new.symbols (name_tree c.in-Name.name.now) done.field-0 refl done.ensures)

pub returns-in-Truth : goal.returns-in-Truth
returns-in-Truth c = λ start ts h.
    let w = c.args.work.now in
    let r = c.args.region.now in
    let b = c.in-Truth.value in
    subst (λ (s : Step). IsReady start w r (left_by ts s) (tree_by ts s) c.args.trees.now.items (node.Atom (leaf.Bool b) None)) (sym c.in-Truth.is)
    (leaf_ready start w r ts c.args.trees.now.items h w.symbols (atom (Boolean b) None) (node.Atom (leaf.Bool b) None) refl (record { alone = refl; tree = λ nodes. refl }, refl))

-- ---- lists

pub returns-in_err-items-in-List : goal.returns-in_err-items-in-List
returns-in_err-items-in-List c = λ start ts h.
    let w = c.args.work.now in
    let r = c.args.region.now in
    readies_broken start w r ts c.args.step c.taken.new.trees.items c.from_residual-in_err-items-in-List.result fault.Memory c.from_residual-in_err-items-in-List.ensures.1
    (nothing_done start w r ts c.args.trees.now.items h c.args.step)

pub returns-in_ok-items-in-List : goal.returns-in_ok-items-in-List
returns-in_ok-items-in-List c = λ start ts h.
    let w = c.args.work.now in
    let r = c.args.region.now in
    let ns = c.args.trees.now.items in
    let n = c.in-List.count in
    let done = c.in_ok-items-in-List in
    let same = sym (as_many w.trees.nodes w.symbols ts ns h.stand) in
    subst (λ (s : Step). IsReady start w r (left_by ts s) (tree_by ts s) c.taken.new.trees.items (node.List done.items None None)) (sym c.in-List.is)
    (gathered start w r ts ns h w (length ts - n) proper (record { grows = grows_itself w r; names = refl; nodes = omega arith }) None tt tt c.taken.new.trees.items done.items
    (done.ensures.left ∙ ap (λ (m : ℕ). take (m - n) ns) same) (done.ensures.taken ∙ ap (λ (m : ℕ). drop (m - n) ns) same))

-- ---- lists with a tail

pub returns-in_err-items-in-Dotted : goal.returns-in_err-items-in-Dotted
returns-in_err-items-in-Dotted c = λ start ts h.
    let w = c.args.work.now in
    let r = c.args.region.now in
    readies_broken start w r ts c.args.step c.taken-in-Dotted.new.trees.items c.from_residual-in_err-items-in-Dotted.result fault.Memory c.from_residual-in_err-items-in-Dotted.ensures.1
    (nothing_done start w r ts c.args.trees.now.items h c.args.step)

pub returns-in_err-add_name-in-Dotted : goal.returns-in_err-add_name-in-Dotted
returns-in_err-add_name-in-Dotted c = λ start ts h.
    let w = c.args.work.now in
    let new = c.add_name.new.work in
    let r = c.args.region.now in
    let fails = c.in_err-add_name-in-Dotted in
    let e = fails.field-0.0 in
    readies_broken start new r ts c.args.step c.taken-in-Dotted.new.trees.items c.from_residual-in_err-add_name-in-Dotted.result e c.from_residual-in_err-add_name-in-Dotted.ensures.1
    (subst (λ (s : Step). Breaks start new r (after ts s) e) (sym c.in-Dotted.is)
    (tail_broken start w r ts c.args.trees.now.items h new (length ts - c.in-Dotted.count) (dotted (name_tree c.in-Dotted.name.now)) e fails.ensures.0 fails.ensures.1))

pub returns-in_ok-add_name-in-Dotted : goal.returns-in_ok-add_name-in-Dotted
returns-in_ok-add_name-in-Dotted c = λ start ts h.
    let w = c.args.work.now in
    let new = c.add_name.new.work in
    let r = c.args.region.now in
    let ns = c.args.trees.now.items in
    let n = c.in-Dotted.count in
    let items = c.in_ok-items-in-Dotted in
    let done = c.in_ok-add_name-in-Dotted in
    let same = sym (as_many w.trees.nodes w.symbols ts ns h.stand) in
    subst (λ (s : Step). IsReady start new r (left_by ts s) (tree_by ts s) c.taken-in-Dotted.new.trees.items (node.List items.items (Some done.field-0) None)) (sym c.in-Dotted.is)
    (gathered start w r ts ns h new (length ts - n) (dotted (name_tree c.in-Dotted.name.now)) done.ensures.0 (Some done.field-0) (refl, done.ensures.1) (done.ensures.2, tt) c.taken-in-Dotted.new.trees.items items.items
    (items.ensures.left ∙ ap (λ (m : ℕ). take (m - n) ns) same) (items.ensures.taken ∙ ap (λ (m : ℕ). drop (m - n) ns) same))
