use Rattle.std.proofs.Common.{List, [], get_or, take, sym, subst, arith}
use Rattle.ls_base.specs.Limits.{max_tree_depth}
use Rattle.scheme_model.specs.Trees.{Tree}
use Rattle.scheme_model.specs.Ident.{Ident as Identifier}
use Rattle.syntax_tree.specs.declared.trees.nodes.Tree as code
use Rattle.syntax_tree.specs.declared.trees.faults.PoolFault.TheVariants as fault
use Rattle.datum_reader.specs.Seeding.{trees_from}
use Rattle.datum_reader.proofs.Growing.{all_handed_on}
use Rattle.base_library.specs.declared.sketch.Step.{Step}
use Rattle.base_library.specs.declared.sketch.Step.TheVariants as step
use Rattle.base_library.specs.Sketches.{made, after}
use Rattle.base_library.specs.Rows.{Holds}
use Rattle.base_library.proofs.RowLaws.{made_next, small_step, broken_whole, stopped}
use Rattle.base_library.proofs.making.make_trees.Goals as goal

abbrev none : Step
none = step.Name (record { ref_ptr = (0, 0); now = [] })

pub take_step-requires-clause-small : goal.take_step-requires-clause-small
take_step-requires-clause-small c =
    let ss = c.args.steps.now in
    let l = c.loop-step in
    (c.args.work.now, made (take l.step-index ss), l.invariant, small_step ss l.step-index none (omega arith) max_tree_depth c.requires.few)

pub returns-in_err-tree : goal.returns-in_err-tree
returns-in_err-tree c =
    let ss = c.args.steps.now in
    let l = c.loop-step in
    let w = c.args.work.now in
    let e = c.in_err-tree.field-0.0 in
    all_handed_on w c.take_step.new.work c.args.region.now (trees_from (made ss)) c.from_residual.result e c.from_residual.ensures.1
    (broken_whole ss l.step-index none (omega arith) w c.take_step.new.work c.args.region.now e (c.in_err-tree.ensures w (made (take l.step-index ss)) l.invariant))

pub returns-in_err-push : goal.returns-in_err-push
returns-in_err-push c =
    let ss = c.args.steps.now in
    let l = c.loop-step in
    let w = c.args.work.now in
    let new = c.take_step.new.work in
    let r = c.args.region.now in
    let ts = after (made (take l.step-index ss)) (get_or ss l.step-index none) in
    all_handed_on w new r (trees_from (made ss)) c.from_residual-in_err-push.result fault.Memory c.from_residual-in_err-push.ensures.1
    (broken_whole ss l.step-index none (omega arith) w new r fault.Memory (stopped w new r ts _ (c.in_ok-tree.ensures w (made (take l.step-index ss)) l.invariant)))

pub loop-step-preserved : goal.loop-step-preserved
loop-step-preserved c =
    let ss = c.args.steps.now in
    let l = c.loop-step in
    let w = c.args.work.now in
    let new = c.take_step.new.work in
    let r = c.args.region.now in
    let ts = after (made (take l.step-index ss)) (get_or ss l.step-index none) in
    subst (λ (us : List (Tree Identifier)). Holds w new r us c.push.new.self.items) (sym (made_next ss l.step-index none (omega arith)))
    (subst (λ (ns : List code.Tree). Holds w new r ts ns) (sym c.in_ok-push.ensures.items) (c.in_ok-tree.ensures w (made (take l.step-index ss)) l.invariant))
