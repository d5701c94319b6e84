use Rattle.std.proofs.Common.{None, false, [], ◌∷◌, take, refl, sym, ap, arith}
use Rattle.scheme_model.specs.ProgramArrows.{binder_of, is_live_at, leaf_arrows}
use Rattle.syntax_tree.specs.declared.meaning.Meaning.TheVariants as meanings
use Rattle.core_tree.specs.Names.{IsLeaf}
use Rattle.program_leaves.specs.Pairs.{as_arrow}
use Rattle.program_leaves.proofs.Growing.{grows_as, grows_by_none, grows_twice}
use Rattle.program_leaves.proofs.VariableLaws.{match_at, match_all}
use Rattle.program_leaves.proofs.StepLaws.{leaf_more}
use Rattle.arrow_index.proofs.arrows.add_static.Goals as goal

pub loop-leaf-init : goal.loop-leaf-init
loop-leaf-init c = λ work leaves keywords names table ms sees match. grows_by_none as_arrow c.args.pairs.now.items [] refl

pub loop-leaf-preserved : goal.loop-leaf-preserved
loop-leaf-preserved c = λ work leaves keywords names table ms sees match.
    let binder = binder_of leaves table in
    let live = is_live_at leaves keywords names in
    let k = c.loop-leaf.leaf-index in
    let a = match_at (IsLeaf work.symbols c.args.at.unit c.args.at.form) c.args.found.now ms k (record { target = record { meaning = meanings.Local 0; ident = 0; occ = None }; literal = false }) match (omega arith) in
    grows_twice as_arrow c.args.pairs.now.items c.loop-leaf.pairs.items c.add_rule_leaf.new.pairs.items (leaf_arrows binder live (take k ms)) (leaf_arrows binder live (a.item ∷ [])) _ (c.loop-leaf.invariant work leaves keywords names table ms sees match)
    (c.in_ok-add_rule_leaf.ensures work leaves keywords names table a.item sees a.is) (leaf_more binder live ms k a.item a.more)

pub returns : goal.returns
returns c = λ work leaves keywords names table ms sees match.
    let k = c.loop-leaf.leaf-index in
    let past = match_all (IsLeaf work.symbols c.args.at.unit c.args.at.form) c.args.found.now ms k match (omega arith) in
    grows_as as_arrow c.args.pairs.now.items c.loop-leaf.pairs.items _ _ (c.loop-leaf.invariant work leaves keywords names table ms sees match) (ap (leaf_arrows (binder_of leaves table) (is_live_at leaves keywords names)) (sym past))
