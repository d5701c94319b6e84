use Rattle.std.proofs.Common.{None, false, [], ◌∷◌, take, refl, sym, ap, arith}
use Rattle.scheme_model.specs.ProgramArrows.{is_live_at}
use Rattle.syntax_tree.specs.declared.meaning.Meaning.TheVariants as meanings
use Rattle.core_tree.specs.Names.{IsLeaf}
use Rattle.core_tree.specs.declared.cores.RuleLeaf.{RuleLeaf}
use Rattle.program_leaves.proofs.Growing.{grows_as, grows_by_none, grows_twice}
use Rattle.program_leaves.proofs.VariableLaws.{match_at, match_all}
use Rattle.arrow_index.specs.Links.{as_link}
use Rattle.arrow_index.proofs.LinkLaws.{static_links, statics_more}
use Rattle.arrow_index.proofs.use_links.link_statics.Goals as goal

pub loop-leaf-init : goal.loop-leaf-init
loop-leaf-init c = λ leaves keywords names table rs ms sees gives match. grows_by_none as_link c.args.links.now.items [] refl

pub link_static-requires-clause-leaf : goal.link_static-requires-clause-leaf
link_static-requires-clause-leaf c =
    let d : RuleLeaf = record { target = record { meaning = meanings.Local 0; ident = 0; occ = None }; literal = false } in
    let a = match_at (IsLeaf c.args.work.now.symbols c.args.at.unit c.args.at.form) c.args.found.now c.requires.leaves.0 c.loop-leaf.leaf-index d c.requires.leaves.1 (omega arith) in
    (a.item, a.is)

pub loop-leaf-preserved : goal.loop-leaf-preserved
loop-leaf-preserved c = λ leaves keywords names table rs ms sees gives match.
    let live = is_live_at leaves keywords names in
    let k = c.loop-leaf.leaf-index in
    let d : RuleLeaf = record { target = record { meaning = meanings.Local 0; ident = 0; occ = None }; literal = false } in
    let a = match_at (IsLeaf c.args.work.now.symbols c.args.at.unit c.args.at.form) c.args.found.now ms k d match (omega arith) in
    grows_twice as_link c.args.links.now.items c.loop-leaf.links.items c.link_static.new.links.items (static_links leaves table rs live (take k ms)) (static_links leaves table rs live (a.item ∷ [])) _ (c.loop-leaf.invariant leaves keywords names table rs ms sees gives match)
    (c.in_ok-link_static.ensures leaves keywords names table rs a.item sees gives a.is) (statics_more leaves table rs live ms k a.item a.more)

pub returns : goal.returns
returns c = λ leaves keywords names table rs ms sees gives match.
    let past = match_all (IsLeaf c.args.work.now.symbols c.args.at.unit c.args.at.form) c.args.found.now ms c.loop-leaf.leaf-index match (omega arith) in
    grows_as as_link c.args.links.now.items c.loop-leaf.links.items _ _ (c.loop-leaf.invariant leaves keywords names table rs ms sees gives match) (ap (static_links leaves table rs (is_live_at leaves keywords names)) (sym past))
