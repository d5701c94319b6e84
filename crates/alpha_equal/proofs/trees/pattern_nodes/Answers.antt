use Rattle.std.proofs.Common.{◌≡◌, ◌+◌, [], ◌∷◌, ◌++◌, sym, subst, arith}
use Rattle.std.specs.Prelude.{length}
use Rattle.scheme_model.specs.Trees.{list, tree, Trees, Tail}
use Rattle.scheme_model.specs.TreeParts.{count}
use Rattle.scheme_model.specs.RulesShape.{nowhere}
use Rattle.scheme_model.specs.Ident.{Ident as Identifier}
use Rattle.rename_model.specs.Walks as walk
use Rattle.rename_model.specs.Walks.{has_tail, nodes_among, nodes_behind}
use Rattle.syntax_tree.specs.Looks.{PartsStand, EndStands}
use Rattle.syntax_tree.proofs.Looking.{count_stands}
use Rattle.program_leaves.proofs.AddLaws.{adds_one, adds_both}
use Rattle.alpha_equal.specs.Nodes.{IsNode}
use Rattle.alpha_equal.proofs.NodeLaws.{end_told}
use Rattle.alpha_equal.proofs.trees.pattern_nodes.Goals as goal

pub returns-in_ok-add_row-in-List : goal.returns-in_ok-add_row-in-List
returns-in_ok-add_row-in-List c = λ r head ts tail o tells h.
    let w = c.args.work.now in
    let P = IsNode w.symbols in
    let l = c.in-List.ensures.look (list (tree head ts) tail o) h in
    let is = l.3 in
    let same : l.0 ≡ tree head ts = cc in
    let last : l.1 ≡ tail = cc in
    let parts = subst (λ (x : Trees Identifier). PartsStand w c.in-List.items.now x) same l.4 in
    let end = subst (λ (x : Tail Identifier). EndStands w c.in-List.end x) last l.5 in
    let total : count ts + 1 ≡ length c.in-List.items.now = count_stands w c.in-List.items.now (tree head ts) parts in
    let count_is : c.saturating_sub.result ≡ count ts = omega (arith, total, c.saturating_sub.ensures) in
    let end_is = end_told w c.in-List.end tail end in
    let old = c.args.nodes.now.items in
    let mid = c.add_list.new.nodes.items in
    let new = c.add_row.new.nodes.items in
    adds_both P old mid new (walk.ListOf (count ts) (has_tail tail) ∷ []) (nodes_among nowhere ts ++ nodes_behind nowhere tail)
    (adds_one P old mid _ (walk.ListOf (count ts) (has_tail tail)) c.in_ok-add_list-in-List.ensures (λ j. walk.ListOf (sym count_is j) (sym end_is j)))
    (c.in_ok-add_row-in-List.ensures r (tree head ts) tail tells parts end)

pub returns-in-Name : goal.returns-in-Name
returns-in-Name c = λ r head ts tail o tells h. let e = (c.in-Name.ensures.look (list (tree head ts) tail o) h).2 in absurd cc

pub returns-in-Atom : goal.returns-in-Atom
returns-in-Atom c = λ r head ts tail o tells h. let e = (c.in-Atom.ensures.look (list (tree head ts) tail o) h).2 in absurd cc

pub returns-in-Vector : goal.returns-in-Vector
returns-in-Vector c = λ r head ts tail o tells h. let e = (c.in-Vector.ensures.look (list (tree head ts) tail o) h).2 in absurd cc
