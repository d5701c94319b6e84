use Rattle.std.proofs.Common.{◌≡◌, subst}
use Rattle.scheme_model.specs.Trees.{list, tree, Trees, Tail}
use Rattle.scheme_model.specs.Ident.{Ident as Identifier}
use Rattle.syntax_tree.specs.Looks.{PartsStand, EndStands}
use Rattle.rules_check.proofs.leaf.in_head.Goals as goal

pub returns-in_ok-in_pattern_list-in-List : goal.returns-in_ok-in_pattern_list-in-List
returns-in_ok-in_pattern_list-in-List c = λ r head ts tail o tells h.
    let w = c.args.work.now in
    let l = c.in-List.ensures.look (list (tree head ts) tail o) h in
    let is = l.3 in
    let same : l.0 ≡ tree head ts = cc in
    let last : l.1 ≡ tail = cc in
    let parts = subst (λ (x : Trees Identifier). PartsStand w c.in-List.items.now x) same l.4 in
    let end = subst (λ (x : Tail Identifier). EndStands w c.in-List.end x) last l.5 in
    c.in_ok-in_pattern_list-in-List.ensures r (tree head ts) tail tells parts end

pub returns-in-Name : goal.returns-in-Name
returns-in-Name c = λ r head ts tail o tells h. let e = (c.in-Name.ensures.look (list (tree head ts) tail o) h).2 in absurd cc

pub returns-in-Atom : goal.returns-in-Atom
returns-in-Atom c = λ r head ts tail o tells h. let e = (c.in-Atom.ensures.look (list (tree head ts) tail o) h).2 in absurd cc

pub returns-in-Vector : goal.returns-in-Vector
returns-in-Vector c = λ r head ts tail o tells h. let e = (c.in-Vector.ensures.look (list (tree head ts) tail o) h).2 in absurd cc
