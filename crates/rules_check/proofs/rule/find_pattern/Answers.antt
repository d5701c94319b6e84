use Rattle.std.proofs.Common.{◌≡◌, refl, subst}
use Rattle.scheme_model.specs.Trees.{list, tree, Trees, Tail}
use Rattle.scheme_model.specs.Ident.{Ident as Identifier}
use Rattle.syntax_tree.specs.Looks.{PartsStand, EndStands}
use Rattle.rules_check.specs.Patterns.{of_list}
use Rattle.rules_check.proofs.Contents.{contains_found}
use Rattle.rules_check.proofs.rule.find_pattern.Goals as goal

pub returns-in_ok-find_list-in-List : goal.returns-in_ok-find_list-in-List
returns-in_ok-find_list-in-List c = λ r head ts tail o tells h.
    let w = c.args.work.now in
    let l = c.in-List.ensures.look (list (tree head ts) tail o) h in
    let is = l.3 in
    let same : l.0 ≡ tree head ts = cc in
    let last : l.1 ≡ tail = cc in
    let parts = subst (λ (x : Trees Identifier). PartsStand w c.in-List.items.now x) same l.4 in
    let end = subst (λ (x : Tail Identifier). EndStands w c.in-List.end x) last l.5 in
    contains_found w _ c.find_list.new.found (of_list r ts tail 0) refl refl c.new.ensures.items (c.in_ok-find_list-in-List.ensures r (tree head ts) tail tells parts end)
