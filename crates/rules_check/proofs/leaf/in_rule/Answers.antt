use Rattle.std.proofs.Common.{List, map, ◌++◌, ap, ◌∙◌, arith}
use Rattle.std.specs.Prelude.{is_some}
use Rattle.scheme_model.specs.Trees.{name, list, tree}
use Rattle.scheme_model.specs.Shapes.{is_among}
use Rattle.scheme_model.specs.RulesShape.{depth_of, dots_of, role_of, pattern_variables}
use Rattle.scheme_model.specs.Leaves.{leaves_among, leaves_behind, template_leaves, rule_leaves}
use Rattle.scheme_model.specs.Ident.{Ident as Identifier}
use Rattle.syntax_tree.specs.Macros.{identifiers}
use Rattle.rules_check.specs.declared.pattern.Variable.{Variable}
use Rattle.rules_check.specs.Templates.{HasDepths}
use Rattle.rules_check.specs.Lowest.{depth_by_number}
use Rattle.rules_check.proofs.Faults.{depth_is}
use Rattle.rules_check.proofs.Gathering.{adds_both, adds_same, has_depth, same_leaves}
use Rattle.rules_check.proofs.leaf.in_rule.Goals as goal

pub find_pattern-requires : goal.find_pattern-requires
find_pattern-requires c = let m = c.requires.1 in (list (tree (name m.head m.head_place) c.requires.0.parts) c.requires.0.tail m.place, m.pattern)

pub in_head-requires : goal.in_head-requires
in_head-requires c = let m = c.requires.1 in (list (tree (name m.head m.head_place) c.requires.0.parts) c.requires.0.tail m.place, m.pattern)

pub depth-depth-requires : goal.depth-depth-requires
depth-depth-requires c = (c.requires.0.template, c.requires.1.template)

pub in_template-requires : goal.in_template-requires
in_template-requires c =
    let d = c.depth-depth.ensures c.requires.0.template c.requires.1.template in
    (c.requires.0.template, c.requires.1.template, omega arith)

pub returns : goal.returns
returns c = λ r m tells h.
    let w = c.args.work.now in
    let apart = c.told_apart.ensures.idents in
    let found = c.in_ok-found.found in
    let head = name h.head h.head_place in
    let f = c.in_ok-found.ensures r head m.parts m.tail h.place tells h.pattern in
    let vs = found.variables.items in
    let ws = pattern_variables identifiers r m in
    let depth = depth_of identifiers.same ws in
    let has : HasDepths w c.in_ok-depths.depths depth =
    λ n i g. c.in_ok-depths.ensures n ∙ ap (λ (xs : List Variable). depth_by_number xs n) c.as_slice.ensures.value ∙ depth_is w apart vs ws f.are n i g in
    let old = c.args.leaves.now.items in
    let mid = c.in_head.new.leaves.items in
    let new = c.in_template.new.leaves.items in
    let first = leaves_among (role_of identifiers r) m.parts ++ leaves_behind (role_of identifiers r) m.tail in
    let dots = dots_of identifiers r in
    let variable = λ (i : Identifier). is_some (depth i) in
    let among = λ (i : Identifier). is_among identifiers.same i (map (λ v. v.variable) ws) in
    adds_same w.symbols old new (first ++ template_leaves dots variable m.template) (rule_leaves identifiers r m) (ap (λ ls. first ++ ls) (same_leaves dots variable among m.template (has_depth identifiers.same ws)))
    (adds_both w.symbols old mid new first (template_leaves dots variable m.template) (c.in_ok-in_head.ensures r head m.parts m.tail h.place tells h.pattern) (c.in_ok-in_template.ensures r depth m.template tells has h.template))
