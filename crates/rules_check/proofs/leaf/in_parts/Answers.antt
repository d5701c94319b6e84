use Rattle.std.proofs.Common.{[], sym, ap, ◌∙◌, arith}
use Rattle.scheme_model.specs.Trees.{Tree, Trees}
use Rattle.scheme_model.specs.Matching.{behind}
use Rattle.scheme_model.specs.Ident.{Ident as Identifier}
use Rattle.syntax_tree.proofs.Looking.{part_there, part_standing, behind_past}
use Rattle.rules_check.specs.Gathered.{list_parts, first_parts, listed_at, listed_behind, name_leaves}
use Rattle.rules_check.proofs.Gathering.{adds_none, adds_same}
use Rattle.rules_check.proofs.leaf.in_parts.Goals as goal

pub look_at-requires : goal.look_at-requires
look_at-requires c = part_standing c.args.work.now 1 c.args.items.now _ c.requires (omega arith)

pub in_names-requires : goal.in_names-requires
in_names-requires c =
    let q = part_there c.args.work.now 1 c.args.items.now c.requires.0 (record { number = 0 }) c.requires.1 (omega arith) in
    let l = c.in-List.ensures.look q.part q.stands in
    (l.0, l.4)

pub in_list-requires : goal.in_list-requires
in_list-requires c = part_standing c.args.work.now 2 c.args.items.now _ c.requires (omega arith)

pub returns-then-items-lt2 : goal.returns-then-items-lt2
returns-then-items-lt2 c = λ ts stands.
    let w = c.args.work.now in
    let old = c.args.leaves.now.items in
    let gone = behind_past w 1 c.args.items.now ts stands (omega arith) in
    adds_same w.symbols old old [] (name_leaves (listed_behind (behind 1 ts))) (ap (λ (x : Trees Identifier). name_leaves (listed_behind x)) (sym gone)) (adds_none w.symbols old)

pub returns-in_ok-in_names-in-List : goal.returns-in_ok-in_names-in-List
returns-in_ok-in_names-in-List c = λ ts stands.
    let w = c.args.work.now in
    let q = part_there w 1 c.args.items.now ts (record { number = 0 }) stands (omega arith) in
    let l = c.in-List.ensures.look q.part q.stands in
    let whole = ap listed_behind q.split ∙ ap (λ (x : Tree Identifier). listed_at x (behind 2 ts)) l.3 in
    adds_same w.symbols c.args.leaves.now.items c.in_names.new.leaves.items (name_leaves l.0) (name_leaves (listed_behind (behind 1 ts))) (ap name_leaves (sym whole)) (c.in_ok-in_names-in-List.ensures l.0 l.4)

pub returns-then-items-lt3 : goal.returns-then-items-lt3
returns-then-items-lt3 c = λ ts stands.
    let w = c.args.work.now in
    let old = c.args.leaves.now.items in
    let q = part_there w 1 c.args.items.now ts (record { number = 0 }) stands (omega arith) in
    let l = c.in-Name.ensures.look q.part q.stands in
    let gone = behind_past w 2 c.args.items.now ts stands (omega arith) in
    let whole = ap listed_behind q.split ∙ ap (λ (x : Tree Identifier). listed_at x (behind 2 ts)) l.2 ∙ ap first_parts gone in
    adds_same w.symbols old old [] (name_leaves (listed_behind (behind 1 ts))) (ap name_leaves (sym whole)) (adds_none w.symbols old)

pub returns-in_ok-in_list-in-Name : goal.returns-in_ok-in_list-in-Name
returns-in_ok-in_list-in-Name c = λ ts stands.
    let w = c.args.work.now in
    let q = part_there w 1 c.args.items.now ts (record { number = 0 }) stands (omega arith) in
    let l = c.in-Name.ensures.look q.part q.stands in
    let p = part_there w 2 c.args.items.now ts (record { number = 0 }) stands (omega arith) in
    let whole = ap listed_behind q.split ∙ ap (λ (x : Tree Identifier). listed_at x (behind 2 ts)) l.2 ∙ ap first_parts p.split in
    adds_same w.symbols c.args.leaves.now.items c.in_list.new.leaves.items (name_leaves (list_parts p.part)) (name_leaves (listed_behind (behind 1 ts))) (ap name_leaves (sym whole)) (c.in_ok-in_list-in-Name.ensures p.part p.stands)

pub returns-in-Atom : goal.returns-in-Atom
returns-in-Atom c = λ ts stands.
    let w = c.args.work.now in
    let old = c.args.leaves.now.items in
    let q = part_there w 1 c.args.items.now ts (record { number = 0 }) stands (omega arith) in
    let l = c.in-Atom.ensures.look q.part q.stands in
    let whole = ap listed_behind q.split ∙ ap (λ (x : Tree Identifier). listed_at x (behind 2 ts)) l.2 in
    adds_same w.symbols old old [] (name_leaves (listed_behind (behind 1 ts))) (ap name_leaves (sym whole)) (adds_none w.symbols old)

pub returns-in-Vector : goal.returns-in-Vector
returns-in-Vector c = λ ts stands.
    let w = c.args.work.now in
    let old = c.args.leaves.now.items in
    let q = part_there w 1 c.args.items.now ts (record { number = 0 }) stands (omega arith) in
    let l = c.in-Vector.ensures.look q.part q.stands in
    let whole = ap listed_behind q.split ∙ ap (λ (x : Tree Identifier). listed_at x (behind 2 ts)) l.2 in
    adds_same w.symbols old old [] (name_leaves (listed_behind (behind 1 ts))) (ap name_leaves (sym whole)) (adds_none w.symbols old)
