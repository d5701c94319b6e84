use Rattle.std.proofs.Common.{◌≡◌, List, [], ◌∷◌, ◌++◌, true, false, refl, sym, ap, ◌∙◌, subst, rules, arith}
use Rattle.std.proofs.lemmas.List.{append-nil}
use Rattle.scheme_model.specs.Trees.{Tail, proper, atom}
use Rattle.std.specs.Prelude.{Option, Some}
use Rattle.scheme_model.specs.declared.Occ.{Occ}
use Rattle.syntax_tree.specs.Standing.{leaf_tree}
use Rattle.scheme_model.specs.TreeParts.{count}
use Rattle.scheme_model.specs.Matching.{behind}
use Rattle.scheme_model.specs.RulesShape.{nowhere}
use Rattle.scheme_model.specs.Building.{is_escape}
use Rattle.scheme_model.specs.Ident.{Ident as Identifier}
use Rattle.rename_model.specs.Walks as walk
use Rattle.rename_model.specs.Walks.{has_tail, nodes_in, nodes_among, nodes_behind}
use Rattle.syntax_tree.specs.Placed.{tree_place}
use Rattle.syntax_tree.proofs.Looking.{count_stands, part_there, part_within, split_one, behind_past, within_positive, vector_parts_within, no_end}
use Rattle.program_leaves.proofs.Ends.{end_tree, end_part}
use Rattle.program_leaves.proofs.AddLaws.{adds_one, adds_both, adds_last, adds_same, up_none, up_more, up_all}
use Rattle.alpha_equal.specs.Nodes.{dots_where, IsNode}
use Rattle.alpha_equal.proofs.NodeLaws.{escaped, plain, end_told}
use Rattle.alpha_equal.proofs.trees.+templates.Goals as goal

-- ---- one template

pub add_template-acts_as_dots-dots-requires : goal.add_template-acts_as_dots-dots-requires
add_template-acts_as_dots-dots-requires t c = let l = c.in-Name.ensures.look c.requires.0 c.requires.1 in (l.0, l.3)

pub add_template-returns-in_ok-push-in-Name : goal.add_template-returns-in_ok-push-in-Name
add_template-returns-in_ok-push-in-Name t c = λ r u tells h.
    let P = IsNode c.args.work.now.symbols in
    let dots = dots_where c.args.escaped r in
    let l = c.in-Name.ensures.look u h in
    let occ = c.place_of-occ.ensures u h ∙ ap tree_place l.2 in
    let told = c.acts_as_dots-dots.ensures r l.0 tells l.3 in
    adds_same P c.args.nodes.now.items c.push.new.self.items (walk.NameAt l.0 (dots l.0) l.1 ∷ []) (nodes_in dots u) (ap (nodes_in dots) (sym l.2))
    (adds_one P c.args.nodes.now.items c.push.new.self.items _ (walk.NameAt l.0 (dots l.0) l.1) c.in_ok-push-in-Name.ensures.items (l.0, (λ j. walk.NameAt l.0 (sym told j) (sym occ j)), l.3))

pub add_template-returns-in_ok-push-in-Atom : goal.add_template-returns-in_ok-push-in-Atom
add_template-returns-in_ok-push-in-Atom t c = λ r u tells h.
    let P = IsNode c.args.work.now.symbols in
    let dots = dots_where c.args.escaped r in
    let l = c.in-Atom.ensures.look u h in
    let occ = c.place_of-occ-in-Atom.ensures u h ∙ ap tree_place l.2 in
    adds_same P c.args.nodes.now.items c.push-in-Atom.new.self.items (walk.AtomAt l.0 l.1 ∷ []) (nodes_in dots u) (ap (nodes_in dots) (sym l.2))
    (adds_one P c.args.nodes.now.items c.push-in-Atom.new.self.items _ (walk.AtomAt l.0 l.1) c.in_ok-push-in-Atom.ensures.items (l.0, (λ j. walk.AtomAt l.0 (sym occ j)), subst (λ (o : Option Occ). leaf_tree c.args.work.now.symbols c.in-Atom.leaf o ≡ Some (atom l.0 o)) (sym occ) l.3))

pub add_template-returns-in_ok-add_row-in-List : goal.add_template-returns-in_ok-add_row-in-List
add_template-returns-in_ok-add_row-in-List t c = λ r u tells h.
    let P = IsNode c.args.work.now.symbols in
    let dots = dots_where c.args.escaped r in
    let l = c.in-List.ensures.look u h in
    let escape : is_escape dots l.0 l.1 ≡ true = sym (c.escapes.ensures r l.0 l.1 tells l.4 l.5) ∙ c.if-escapes.true in
    let old = c.args.nodes.now.items in
    let mid = c.push-then-escapes.new.self.items in
    let new = c.add_row-then-escapes.new.nodes.items in
    let inside = nodes_among nowhere (behind 1 l.0) ++ nodes_behind nowhere l.1 in
    adds_same P old new (walk.Escape ∷ inside) (nodes_in dots u) (escaped dots l.0 l.1 l.2 escape ∙ ap (nodes_in dots) (sym l.3))
    (adds_both P old mid new (walk.Escape ∷ []) inside (adds_one P old mid _ walk.Escape c.in_ok-push-in-List.ensures.items refl) (c.in_ok-add_row-in-List.ensures r l.0 l.1 tells l.4 l.5))

pub add_template-returns-in_ok-add_row-in-List-2 : goal.add_template-returns-in_ok-add_row-in-List-2
add_template-returns-in_ok-add_row-in-List-2 t c = λ r u tells h.
    let P = IsNode c.args.work.now.symbols in
    let dots = dots_where c.args.escaped r in
    let l = c.in-List.ensures.look u h in
    let none : is_escape dots l.0 l.1 ≡ false = sym (c.escapes.ensures r l.0 l.1 tells l.4 l.5) ∙ c.if-escapes.false in
    let old = c.args.nodes.now.items in
    let mid = c.add_list.new.nodes.items in
    let new = c.add_row-else-escapes.new.nodes.items in
    let inside = nodes_among dots l.0 ++ nodes_behind dots l.1 in
    let count_is = sym (count_stands c.args.work.now c.in-List.items.now l.0 l.4) in
    let end_is = end_told c.args.work.now c.in-List.end l.1 l.5 in
    adds_same P old new (walk.ListOf (count l.0) (has_tail l.1) ∷ inside) (nodes_in dots u) (plain dots l.0 l.1 l.2 none ∙ ap (nodes_in dots) (sym l.3))
    (adds_both P old mid new (walk.ListOf (count l.0) (has_tail l.1) ∷ []) inside
    (adds_one P old mid _ (walk.ListOf (count l.0) (has_tail l.1)) c.in_ok-add_list-in-List.ensures (λ j. walk.ListOf (sym count_is j) (sym end_is j))) (c.in_ok-add_row-in-List-2.ensures r l.0 l.1 tells l.4 l.5))

pub add_template-add_row-requires : goal.add_template-add_row-requires
add_template-add_row-requires t c =
    let w = c.args.work.now in
    let h = c.requires in
    let pos = within_positive w c.args.tree c.args.left h in
    let l = c.in-Vector.ensures.look h.0 h.1 in
    (first_of (search rules, omega arith), (vector_parts_within w c.args.left h.0 c.in-Vector.items.now l.0 l.1 h.2 l.2 l.3, (proper, tt, omega arith)))

pub add_template-returns-in_ok-add_row-in-Vector : goal.add_template-returns-in_ok-add_row-in-Vector
add_template-returns-in_ok-add_row-in-Vector t c = λ r u tells h.
    let P = IsNode c.args.work.now.symbols in
    let dots = dots_where c.args.escaped r in
    let l = c.in-Vector.ensures.look u h in
    let old = c.args.nodes.now.items in
    let mid = c.push-in-Vector.new.self.items in
    let new = c.add_row.new.nodes.items in
    let count_is = sym (count_stands c.args.work.now c.in-Vector.items.now l.0 l.3) in
    let inside = nodes_among dots l.0 in
    adds_same P old new (walk.VectorOf (count l.0) ∷ inside ++ []) (nodes_in dots u) (ap (λ (q : List (walk.TreeNode Identifier)). walk.VectorOf (count l.0) ∷ q) (append-nil inside) ∙ ap (nodes_in dots) (sym l.2))
    (adds_both P old mid new (walk.VectorOf (count l.0) ∷ []) (inside ++ [])
    (adds_one P old mid _ (walk.VectorOf (count l.0)) c.in_ok-push-in-Vector.ensures.items (ap walk.VectorOf (sym count_is))) (c.in_ok-add_row-in-Vector.ensures r l.0 proper tells l.3 tt))

-- ---- parts and a tail

pub add_row-loop-k-init : goal.add_row-loop-k-init
add_row-loop-k-init t c = λ r ts tells stands. up_none (IsNode c.args.work.now.symbols) (nodes_among (dots_where c.args.escaped r)) c.args.nodes.now.items ts c.args.from

pub add_row-add_template-requires : goal.add_row-add_template-requires
add_row-add_template-requires t c =
    (first_of (search rules, omega arith), part_within c.args.work.now c.args.items.now c.args.left c.loop-k.k (record { number = 0 }) c.requires.parts c.loop-k-test.true)

pub add_row-loop-k-preserved : goal.add_row-loop-k-preserved
add_row-loop-k-preserved t c = λ r ts tells stands.
    let w = c.args.work.now in
    let k = c.loop-k.k in
    let dots = dots_where c.args.escaped r in
    let p = part_there w k c.args.items.now ts (record { number = 0 }) stands c.loop-k-test.true in
    up_more (IsNode w.symbols) (nodes_among dots) (nodes_in dots p.part) c.args.nodes.now.items c.loop-k.nodes.items c.add_template.new.nodes.items ts c.args.from k p.part (c.loop-k.invariant r ts tells stands) (split_one w k ts _ p) refl
    (c.in_ok-add_template.ensures r p.part tells p.stands)

pub add_row-add_template-requires-in-Some : goal.add_row-add_template-requires-in-Some
add_row-add_template-requires-in-Some t c =
    (first_of (search rules, omega arith), end_part c.args.work.now c.args.end c.in-Some.tail c.args.left c.in-Some.is c.requires.tail)

pub add_row-returns-in-None : goal.add_row-returns-in-None
add_row-returns-in-None t c = λ r ts tail tells stands ends.
    let w = c.args.work.now in
    let P = IsNode w.symbols in
    let dots = dots_where c.args.escaped r in
    let old = c.args.nodes.now.items in
    let new = c.loop-k.nodes.items in
    let us = nodes_among dots (behind c.args.from ts) in
    let gone = no_end w c.args.end tail (first_of (search rules, cc)) ends in
    let all = up_all P (nodes_among dots) old new ts c.args.from c.loop-k.k (c.loop-k.invariant r ts tells stands) (behind_past w c.loop-k.k c.args.items.now ts stands c.loop-k-test.false) refl in
    adds_same P old new (us ++ []) (us ++ nodes_behind dots tail) (ap (λ (x : Tail Identifier). us ++ nodes_behind dots x) (sym gone)) (adds_last P old new us all)

pub add_row-returns-in_ok-add_template-in-Some : goal.add_row-returns-in_ok-add_template-in-Some
add_row-returns-in_ok-add_template-in-Some t c = λ r ts tail tells stands ends.
    let w = c.args.work.now in
    let P = IsNode w.symbols in
    let dots = dots_where c.args.escaped r in
    let old = c.args.nodes.now.items in
    let mid = c.loop-k.nodes.items in
    let new = c.add_template-in-Some.new.nodes.items in
    let us = nodes_among dots (behind c.args.from ts) in
    let d = end_tree w c.args.end c.in-Some.tail tail c.in-Some.is ends in
    let all = up_all P (nodes_among dots) old mid ts c.args.from c.loop-k.k (c.loop-k.invariant r ts tells stands) (behind_past w c.loop-k.k c.args.items.now ts stands c.loop-k-test.false) refl in
    adds_same P old new (us ++ nodes_in dots d.0) (us ++ nodes_behind dots tail) (ap (λ (x : Tail Identifier). us ++ nodes_behind dots x) (sym d.1))
    (adds_both P old mid new us (nodes_in dots d.0) all (c.in_ok-add_template-in-Some.ensures r d.0 tells d.2))
