use Rattle.std.proofs.Common.{◌≡◌, [], ◌++◌, ◌||◌, true, None, refl, sym, ap, ◌∙◌, rules, arith}
use Rattle.std.specs.Prelude.{is_some}
use Rattle.std.proofs.lemmas.List.{append-nil}
use Rattle.scheme_model.specs.Trees.{Tail, proper}
use Rattle.scheme_model.specs.Matching.{behind}
use Rattle.scheme_model.specs.RulesShape.{nowhere, escape_of}
use Rattle.scheme_model.specs.ExpansionFaults.{named}
use Rattle.scheme_model.specs.Leaves.{unless, template_leaves, template_among, template_behind}
use Rattle.scheme_model.specs.Ident.{Ident as Identifier}
use Rattle.syntax_tree.specs.Placed.{tree_place}
use Rattle.syntax_tree.proofs.Looking.{part_there, part_within, split_one, behind_past, within_positive, vector_parts_within, no_end}
use Rattle.rules_check.specs.Templates.{dots_where}
use Rattle.rules_check.proofs.Contents.{end_tree, end_part}
use Rattle.rules_check.proofs.Faults.{none_is}
use Rattle.rules_check.proofs.Gathering.{adds_none, adds_both, adds_last, adds_same, up_none, up_more, up_all, escaped_leaves, plain_leaves}
use Rattle.rules_check.proofs.leaf.+identifiers.Goals as goal

-- ---- one template

pub in_template-add_name-requires : goal.in_template-add_name-requires
in_template-add_name-requires t c = let l = c.in-Name.ensures.look c.requires.0 c.requires.1 in (l.0, l.3)

pub in_template-returns-in_ok-add_name-in-Name : goal.in_template-returns-in_ok-add_name-in-Name
in_template-returns-in_ok-add_name-in-Name t c = λ r depth u tells has h.
    let dots = dots_where c.args.escaped r in
    let variable = λ (i : Identifier). is_some (depth i) in
    let l = c.in-Name.ensures.look u h in
    let occ = c.place_of-occ.ensures u h ∙ ap tree_place l.2 in
    adds_same c.args.work.now.symbols c.args.leaves.now.items c.add_name.new.leaves.items (unless (dots l.0 || variable l.0) (named l.0 l.1)) (template_leaves dots variable u) (ap (template_leaves dots variable) (sym l.2)) (c.in_ok-add_name-in-Name.ensures r depth l.0 l.1 tells has (l.3, occ))

pub in_template-returns-in-Atom : goal.in_template-returns-in-Atom
in_template-returns-in-Atom t c = λ r depth u tells has h.
    let dots = dots_where c.args.escaped r in
    let variable = λ (i : Identifier). is_some (depth i) in
    let old = c.args.leaves.now.items in
    adds_same c.args.work.now.symbols old old [] (template_leaves dots variable u) (ap (template_leaves dots variable) (sym (c.in-Atom.ensures.look u h).2)) (adds_none c.args.work.now.symbols old)

pub in_template-returns-in_ok-in_template_list-in-List : goal.in_template-returns-in_ok-in_template_list-in-List
in_template-returns-in_ok-in_template_list-in-List t c = λ r depth u tells has h.
    let names = c.args.work.now.symbols in
    let old = c.args.leaves.now.items in
    let dots = dots_where c.args.escaped r in
    let variable = λ (i : Identifier). is_some (depth i) in
    let l = c.in-List.ensures.look u h in
    let new = c.in_template_list-then-escapes.new.leaves.items in
    let escape : is_some (escape_of dots l.0 l.1) ≡ true = sym (c.escapes.ensures r l.0 l.1 tells l.4 l.5) ∙ c.if-escapes.true in
    adds_same names old new (template_among nowhere variable (behind 1 l.0) ++ template_behind nowhere variable l.1) (template_leaves dots variable u)
    (escaped_leaves dots variable l.0 l.1 l.2 escape ∙ ap (template_leaves dots variable) (sym l.3)) (c.in_ok-in_template_list-in-List.ensures r depth l.0 l.1 tells has l.4 l.5)

pub in_template-returns-in_ok-in_template_list-in-List-2 : goal.in_template-returns-in_ok-in_template_list-in-List-2
in_template-returns-in_ok-in_template_list-in-List-2 t c = λ r depth u tells has h.
    let names = c.args.work.now.symbols in
    let old = c.args.leaves.now.items in
    let dots = dots_where c.args.escaped r in
    let variable = λ (i : Identifier). is_some (depth i) in
    let l = c.in-List.ensures.look u h in
    let new = c.in_template_list-else-escapes.new.leaves.items in
    let none : escape_of dots l.0 l.1 ≡ None = none_is (escape_of dots l.0 l.1) (sym (c.escapes.ensures r l.0 l.1 tells l.4 l.5) ∙ c.if-escapes.false) in
    adds_same names old new (template_among dots variable l.0 ++ template_behind dots variable l.1) (template_leaves dots variable u)
    (plain_leaves dots variable l.0 l.1 l.2 none ∙ ap (template_leaves dots variable) (sym l.3)) (c.in_ok-in_template_list-in-List-2.ensures r depth l.0 l.1 tells has l.4 l.5)

pub in_template-in_template_list-requires : goal.in_template-in_template_list-requires
in_template-in_template_list-requires t c =
    let w = c.args.work.now in
    let h = c.requires in
    let pos = within_positive w c.args.tree c.args.left h in
    let l = c.in-Vector.ensures.look h.0 h.1 in
    (first_of (search rules, omega arith), (vector_parts_within w c.args.left h.0 c.in-Vector.items.now l.0 l.1 h.2 l.2 l.3, (proper, tt, omega arith)))

pub in_template-returns-in_ok-in_template_list-in-Vector : goal.in_template-returns-in_ok-in_template_list-in-Vector
in_template-returns-in_ok-in_template_list-in-Vector t c = λ r depth u tells has h.
    let dots = dots_where c.args.escaped r in
    let variable = λ (i : Identifier). is_some (depth i) in
    let l = c.in-Vector.ensures.look u h in
    adds_same c.args.work.now.symbols c.args.leaves.now.items c.in_template_list.new.leaves.items (template_among dots variable l.0 ++ []) (template_leaves dots variable u) (append-nil (template_among dots variable l.0) ∙ ap (template_leaves dots variable) (sym l.2))
    (c.in_ok-in_template_list-in-Vector.ensures r depth l.0 proper tells has l.3 tt)

-- ---- parts and a tail

pub in_template_list-loop-k-init : goal.in_template_list-loop-k-init
in_template_list-loop-k-init t c = λ r depth ts tells has stands.
    up_none c.args.work.now.symbols (template_among (dots_where c.args.escaped r) (λ (i : Identifier). is_some (depth i))) c.args.leaves.now.items ts c.args.from

pub in_template_list-in_template-requires : goal.in_template_list-in_template-requires
in_template_list-in_template-requires t c =
    (first_of (search rules, omega arith), part_within c.args.work.now c.args.items.now c.args.left c.loop-k.k (record { number = 0 }) c.requires.parts c.loop-k-test.true)

pub in_template_list-loop-k-preserved : goal.in_template_list-loop-k-preserved
in_template_list-loop-k-preserved t c = λ r depth ts tells has stands.
    let w = c.args.work.now in
    let k = c.loop-k.k in
    let dots = dots_where c.args.escaped r in
    let variable = λ (i : Identifier). is_some (depth i) in
    let p = part_there w k c.args.items.now ts (record { number = 0 }) stands c.loop-k-test.true in
    up_more w.symbols (template_among dots variable) (template_leaves dots variable p.part) c.args.leaves.now.items c.loop-k.leaves.items c.in_template.new.leaves.items ts c.args.from k p.part (c.loop-k.invariant r depth ts tells has stands) (split_one w k ts _ p) refl
    (c.in_ok-in_template.ensures r depth p.part tells has p.stands)

pub in_template_list-in_template-requires-in-Some : goal.in_template_list-in_template-requires-in-Some
in_template_list-in_template-requires-in-Some t c =
    (first_of (search rules, omega arith), end_part c.args.work.now c.args.end c.in-Some.tail c.args.left c.in-Some.is c.requires.tail)

pub in_template_list-returns-in-None : goal.in_template_list-returns-in-None
in_template_list-returns-in-None t c = λ r depth ts tail tells has stands ends.
    let w = c.args.work.now in
    let dots = dots_where c.args.escaped r in
    let variable = λ (i : Identifier). is_some (depth i) in
    let old = c.args.leaves.now.items in
    let new = c.loop-k.leaves.items in
    let us = template_among dots variable (behind c.args.from ts) in
    let gone = no_end w c.args.end tail (first_of (search rules, cc)) ends in
    let all = up_all w.symbols (template_among dots variable) old new ts c.args.from c.loop-k.k (c.loop-k.invariant r depth ts tells has stands) (behind_past w c.loop-k.k c.args.items.now ts stands c.loop-k-test.false) refl in
    adds_same w.symbols old new (us ++ []) (us ++ template_behind dots variable tail) (ap (λ (x : Tail Identifier). us ++ template_behind dots variable x) (sym gone)) (adds_last w.symbols old new us all)

pub in_template_list-returns-in_ok-in_template-in-Some : goal.in_template_list-returns-in_ok-in_template-in-Some
in_template_list-returns-in_ok-in_template-in-Some t c = λ r depth ts tail tells has stands ends.
    let w = c.args.work.now in
    let dots = dots_where c.args.escaped r in
    let variable = λ (i : Identifier). is_some (depth i) in
    let old = c.args.leaves.now.items in
    let mid = c.loop-k.leaves.items in
    let new = c.in_template-in-Some.new.leaves.items in
    let us = template_among dots variable (behind c.args.from ts) in
    let d = end_tree w c.args.end c.in-Some.tail tail c.in-Some.is ends in
    let all = up_all w.symbols (template_among dots variable) old mid ts c.args.from c.loop-k.k (c.loop-k.invariant r depth ts tells has stands) (behind_past w c.loop-k.k c.args.items.now ts stands c.loop-k-test.false) refl in
    adds_same w.symbols old new (us ++ template_leaves dots variable d.0) (us ++ template_behind dots variable tail) (ap (λ (x : Tail Identifier). us ++ template_behind dots variable x) (sym d.1))
    (adds_both w.symbols old mid new us (template_leaves dots variable d.0) all (c.in_ok-in_template-in-Some.ensures r depth d.0 tells has d.2))
