use Rattle.std.proofs.Common.{[], ◌++◌, refl, sym, ap, ◌∙◌, rules, arith}
use Rattle.std.proofs.lemmas.List.{append-nil}
use Rattle.scheme_model.specs.Trees.{Tail, proper}
use Rattle.scheme_model.specs.Matching.{behind}
use Rattle.scheme_model.specs.RulesShape.{role_of}
use Rattle.scheme_model.specs.ExpansionFaults.{named}
use Rattle.scheme_model.specs.Leaves.{literal_at, pattern_leaves, leaves_among, leaves_behind}
use Rattle.scheme_model.specs.Ident.{Ident as Identifier}
use Rattle.syntax_tree.specs.Macros.{identifiers}
use Rattle.syntax_tree.specs.Placed.{tree_place}
use Rattle.syntax_tree.proofs.Looking.{part_there, part_within, split_one, behind_past, within_positive, list_parts_within, end_within, vector_parts_within, no_end}
use Rattle.rules_check.proofs.Contents.{end_tree, end_part}
use Rattle.rules_check.proofs.Gathering.{adds_none, adds_both, adds_last, adds_same, up_none, up_more, up_all}
use Rattle.rules_check.proofs.leaf.+literals.Goals as goal

-- ---- one pattern

pub in_pattern-add_literal-requires : goal.in_pattern-add_literal-requires
in_pattern-add_literal-requires t c = let l = c.in-Name.ensures.look c.requires.0 c.requires.1 in (l.0, l.3)

pub in_pattern-returns-in_ok-add_literal-in-Name : goal.in_pattern-returns-in_ok-add_literal-in-Name
in_pattern-returns-in_ok-add_literal-in-Name t c = λ r u tells h.
    let role = role_of identifiers r in
    let l = c.in-Name.ensures.look u h in
    let occ = c.place_of-occ.ensures u h ∙ ap tree_place l.2 in
    adds_same c.args.work.now.symbols c.args.leaves.now.items c.add_literal.new.leaves.items (literal_at (role l.0) (named l.0 l.1)) (pattern_leaves role u) (ap (pattern_leaves role) (sym l.2)) (c.in_ok-add_literal-in-Name.ensures r l.0 l.1 tells (l.3, occ))

pub in_pattern-returns-in-Atom : goal.in_pattern-returns-in-Atom
in_pattern-returns-in-Atom t c = λ r u tells h.
    let role = role_of identifiers r in
    let old = c.args.leaves.now.items in
    adds_same c.args.work.now.symbols old old [] (pattern_leaves role u) (ap (pattern_leaves role) (sym (c.in-Atom.ensures.look u h).2)) (adds_none c.args.work.now.symbols old)

pub in_pattern-in_pattern_list-requires : goal.in_pattern-in_pattern_list-requires
in_pattern-in_pattern_list-requires t c =
    let w = c.args.work.now in
    let h = c.requires in
    let pos = within_positive w c.args.tree c.args.left h in
    let l = c.in-List.ensures.look h.0 h.1 in
    (first_of (search rules, omega arith), (list_parts_within w c.args.left h.0 c.in-List.items.now l.0 l.1 l.2 h.2 l.3 l.4, end_within w c.args.left h.0 c.in-List.end l.0 l.1 l.2 h.2 l.3 l.5))

pub in_pattern-returns-in_ok-in_pattern_list-in-List : goal.in_pattern-returns-in_ok-in_pattern_list-in-List
in_pattern-returns-in_ok-in_pattern_list-in-List t c = λ r u tells h.
    let role = role_of identifiers r in
    let l = c.in-List.ensures.look u h in
    adds_same c.args.work.now.symbols c.args.leaves.now.items c.in_pattern_list.new.leaves.items (leaves_among role l.0 ++ leaves_behind role l.1) (pattern_leaves role u) (ap (pattern_leaves role) (sym l.3)) (c.in_ok-in_pattern_list-in-List.ensures r l.0 l.1 tells l.4 l.5)

pub in_pattern-in_pattern_list-requires-in-Vector : goal.in_pattern-in_pattern_list-requires-in-Vector
in_pattern-in_pattern_list-requires-in-Vector t c =
    let w = c.args.work.now in
    let h = c.requires in
    let pos = within_positive w c.args.tree c.args.left h in
    let l = c.in-Vector.ensures.look h.0 h.1 in
    (first_of (search rules, omega arith), (vector_parts_within w c.args.left h.0 c.in-Vector.items.now l.0 l.1 h.2 l.2 l.3, (proper, tt, omega arith)))

pub in_pattern-returns-in_ok-in_pattern_list-in-Vector : goal.in_pattern-returns-in_ok-in_pattern_list-in-Vector
in_pattern-returns-in_ok-in_pattern_list-in-Vector t c = λ r u tells h.
    let role = role_of identifiers r in
    let l = c.in-Vector.ensures.look u h in
    adds_same c.args.work.now.symbols c.args.leaves.now.items c.in_pattern_list-in-Vector.new.leaves.items (leaves_among role l.0 ++ []) (pattern_leaves role u) (append-nil (leaves_among role l.0) ∙ ap (pattern_leaves role) (sym l.2))
    (c.in_ok-in_pattern_list-in-Vector.ensures r l.0 proper tells l.3 tt)

-- ---- parts and a tail

pub in_pattern_list-loop-k-init : goal.in_pattern_list-loop-k-init
in_pattern_list-loop-k-init t c = λ r ts tells stands.
    up_none c.args.work.now.symbols (leaves_among (role_of identifiers r)) c.args.leaves.now.items ts c.args.from

pub in_pattern_list-in_pattern-requires : goal.in_pattern_list-in_pattern-requires
in_pattern_list-in_pattern-requires t c =
    (first_of (search rules, omega arith), part_within c.args.work.now c.args.items.now c.args.left c.loop-k.k (record { number = 0 }) c.requires.parts c.loop-k-test.true)

pub in_pattern_list-loop-k-preserved : goal.in_pattern_list-loop-k-preserved
in_pattern_list-loop-k-preserved t c = λ r ts tells stands.
    let w = c.args.work.now in
    let k = c.loop-k.k in
    let role = role_of identifiers r in
    let p = part_there w k c.args.items.now ts (record { number = 0 }) stands c.loop-k-test.true in
    up_more w.symbols (leaves_among role) (pattern_leaves role p.part) c.args.leaves.now.items c.loop-k.leaves.items c.in_pattern.new.leaves.items ts c.args.from k p.part (c.loop-k.invariant r ts tells stands) (split_one w k ts _ p) refl
    (c.in_ok-in_pattern.ensures r p.part tells p.stands)

pub in_pattern_list-in_pattern-requires-in-Some : goal.in_pattern_list-in_pattern-requires-in-Some
in_pattern_list-in_pattern-requires-in-Some t c =
    (first_of (search rules, omega arith), end_part c.args.work.now c.args.end c.in-Some.tail c.args.left c.in-Some.is c.requires.tail)

pub in_pattern_list-returns-in-None : goal.in_pattern_list-returns-in-None
in_pattern_list-returns-in-None t c = λ r ts tail tells stands ends.
    let w = c.args.work.now in
    let role = role_of identifiers r in
    let old = c.args.leaves.now.items in
    let new = c.loop-k.leaves.items in
    let us = leaves_among role (behind c.args.from ts) in
    let gone = no_end w c.args.end tail (first_of (search rules, cc)) ends in
    let all = up_all w.symbols (leaves_among role) old new ts c.args.from c.loop-k.k (c.loop-k.invariant r ts tells stands) (behind_past w c.loop-k.k c.args.items.now ts stands c.loop-k-test.false) refl in
    adds_same w.symbols old new (us ++ []) (us ++ leaves_behind role tail) (ap (λ (x : Tail Identifier). us ++ leaves_behind role x) (sym gone)) (adds_last w.symbols old new us all)

pub in_pattern_list-returns-in_ok-in_pattern-in-Some : goal.in_pattern_list-returns-in_ok-in_pattern-in-Some
in_pattern_list-returns-in_ok-in_pattern-in-Some t c = λ r ts tail tells stands ends.
    let w = c.args.work.now in
    let role = role_of identifiers r in
    let old = c.args.leaves.now.items in
    let mid = c.loop-k.leaves.items in
    let new = c.in_pattern-in-Some.new.leaves.items in
    let us = leaves_among role (behind c.args.from ts) in
    let d = end_tree w c.args.end c.in-Some.tail tail c.in-Some.is ends in
    let all = up_all w.symbols (leaves_among role) old mid ts c.args.from c.loop-k.k (c.loop-k.invariant r ts tells stands) (behind_past w c.loop-k.k c.args.items.now ts stands c.loop-k-test.false) refl in
    adds_same w.symbols old new (us ++ pattern_leaves role d.0) (us ++ leaves_behind role tail) (ap (λ (x : Tail Identifier). us ++ leaves_behind role x) (sym d.1))
    (adds_both w.symbols old mid new us (pattern_leaves role d.0) all (c.in_ok-in_pattern-in-Some.ensures r d.0 tells d.2))
