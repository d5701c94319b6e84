use Rattle.std.proofs.Common.{[], ◌∷◌, ◌++◌, refl, sym, ap, ◌∙◌, rules, arith}
use Rattle.std.proofs.lemmas.List.{append-nil}
use Rattle.scheme_model.specs.Trees.{Tail, proper}
use Rattle.scheme_model.specs.Matching.{behind}
use Rattle.scheme_model.specs.ExpansionFaults.{named}
use Rattle.scheme_model.specs.Ident.{Ident as Identifier}
use Rattle.syntax_tree.specs.Placed.{tree_place, IsNamed}
use Rattle.syntax_tree.proofs.Looking.{part_there, part_within, split_one, behind_past, within_positive, list_parts_within, end_within, vector_parts_within, no_end}
use Rattle.program_leaves.specs.Names.{names_in, names_among, names_behind}
use Rattle.program_leaves.proofs.Ends.{end_tree, end_part}
use Rattle.program_leaves.proofs.AddLaws.{adds_none, adds_one, adds_both, adds_last, adds_same, up_none, up_more, up_all}
use Rattle.program_leaves.proofs.names.+names.Goals as goal

-- ---- one tree

pub add_names-returns-in_ok-push-in-Name : goal.add_names-returns-in_ok-push-in-Name
add_names-returns-in_ok-push-in-Name t c = λ u h.
    let is = IsNamed c.args.work.now.symbols in
    let l = c.in-Name.ensures.look u h in
    let occ = c.place_of-occ.ensures u h ∙ ap tree_place l.2 in
    adds_same is c.args.names.now.items c.push.new.self.items (named l.0 l.1 ∷ []) (names_in u) (ap names_in (sym l.2)) (adds_one is c.args.names.now.items c.push.new.self.items _ (named l.0 l.1) c.in_ok-push-in-Name.ensures.items (l.3, occ))

pub add_names-returns-in-Atom : goal.add_names-returns-in-Atom
add_names-returns-in-Atom t c = λ u h.
    let is = IsNamed c.args.work.now.symbols in
    let old = c.args.names.now.items in
    adds_same is old old [] (names_in u) (ap names_in (sym (c.in-Atom.ensures.look u h).2)) (adds_none is old)

pub add_names-add_row-requires : goal.add_names-add_row-requires
add_names-add_row-requires t c =
    let w = c.args.work.now in
    let h = c.requires in
    let pos = within_positive w c.args.tree c.args.left h in
    let l = c.in-List.ensures.look h.0 h.1 in
    (first_of (search rules, omega arith), (list_parts_within w c.args.left h.0 c.in-List.items.now l.0 l.1 l.2 h.2 l.3 l.4, end_within w c.args.left h.0 c.in-List.end l.0 l.1 l.2 h.2 l.3 l.5))

pub add_names-returns-in_ok-add_row-in-List : goal.add_names-returns-in_ok-add_row-in-List
add_names-returns-in_ok-add_row-in-List t c = λ u h.
    let l = c.in-List.ensures.look u h in
    adds_same (IsNamed c.args.work.now.symbols) c.args.names.now.items c.add_row.new.names.items (names_among l.0 ++ names_behind l.1) (names_in u) (ap names_in (sym l.3)) (c.in_ok-add_row-in-List.ensures l.0 l.1 l.4 l.5)

pub add_names-add_row-requires-in-Vector : goal.add_names-add_row-requires-in-Vector
add_names-add_row-requires-in-Vector t c =
    let w = c.args.work.now in
    let h = c.requires in
    let pos = within_positive w c.args.tree c.args.left h in
    let l = c.in-Vector.ensures.look h.0 h.1 in
    (first_of (search rules, omega arith), (vector_parts_within w c.args.left h.0 c.in-Vector.items.now l.0 l.1 h.2 l.2 l.3, (proper, tt, omega arith)))

pub add_names-returns-in_ok-add_row-in-Vector : goal.add_names-returns-in_ok-add_row-in-Vector
add_names-returns-in_ok-add_row-in-Vector t c = λ u h.
    let l = c.in-Vector.ensures.look u h in
    adds_same (IsNamed c.args.work.now.symbols) c.args.names.now.items c.add_row-in-Vector.new.names.items (names_among l.0 ++ []) (names_in u) (append-nil (names_among l.0) ∙ ap names_in (sym l.2))
    (c.in_ok-add_row-in-Vector.ensures l.0 proper l.3 tt)

-- ---- parts and a tail

pub add_row-loop-k-init : goal.add_row-loop-k-init
add_row-loop-k-init t c = λ ts stands.
    up_none (IsNamed c.args.work.now.symbols) names_among c.args.names.now.items ts c.args.from

pub add_row-add_names-requires : goal.add_row-add_names-requires
add_row-add_names-requires t c =
    (first_of (search rules, omega arith), part_within c.args.work.now c.args.items.now c.args.left c.loop-k.k (record { number = 0 }) c.requires.parts c.loop-k-test.true)

pub add_row-loop-k-preserved : goal.add_row-loop-k-preserved
add_row-loop-k-preserved t c = λ ts stands.
    let w = c.args.work.now in
    let k = c.loop-k.k in
    let p = part_there w k c.args.items.now ts (record { number = 0 }) stands c.loop-k-test.true in
    up_more (IsNamed w.symbols) names_among (names_in p.part) c.args.names.now.items c.loop-k.names.items c.add_names.new.names.items ts c.args.from k p.part (c.loop-k.invariant ts stands) (split_one w k ts _ p) refl
    (c.in_ok-add_names.ensures p.part p.stands)

pub add_row-add_names-requires-in-Some : goal.add_row-add_names-requires-in-Some
add_row-add_names-requires-in-Some t c =
    (first_of (search rules, omega arith), end_part c.args.work.now c.args.end c.in-Some.tail c.args.left c.in-Some.is c.requires.tail)

pub add_row-returns-in-None : goal.add_row-returns-in-None
add_row-returns-in-None t c = λ ts tail stands ends.
    let w = c.args.work.now in
    let is = IsNamed w.symbols in
    let old = c.args.names.now.items in
    let new = c.loop-k.names.items in
    let us = names_among (behind c.args.from ts) in
    let gone = no_end w c.args.end tail (first_of (search rules, cc)) ends in
    let all = up_all is names_among old new ts c.args.from c.loop-k.k (c.loop-k.invariant ts stands) (behind_past w c.loop-k.k c.args.items.now ts stands c.loop-k-test.false) refl in
    adds_same is old new (us ++ []) (us ++ names_behind tail) (ap (λ (x : Tail Identifier). us ++ names_behind x) (sym gone)) (adds_last is old new us all)

pub add_row-returns-in_ok-add_names-in-Some : goal.add_row-returns-in_ok-add_names-in-Some
add_row-returns-in_ok-add_names-in-Some t c = λ ts tail stands ends.
    let w = c.args.work.now in
    let is = IsNamed w.symbols in
    let old = c.args.names.now.items in
    let mid = c.loop-k.names.items in
    let new = c.add_names-in-Some.new.names.items in
    let us = names_among (behind c.args.from ts) in
    let d = end_tree w c.args.end c.in-Some.tail tail c.in-Some.is ends in
    let all = up_all is names_among old mid ts c.args.from c.loop-k.k (c.loop-k.invariant ts stands) (behind_past w c.loop-k.k c.args.items.now ts stands c.loop-k-test.false) refl in
    adds_same is old new (us ++ names_in d.0) (us ++ names_behind tail) (ap (λ (x : Tail Identifier). us ++ names_behind x) (sym d.1))
    (adds_both is old mid new us (names_in d.0) all (c.in_ok-add_names-in-Some.ensures d.0 d.2))
