use Rattle.std.proofs.Common.{◌≡◌, ◌+◌, ℕ, List, [], ◌∷◌, ◌++◌, Bool, Option, map, refl, sym, ap, ◌∙◌, subst, append_assoc, rules, arith}
use Rattle.std.specs.Prelude.{if◌then◌else◌}
use Rattle.std.proofs.lemmas.List.{append-nil, map-append}
use Rattle.scheme_model.specs.declared.Occ.{Occ}
use Rattle.scheme_model.specs.Trees.{Tail, proper}
use Rattle.scheme_model.specs.Cores.{hole_weight, weight, weights, tail_weight}
use Rattle.scheme_model.specs.Matching.{behind}
use Rattle.scheme_model.specs.Holes.{places_among, places_behind}
use Rattle.scheme_model.specs.Ident.{symbol_of}
use Rattle.syntax_tree.specs.declared.rules.Named.{Named}
use Rattle.syntax_tree.proofs.Looking.{part_there, part_within, split_one, behind_past, within_positive, list_parts_within, end_within, vector_parts_within, no_end}
use Rattle.program_leaves.specs.Holes.{left, is_next, behind_first, occs_in, occs_among, occs_behind, AllFrom}
use Rattle.program_leaves.proofs.Ends.{end_tree, end_part}
use Rattle.program_leaves.proofs.HoleLaws.{hole_next, a_hole, a_name, an_atom, a_list, a_vector, left_of_row, part_at, step_at, step_from, walked_more, walked_all, no_tail, a_tail}
use Rattle.program_leaves.proofs.holes.+outside.Goals as goal

-- ---- one datum

pub add_outside-returns-then-pass : goal.add_outside-returns-then-pass
add_outside-returns-then-pass t c = λ u h rest stands holed at from bound.
    let s = c.args.holes.now in
    let n = s.nodes in
    let old = map (λ (m : Named). m.occ) c.args.names.now.items in
    let is = sym (hole_next n h rest from) ∙ ap (λ (ps : List ℕ). is_next ps n) (sym at) ∙ sym c.pass.ensures.answer ∙ c.if-pass.true in
    let hole = a_hole h n rest is in
    let past = c.pass.ensures.left ∙ ap (λ (b : Bool). if b then behind_first (left s) else left s) c.if-pass.true ∙ ap behind_first at ∙ hole.past in
    let same = c.pass.ensures.hole c.if-pass.true in
    (sym (append-nil old) ∙ ap (λ (q : List (Option Occ)). old ++ q) (sym hole.occs), past, omega (arith, same, hole.none))

pub add_outside-returns-in_ok-push-in-Name : goal.add_outside-returns-in_ok-push-in-Name
add_outside-returns-in_ok-push-in-Name t c = λ u h rest stands holed at from bound.
    let s = c.args.holes.now in
    let n = s.nodes in
    let old = map (λ (m : Named). m.occ) c.args.names.now.items in
    let not_hole = sym (hole_next n h rest from) ∙ ap (λ (ps : List ℕ). is_next ps n) (sym at) ∙ sym c.pass.ensures.answer ∙ c.if-pass.false in
    let stays = c.pass.ensures.left ∙ ap (λ (b : Bool). if b then behind_first (left s) else left s) c.if-pass.false ∙ at in
    let l = c.in-Name.ensures.look u stands in
    let leaf = a_name symbol_of u h n l.0 l.1 holed l.2 not_hole in
    let node = c.pass.ensures.node c.if-pass.false (omega (arith, bound)) in
    let added = ap (map (λ (m : Named). m.occ)) c.in_ok-push-in-Name.ensures.items ∙ map-append (λ (m : Named). m.occ) c.args.names.now.items _ in
    (added ∙ ap (λ (o : Option Occ). old ++ o ∷ []) (c.place_of-occ.ensures u stands) ∙ ap (λ (q : List (Option Occ)). old ++ q) (sym leaf.occs), stays ∙ ap (λ (q : List ℕ). q ++ rest) leaf.none, omega (arith, node, leaf.one))

pub add_outside-returns-in-Atom : goal.add_outside-returns-in-Atom
add_outside-returns-in-Atom t c = λ u h rest stands holed at from bound.
    let s = c.args.holes.now in
    let n = s.nodes in
    let old = map (λ (m : Named). m.occ) c.args.names.now.items in
    let not_hole = sym (hole_next n h rest from) ∙ ap (λ (ps : List ℕ). is_next ps n) (sym at) ∙ sym c.pass.ensures.answer ∙ c.if-pass.false in
    let stays = c.pass.ensures.left ∙ ap (λ (b : Bool). if b then behind_first (left s) else left s) c.if-pass.false ∙ at in
    let l = c.in-Atom.ensures.look u stands in
    let leaf = an_atom symbol_of u h n l.0 l.1 holed l.2 not_hole in
    let node = c.pass.ensures.node c.if-pass.false (omega (arith, bound)) in
    (sym (append-nil old) ∙ ap (λ (q : List (Option Occ)). old ++ q) (sym leaf.occs), stays ∙ ap (λ (q : List ℕ). q ++ rest) leaf.none, omega (arith, node, leaf.one))

pub add_outside-add_row_outside-requires : goal.add_outside-add_row_outside-requires
add_outside-add_row_outside-requires t c =
    let w = c.args.work.now in
    let h = c.requires in
    let pos = within_positive w c.args.tree c.args.depth h in
    let l = c.in-List.ensures.look h.0 h.1 in
    (first_of (search rules, omega arith), (list_parts_within w c.args.depth h.0 c.in-List.items.now l.0 l.1 l.2 h.2 l.3 l.4, end_within w c.args.depth h.0 c.in-List.end l.0 l.1 l.2 h.2 l.3 l.5))

pub add_outside-returns-in_ok-add_row_outside-in-List : goal.add_outside-returns-in_ok-add_row_outside-in-List
add_outside-returns-in_ok-add_row_outside-in-List t c = λ u h rest stands holed at from bound.
    let s = c.args.holes.now in
    let n = s.nodes in
    let old = map (λ (m : Named). m.occ) c.args.names.now.items in
    let not_hole = sym (hole_next n h rest from) ∙ ap (λ (ps : List ℕ). is_next ps n) (sym at) ∙ sym c.pass.ensures.answer ∙ c.if-pass.false in
    let stays = c.pass.ensures.left ∙ ap (λ (b : Bool). if b then behind_first (left s) else left s) c.if-pass.false ∙ at in
    let l = c.in-List.ensures.look u stands in
    let row = a_list symbol_of u h n l.0 l.1 l.2 holed l.3 not_hole in
    let s1 = c.pass.new.holes in
    let node = c.pass.ensures.node c.if-pass.false (omega (arith, bound, row.many)) in
    let at1 = stays ∙ ap (λ (q : List ℕ). q ++ rest) row.places ∙ ap (λ (m : ℕ). (places_among hole_weight m row.parts ++ places_behind hole_weight (m + weights hole_weight row.parts) row.last) ++ rest) (sym node) in
    let total : n + weight hole_weight h ≡ s1.nodes + weights hole_weight row.parts + tail_weight hole_weight row.last = omega (arith, node, row.many) in
    let r = c.in_ok-add_row_outside-in-List.ensures l.0 l.1 row.parts row.last rest l.4 l.5 row.like row.tail_like at1 (subst (λ (m : ℕ). AllFrom m rest) total from) (omega (arith, bound, total)) in
    (r.0 ∙ append_assoc old (occs_among row.parts) (occs_behind row.last) ∙ ap (λ (q : List (Option Occ)). old ++ q) (sym row.occs), r.1, omega (arith, r.2, total))

pub add_outside-add_row_outside-requires-in-Vector : goal.add_outside-add_row_outside-requires-in-Vector
add_outside-add_row_outside-requires-in-Vector t c =
    let w = c.args.work.now in
    let h = c.requires in
    let pos = within_positive w c.args.tree c.args.depth h in
    let l = c.in-Vector.ensures.look h.0 h.1 in
    (first_of (search rules, omega arith), (vector_parts_within w c.args.depth h.0 c.in-Vector.items.now l.0 l.1 h.2 l.2 l.3, (proper, tt, omega arith)))

pub add_outside-returns-in_ok-add_row_outside-in-Vector : goal.add_outside-returns-in_ok-add_row_outside-in-Vector
add_outside-returns-in_ok-add_row_outside-in-Vector t c = λ u h rest stands holed at from bound.
    let s = c.args.holes.now in
    let n = s.nodes in
    let old = map (λ (m : Named). m.occ) c.args.names.now.items in
    let not_hole = sym (hole_next n h rest from) ∙ ap (λ (ps : List ℕ). is_next ps n) (sym at) ∙ sym c.pass.ensures.answer ∙ c.if-pass.false in
    let stays = c.pass.ensures.left ∙ ap (λ (b : Bool). if b then behind_first (left s) else left s) c.if-pass.false ∙ at in
    let l = c.in-Vector.ensures.look u stands in
    let row = a_vector symbol_of u h n l.0 l.1 holed l.2 not_hole in
    let s1 = c.pass.new.holes in
    let node = c.pass.ensures.node c.if-pass.false (omega (arith, bound, row.many)) in
    let at1 = stays ∙ ap (λ (q : List ℕ). q ++ rest) row.places ∙ ap (λ (m : ℕ). (places_among hole_weight m row.parts ++ places_behind hole_weight (m + weights hole_weight row.parts) row.last) ++ rest) (sym node) in
    let total : n + weight hole_weight h ≡ s1.nodes + weights hole_weight row.parts + tail_weight hole_weight row.last = omega (arith, node, row.many) in
    let r = c.in_ok-add_row_outside-in-Vector.ensures l.0 proper row.parts row.last rest l.3 tt row.like row.tail_like at1 (subst (λ (m : ℕ). AllFrom m rest) total from) (omega (arith, bound, total)) in
    (r.0 ∙ append_assoc old (occs_among row.parts) (occs_behind row.last) ∙ ap (λ (q : List (Option Occ)). old ++ q) (sym row.occs), r.1, omega (arith, r.2, total))

-- ---- parts and a tail

pub add_row_outside-loop-k-init : goal.add_row_outside-loop-k-init
add_row_outside-loop-k-init t c = λ ts us last rest stands like at from bound.
    record { so_far = []; added = sym (append-nil _); whole = refl; like = like; holes = at; count = refl }

pub add_row_outside-add_outside-requires : goal.add_row_outside-add_outside-requires
add_row_outside-add_outside-requires t c =
    (first_of (search rules, omega arith), part_within c.args.work.now c.args.items.now c.args.depth c.loop-k.k (record { number = 0 }) c.requires.parts c.loop-k-test.true)

pub add_row_outside-loop-k-preserved : goal.add_row_outside-loop-k-preserved
add_row_outside-loop-k-preserved t c = λ ts us last rest stands like at from bound.
    let w = c.args.work.now in
    let k = c.loop-k.k in
    let n = c.args.holes.now.nodes in
    let m = c.loop-k.holes.nodes in
    let inv = c.loop-k.invariant ts us last rest stands like at from bound in
    let p = part_there w k c.args.items.now ts (record { number = 0 }) stands c.loop-k-test.true in
    let q = part_at symbol_of p.part (behind (k + 1) ts) (behind k ts) k us (split_one w k ts _ p) inv.like in
    let wu = weight hole_weight q.part in
    let wv = weights hole_weight (behind (k + 1) us) in
    let weighs : weights hole_weight (behind k us) ≡ wu + wv = ap (weights hole_weight) q.split in
    let count = inv.count in
    let before = step_at m (left c.loop-k.holes) (behind k us) q.part (behind (k + 1) us) last rest q.split inv.holes in
    let later = step_from m (n + weights hole_weight us + tail_weight hole_weight last) wu wv (behind (k + 1) us) last rest (omega (arith, count, weighs)) from in
    let r = c.in_ok-add_outside.ensures p.part q.part (left_of_row (m + wu) (m + (wu + wv)) (behind (k + 1) us) last rest) p.stands q.like before later (omega (arith, count, weighs, bound)) in
    walked_more symbol_of _ _ _ (left c.loop-k.holes) (left c.add_outside.new.holes) m c.add_outside.new.holes.nodes n k ts us last rest p.part q inv r.0 r.1 r.2

pub add_row_outside-add_outside-requires-in-Some : goal.add_row_outside-add_outside-requires-in-Some
add_row_outside-add_outside-requires-in-Some t c =
    (first_of (search rules, omega arith), end_part c.args.work.now c.args.end c.in-Some.tail c.args.depth c.in-Some.is c.requires.tail)

pub add_row_outside-returns-in-None : goal.add_row_outside-returns-in-None
add_row_outside-returns-in-None t c = λ ts tail us last rest stands ends like tail_like at from bound.
    let w = c.args.work.now in
    let k = c.loop-k.k in
    let old = map (λ (m : Named). m.occ) c.args.names.now.items in
    let inv = c.loop-k.invariant ts us last rest stands like at from bound in
    let all = walked_all symbol_of _ _ (left c.loop-k.holes) c.loop-k.holes.nodes c.args.holes.now.nodes k ts us last rest inv (behind_past w k c.args.items.now ts stands c.loop-k-test.false) in
    let gone = no_end w c.args.end tail (first_of (search rules, cc)) ends in
    let none = no_tail symbol_of tail last gone tail_like in
    let weighs : tail_weight hole_weight last ≡ 0 = ap (tail_weight hole_weight) none in (
      all.0 ∙ sym (append-nil (old ++ occs_among us)) ∙ ap (λ (x : Tail (Option (List ℕ))). (old ++ occs_among us) ++ occs_behind x) (sym none),
      all.1 ∙ ap (λ (x : Tail (Option (List ℕ))). places_behind hole_weight c.loop-k.holes.nodes x ++ rest) none,
      omega (arith, all.2, weighs),
    )

pub add_row_outside-returns-in_ok-add_outside-in-Some : goal.add_row_outside-returns-in_ok-add_outside-in-Some
add_row_outside-returns-in_ok-add_outside-in-Some t c = λ ts tail us last rest stands ends like tail_like at from bound.
    let w = c.args.work.now in
    let k = c.loop-k.k in
    let old = map (λ (m : Named). m.occ) c.args.names.now.items in
    let m = c.loop-k.holes.nodes in
    let inv = c.loop-k.invariant ts us last rest stands like at from bound in
    let all = walked_all symbol_of _ _ (left c.loop-k.holes) m c.args.holes.now.nodes k ts us last rest inv (behind_past w k c.args.items.now ts stands c.loop-k-test.false) in
    let d = end_tree w c.args.end c.in-Some.tail tail c.in-Some.is ends in
    let x = a_tail symbol_of tail d.0 last d.1 tail_like in
    let weighs : tail_weight hole_weight last ≡ weight hole_weight x.part = ap (tail_weight hole_weight) x.is in
    let count = all.2 in
    let at1 = all.1 ∙ ap (λ (y : Tail (Option (List ℕ))). places_behind hole_weight m y ++ rest) x.is in
    let total : c.args.holes.now.nodes + weights hole_weight us + tail_weight hole_weight last ≡ m + weight hole_weight x.part = omega (arith, count, weighs) in
    let r = c.in_ok-add_outside-in-Some.ensures d.0 x.part rest d.2 x.like at1 (subst (λ (y : ℕ). AllFrom y rest) total from) (omega (arith, bound, total)) in
    (r.0 ∙ (λ j. all.0 j ++ occs_in x.part) ∙ ap (λ (y : Tail (Option (List ℕ))). (old ++ occs_among us) ++ occs_behind y) (sym x.is), r.1, omega (arith, r.2, total))
