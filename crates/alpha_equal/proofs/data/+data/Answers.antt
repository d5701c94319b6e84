use Rattle.std.proofs.Common.{◌≡◌, ◌+◌, ℕ, List, [], ◌∷◌, ◌++◌, Bool, Option, Some, None, refl, sym, ap, ◌∙◌, subst, rules, arith}
use Rattle.std.specs.Prelude.{false, if◌then◌else◌}
use Rattle.std.proofs.lemmas.List.{append-nil}
use Rattle.scheme_model.specs.declared.Occ.{Occ}
use Rattle.scheme_model.specs.Trees.{Tail, proper, atom}
use Rattle.scheme_model.specs.TreeParts.{count}
use Rattle.scheme_model.specs.Cores.{hole_weight, weight, weights, tail_weight}
use Rattle.scheme_model.specs.RulesShape.{nowhere}
use Rattle.scheme_model.specs.Matching.{behind}
use Rattle.scheme_model.specs.Holes.{places_among, places_behind}
use Rattle.scheme_model.specs.Ident.{symbol_of}
use Rattle.rename_model.specs.Walks as walk
use Rattle.rename_model.specs.Walks.{has_tail, nodes_in, nodes_among, nodes_behind}
use Rattle.syntax_tree.specs.Placed.{tree_place}
use Rattle.syntax_tree.specs.Standing.{leaf_tree}
use Rattle.syntax_tree.proofs.Looking.{count_stands, part_there, part_within, split_one, behind_past, within_positive, list_parts_within, end_within, vector_parts_within, no_end}
use Rattle.program_leaves.specs.Holes.{is_next, behind_first, AllFrom}
use Rattle.program_leaves.proofs.Ends.{end_tree, end_part}
use Rattle.program_leaves.proofs.AddLaws.{adds_none, adds_one, adds_both, adds_same, adds_last}
use Rattle.program_leaves.proofs.HoleLaws.{hole_next, a_hole, a_name, an_atom, left_of_row, part_at, step_at, step_from, no_tail, a_tail}
use Rattle.alpha_equal.specs.Data.{left, IsDatumNode}
use Rattle.alpha_equal.proofs.NodeLaws.{end_told}
use Rattle.alpha_equal.proofs.DataLaws.{hole_is, name_is, atom_is, list_row, vector_row, walked_more, walked_all}
use Rattle.alpha_equal.proofs.data.+data.Goals as goal

-- ---- one datum

pub add_datum-returns-then-pass : goal.add_datum-returns-then-pass
add_datum-returns-then-pass t c = λ u h rest stands holed at from bound.
    let P = IsDatumNode c.args.work.now.symbols in
    let s = c.args.walk.now in
    let n = s.nodes in
    let is = sym (hole_next n h rest from) ∙ ap (λ (ps : List ℕ). is_next ps n) (sym at) ∙ sym c.pass.ensures.answer ∙ c.if-pass.true in
    let hole = a_hole h n rest is in
    let told = hole_is h is in
    let past = c.pass.ensures.left ∙ ap (λ (b : Bool). if b then behind_first (left s) else left s) c.if-pass.true ∙ ap behind_first at ∙ hole.past in
    let same = c.pass.ensures.hole c.if-pass.true in
    let old = c.args.nodes.now.items in
    let new = c.push.new.self.items in
    (adds_same P old new (walk.NameAt None false told.0 ∷ []) (nodes_in nowhere h) (sym told.1) (adds_one P old new _ (walk.NameAt None false told.0) c.in_ok-push.ensures.items (told.0, refl)), past, omega (arith, same, hole.none))

pub add_datum-returns-in_ok-push-in-Name : goal.add_datum-returns-in_ok-push-in-Name
add_datum-returns-in_ok-push-in-Name t c = λ u h rest stands holed at from bound.
    let P = IsDatumNode c.args.work.now.symbols in
    let s = c.args.walk.now in
    let n = s.nodes in
    let not_hole = sym (hole_next n h rest from) ∙ ap (λ (ps : List ℕ). is_next ps n) (sym at) ∙ sym c.pass.ensures.answer ∙ c.if-pass.false in
    let stays = c.pass.ensures.left ∙ ap (λ (b : Bool). if b then behind_first (left s) else left s) c.if-pass.false ∙ at in
    let l = c.in-Name.ensures.look u stands in
    let leaf = a_name symbol_of u h n l.0 l.1 holed l.2 not_hole in
    let node = c.pass.ensures.node c.if-pass.false (omega (arith, bound)) in
    let occ = c.place_of-occ.ensures u stands ∙ ap tree_place l.2 in
    let told = name_is symbol_of u h l.0 l.1 holed l.2 not_hole in
    let old = c.args.nodes.now.items in
    let new = c.push-in-Name.new.self.items in (
      adds_same P old new (walk.NameAt (Some (symbol_of l.0)) false l.1 ∷ []) (nodes_in nowhere h) (sym told)
          (adds_one P old new _ (walk.NameAt (Some (symbol_of l.0)) false l.1) c.in_ok-push-in-Name.ensures.items (l.0, (λ j. walk.NameAt (Some (symbol_of l.0)) false (sym occ j)), l.3)),
      stays ∙ ap (λ (q : List ℕ). q ++ rest) leaf.none,
      omega (arith, node, leaf.one),
    )

pub add_datum-returns-in_ok-push-in-Atom : goal.add_datum-returns-in_ok-push-in-Atom
add_datum-returns-in_ok-push-in-Atom t c = λ u h rest stands holed at from bound.
    let P = IsDatumNode c.args.work.now.symbols in
    let s = c.args.walk.now in
    let n = s.nodes in
    let not_hole = sym (hole_next n h rest from) ∙ ap (λ (ps : List ℕ). is_next ps n) (sym at) ∙ sym c.pass.ensures.answer ∙ c.if-pass.false in
    let stays = c.pass.ensures.left ∙ ap (λ (b : Bool). if b then behind_first (left s) else left s) c.if-pass.false ∙ at in
    let l = c.in-Atom.ensures.look u stands in
    let leaf = an_atom symbol_of u h n l.0 l.1 holed l.2 not_hole in
    let node = c.pass.ensures.node c.if-pass.false (omega (arith, bound)) in
    let occ = c.place_of-occ-in-Atom.ensures u stands ∙ ap tree_place l.2 in
    let told = atom_is symbol_of u h l.0 l.1 holed l.2 not_hole in
    let old = c.args.nodes.now.items in
    let new = c.push-in-Atom.new.self.items in (
      adds_same P old new (walk.AtomAt l.0 l.1 ∷ []) (nodes_in nowhere h) (sym told)
          (adds_one P old new _ (walk.AtomAt l.0 l.1) c.in_ok-push-in-Atom.ensures.items (l.0, (λ j. walk.AtomAt l.0 (sym occ j)), subst (λ (o : Option Occ). leaf_tree c.args.work.now.symbols c.in-Atom.leaf o ≡ Some (atom l.0 o)) (sym occ) l.3)),
      stays ∙ ap (λ (q : List ℕ). q ++ rest) leaf.none,
      omega (arith, node, leaf.one),
    )

pub add_datum-add_data-requires : goal.add_datum-add_data-requires
add_datum-add_data-requires t c =
    let w = c.args.work.now in
    let h = c.requires in
    let pos = within_positive w c.args.tree c.args.depth h in
    let l = c.in-List.ensures.look h.0 h.1 in
    (first_of (search rules, omega arith), (list_parts_within w c.args.depth h.0 c.in-List.items.now l.0 l.1 l.2 h.2 l.3 l.4, end_within w c.args.depth h.0 c.in-List.end l.0 l.1 l.2 h.2 l.3 l.5))

pub add_datum-returns-in_ok-add_data-in-List : goal.add_datum-returns-in_ok-add_data-in-List
add_datum-returns-in_ok-add_data-in-List t c = λ u h rest stands holed at from bound.
    let P = IsDatumNode c.args.work.now.symbols in
    let s = c.args.walk.now in
    let n = s.nodes in
    let not_hole = sym (hole_next n h rest from) ∙ ap (λ (ps : List ℕ). is_next ps n) (sym at) ∙ sym c.pass.ensures.answer ∙ c.if-pass.false in
    let stays = c.pass.ensures.left ∙ ap (λ (b : Bool). if b then behind_first (left s) else left s) c.if-pass.false ∙ at in
    let l = c.in-List.ensures.look u stands in
    let told = list_row symbol_of u h n l.0 l.1 l.2 holed l.3 not_hole in
    let row = told.row in
    let s1 = c.pass.new.walk in
    let node = c.pass.ensures.node c.if-pass.false (omega (arith, bound, row.many)) in
    let at1 = stays ∙ ap (λ (q : List ℕ). q ++ rest) row.places ∙ ap (λ (m : ℕ). (places_among hole_weight m row.parts ++ places_behind hole_weight (m + weights hole_weight row.parts) row.last) ++ rest) (sym node) in
    let total : n + weight hole_weight h ≡ s1.nodes + weights hole_weight row.parts + tail_weight hole_weight row.last = omega (arith, node, row.many) in
    let r = c.in_ok-add_data-in-List.ensures l.0 l.1 row.parts row.last rest l.4 l.5 row.like row.tail_like at1 (subst (λ (m : ℕ). AllFrom m rest) total from) (omega (arith, bound, total)) in
    let count_is = sym (count_stands c.args.work.now c.in-List.items.now l.0 l.4) in
    let end_is = end_told c.args.work.now c.in-List.end l.1 l.5 in
    let old = c.args.nodes.now.items in
    let mid = c.add_list.new.nodes.items in
    let new = c.add_data.new.nodes.items in
    let one = adds_one P old mid _ (walk.ListOf (count l.0) (has_tail l.1)) c.in_ok-add_list-in-List.ensures (λ j. walk.ListOf (sym count_is j) (sym end_is j)) in
    let inside = nodes_among nowhere row.parts ++ nodes_behind nowhere row.last in
    (adds_same P old new (walk.ListOf (count l.0) (has_tail l.1) ∷ inside) (nodes_in nowhere h) (sym told.nodes) (adds_both P old mid new (walk.ListOf (count l.0) (has_tail l.1) ∷ []) inside one r.0), r.1, omega (arith, r.2, total))

pub add_datum-add_data-requires-in-Vector : goal.add_datum-add_data-requires-in-Vector
add_datum-add_data-requires-in-Vector t c =
    let w = c.args.work.now in
    let h = c.requires in
    let pos = within_positive w c.args.tree c.args.depth h in
    let l = c.in-Vector.ensures.look h.0 h.1 in
    (first_of (search rules, omega arith), (vector_parts_within w c.args.depth h.0 c.in-Vector.items.now l.0 l.1 h.2 l.2 l.3, (proper, tt, omega arith)))

pub add_datum-returns-in_ok-add_data-in-Vector : goal.add_datum-returns-in_ok-add_data-in-Vector
add_datum-returns-in_ok-add_data-in-Vector t c = λ u h rest stands holed at from bound.
    let P = IsDatumNode c.args.work.now.symbols in
    let s = c.args.walk.now in
    let n = s.nodes in
    let not_hole = sym (hole_next n h rest from) ∙ ap (λ (ps : List ℕ). is_next ps n) (sym at) ∙ sym c.pass.ensures.answer ∙ c.if-pass.false in
    let stays = c.pass.ensures.left ∙ ap (λ (b : Bool). if b then behind_first (left s) else left s) c.if-pass.false ∙ at in
    let l = c.in-Vector.ensures.look u stands in
    let told = vector_row symbol_of u h n l.0 l.1 holed l.2 not_hole in
    let row = told.row in
    let s1 = c.pass.new.walk in
    let node = c.pass.ensures.node c.if-pass.false (omega (arith, bound, row.many)) in
    let at1 = stays ∙ ap (λ (q : List ℕ). q ++ rest) row.places ∙ ap (λ (m : ℕ). (places_among hole_weight m row.parts ++ places_behind hole_weight (m + weights hole_weight row.parts) row.last) ++ rest) (sym node) in
    let total : n + weight hole_weight h ≡ s1.nodes + weights hole_weight row.parts + tail_weight hole_weight row.last = omega (arith, node, row.many) in
    let r = c.in_ok-add_data-in-Vector.ensures l.0 proper row.parts row.last rest l.3 tt row.like row.tail_like at1 (subst (λ (m : ℕ). AllFrom m rest) total from) (omega (arith, bound, total)) in
    let count_is = sym (count_stands c.args.work.now c.in-Vector.items.now l.0 l.3) in
    let old = c.args.nodes.now.items in
    let mid = c.push-in-Vector.new.self.items in
    let new = c.add_data-in-Vector.new.nodes.items in
    let one = adds_one P old mid _ (walk.VectorOf (count l.0)) c.in_ok-push-in-Vector.ensures.items (ap walk.VectorOf (sym count_is)) in
    let inside = nodes_among nowhere row.parts ++ nodes_behind nowhere row.last in
    (adds_same P old new (walk.VectorOf (count l.0) ∷ inside) (nodes_in nowhere h) (sym told.nodes) (adds_both P old mid new (walk.VectorOf (count l.0) ∷ []) inside one r.0), r.1, omega (arith, r.2, total))

-- ---- parts and a tail

pub add_data-loop-k-init : goal.add_data-loop-k-init
add_data-loop-k-init t c = λ ts us last rest stands like at from bound.
    record { so_far = []; adds = adds_none (IsDatumNode c.args.work.now.symbols) c.args.nodes.now.items; whole = refl; like = like; holes = at; count = refl }

pub add_data-add_datum-requires : goal.add_data-add_datum-requires
add_data-add_datum-requires t c =
    (first_of (search rules, omega arith), part_within c.args.work.now c.args.items.now c.args.depth c.loop-k.k (record { number = 0 }) c.requires.parts c.loop-k-test.true)

pub add_data-loop-k-preserved : goal.add_data-loop-k-preserved
add_data-loop-k-preserved t c = λ ts us last rest stands like at from bound.
    let w = c.args.work.now in
    let k = c.loop-k.k in
    let n = c.args.walk.now.nodes in
    let m = c.loop-k.walk.nodes in
    let inv = c.loop-k.invariant ts us last rest stands like at from bound in
    let p = part_there w k c.args.items.now ts (record { number = 0 }) stands c.loop-k-test.true in
    let q = part_at symbol_of p.part (behind (k + 1) ts) (behind k ts) k us (split_one w k ts _ p) inv.like in
    let wu = weight hole_weight q.part in
    let wv = weights hole_weight (behind (k + 1) us) in
    let weighs : weights hole_weight (behind k us) ≡ wu + wv = ap (weights hole_weight) q.split in
    let count = inv.count in
    let before = step_at m (left c.loop-k.walk) (behind k us) q.part (behind (k + 1) us) last rest q.split inv.holes in
    let later = step_from m (n + weights hole_weight us + tail_weight hole_weight last) wu wv (behind (k + 1) us) last rest (omega (arith, count, weighs)) from in
    let r = c.in_ok-add_datum.ensures p.part q.part (left_of_row (m + wu) (m + (wu + wv)) (behind (k + 1) us) last rest) p.stands q.like before later (omega (arith, count, weighs, bound)) in
    walked_more (IsDatumNode w.symbols) symbol_of _ _ _ (left c.loop-k.walk) (left c.add_datum.new.walk) m c.add_datum.new.walk.nodes n k ts us last rest p.part q inv r.0 r.1 r.2

pub add_data-add_datum-requires-in-Some : goal.add_data-add_datum-requires-in-Some
add_data-add_datum-requires-in-Some t c =
    (first_of (search rules, omega arith), end_part c.args.work.now c.args.end c.in-Some.tail c.args.depth c.in-Some.is c.requires.tail)

pub add_data-returns-in-None : goal.add_data-returns-in-None
add_data-returns-in-None t c = λ ts tail us last rest stands ends like tail_like at from bound.
    let w = c.args.work.now in
    let P = IsDatumNode w.symbols in
    let k = c.loop-k.k in
    let old = c.args.nodes.now.items in
    let new = c.loop-k.nodes.items in
    let inv = c.loop-k.invariant ts us last rest stands like at from bound in
    let all = walked_all P symbol_of old new (left c.loop-k.walk) c.loop-k.walk.nodes c.args.walk.now.nodes k ts us last rest inv (behind_past w k c.args.items.now ts stands c.loop-k-test.false) in
    let gone = no_end w c.args.end tail (first_of (search rules, cc)) ends in
    let none = no_tail symbol_of tail last gone tail_like in
    let weighs : tail_weight hole_weight last ≡ 0 = ap (tail_weight hole_weight) none in
    let row = nodes_among nowhere us in (
      adds_same P old new (row ++ []) (row ++ nodes_behind nowhere last) (ap (λ (x : Tail (Option (List ℕ))). row ++ nodes_behind nowhere x) (sym none)) (adds_last P old new row all.0),
      all.1 ∙ ap (λ (x : Tail (Option (List ℕ))). places_behind hole_weight c.loop-k.walk.nodes x ++ rest) none,
      omega (arith, all.2, weighs),
    )

pub add_data-returns-in_ok-add_datum-in-Some : goal.add_data-returns-in_ok-add_datum-in-Some
add_data-returns-in_ok-add_datum-in-Some t c = λ ts tail us last rest stands ends like tail_like at from bound.
    let w = c.args.work.now in
    let P = IsDatumNode w.symbols in
    let k = c.loop-k.k in
    let old = c.args.nodes.now.items in
    let mid = c.loop-k.nodes.items in
    let new = c.add_datum-in-Some.new.nodes.items in
    let m = c.loop-k.walk.nodes in
    let inv = c.loop-k.invariant ts us last rest stands like at from bound in
    let all = walked_all P symbol_of old mid (left c.loop-k.walk) m c.args.walk.now.nodes k ts us last rest inv (behind_past w k c.args.items.now ts stands c.loop-k-test.false) in
    let d = end_tree w c.args.end c.in-Some.tail tail c.in-Some.is ends in
    let x = a_tail symbol_of tail d.0 last d.1 tail_like in
    let weighs : tail_weight hole_weight last ≡ weight hole_weight x.part = ap (tail_weight hole_weight) x.is in
    let count = all.2 in
    let at1 = all.1 ∙ ap (λ (y : Tail (Option (List ℕ))). places_behind hole_weight m y ++ rest) x.is in
    let total : c.args.walk.now.nodes + weights hole_weight us + tail_weight hole_weight last ≡ m + weight hole_weight x.part = omega (arith, count, weighs) in
    let r = c.in_ok-add_datum-in-Some.ensures d.0 x.part rest d.2 x.like at1 (subst (λ (y : ℕ). AllFrom y rest) total from) (omega (arith, bound, total)) in
    let row = nodes_among nowhere us in
    (adds_same P old new (row ++ nodes_in nowhere x.part) (row ++ nodes_behind nowhere last) (ap (λ (y : Tail (Option (List ℕ))). row ++ nodes_behind nowhere y) (sym x.is)) (adds_both P old mid new row (nodes_in nowhere x.part) all.0 r.0), r.1, omega (arith, r.2, total))
