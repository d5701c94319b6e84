use Rattle.std.proofs.Common.{◌≡◌, ◌<◌, ◌≤◌, length, false, refl, sym, ap, ◌∙◌, rules, arith}
use Rattle.scheme_model.specs.Trees.{name, atom, list, vector, proper, dotted}
use Rattle.syntax_tree.specs.Placed.{tree_place}
use Rattle.syntax_tree.proofs.Looking.{part_there, part_within, part_standing, split_one, behind_past, within_positive, list_parts_within, end_within, vector_parts_within}
use Rattle.equal_trees.proofs.EqualLaws.{clash, is_not, placed_same, list_is, list_isnt, vector_is, end_is, tail_same, last_same, end_tree, end_part, no_tail, rows_more, rows_differ, rows_end, rows_as_long}
use Rattle.equal_trees.proofs.trees.+trees.Goals as goal

-- ---- trees

pub same_within-returns-then-not-same_place : goal.same_within-returns-then-not-same_place
same_within-returns-then-not-same_place t c = λ x u fx fu.
    is_not false refl (λ e. clash (sym (c.same_place.ensures.1 (c.place_of.ensures x fx ∙ (ap tree_place e ∙ sym (c.place_of-2.ensures u fu)))) ∙ c.if-not-same_place.true))

pub same_within-returns-in-Name : goal.same_within-returns-in-Name
same_within-returns-in-Name t c = λ x u fx fu.
    let l = c.in-Name.ensures.look x fx in
    let place = sym (c.place_of.ensures x fx) ∙ (c.same_place.ensures.0 c.if-not-same_place.false ∙ c.place_of-2.ensures u fu) in
    placed_same c.is_name.result (name l.0 (tree_place u)) x u (l.2 ∙ ap (name l.0) (sym (ap tree_place l.2) ∙ place)) (c.is_name.ensures l.0 u l.3 fu)

pub same_within-returns-in-Atom : goal.same_within-returns-in-Atom
same_within-returns-in-Atom t c = λ x u fx fu.
    let l = c.in-Atom.ensures.look x fx in
    let place = sym (c.place_of.ensures x fx) ∙ (c.same_place.ensures.0 c.if-not-same_place.false ∙ c.place_of-2.ensures u fu) in
    placed_same c.is_atom.result (atom l.0 (tree_place u)) x u (l.2 ∙ ap (atom l.0) (sym (ap tree_place l.2) ∙ place)) (c.is_atom.ensures l.0 l.1 u l.3 fu)

pub same_within-is_list-requires : goal.same_within-is_list-requires
same_within-is_list-requires t c =
    let w = c.args.work.now in
    let h = c.requires.one in
    let pos = within_positive w c.args.one c.args.left h in
    let l = c.in-List.ensures.look h.0 h.1 in
    (first_of (search rules, omega arith), (list_parts_within w c.args.left h.0 c.in-List.parts.now l.0 l.1 l.2 h.2 l.3 l.4, (end_within w c.args.left h.0 c.in-List.end l.0 l.1 l.2 h.2 l.3 l.5, c.requires.other)))

pub same_within-returns-in-List : goal.same_within-returns-in-List
same_within-returns-in-List t c = λ x u fx fu.
    let l = c.in-List.ensures.look x fx in
    let place = sym (c.place_of.ensures x fx) ∙ (c.same_place.ensures.0 c.if-not-same_place.false ∙ c.place_of-2.ensures u fu) in
    placed_same c.is_list.result (list l.0 l.1 (tree_place u)) x u (l.3 ∙ ap (list l.0 l.1) (sym (ap tree_place l.3) ∙ place)) (c.is_list.ensures l.0 l.1 u l.4 l.5 fu)

pub same_within-is_vector-requires : goal.same_within-is_vector-requires
same_within-is_vector-requires t c =
    let w = c.args.work.now in
    let h = c.requires.one in
    let pos = within_positive w c.args.one c.args.left h in
    let l = c.in-Vector.ensures.look h.0 h.1 in
    (first_of (search rules, omega arith), (vector_parts_within w c.args.left h.0 c.in-Vector.parts.now l.0 l.1 h.2 l.2 l.3, c.requires.other))

pub same_within-returns-in-Vector : goal.same_within-returns-in-Vector
same_within-returns-in-Vector t c = λ x u fx fu.
    let l = c.in-Vector.ensures.look x fx in
    let place = sym (c.place_of.ensures x fx) ∙ (c.same_place.ensures.0 c.if-not-same_place.false ∙ c.place_of-2.ensures u fu) in
    placed_same c.is_vector.result (vector l.0 (tree_place u)) x u (l.2 ∙ ap (vector l.0) (sym (ap tree_place l.2) ∙ place)) (c.is_vector.ensures l.0 u l.3 fu)

-- ---- lists and vectors

pub is_list-returns-else-same_parts : goal.is_list-returns-else-same_parts
is_list-returns-else-same_parts t c = λ ts tail u parts ends fu.
    let l = c.in-List.ensures.look u fu in
    is_not c.same_parts.result c.if-same_parts.false (list_isnt c.same_parts.result ts l.0 tail l.1 l.2 u l.3 (c.same_parts.ensures ts l.0 parts l.4) c.if-same_parts.false)

pub is_list-returns-then-same_parts : goal.is_list-returns-then-same_parts
is_list-returns-then-same_parts t c = λ ts tail u parts ends fu.
    let l = c.in-List.ensures.look u fu in
    list_is c.same_parts.result ts l.0 tail l.1 l.2 u l.3 (c.same_parts.ensures ts l.0 parts l.4) c.same_ends.result c.if-same_parts.true (c.same_ends.ensures tail l.1 ends l.5)

pub is_list-returns-in-Name : goal.is_list-returns-in-Name
is_list-returns-in-Name t c = λ ts tail u parts ends fu. let l = c.in-Name.ensures.look u fu in is_not false refl (λ h. let z : list ts tail (tree_place u) ≡ name l.0 l.1 = h ∙ l.2 in absurd cc)

pub is_list-returns-in-Atom : goal.is_list-returns-in-Atom
is_list-returns-in-Atom t c = λ ts tail u parts ends fu. let l = c.in-Atom.ensures.look u fu in is_not false refl (λ h. let z : list ts tail (tree_place u) ≡ atom l.0 l.1 = h ∙ l.2 in absurd cc)

pub is_list-returns-in-Vector : goal.is_list-returns-in-Vector
is_list-returns-in-Vector t c = λ ts tail u parts ends fu. let l = c.in-Vector.ensures.look u fu in is_not false refl (λ h. let z : list ts tail (tree_place u) ≡ vector l.0 l.1 = h ∙ l.2 in absurd cc)

pub is_vector-returns-in-Vector : goal.is_vector-returns-in-Vector
is_vector-returns-in-Vector t c = λ ts u parts fu. let l = c.in-Vector.ensures.look u fu in vector_is c.same_parts.result ts l.0 l.1 u l.2 (c.same_parts.ensures ts l.0 parts l.3)

pub is_vector-returns-in-Name : goal.is_vector-returns-in-Name
is_vector-returns-in-Name t c = λ ts u parts fu. let l = c.in-Name.ensures.look u fu in is_not false refl (λ h. let z : vector ts (tree_place u) ≡ name l.0 l.1 = h ∙ l.2 in absurd cc)

pub is_vector-returns-in-Atom : goal.is_vector-returns-in-Atom
is_vector-returns-in-Atom t c = λ ts u parts fu. let l = c.in-Atom.ensures.look u fu in is_not false refl (λ h. let z : vector ts (tree_place u) ≡ atom l.0 l.1 = h ∙ l.2 in absurd cc)

pub is_vector-returns-in-List : goal.is_vector-returns-in-List
is_vector-returns-in-List t c = λ ts u parts fu. let l = c.in-List.ensures.look u fu in is_not false refl (λ h. let z : vector ts (tree_place u) ≡ list l.0 l.1 l.2 = h ∙ l.3 in absurd cc)

-- ---- parts

pub same_parts-same_within-requires : goal.same_parts-same_within-requires
same_parts-same_within-requires t c =
    let w = c.args.work.now in
    let k = c.loop-k.k in
    let l : k < length c.args.parts.now = omega arith in
    let m : k < length c.args.others.now = omega arith in
    (first_of (search rules, omega arith), (part_within w c.args.parts.now c.args.left k (record { number = 0 }) c.requires.one l, part_standing w k c.args.others.now (record { number = 0 }) c.requires.other m))

pub same_parts-returns-then-not-same_within : goal.same_parts-returns-then-not-same_within
same_parts-returns-then-not-same_within t c = λ ts us f g.
    let w = c.args.work.now in
    let k = c.loop-k.k in
    let l : k < length c.args.parts.now = omega arith in
    let m : k < length c.args.others.now = omega arith in
    let p = part_there w k c.args.parts.now ts (record { number = 0 }) f l in
    let q = part_there w k c.args.others.now us (record { number = 0 }) g m in
    is_not false refl
    (rows_differ k ts us p.part q.part (split_one w k ts _ p) (split_one w k us _ q) (c.loop-k.invariant ts us f g) (λ e. clash (sym ((c.same_within.ensures p.part q.part p.stands q.stands).1 e) ∙ c.if-not-same_within.true)))

pub same_parts-returns-then-others-count : goal.same_parts-returns-then-others-count
same_parts-returns-then-others-count t c = λ ts us f g.
    is_not false refl (λ h. let e = rows_as_long c.args.work.now c.args.from c.args.parts.now c.args.others.now ts us f g c.requires.from.0 c.requires.from.1 h in absurd (omega (arith, e)))

pub same_parts-loop-k-init : goal.same_parts-loop-k-init
same_parts-loop-k-init t c = λ ts us parts others. (λ e. e, λ e. e)

pub same_parts-loop-k-preserved : goal.same_parts-loop-k-preserved
same_parts-loop-k-preserved t c = λ ts us f g.
    let w = c.args.work.now in
    let k = c.loop-k.k in
    let l : k < length c.args.parts.now = omega arith in
    let m : k < length c.args.others.now = omega arith in
    let p = part_there w k c.args.parts.now ts (record { number = 0 }) f l in
    let q = part_there w k c.args.others.now us (record { number = 0 }) g m in
    rows_more k ts us p.part q.part (split_one w k ts _ p) (split_one w k us _ q) (c.loop-k.invariant ts us f g) ((c.same_within.ensures p.part q.part p.stands q.stands).0 c.if-not-same_within.false)

pub same_parts-returns : goal.same_parts-returns
same_parts-returns t c = λ ts us f g.
    let w = c.args.work.now in
    let k = c.loop-k.k in
    let l : length c.args.parts.now ≤ k = omega arith in
    let m : length c.args.others.now ≤ k = omega arith in
    (λ h. rows_end k ts us (behind_past w k c.args.parts.now ts f l) (behind_past w k c.args.others.now us g m) (c.loop-k.invariant ts us f g), λ h. refl)

-- ---- tails

pub same_ends-returns-in-None : goal.same_ends-returns-in-None
same_ends-returns-in-None t c = λ tail last f g. tail_same c.is_proper.result proper tail last (no_tail c.args.work.now c.args.end tail c.in-None.is f) (c.is_proper.ensures c.args.work.now last g)

pub same_ends-is_dotted-requires : goal.same_ends-is_dotted-requires
same_ends-is_dotted-requires t c = (first_of (search rules, omega arith), (end_part c.args.work.now c.args.end c.in-Some.end c.args.left c.in-Some.is c.requires.one, c.requires.other))

pub same_ends-returns-in-Some : goal.same_ends-returns-in-Some
same_ends-returns-in-Some t c = λ tail last f g.
    let d = end_tree c.args.work.now c.args.end c.in-Some.end tail c.in-Some.is f in
    tail_same c.is_dotted.result (dotted d.0) tail last d.1 (c.is_dotted.ensures d.0 last d.2 g)

pub is_dotted-returns-in-None : goal.is_dotted-returns-in-None
is_dotted-returns-in-None t c = λ u last f g.
    let e = no_tail c.args.work.now c.args.end last c.in-None.is g in
    is_not false refl (λ h. let z : dotted u ≡ proper = h ∙ e in absurd cc)

pub is_dotted-same_within-requires : goal.is_dotted-same_within-requires
is_dotted-same_within-requires t c =
    let d = end_tree c.args.work.now c.args.end c.in-Some.end c.requires.end.0 c.in-Some.is c.requires.end.1 in
    (first_of (search rules, omega arith), (c.requires.tree, (d.0, d.2)))

pub is_dotted-returns-in-Some : goal.is_dotted-returns-in-Some
is_dotted-returns-in-Some t c = λ u last f g.
    let d = end_tree c.args.work.now c.args.end c.in-Some.end last c.in-Some.is g in
    last_same c.same_within.result (dotted u) last (dotted d.0) d.1 (end_is c.same_within.result u d.0 (c.same_within.ensures u d.0 f d.2))
