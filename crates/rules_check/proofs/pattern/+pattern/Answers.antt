use Rattle.std.proofs.Common.{◌≡◌, ◌||◌, ℕ, refl, sym, ap, ◌∙◌, subst, add-one, rules, arith}
use Rattle.std.specs.Prelude.{nat_lt}
use Rattle.scheme_model.specs.Trees.{Tree, proper, Tail}
use Rattle.scheme_model.specs.Matching.{behind}
use Rattle.scheme_model.specs.RulesShape.{dots_of, starts_dots, ends_dots, dots_count, depth_before}
use Rattle.scheme_model.specs.Ident.{Ident as Identifier}
use Rattle.syntax_tree.specs.Macros.{identifiers}
use Rattle.syntax_tree.specs.Placed.{tree_place}
use Rattle.syntax_tree.proofs.Looking.{part_there, part_within, behind_past, within_positive, vector_parts_within, no_end}
use Rattle.rules_check.specs.declared.pattern.Found.{Found}
use Rattle.rules_check.specs.Patterns.{Finds, of_pattern}
use Rattle.rules_check.proofs.Contents.{or_true, or_false, of_end, finds_nothing, list_found, vector_whole, up_to_none, up_to_more, up_to_all, end_tree, end_part}
use Rattle.rules_check.proofs.pattern.+pattern.Goals as goal
use Rattle.rules_check.proofs.pattern.+pattern.Goals.{find_list-then-found, find_list-else-found, find_list-then-dots_at, find_list-else-dots_at, find_list-then-found-2, find_list-else-found-2}

-- ---- one pattern

pub find-find_name-requires : goal.find-find_name-requires
find-find_name-requires t c = let l = c.in-Name.ensures.look c.requires.within.0 c.requires.within.1 in (l.0, l.3)

pub find-returns-in_ok-find_name-in-Name : goal.find-returns-in_ok-find_name-in-Name
find-returns-in_ok-find_name-in-Name t c = λ r u tells h.
    let l = c.in-Name.ensures.look u h in
    let occ = c.place_of-occ.ensures u h ∙ ap tree_place l.2 in
    subst (λ (x : Tree Identifier). Finds c.args.work.now c.args.found.now c.find_name.new.found (of_pattern r x c.args.depth)) (sym l.2) (c.in_ok-find_name-in-Name.ensures r l.0 l.1 tells (l.3, occ))

pub find-find_list-requires-in-Vector : goal.find-find_list-requires-in-Vector
find-find_list-requires-in-Vector t c =
    let w = c.args.work.now in
    let h = c.requires.within in
    let pos = within_positive w c.args.tree c.args.left h in
    let l = c.in-Vector.ensures.look h.0 h.1 in
    (first_of (search rules, omega arith), (vector_parts_within w c.args.left h.0 c.in-Vector.items.now l.0 l.1 h.2 l.2 l.3, ((proper, tt, omega arith), omega (arith, c.requires.small))))

pub find-returns-in_ok-find_list-in-Vector : goal.find-returns-in_ok-find_list-in-Vector
find-returns-in_ok-find_list-in-Vector t c = λ r u tells h.
    let l = c.in-Vector.ensures.look u h in
    subst (Finds c.args.work.now c.args.found.now c.find_list-in-Vector.new.found) (vector_whole r l.0 l.1 c.args.depth ∙ sym (ap (λ (x : Tree Identifier). of_pattern r x c.args.depth) l.2))
    (c.in_ok-find_list-in-Vector.ensures r l.0 proper tells l.3 tt)

-- ---- lists

pub find_list-find-requires : goal.find_list-find-requires
find_list-find-requires t c =
    (first_of (search rules, omega arith), (end_part c.args.work.now c.args.end c.in-Some.tail c.args.left c.in-Some.is c.requires.tail, omega (arith, c.requires.small)))

pub find_list-returns-in-None : goal.find_list-returns-in-None
find_list-returns-in-None t c = λ r ts tail tells stands ends.
    let w = c.args.work.now in
    let f = c.args.found.now in
    let us = behind c.args.from ts in
    let g : Found = record { misplaced = c.if-dots_at.found; two = c.if-found-2.found; variables = f.variables } in
    let starts = starts_dots (dots_of identifiers r) us in
    let last = ends_dots (dots_of identifiers r) tail in
    let many = nat_lt 1 (dots_count (dots_of identifiers r) us) in
    let v : c.if-found.value ≡ (f.misplaced || starts) = elim c.if-found.branch [
      | find_list-then-found x ↦ or_true f.misplaced starts c.if-found.value x.if-found.true (cc)
      | find_list-else-found x ↦ or_false f.misplaced starts c.if-found.value x.if-found.false (x.value-is ∙ x.dots_at.ensures r ts tells stands)
    ] in
    let m : c.if-dots_at.found ≡ (c.if-found.value || last) = elim c.if-dots_at.branch [
      | find_list-then-dots_at x ↦ or_true c.if-found.value last c.if-dots_at.found x.if-dots_at.true (cc)
      | find_list-else-dots_at x ↦ or_false c.if-found.value last c.if-dots_at.found x.if-dots_at.false (x.found-is ∙ c.is_dots_end-tail_dots.ensures r tail tells ends)
    ] in
    let n : c.if-found-2.found ≡ (f.two || many) = elim c.if-found-2.branch [
      | find_list-then-found-2 x ↦ or_true f.two many c.if-found-2.found x.if-found-2.true (cc)
      | find_list-else-found-2 x ↦ or_false f.two many c.if-found-2.found x.if-found-2.false (x.found-is ∙ ap (nat_lt 1) (x.count_dots.ensures.value r ts tells stands))
    ] in
    let gone = no_end w c.args.end tail (first_of (search rules, cc)) ends in
    list_found w f g c.find_parts.new.found c.find_parts.new.found r us tail c.args.depth c.if-found.value v m n refl (c.in_ok-find_parts.ensures r ts tells stands)
    (subst (λ (x : Tail Identifier). Finds w c.find_parts.new.found c.find_parts.new.found (of_end r x c.args.depth)) (sym gone) (finds_nothing w c.find_parts.new.found))

pub find_list-returns-in_ok-find-in-Some : goal.find_list-returns-in_ok-find-in-Some
find_list-returns-in_ok-find-in-Some t c = λ r ts tail tells stands ends.
    let w = c.args.work.now in
    let f = c.args.found.now in
    let us = behind c.args.from ts in
    let g : Found = record { misplaced = c.if-dots_at.found; two = c.if-found-2.found; variables = f.variables } in
    let starts = starts_dots (dots_of identifiers r) us in
    let last = ends_dots (dots_of identifiers r) tail in
    let many = nat_lt 1 (dots_count (dots_of identifiers r) us) in
    let v : c.if-found.value ≡ (f.misplaced || starts) = elim c.if-found.branch [
      | find_list-then-found x ↦ or_true f.misplaced starts c.if-found.value x.if-found.true (cc)
      | find_list-else-found x ↦ or_false f.misplaced starts c.if-found.value x.if-found.false (x.value-is ∙ x.dots_at.ensures r ts tells stands)
    ] in
    let m : c.if-dots_at.found ≡ (c.if-found.value || last) = elim c.if-dots_at.branch [
      | find_list-then-dots_at x ↦ or_true c.if-found.value last c.if-dots_at.found x.if-dots_at.true (cc)
      | find_list-else-dots_at x ↦ or_false c.if-found.value last c.if-dots_at.found x.if-dots_at.false (x.found-is ∙ c.is_dots_end-tail_dots.ensures r tail tells ends)
    ] in
    let n : c.if-found-2.found ≡ (f.two || many) = elim c.if-found-2.branch [
      | find_list-then-found-2 x ↦ or_true f.two many c.if-found-2.found x.if-found-2.true (cc)
      | find_list-else-found-2 x ↦ or_false f.two many c.if-found-2.found x.if-found-2.false (x.found-is ∙ ap (nat_lt 1) (x.count_dots.ensures.value r ts tells stands))
    ] in
    let d = end_tree w c.args.end c.in-Some.tail tail c.in-Some.is ends in
    list_found w f g c.find_parts.new.found c.find.new.found r us tail c.args.depth c.if-found.value v m n refl (c.in_ok-find_parts.ensures r ts tells stands)
    (subst (λ (x : Tail Identifier). Finds w c.find_parts.new.found c.find.new.found (of_end r x c.args.depth)) (sym d.1) (c.in_ok-find-in-Some.ensures r d.0 tells d.2))

-- ---- parts

pub find_parts-loop-k-init : goal.find_parts-loop-k-init
find_parts-loop-k-init t c = λ r ts tells stands. up_to_none c.args.work.now c.args.found.now r ts c.args.depth c.args.from

pub find_parts-find-requires : goal.find_parts-find-requires
find_parts-find-requires t c =
    (first_of (search rules, omega arith), (part_within c.args.work.now c.args.items.now c.args.left c.loop-k.k (record { number = 0 }) c.requires.parts c.loop-k-test.true, omega (arith, c.requires.small, c.depth_before-inner.ensures.bound)))

pub find_parts-loop-k-preserved : goal.find_parts-loop-k-preserved
find_parts-loop-k-preserved t c = λ r ts tells stands.
    let w = c.args.work.now in
    let k = c.loop-k.k in
    let p = part_there w k c.args.items.now ts (record { number = 0 }) stands c.loop-k-test.true in
    let d = c.depth_before-inner.ensures.value r ts tells stands ∙ ap (λ (j : ℕ). depth_before (dots_of identifiers r) (behind j ts) c.args.depth) (add-one k) in
    rw add-one
    (up_to_more w c.args.found.now c.loop-k.found c.find.new.found r ts c.args.depth c.args.from k c.depth_before-inner.result p.part (c.loop-k.invariant r ts tells stands) p.split d
    (c.in_ok-find.ensures r p.part tells p.stands))

pub find_parts-returns : goal.find_parts-returns
find_parts-returns t c = λ r ts tells stands.
    let w = c.args.work.now in
    up_to_all w c.args.found.now c.loop-k.found r ts c.args.depth c.args.from c.loop-k.k (c.loop-k.invariant r ts tells stands) (behind_past w c.loop-k.k c.args.items.now ts stands c.loop-k-test.false)
