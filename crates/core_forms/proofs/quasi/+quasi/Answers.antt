use Rattle.std.proofs.Common.{List, [], ◌∷◌, Some, Result, Ok, Err, ◌+◌, ◌≤◌, ℕ, suc, true, false, Bool, refl, sym, ap, ◌∙◌, subst, add-one, rules, arith}
use Rattle.scheme_model.specs.Trees.{Tree, name, atom, vector, Tail}
use Rattle.scheme_model.specs.ExpansionFaults.{Fault, ◌>>◌}
use Rattle.scheme_model.specs.Shapes.{one_of}
use Rattle.std.specs.Prelude.{is_some}
use Rattle.scheme_model.specs.Quasiquote.{RowPieces, hole_behind, pieces, listed, elements_at}
use Rattle.scheme_model.specs.Ident.{Ident as Identifier}
use Rattle.scheme_model.specs.Matching.{behind}
use Rattle.syntax_tree.proofs.Looking.{no_end, part_standing, part_there, behind_past, part_named}
use Rattle.core_forms.specs.declared.fault.CoreFault.TheVariants as fault
use Rattle.core_forms.specs.Ends.{Refuses}
use Rattle.core_forms.proofs.Lists.{end_tree}
use Rattle.core_forms.specs.Marks.{IsNear, AddsFound, datum_as, row_as}
use Rattle.core_forms.specs.declared.quasi.Found.{Found}
use Rattle.core_forms.proofs.Reading.{ends_err, refuses_then}
use Rattle.core_forms.proofs.Holes.{listed_row, name_is, atom_is, list_is, vector_is, parts_start, parts_more, parts_refuse, parts_all, adds_node, adds_both, row_trace, parts_proper, parts_nodes, on_ok, row_start, row_at, row_into, row_level, row_refuses, row_into_refuses, row_ends, row_none, row_some, hole_is, misplaced_is}
use Rattle.scheme_model.specs.Measures.{tail_size}
use Rattle.core_forms.proofs.Finding.{can_positive, can_pass, into_row, into_parts, past_row, past_parts, part_of_parts, passed_part, parts_passed, part_of_row, room_at, Counted, counted_more, row_passed, mark_within, last_of_row}
use Rattle.syntax_tree.specs.Looks.{AllNamed, EndNamed}
use Rattle.core_forms.proofs.quasi.+quasi.Goals as goal
use Rattle.core_forms.proofs.quasi.+quasi.Goals.{find_row-in-Into+in_ok-find-in-Into, find_row-in-Level}

-- ---- one datum

pub find-find_row-requires : goal.find-find_row-requires
find-find_row-requires t c =
    let w = c.args.work.now in
    let h = c.requires.level in
    let g = c.requires.passed in
    let pos = can_positive w c.args.tree c.args.level c.args.left h in
    let l = c.in-List.ensures.look h.0 h.1 in
    let m = c.in-List.ensures.look g.0 g.1 in (
      first_of (search rules, omega arith),
      (
        into_row w c.args.level c.args.left h.0 c.in-List.items.now c.in-List.end l.0 l.1 l.2 h.2 h.3 l.3 l.4 l.5,
        past_row w c.args.found.now.passed c.args.left g.0 c.in-List.items.now c.in-List.end m.0 m.1 m.2 g.2 g.3 m.3 m.4 m.5,
      ),
    )

pub find-find_parts-requires : goal.find-find_parts-requires
find-find_parts-requires t c =
    let w = c.args.work.now in
    let h = c.requires.level in
    let g = c.requires.passed in
    let pos = can_positive w c.args.tree c.args.level c.args.left h in
    let l = c.in-Vector.ensures.look h.0 h.1 in
    let m = c.in-Vector.ensures.look g.0 g.1 in (
      first_of (search rules, omega arith),
      (
        into_parts w c.args.level c.args.left h.0 c.in-Vector.items.now l.0 l.1 h.2 h.3 l.2 l.3,
        past_parts w c.args.found.now.passed c.args.left g.0 c.in-Vector.items.now m.0 m.1 g.2 g.3 m.2 m.3,
      ),
    )

pub find-returns-in-Name-clause-read : goal.find-returns-in-Name-clause-read
find-returns-in-Name-clause-read t c = λ mark u tells stands.
    let l = c.in-Name.ensures.look u stands in
    (pieces (name (Some l.0) l.1) [], ap (λ (x : Tree Identifier). datum_as mark c.args.level c.args.element x) l.2 ∙ name_is mark c.args.level c.args.element l.0 l.1, adds_node c.args.work.now c.args.found.now _ refl refl refl)

pub find-returns-in-Atom-clause-read : goal.find-returns-in-Atom-clause-read
find-returns-in-Atom-clause-read t c = λ mark u tells stands.
    let l = c.in-Atom.ensures.look u stands in
    (pieces (atom l.0 l.1) [], ap (λ (x : Tree Identifier). datum_as mark c.args.level c.args.element x) l.2 ∙ atom_is mark c.args.level c.args.element l.0 l.1, adds_node c.args.work.now c.args.found.now _ refl refl refl)

pub find-returns-in_ok-find_row-in-List-clause-read : goal.find-returns-in_ok-find_row-in-List-clause-read
find-returns-in_ok-find_row-in-List-clause-read t c = λ mark u tells stands.
    let l = c.in-List.ensures.look u stands in
    let r = c.in_ok-find_row-in-List.ensures.read mark l.0 l.1 tells l.4 l.5 in (
      listed l.2 r.0,
      ap (λ (x : Tree Identifier). datum_as mark c.args.level c.args.element x) l.3
          ∙ list_is mark c.args.level c.args.element l.0 l.1 l.2
          ∙ ap (listed_row l.2) r.1,
      adds_both c.args.work.now c.args.found.now _ c.find_row.new.found ([], true ∷ []) (row_trace r.0) (adds_node c.args.work.now c.args.found.now _ refl refl refl) r.2,
    )

pub find-returns-in_err-find_row-in-List-clause-read : goal.find-returns-in_err-find_row-in-List-clause-read
find-returns-in_err-find_row-in-List-clause-read t c = λ mark u tells stands.
    let w = c.args.work.now in
    let l = c.in-List.ensures.look u stands in
    let e = c.in_err-find_row-in-List.field-0.0 in
    let a = row_as mark c.args.level c.args.element l.0 l.1 in
    ends_err w _ (datum_as mark c.args.level c.args.element u) c.from_residual.result e c.from_residual.ensures.1
    (subst (Refuses w e) (sym (ap (λ (x : Tree Identifier). datum_as mark c.args.level c.args.element x) l.3 ∙ list_is mark c.args.level c.args.element l.0 l.1 l.2))
    (refuses_then w e a (λ r. Ok (listed l.2 r)) (c.in_err-find_row-in-List.ensures.read mark l.0 l.1 tells l.4 l.5)))

pub find-returns-in_ok-find_parts-in-Vector-clause-read : goal.find-returns-in_ok-find_parts-in-Vector-clause-read
find-returns-in_ok-find_parts-in-Vector-clause-read t c = λ mark u tells stands.
    let l = c.in-Vector.ensures.look u stands in
    let r = c.in_ok-find_parts-in-Vector.ensures.read mark l.0 tells l.3 in (
      pieces (vector r.0.parts l.1) r.0.holes,
      ap (λ (x : Tree Identifier). datum_as mark c.args.level c.args.element x) l.2
          ∙ vector_is mark c.args.level c.args.element l.0 l.1
          ∙ ap (λ (x : Result (RowPieces Identifier) (Fault Identifier)). x >> λ r. Ok (pieces (vector r.parts l.1) r.holes)) r.1,
      subst (λ (bs : List Bool). AddsFound c.args.work.now c.args.found.now c.find_parts.new.found r.0.holes (true ∷ bs)) (parts_nodes r.0 (parts_proper mark l.0 c.args.level r.0 r.1))
          (adds_both c.args.work.now c.args.found.now _ c.find_parts.new.found ([], true ∷ []) (row_trace r.0) (adds_node c.args.work.now c.args.found.now _ refl refl refl) r.2),
    )

pub find-returns-in_err-find_parts-in-Vector-clause-read : goal.find-returns-in_err-find_parts-in-Vector-clause-read
find-returns-in_err-find_parts-in-Vector-clause-read t c = λ mark u tells stands.
    let w = c.args.work.now in
    let l = c.in-Vector.ensures.look u stands in
    let e = c.in_err-find_parts-in-Vector.field-0.0 in
    ends_err w _ (datum_as mark c.args.level c.args.element u) c.from_residual-in_err-find_parts-in-Vector.result e c.from_residual-in_err-find_parts-in-Vector.ensures.1
    (subst (Refuses w e) (sym (ap (λ (x : Tree Identifier). datum_as mark c.args.level c.args.element x) l.2 ∙ vector_is mark c.args.level c.args.element l.0 l.1))
    (refuses_then w e (elements_at mark c.args.level l.0) (λ r. Ok (pieces (vector r.parts l.1) r.holes)) (c.in_err-find_parts-in-Vector.ensures.read mark l.0 tells l.3)))

-- ---- the parts of a vector

pub find_parts-loop-k-init : goal.find_parts-loop-k-init
find_parts-loop-k-init t c = (λ mark ts tells stands. parts_start c.args.work.now c.args.found.now mark ts c.args.level, λ region items holes. holes, λ ts stands. omega arith)

pub find_parts-find-requires : goal.find_parts-find-requires
find_parts-find-requires t c =
    let w = c.args.work.now in
    let k = c.loop-k.k in (
      first_of (search rules, omega arith),
      (
        part_of_parts w c.args.items.now c.args.level c.args.left k (record { number = 0 }) c.requires.level c.loop-k-test.true,
        passed_part w c.args.items.now c.args.found.now.passed c.loop-k.found.passed c.args.left k (record { number = 0 }) c.requires.passed c.loop-k.invariant.2 c.loop-k-test.true,
      ),
    )

pub find_parts-returns-in_err-find-clause-read : goal.find_parts-returns-in_err-find-clause-read
find_parts-returns-in_err-find-clause-read t c = λ mark ts tells stands.
    let w = c.args.work.now in
    let k = c.loop-k.k in
    let p = part_there w k c.args.items.now ts (record { number = 0 }) stands c.loop-k-test.true in
    let e = c.in_err-find.field-0.0 in
    ends_err w _ (elements_at mark c.args.level ts) c.from_residual.result e c.from_residual.ensures.1
    (parts_refuse w c.args.found.now c.loop-k.found mark ts c.args.level k (c.loop-k.invariant.0 mark ts tells stands) e p.part p.split (c.in_err-find.ensures.read mark p.part tells p.stands))

pub find_parts-loop-k-preserved : goal.find_parts-loop-k-preserved
find_parts-loop-k-preserved t c =
    let w = c.args.work.now in
    let k = c.loop-k.k in (
      λ mark ts tells stands.
          let p = part_there w k c.args.items.now ts (record { number = 0 }) stands c.loop-k-test.true in
          let q = c.in_ok-find.ensures.read mark p.part tells p.stands in
          rw add-one (parts_more w c.args.found.now c.loop-k.found mark ts c.args.level k (c.loop-k.invariant.0 mark ts tells stands) c.find.new.found p.part p.split q.0 q.1 q.2),
      λ region items holes. c.in_ok-find.ensures.named region (part_named w region k c.args.items.now (record { number = 0 }) items c.loop-k-test.true) (c.loop-k.invariant.1 region items holes),
      rw add-one (parts_passed w c.args.items.now c.args.found.now.passed c.loop-k.found.passed c.find.new.found.passed k (record { number = 0 }) c.loop-k.invariant.2 c.loop-k-test.true c.in_ok-find.ensures.bounded),
    )

pub find_parts-returns-clause-read : goal.find_parts-returns-clause-read
find_parts-returns-clause-read t c = λ mark ts tells stands.
    let w = c.args.work.now in
    let r = parts_all w c.args.found.now c.loop-k.found mark ts c.args.level c.loop-k.k (c.loop-k.invariant.0 mark ts tells stands) (behind_past w c.loop-k.k c.args.items.now ts stands c.loop-k-test.false) in
    r

-- ---- the parts of a list

pub find_row-loop-k-init : goal.find_row-loop-k-init
find_row-loop-k-init t c =
    (λ ts tail stands ends. omega arith, λ mark ts tail tells stands ends. row_start c.args.work.now c.args.found.now mark ts tail c.args.level c.args.element, λ region items end holes. holes, λ ts tail stands ends. omega arith)

pub find_row-step_of-requires : goal.find_row-step_of-requires
find_row-step_of-requires t c =
    let w = c.args.work.now in
    let h = c.requires.level in
    record {
      standing = part_standing w c.loop-k.k c.args.items.now (record { number = 0 }) (h.parts, h.parts_stand) c.loop-k-test.true;
      small = room_at w c.args.items.now c.args.end c.args.level c.loop-k.inner c.args.left c.loop-k.k (record { number = 0 }) h c.loop-k.invariant.0 c.loop-k-test.true;
    }

pub find_row-find-requires : goal.find_row-find-requires
find_row-find-requires t c =
    let w = c.args.work.now in
    let k = c.loop-k.k in (
      first_of (search rules, omega arith),
      (
        part_of_row w c.args.items.now c.args.end c.args.level c.loop-k.inner c.args.left k (record { number = 0 }) c.requires.level c.loop-k.invariant.0 c.loop-k-test.true,
        part_of_row w c.args.items.now c.args.end c.args.found.now.passed c.loop-k.found.passed c.args.left k (record { number = 0 }) c.requires.passed c.loop-k.invariant.3 c.loop-k-test.true,
      ),
    )

pub find_row-returns-in_err-find-in-Into-clause-read : goal.find_row-returns-in_err-find-in-Into-clause-read
find_row-returns-in_err-find-in-Into-clause-read t c = λ mark ts tail tells stands ends.
    let w = c.args.work.now in
    let k = c.loop-k.k in
    let p = part_there w k c.args.items.now ts (record { number = 0 }) stands c.loop-k-test.true in
    let s = sym (c.step_of.ensures.value mark p.part tells p.stands) ∙ c.in-Into.is in
    let e = c.in_err-find-in-Into.field-0.0 in
    ends_err w _ (row_as mark c.args.level c.args.element ts tail) c.from_residual.result e c.from_residual.ensures.1
    (row_into_refuses w c.args.found.now c.loop-k.found mark ts tail c.args.level c.args.element k c.loop-k.inner c.loop-k.first (c.loop-k.invariant.1 mark ts tail tells stands ends) p.part p.split e s (c.in_err-find-in-Into.ensures.read mark p.part tells p.stands))

pub find_row-returns-in-Misplaced-clause-read : goal.find_row-returns-in-Misplaced-clause-read
find_row-returns-in-Misplaced-clause-read t c = λ mark ts tail tells stands ends.
    let w = c.args.work.now in
    let k = c.loop-k.k in
    let p = part_there w k c.args.items.now ts (record { number = 0 }) stands c.loop-k-test.true in
    let s = sym (c.step_of.ensures.value mark p.part tells p.stands) ∙ c.in-Misplaced.is in
    row_refuses w c.args.found.now c.loop-k.found mark ts tail c.args.level c.args.element k c.loop-k.inner c.loop-k.first (c.loop-k.invariant.1 mark ts tail tells stands ends) p.part p.split fault.BadQuasi
    (misplaced_is mark (behind (suc k) ts) tail p.part c.loop-k.inner c.loop-k.first s)

pub find_row-returns-in-Hole-clause-read : goal.find_row-returns-in-Hole-clause-read
find_row-returns-in-Hole-clause-read t c = λ mark ts tail tells stands ends.
    let w = c.args.work.now in
    let k = c.loop-k.k in
    let p = part_there w k c.args.items.now ts (record { number = 0 }) stands c.loop-k-test.true in
    let s = sym (c.step_of.ensures.value mark p.part tells p.stands) ∙ c.in-Hole.is in
    let i = hole_is mark (behind (suc k) ts) tail p.part c.loop-k.inner c.loop-k.first s in
    row_ends w c.args.found.now c.loop-k.found mark ts tail c.args.level c.args.element k c.loop-k.inner c.loop-k.first (c.loop-k.invariant.1 mark ts tail tells stands ends) p.part p.split _
    (hole_behind (name i.0 i.1.0) (one_of (behind (k + 1) ts) tail)) _ (i.1.1 ∙ ap (λ (j : ℕ). hole_behind (name i.0 i.1.0) (one_of (behind j ts) tail)) (sym (add-one k))) (c.hole_at.ensures.read i.0 i.1.0 ts tail stands ends)

pub find_row-loop-k-preserved : goal.find_row-loop-k-preserved
find_row-loop-k-preserved t c =
    let w = c.args.work.now in
    let k = c.loop-k.k in
    let old = c.args.found.now in
    let count : (next : ℕ) → next ≤ c.loop-k.inner + 1 → Counted w c.args.items.now c.args.end c.args.level next (k + 1) =
    λ next near. subst (Counted w c.args.items.now c.args.end c.args.level next) (sym (add-one k))
    (counted_more w c.args.items.now c.args.end c.args.level c.loop-k.inner next k (record { number = 0 }) c.loop-k.invariant.0 c.loop-k-test.true near) in
    elim c.match-step_of.branch [
      | find_row-in-Into+in_ok-find-in-Into x ↦ (
        subst (λ (i : ℕ). Counted w c.args.items.now c.args.end c.args.level i (k + 1)) (sym x.inner-is) (count c.loop-k.inner (omega arith)),
        λ mark ts tail tells stands ends.
            let p = part_there w k c.args.items.now ts (record { number = 0 }) stands c.loop-k-test.true in
            let s = sym (c.step_of.ensures.value mark p.part tells p.stands) ∙ x.in-Into.is in
            let q = x.in_ok-find-in-Into.ensures.read mark p.part tells p.stands in
            row_at w old x.find.new.found c.match-step_of.found mark ts tail c.args.level c.args.element (suc k) (k + 1) c.loop-k.inner c.match-step_of.inner false (add-one k) x.inner-is
            x.found-is
            (row_into w old c.loop-k.found mark ts tail c.args.level c.args.element k c.loop-k.inner c.loop-k.first (c.loop-k.invariant.1 mark ts tail tells stands ends) p.part p.split x.find.new.found s q.0 q.1 q.2),
        λ region items end holes.
            subst (AllNamed w region) (sym (ap (λ (v : Found). v.trees.items) x.found-is))
            (x.in_ok-find-in-Into.ensures.named region (part_named w region k c.args.items.now (record { number = 0 }) items c.loop-k-test.true) (c.loop-k.invariant.2 region items end holes)),
        subst (λ (v : Found). Counted w c.args.items.now c.args.end c.args.found.now.passed v.passed (k + 1)) (sym x.found-is)
            (subst (λ (j : ℕ). Counted w c.args.items.now c.args.end c.args.found.now.passed x.find.new.found.passed j) (sym (add-one k)) (row_passed w c.args.items.now c.args.end c.args.found.now.passed c.loop-k.found.passed x.find.new.found.passed k (record { number = 0 }) c.loop-k.invariant.3 c.loop-k-test.true x.in_ok-find-in-Into.ensures.bounded)),
      )
      | find_row-in-Level x ↦ (
        subst (λ (i : ℕ). Counted w c.args.items.now c.args.end c.args.level i (k + 1)) (sym x.inner-is) (count x.in-Level.next (subst (IsNear c.loop-k.inner) x.in-Level.is c.step_of.ensures.near)),
        λ mark ts tail tells stands ends.
            let p = part_there w k c.args.items.now ts (record { number = 0 }) stands c.loop-k-test.true in
            let s = sym (c.step_of.ensures.value mark p.part tells p.stands) ∙ x.in-Level.is in
            row_at w old _ c.match-step_of.found mark ts tail c.args.level c.args.element (suc k) (k + 1) x.in-Level.next c.match-step_of.inner false (add-one k) x.inner-is
            x.found-is
            (row_level w old c.loop-k.found mark ts tail c.args.level c.args.element k c.loop-k.inner c.loop-k.first (c.loop-k.invariant.1 mark ts tail tells stands ends) p.part p.split _ x.in-Level.next s (adds_node w c.loop-k.found _ refl refl refl)),
        λ region items end holes. subst (AllNamed w region) (sym (ap (λ (v : Found). v.trees.items) x.found-is)) (c.loop-k.invariant.2 region items end holes),
        subst (λ (v : Found). Counted w c.args.items.now c.args.end c.args.found.now.passed v.passed (k + 1)) (sym x.found-is)
            (subst (λ (j : ℕ). Counted w c.args.items.now c.args.end c.args.found.now.passed (c.loop-k.found.passed + 1) j) (sym (add-one k)) (counted_more w c.args.items.now c.args.end c.args.found.now.passed c.loop-k.found.passed (c.loop-k.found.passed + 1) k (record { number = 0 }) c.loop-k.invariant.3 c.loop-k-test.true (omega arith))),
      )
    ]

pub find_row-find-requires-in-Some : goal.find_row-find-requires-in-Some
find_row-find-requires-in-Some t c =
    let w = c.args.work.now in (
      first_of (search rules, omega arith),
      (
        last_of_row w c.args.items.now c.args.end c.in-Some.last c.args.level c.loop-k.inner c.args.left c.loop-k.k c.in-Some.is c.requires.level c.loop-k.invariant.0,
        last_of_row w c.args.items.now c.args.end c.in-Some.last c.args.found.now.passed c.loop-k.found.passed c.args.left c.loop-k.k c.in-Some.is c.requires.passed c.loop-k.invariant.3,
      ),
    )

pub find_row-returns-in-None-clause-read : goal.find_row-returns-in-None-clause-read
find_row-returns-in-None-clause-read t c = λ mark ts tail tells stands ends.
    let w = c.args.work.now in
    row_none w c.args.found.now c.loop-k.found mark ts c.args.level c.args.element c.loop-k.k c.loop-k.inner c.loop-k.first tail (c.loop-k.invariant.1 mark ts tail tells stands ends)
    (no_end w c.args.end tail (ap is_some c.in-None.is) ends) (behind_past w c.loop-k.k c.args.items.now ts stands c.loop-k-test.false)

pub find_row-returns-in_ok-find-in-Some-clause-read : goal.find_row-returns-in_ok-find-in-Some-clause-read
find_row-returns-in_ok-find-in-Some-clause-read t c = λ mark ts tail tells stands ends.
    let w = c.args.work.now in
    let d = end_tree w c.args.end c.in-Some.last tail c.in-Some.is ends in
    row_some w c.args.found.now c.loop-k.found mark ts c.args.level c.args.element c.loop-k.k c.loop-k.inner c.loop-k.first tail d.0 _ d.1 (c.loop-k.invariant.1 mark ts tail tells stands ends)
    (behind_past w c.loop-k.k c.args.items.now ts stands c.loop-k-test.false) (Ok tt) (c.in_ok-find-in-Some.ensures.read mark d.0 tells d.2)

pub find_row-returns-in_err-find-in-Some-clause-read : goal.find_row-returns-in_err-find-in-Some-clause-read
find_row-returns-in_err-find-in-Some-clause-read t c = λ mark ts tail tells stands ends.
    let w = c.args.work.now in
    let d = end_tree w c.args.end c.in-Some.last tail c.in-Some.is ends in
    let e = c.in_err-find-in-Some.field-0.0 in
    ends_err w _ (row_as mark c.args.level c.args.element ts tail) c.from_residual-in_err-find-in-Some.result e c.from_residual-in_err-find-in-Some.ensures.1
    (row_some w c.args.found.now c.loop-k.found mark ts c.args.level c.args.element c.loop-k.k c.loop-k.inner c.loop-k.first tail d.0 c.args.found.now d.1 (c.loop-k.invariant.1 mark ts tail tells stands ends)
    (behind_past w c.loop-k.k c.args.items.now ts stands c.loop-k-test.false) (Err e) (c.in_err-find-in-Some.ensures.read mark d.0 tells d.2))

pub find-returns-in_ok-find_row-in-List-clause-named : goal.find-returns-in_ok-find_row-in-List-clause-named
find-returns-in_ok-find_row-in-List-clause-named t c = λ region can holes.
    let l = c.in-List.ensures.named region can in
    c.in_ok-find_row-in-List.ensures.named region l.0 l.1 holes

pub find-returns-in_ok-find_parts-in-Vector-clause-named : goal.find-returns-in_ok-find_parts-in-Vector-clause-named
find-returns-in_ok-find_parts-in-Vector-clause-named t c = λ region can holes. c.in_ok-find_parts-in-Vector.ensures.named region (c.in-Vector.ensures.named region can) holes

pub find_parts-returns-clause-named : goal.find_parts-returns-clause-named
find_parts-returns-clause-named t c = λ region items holes. c.loop-k.invariant.1 region items holes

pub find_row-returns-in-Hole-clause-named : goal.find_row-returns-in-Hole-clause-named
find_row-returns-in-Hole-clause-named t c = λ region items end holes. c.hole_at.ensures.named region items (c.loop-k.invariant.2 region items end holes)

pub find_row-returns-in-None-clause-named : goal.find_row-returns-in-None-clause-named
find_row-returns-in-None-clause-named t c = λ region items end holes. c.loop-k.invariant.2 region items end holes

pub find_row-returns-in_ok-find-in-Some-clause-named : goal.find_row-returns-in_ok-find-in-Some-clause-named
find_row-returns-in_ok-find-in-Some-clause-named t c = λ region items end holes.
    c.in_ok-find-in-Some.ensures.named region (subst (EndNamed c.args.work.now region) c.in-Some.is end) (c.loop-k.invariant.2 region items end holes)

-- ---- how many nodes are passed

pub find-overflow_add-found : goal.find-overflow_add-found
find-overflow_add-found t c = omega (arith, can_pass c.args.work.now c.args.tree c.args.found.now.passed c.args.left c.requires.passed)

pub find_row-overflow_add-found : goal.find_row-overflow_add-found
find_row-overflow_add-found t c =
    omega (arith, room_at c.args.work.now c.args.items.now c.args.end c.args.found.now.passed c.loop-k.found.passed c.args.left c.loop-k.k (record { number = 0 }) c.requires.passed c.loop-k.invariant.3 c.loop-k-test.true)

pub find_row-hole_at-requires-clause-passed : goal.find_row-hole_at-requires-clause-passed
find_row-hole_at-requires-clause-passed t c =
    room_at c.args.work.now c.args.items.now c.args.end c.args.found.now.passed c.loop-k.found.passed c.args.left c.loop-k.k (record { number = 0 }) c.requires.passed c.loop-k.invariant.3 c.loop-k-test.true

pub find_row-returns-in-Hole-clause-bounded : goal.find_row-returns-in-Hole-clause-bounded
find_row-returns-in-Hole-clause-bounded t c = λ ts tail stands ends.
    on_ok c.hole_at.result (λ near. mark_within c.args.work.now c.args.items.now c.args.end c.args.found.now.passed c.loop-k.found.passed _ c.loop-k.k (record { number = 0 }) c.loop-k.invariant.3 c.loop-k-test.true near ts tail stands ends)
    c.hole_at.ensures.bounded

pub find_row-returns-in-None-clause-bounded : goal.find_row-returns-in-None-clause-bounded
find_row-returns-in-None-clause-bounded t c = λ ts tail stands ends. omega (arith, c.loop-k.invariant.3 ts tail stands ends)

pub find_row-returns-in_ok-find-in-Some-clause-bounded : goal.find_row-returns-in_ok-find-in-Some-clause-bounded
find_row-returns-in_ok-find-in-Some-clause-bounded t c = λ ts tail stands ends.
    let d = end_tree c.args.work.now c.args.end c.in-Some.last tail c.in-Some.is ends in
    let size = ap (λ (x : Tail Identifier). tail_size x) d.1 in
    omega (arith, size, c.in_ok-find-in-Some.ensures.bounded d.0 d.2, c.loop-k.invariant.3 ts tail stands ends)
