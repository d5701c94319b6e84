use Rattle.std.proofs.Common.{arith, ◌≡◌, ℕ, List, Option, sym, ap, ◌∙◌, subst}
use Rattle.scheme_model.specs.Trees.{no_trees}
use Rattle.scheme_model.specs.Measures.{tree_size, trees_size}
use Rattle.rules_build.specs.declared.plan.Plan.{Plan}
use Rattle.rules_build.specs.Drafts.{spent, Draft, listed, tailed, goes_on, tree_of, row_of, IsDraft, AreDrafts}
use denote.Param.Weighed.{at_most}
use Rattle.rules_build.proofs.plan.Plan.TheLaws.{the_size}
use Rattle.rules_build.proofs.PlanSizes.{vector_above, list_above, tail_above}
use Rattle.rules_build.proofs.DraftRows.{draft_there, drafts_past}
use Rattle.rules_build.proofs.PlanViews.{held_draft, name_draft, atom_draft, vector_draft, list_draft, proper_ending, dotted_ending, behind_ending}
use Rattle.rules_build.proofs.MeasureLaws.{ending_size, listed_size, listed_ends, vector_size, sizes_more, sizes_all}
use Rattle.rules_build.proofs.measure.+size.Goals as goal

pub take_size-size-requires : goal.take_size-size-requires
take_size-size-requires t c =
    let v = held_draft c.args.work.now c.requires.0 c.args.plan.now c.requires.1 c.in-Held.tree c.in-Held.is c.requires.2 in
    (v.0, v.2)

pub take_size-take_sizes-requires : goal.take_size-take_sizes-requires
take_size-take_sizes-requires t c =
    let w = c.args.work.now in
    let v = vector_draft w c.requires.0 c.args.plan.now c.requires.1 c.in-Vector.items c.in-Vector.is c.requires.2 in
    let f = vector_above c.args.plan.now c.in-Vector.items c.deref.result.now c.in-Vector.is c.deref.ensures.value in
    (omega (arith, f), (c.requires.0, v.0, subst (λ (ps : List Plan). AreDrafts w c.requires.0 ps v.0) (sym c.deref.ensures.value) v.2))

pub take_size-take_sizes-requires-in-List : goal.take_size-take_sizes-requires-in-List
take_size-take_sizes-requires-in-List t c =
    let w = c.args.work.now in
    let v = list_draft w c.requires.0 c.args.plan.now c.requires.1 c.in-List.items c.in-List.end c.in-List.is c.requires.2 in
    let f = list_above c.args.plan.now c.in-List.items c.in-List.end c.deref-in-List.result.now c.in-List.is c.deref-in-List.ensures.value in
    (omega (arith, f), (c.requires.0, v.0, subst (λ (ps : List Plan). AreDrafts w c.requires.0 ps v.0) (sym c.deref-in-List.ensures.value) v.3))

pub take_size-take_size-requires : goal.take_size-take_size-requires
take_size-take_size-requires t c =
    let w = c.args.work.now in
    let v = list_draft w c.requires.0 c.args.plan.now c.requires.1 c.in-List.items c.in-List.end c.in-List.is c.requires.2 in
    let q = dotted_ending w c.requires.0 c.in-List.end v.1 c.in-Dotted.tail c.in-Dotted.is v.4 in
    let f = tail_above c.args.plan.now c.in-List.items c.in-List.end c.in-Dotted.tail c.deref-in-Dotted.result.now c.in-List.is c.in-Dotted.is c.deref-in-Dotted.ensures in
    (omega (arith, f), (c.requires.0, q.0, subst (λ (p : Plan). IsDraft w c.requires.0 p q.0) (sym c.deref-in-Dotted.ensures) q.3))

pub take_size-take_behind-requires : goal.take_size-take_behind-requires
take_size-take_behind-requires t c =
    let w = c.args.work.now in
    let v = list_draft w c.requires.0 c.args.plan.now c.requires.1 c.in-List.items c.in-List.end c.in-List.is c.requires.2 in
    let q = behind_ending w c.requires.0 c.in-List.end v.1 c.in-Behind.list c.in-Behind.from c.in-Behind.is v.4 in
    (c.requires.0, q.0, q.1, q.3)

pub take_size-returns-in-Held : goal.take_size-returns-in-Held
take_size-returns-in-Held t c = λ region k d h.
    let v = held_draft c.args.work.now region c.args.plan.now d c.in-Held.tree c.in-Held.is h in
    c.spend.ensures ∙ ap (spent c.args.room.now) (c.size.ensures v.0 v.2) ∙ ap (λ (x : Draft). spent c.args.room.now (tree_size (tree_of k x))) (sym v.1)

pub take_size-returns-in-Name : goal.take_size-returns-in-Name
take_size-returns-in-Name t c = λ region k d h.
    let v = name_draft c.args.work.now region c.args.plan.now d c.in-Name.field-0 c.in-Name.field-1 c.in-Name.is h in
    c.spend-in-Name.ensures ∙ ap (λ (x : Draft). spent c.args.room.now (tree_size (tree_of k x))) (sym v.1)

pub take_size-returns-in-Atom : goal.take_size-returns-in-Atom
take_size-returns-in-Atom t c = λ region k d h.
    let v = atom_draft c.args.work.now region c.args.plan.now d c.in-Atom.field-0 c.in-Atom.is h in
    c.spend-in-Atom.ensures ∙ ap (λ (x : Draft). spent c.args.room.now (tree_size (tree_of k x))) (sym v.1)

pub take_size-returns-in-Vector : goal.take_size-returns-in-Vector
take_size-returns-in-Vector t c = λ region k d h.
    let w = c.args.work.now in
    let v = vector_draft w region c.args.plan.now d c.in-Vector.items c.in-Vector.is h in
    c.take_sizes.ensures region k v.0 (subst (λ (ps : List Plan). AreDrafts w region ps v.0) (sym c.deref.ensures.value) v.2) ∙ ap (λ (r : Option ℕ). spent r (trees_size (row_of k v.0 no_trees))) c.spend-in-Vector.ensures ∙ vector_size k c.args.room.now v.0
    ∙ ap (λ (x : Draft). spent c.args.room.now (tree_size (tree_of k x))) (sym v.1)

pub take_size-returns-in-Proper : goal.take_size-returns-in-Proper
take_size-returns-in-Proper t c = λ region k d h.
    let w = c.args.work.now in
    let v = list_draft w region c.args.plan.now d c.in-List.items c.in-List.end c.in-List.is h in
    let p = proper_ending w region c.in-List.end v.1 c.in-Proper.is v.4 in
    let a = c.take_sizes-in-List.ensures region k v.0 (subst (λ (ps : List Plan). AreDrafts w region ps v.0) (sym c.deref-in-List.ensures.value) v.3) ∙ ap (λ (r : Option ℕ). spent r (trees_size (row_of k v.0 no_trees))) c.spend-in-List.ensures in
    a ∙ listed_ends k c.args.room.now v.0 ∙ ap (λ (x : Draft). spent c.args.room.now (tree_size (tree_of k x))) (ap (listed v.0) (sym p) ∙ sym v.2)

pub take_size-returns-in-Dotted : goal.take_size-returns-in-Dotted
take_size-returns-in-Dotted t c = λ region k d h.
    let w = c.args.work.now in
    let v = list_draft w region c.args.plan.now d c.in-List.items c.in-List.end c.in-List.is h in
    let q = dotted_ending w region c.in-List.end v.1 c.in-Dotted.tail c.in-Dotted.is v.4 in
    let a = c.take_sizes-in-List.ensures region k v.0 (subst (λ (ps : List Plan). AreDrafts w region ps v.0) (sym c.deref-in-List.ensures.value) v.3) ∙ ap (λ (r : Option ℕ). spent r (trees_size (row_of k v.0 no_trees))) c.spend-in-List.ensures in
    let row = trees_size (row_of k v.0 no_trees) in
    let z : tree_size (tree_of k q.0) ≡ ending_size k (tailed q.0) = omega arith in
    c.take_size.ensures region k q.0 (subst (λ (p : Plan). IsDraft w region p q.0) (sym c.deref-in-Dotted.ensures) q.3) ∙ ap (λ (r : Option ℕ). spent r (tree_size (tree_of k q.0))) a ∙ ap (spent (spent (spent c.args.room.now 1) row)) z
    ∙ listed_size k c.args.room.now v.0 (tailed q.0) ∙ ap (λ (x : Draft). spent c.args.room.now (tree_size (tree_of k x))) (ap (listed v.0) (sym q.1) ∙ sym v.2)

pub take_size-returns-in-Behind : goal.take_size-returns-in-Behind
take_size-returns-in-Behind t c = λ region k d h.
    let w = c.args.work.now in
    let v = list_draft w region c.args.plan.now d c.in-List.items c.in-List.end c.in-List.is h in
    let q = behind_ending w region c.in-List.end v.1 c.in-Behind.list c.in-Behind.from c.in-Behind.is v.4 in
    let a = c.take_sizes-in-List.ensures region k v.0 (subst (λ (ps : List Plan). AreDrafts w region ps v.0) (sym c.deref-in-List.ensures.value) v.3) ∙ ap (λ (r : Option ℕ). spent r (trees_size (row_of k v.0 no_trees))) c.spend-in-List.ensures in
    c.take_behind.ensures region q.0 q.1 q.3 ∙ ap (λ (r : Option ℕ). spent r (ending_size k (goes_on q.0 q.1))) a ∙ listed_size k c.args.room.now v.0 (goes_on q.0 q.1) ∙ ap (λ (x : Draft). spent c.args.room.now (tree_size (tree_of k x))) (ap (listed v.0) (sym q.2) ∙ sym v.2)

pub take_sizes-take_size-requires : goal.take_sizes-take_size-requires
take_sizes-take_size-requires t c =
    let w = c.args.work.now in
    let p = draft_there w c.requires.0 c.loop-plan.plan-index c.args.plans.now c.requires.1 c.plan-item.result c.requires.2 c.loop-plan-test.true in
    let small = at_most the_size c.args.plans.now c.loop-plan.plan-index c.plan-item.result c.loop-plan-test.true in
    let same = ap the_size c.plan-item.is in
    (omega (arith, small, same), (c.requires.0, p.here, subst (λ (x : Plan). IsDraft w c.requires.0 x p.here) (sym c.plan-item.is) p.is))

pub take_sizes-loop-plan-preserved : goal.take_sizes-loop-plan-preserved
take_sizes-loop-plan-preserved t c = λ region k ds h.
    let w = c.args.work.now in
    let j = c.loop-plan.plan-index in
    let p = draft_there w region j c.args.plans.now ds c.plan-item.result h c.loop-plan-test.true in
    let here = subst (λ (x : Plan). IsDraft w region x p.here) (sym c.plan-item.is) p.is in
    c.loop-plan.invariant region k ds h ∙ sym (sizes_more k c.loop-plan.room c.take_size.new.room ds j p.here p.split (c.take_size.ensures region k p.here here))

pub take_sizes-returns : goal.take_sizes-returns
take_sizes-returns t c = λ region k ds h.
    let j = c.loop-plan.plan-index in
    sizes_all k c.loop-plan.room ds j (drafts_past c.args.work.now region j c.args.plans.now ds h c.loop-plan-test.false) ∙ sym (c.loop-plan.invariant region k ds h)
