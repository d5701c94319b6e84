use Rattle.std.proofs.Common.{arith, ◌≡◌, ◌+◌, ◌-◌, ℕ, List, false, refl, sym, ap, ◌∙◌, subst}
use Rattle.std.specs.Prelude.{nat_le, max}
use Rattle.std.proofs.lemmas.Bool.Decides.{nat_tests}
use Rattle.scheme_model.specs.Trees.{no_trees}
use Rattle.scheme_model.specs.Measures.{tree_depth, trees_depth, tail_depth}
use Rattle.rules_build.specs.declared.plan.Plan.{Plan}
use Rattle.rules_build.specs.Drafts.{Draft, listed, Drafts, ends, tailed, goes_on, ending_parts, tree_of, row_of, tail_of, IsDraft, AreDrafts}
use denote.Param.Weighed.{at_most}
use Rattle.rules_build.proofs.plan.Plan.TheLaws.{the_size}
use Rattle.rules_build.proofs.PlanSizes.{vector_above, list_above, tail_above}
use Rattle.rules_build.proofs.DraftRows.{drafts_behind, draft_there, drafts_past}
use Rattle.rules_build.proofs.PlanViews.{held_draft, name_draft, atom_draft, vector_draft, list_draft, proper_ending, dotted_ending, behind_ending}
use Rattle.rules_build.proofs.MeasureLaws.{ending_depth, max_within, max_without, one_deeper, none_deep, nothing_deep, list_deep, list_fits}
use Rattle.rules_build.proofs.measure.+depth.Goals.{fits-then-left-eq0-via-then-left-eq0, fits-then-left-eq0-via-else-left-eq0+then-not-all_fit}
use Rattle.rules_build.proofs.measure.+depth.Goals as goal

pub all_fit-fits-requires : goal.all_fit-fits-requires
all_fit-fits-requires t c =
    let w = c.args.work.now in
    let p = draft_there w c.requires.0 c.loop-plan.plan-index c.args.plans.now c.requires.1 c.plan-item.result c.requires.2 c.loop-plan-test.true in
    let small = at_most the_size c.args.plans.now c.loop-plan.plan-index c.plan-item.result c.loop-plan-test.true in
    let same = ap the_size c.plan-item.is in
    (omega (arith, small, same), (c.requires.0, p.here, subst (λ (x : Plan). IsDraft w c.requires.0 x p.here) (sym c.plan-item.is) p.is))

pub all_fit-returns-then-not-fits : goal.all_fit-returns-then-not-fits
all_fit-returns-then-not-fits t c = λ region k ds h.
    let w = c.args.work.now in
    let j = c.loop-plan.plan-index in
    let p = draft_there w region j c.args.plans.now ds c.plan-item.result h c.loop-plan-test.true in
    let here = subst (λ (x : Plan). IsDraft w region x p.here) (sym c.plan-item.is) p.is in
    max_without (tree_depth (tree_of k p.here)) (trees_depth (row_of k (drafts_behind (j + 1) ds) no_trees)) c.args.left (sym (c.fits.ensures region k p.here here) ∙ c.if-not-fits.true) ∙ ap (λ (x : Drafts). nat_le (trees_depth (row_of k x no_trees)) c.args.left) (sym p.split)
    ∙ sym (c.loop-plan.invariant region k ds h)

pub all_fit-loop-plan-preserved : goal.all_fit-loop-plan-preserved
all_fit-loop-plan-preserved t c = λ region k ds h.
    let w = c.args.work.now in
    let j = c.loop-plan.plan-index in
    let p = draft_there w region j c.args.plans.now ds c.plan-item.result h c.loop-plan-test.true in
    let here = subst (λ (x : Plan). IsDraft w region x p.here) (sym c.plan-item.is) p.is in
    let rest = trees_depth (row_of k (drafts_behind (j + 1) ds) no_trees) in
    c.loop-plan.invariant region k ds h ∙ ap (λ (x : Drafts). nat_le (trees_depth (row_of k x no_trees)) c.args.left) p.split
    ∙ sym (max_within (tree_depth (tree_of k p.here)) rest c.args.left c.fits.result (nat_le rest c.args.left) (c.fits.ensures region k p.here here) refl c.if-not-fits.false)

pub all_fit-returns : goal.all_fit-returns
all_fit-returns t c = λ region k ds h.
    let j = c.loop-plan.plan-index in
    nothing_deep c.args.left ∙ ap (λ (x : Drafts). nat_le (trees_depth (row_of k x no_trees)) c.args.left) (sym (drafts_past c.args.work.now region j c.args.plans.now ds h c.loop-plan-test.false)) ∙ sym (c.loop-plan.invariant region k ds h)

pub fits-depth-requires : goal.fits-depth-requires
fits-depth-requires t c =
    let v = held_draft c.args.work.now c.requires.0 c.args.plan.now c.requires.1 c.in-Held.tree c.in-Held.is c.requires.2 in
    (v.0, v.2)

pub fits-all_fit-requires : goal.fits-all_fit-requires
fits-all_fit-requires t c =
    let w = c.args.work.now in
    let v = vector_draft w c.requires.0 c.args.plan.now c.requires.1 c.in-Vector.items c.in-Vector.is c.requires.2 in
    let f = vector_above c.args.plan.now c.in-Vector.items c.deref.result.now c.in-Vector.is c.deref.ensures.value in
    (omega (arith, f), (c.requires.0, v.0, subst (λ (ps : List Plan). AreDrafts w c.requires.0 ps v.0) (sym c.deref.ensures.value) v.2))

pub fits-all_fit-requires-else-left-eq0 : goal.fits-all_fit-requires-else-left-eq0
fits-all_fit-requires-else-left-eq0 t c =
    let w = c.args.work.now in
    let v = list_draft w c.requires.0 c.args.plan.now c.requires.1 c.in-List.items c.in-List.end c.in-List.is c.requires.2 in
    let f = list_above c.args.plan.now c.in-List.items c.in-List.end c.deref-else-left-eq0.result.now c.in-List.is c.deref-else-left-eq0.ensures.value in
    (omega (arith, f), (c.requires.0, v.0, subst (λ (ps : List Plan). AreDrafts w c.requires.0 ps v.0) (sym c.deref-else-left-eq0.ensures.value) v.3))

pub fits-returns-then-left-eq0 : goal.fits-returns-then-left-eq0
fits-returns-then-left-eq0 t c = λ region k d h.
    let w = c.args.work.now in
    let v = list_draft w region c.args.plan.now d c.in-List.items c.in-List.end c.in-List.is h in
    let is = ap (λ (x : Draft). nat_le (tree_depth (tree_of k x)) c.args.left) (sym v.2) in
    elim c.then-left-eq0.branch [
      | fits-then-left-eq0-via-then-left-eq0 x ↦ none_deep (max (trees_depth (row_of k v.0 (ending_parts v.1))) (tail_depth (tail_of k v.1))) c.args.left x.if-left-eq0.true ∙ is
      | fits-then-left-eq0-via-else-left-eq0+then-not-all_fit x ↦
          let row = x.all_fit-else-left-eq0.ensures region k v.0 (subst (λ (ps : List Plan). AreDrafts w region ps v.0) (sym x.deref-else-left-eq0.ensures.value) v.3) in
          let f = x.if-left-eq0.false in
          list_deep k c.args.left v.0 v.1 (omega arith) (sym row ∙ x.if-not-all_fit.true) ∙ is
    ]

pub fits-fits-requires : goal.fits-fits-requires
fits-fits-requires t c =
    let w = c.args.work.now in
    let v = list_draft w c.requires.0 c.args.plan.now c.requires.1 c.in-List.items c.in-List.end c.in-List.is c.requires.2 in
    let q = dotted_ending w c.requires.0 c.in-List.end v.1 c.in-Dotted.tail c.in-Dotted.is v.4 in
    let f = tail_above c.args.plan.now c.in-List.items c.in-List.end c.in-Dotted.tail c.deref-in-Dotted.result.now c.in-List.is c.in-Dotted.is c.deref-in-Dotted.ensures in
    (omega (arith, f), (c.requires.0, q.0, subst (λ (p : Plan). IsDraft w c.requires.0 p q.0) (sym c.deref-in-Dotted.ensures) q.3))

pub fits-behind_fits-requires : goal.fits-behind_fits-requires
fits-behind_fits-requires t c =
    let w = c.args.work.now in
    let v = list_draft w c.requires.0 c.args.plan.now c.requires.1 c.in-List.items c.in-List.end c.in-List.is c.requires.2 in
    let q = behind_ending w c.requires.0 c.in-List.end v.1 c.in-Behind.list c.in-Behind.from c.in-Behind.is v.4 in
    (c.requires.0, q.0, q.1, q.3)

pub fits-returns-in-Held : goal.fits-returns-in-Held
fits-returns-in-Held t c = λ region k d h.
    let v = held_draft c.args.work.now region c.args.plan.now d c.in-Held.tree c.in-Held.is h in
    ap (λ (x : ℕ). nat_le x c.args.left) (c.depth.ensures v.0 v.2) ∙ ap (λ (x : Draft). nat_le (tree_depth (tree_of k x)) c.args.left) (sym v.1)

pub fits-returns-in-Name : goal.fits-returns-in-Name
fits-returns-in-Name t c = λ region k d h.
    let v = name_draft c.args.work.now region c.args.plan.now d c.in-Name.field-0 c.in-Name.field-1 c.in-Name.is h in
    ap (λ (x : Draft). nat_le (tree_depth (tree_of k x)) c.args.left) (sym v.1)

pub fits-returns-in-Atom : goal.fits-returns-in-Atom
fits-returns-in-Atom t c = λ region k d h.
    let v = atom_draft c.args.work.now region c.args.plan.now d c.in-Atom.field-0 c.in-Atom.is h in
    ap (λ (x : Draft). nat_le (tree_depth (tree_of k x)) c.args.left) (sym v.1)

pub fits-returns-then-left-ge1 : goal.fits-returns-then-left-ge1
fits-returns-then-left-ge1 t c = λ region k d h.
    let w = c.args.work.now in
    let v = vector_draft w region c.args.plan.now d c.in-Vector.items c.in-Vector.is h in
    c.all_fit.ensures region k v.0 (subst (λ (ps : List Plan). AreDrafts w region ps v.0) (sym c.deref.ensures.value) v.2) ∙ one_deeper (trees_depth (row_of k v.0 no_trees)) c.args.left (omega arith) ∙ ap (λ (x : Draft). nat_le (tree_depth (tree_of k x)) c.args.left) (sym v.1)

pub fits-returns-else-left-ge1 : goal.fits-returns-else-left-ge1
fits-returns-else-left-ge1 t c = λ region k d h.
    let w = c.args.work.now in
    let v = vector_draft w region c.args.plan.now d c.in-Vector.items c.in-Vector.is h in
    let f = c.if-left-ge1.false in
    let z : nat_le 1 c.args.left ≡ false = grind (arith, nat_tests) in
    z ∙ none_deep (trees_depth (row_of k v.0 no_trees)) c.args.left (omega arith) ∙ ap (λ (x : Draft). nat_le (tree_depth (tree_of k x)) c.args.left) (sym v.1)

pub fits-returns-in-Proper : goal.fits-returns-in-Proper
fits-returns-in-Proper t c = λ region k d h.
    let w = c.args.work.now in
    let v = list_draft w region c.args.plan.now d c.in-List.items c.in-List.end c.in-List.is h in
    let p = proper_ending w region c.in-List.end v.1 c.in-Proper.is v.4 in
    let row = sym (c.all_fit-else-left-eq0.ensures region k v.0 (subst (λ (ps : List Plan). AreDrafts w region ps v.0) (sym c.deref-else-left-eq0.ensures.value) v.3)) ∙ c.if-not-all_fit.false in
    let f = c.if-left-eq0.false in
    nothing_deep (c.args.left - 1) ∙ list_fits k c.args.left v.0 ends (omega arith) row ∙ ap (λ (x : Draft). nat_le (tree_depth (tree_of k x)) c.args.left) (ap (listed v.0) (sym p) ∙ sym v.2)

pub fits-returns-in-Dotted : goal.fits-returns-in-Dotted
fits-returns-in-Dotted t c = λ region k d h.
    let w = c.args.work.now in
    let v = list_draft w region c.args.plan.now d c.in-List.items c.in-List.end c.in-List.is h in
    let q = dotted_ending w region c.in-List.end v.1 c.in-Dotted.tail c.in-Dotted.is v.4 in
    let row = sym (c.all_fit-else-left-eq0.ensures region k v.0 (subst (λ (ps : List Plan). AreDrafts w region ps v.0) (sym c.deref-else-left-eq0.ensures.value) v.3)) ∙ c.if-not-all_fit.false in
    let f = c.if-left-eq0.false in
    let z : tree_depth (tree_of k q.0) ≡ ending_depth k (tailed q.0) = omega arith in
    c.fits.ensures region k q.0 (subst (λ (p : Plan). IsDraft w region p q.0) (sym c.deref-in-Dotted.ensures) q.3) ∙ ap (λ (x : ℕ). nat_le x (c.args.left - 1)) z ∙ list_fits k c.args.left v.0 (tailed q.0) (omega arith) row
    ∙ ap (λ (x : Draft). nat_le (tree_depth (tree_of k x)) c.args.left) (ap (listed v.0) (sym q.1) ∙ sym v.2)

pub fits-returns-in-Behind : goal.fits-returns-in-Behind
fits-returns-in-Behind t c = λ region k d h.
    let w = c.args.work.now in
    let v = list_draft w region c.args.plan.now d c.in-List.items c.in-List.end c.in-List.is h in
    let q = behind_ending w region c.in-List.end v.1 c.in-Behind.list c.in-Behind.from c.in-Behind.is v.4 in
    let row = sym (c.all_fit-else-left-eq0.ensures region k v.0 (subst (λ (ps : List Plan). AreDrafts w region ps v.0) (sym c.deref-else-left-eq0.ensures.value) v.3)) ∙ c.if-not-all_fit.false in
    let f = c.if-left-eq0.false in
    c.behind_fits.ensures region q.0 q.1 q.3 ∙ list_fits k c.args.left v.0 (goes_on q.0 q.1) (omega arith) row ∙ ap (λ (x : Draft). nat_le (tree_depth (tree_of k x)) c.args.left) (ap (listed v.0) (sym q.2) ∙ sym v.2)
