use Rattle.std.proofs.Common.{◌+◌, ◌≤◌, List, [], ◌∷◌, ◌++◌, None, refl, sym, ap, subst, arith}
use Rattle.std.specs.Prelude.{Ok, Err}
use denote.Param.Weighed.{at_most}
use Rattle.scheme_model.specs.Trees.{name, atom, vector, no_trees}
use Rattle.scheme_model.specs.Ident.{Inserted}
use Rattle.syntax_tree.specs.Numbered.{number_of}
use Rattle.rules_build.specs.declared.fault.BuildFault.TheVariants as fault
use Rattle.rules_build.specs.declared.plan.Plan.{Plan}
use Rattle.rules_build.specs.Drafts.{Draft, Ending, ending_parts, ending_makes, tail_of, tree_of, row_of, makes, all_make, IsDraft, AreDrafts}
use Rattle.scheme_model.specs.TreeParts.{append}
use Rattle.syntax_tree.specs.Looks.{PartsStand}
use Rattle.rules_build.proofs.BuildLaws.{append_nil}
use Rattle.ls_base.specs.Limits.{max_tree_nodes, max_tree_depth}
use Rattle.scheme_model.specs.Measures.{tree_size, tree_depth}
use Rattle.rules_build.specs.Adds.{Adds, AddsEnd, AllCanBeAdded}
use Rattle.rules_build.proofs.plan.Plan.TheLaws.{the_size}
use Rattle.rules_build.proofs.PlanSizes.{vector_above, list_above, list_size, end_above}
use Rattle.rules_build.proofs.PlanViews.{held_draft, name_draft, atom_draft, vector_draft, proper_ending, behind_ending}
use Rattle.rules_build.proofs.DraftRows.{drafts_behind, draft_there, drafts_past, one_size, one_depth}
use Rattle.rules_build.proofs.AddLaws.{row_none, row_more, row_end, row_fail, row_grows, adds_handed_on, all_handed_on, end_handed_on, adds_on, vector_small, list_small, named_parts, draft_kept, grows_none}
use Rattle.rules_build.proofs.AddSteps.{err_more, vector_node, end_later, held_added, row_ready, list_ready, list_can, list_added, row_fault, end_fault, dotted_small, tail_added, tail_fault}
use Rattle.rules_build.proofs.adding.+adding.Goals as goal

-- src/adding.rt:83:5
pub add_all-loop-plan-init : goal.add_all-loop-plan-init
add_all-loop-plan-init t c = λ ds h.
    let w = c.args.work.now in
    let r = c.args.region.now in
    let k = number_of c.args.number in
    row_none w r k ds c.in_ok-items.items.items c.in_ok-items.ensures.items

-- src/adding.rt:83:21
pub add_all-returns-in_err-items : goal.add_all-returns-in_err-items
add_all-returns-in_err-items t c = λ ds h.
    let w = c.args.work.now in
    let r = c.args.region.now in
    let k = number_of c.args.number in
    all_handed_on w w r k (all_make ds) (row_of k ds no_trees) c.from_residual.result fault.Memory c.from_residual.ensures.1 (grows_none w r k (all_make ds)) tt

-- src/adding.rt:84:20
pub add_all-add_plan-requires : goal.add_all-add_plan-requires
add_all-add_plan-requires t c =
    let w = c.args.work.now in
    let r = c.args.region.now in
    let k = number_of c.args.number in
    let now = c.loop-plan.work in
    let j = c.loop-plan.plan-index in
    let q = c.requires.plans in
    let u = c.loop-plan.invariant q.0 q.1 in
    let p = draft_there w r j c.args.plans.now q.0 c.plan-item.result q.1 c.loop-plan-test.true in
    let small = at_most the_size c.args.plans.now j c.plan-item.result c.loop-plan-test.true in
    let same = ap the_size c.plan-item.is in
    let here = draft_kept w now r u.grows.trees u.grows.names.keeps c.plan-item.result p.here (subst (λ (x : Plan). IsDraft w r x p.here) (sym c.plan-item.is) p.is) in
    let size = one_size k j q.0 p.here (drafts_behind (j + 1) q.0) p.split in
    let deep = one_depth k j q.0 p.here (drafts_behind (j + 1) q.0) p.split in
    (omega (arith, small, same), (u.grows.trees.regions r c.requires.region, (p.here, here, omega (arith, size, q.2), omega (arith, deep, q.3))))

-- src/adding.rt:84:20
pub add_all-returns-in_err-item : goal.add_all-returns-in_err-item
add_all-returns-in_err-item t c = λ ds h.
    let w = c.args.work.now in
    let r = c.args.region.now in
    let k = number_of c.args.number in
    let now = c.loop-plan.work in
    let j = c.loop-plan.plan-index in
    let u = c.loop-plan.invariant ds h in
    let p = draft_there w r j c.args.plans.now ds c.plan-item.result h c.loop-plan-test.true in
    let here = draft_kept w now r u.grows.trees u.grows.names.keeps c.plan-item.result p.here (subst (λ (x : Plan). IsDraft w r x p.here) (sym c.plan-item.is) p.is) in
    let e = c.in_err-item.field-0.0 in
    let b = row_fail w now c.add_plan.new.work r k ds j c.loop-plan.items.items p.here e u p.split (c.in_err-item.ensures p.here here) in
    all_handed_on w c.add_plan.new.work r k (all_make ds) (row_of k ds no_trees) c.from_residual-in_err-item.result e c.from_residual-in_err-item.ensures.1 b.0 b.1

-- src/adding.rt:85:9
pub add_all-returns-in_err-push : goal.add_all-returns-in_err-push
add_all-returns-in_err-push t c = λ ds h.
    let w = c.args.work.now in
    let r = c.args.region.now in
    let k = number_of c.args.number in
    let now = c.loop-plan.work in
    let new = c.add_plan.new.work in
    let j = c.loop-plan.plan-index in
    let u = c.loop-plan.invariant ds h in
    let p = draft_there w r j c.args.plans.now ds c.plan-item.result h c.loop-plan-test.true in
    let here = draft_kept w now r u.grows.trees u.grows.names.keeps c.plan-item.result p.here (subst (λ (x : Plan). IsDraft w r x p.here) (sym c.plan-item.is) p.is) in
    let ns = c.loop-plan.items.items in
    let n = c.in_ok-item.item in
    let more = row_more w now new r k ds j ns (ns ++ n ∷ []) n p.here u p.split (c.in_ok-item.ensures p.here here) refl in
    all_handed_on w new r k (all_make ds) (row_of k ds no_trees) c.from_residual-in_err-push.result fault.Memory c.from_residual-in_err-push.ensures.1 (row_grows w new r k ds (j + 1) (ns ++ n ∷ []) more) tt

-- src/adding.rt:83:5
pub add_all-loop-plan-preserved : goal.add_all-loop-plan-preserved
add_all-loop-plan-preserved t c = λ ds h.
    let w = c.args.work.now in
    let r = c.args.region.now in
    let k = number_of c.args.number in
    let now = c.loop-plan.work in
    let j = c.loop-plan.plan-index in
    let u = c.loop-plan.invariant ds h in
    let p = draft_there w r j c.args.plans.now ds c.plan-item.result h c.loop-plan-test.true in
    let here = draft_kept w now r u.grows.trees u.grows.names.keeps c.plan-item.result p.here (subst (λ (x : Plan). IsDraft w r x p.here) (sym c.plan-item.is) p.is) in
    row_more w now c.add_plan.new.work r k ds j c.loop-plan.items.items c.push.new.self.items c.in_ok-item.item p.here u p.split (c.in_ok-item.ensures p.here here) c.in_ok-push.ensures.items

-- src/adding.rt:69:1
pub add_all-returns : goal.add_all-returns
add_all-returns t c = λ ds h.
    let w = c.args.work.now in
    let r = c.args.region.now in
    let k = number_of c.args.number in
    let j = c.loop-plan.plan-index in
    row_end w c.loop-plan.work r k ds j c.loop-plan.items (c.loop-plan.invariant ds h) (drafts_past w r j c.args.plans.now ds h c.loop-plan-test.false)

-- src/adding.rt:108:38
pub add_end-add_plan-requires : goal.add_end-add_plan-requires
add_end-add_plan-requires t c =
    let w = c.args.work.now in
    let r = c.args.region.now in
    let k = number_of c.args.number in
    let q = c.requires.end in
    let f = end_above c.args.end.now c.in-Dotted.plan c.deref.result.now c.in-Dotted.is c.deref.ensures in
    (omega (arith, f), (c.requires.region, dotted_small w r k c.args.end.now c.in-Dotted.plan c.deref.result.now c.in-Dotted.is c.deref.ensures q))

-- src/adding.rt:108:38
pub add_end-returns-in_err-add_plan-in-Dotted : goal.add_end-returns-in_err-add_plan-in-Dotted
add_end-returns-in_err-add_plan-in-Dotted t c = λ e us h stands named.
    let w = c.args.work.now in
    let r = c.args.region.now in
    let k = number_of c.args.number in
    let new = c.add_plan.new.work in
    let f = c.in_err-add_plan-in-Dotted.field-0.0 in
    let b = tail_fault w new r k c.args.end.now c.in-Dotted.plan c.deref.result.now f e c.in-Dotted.is c.deref.ensures h c.in_err-add_plan-in-Dotted.ensures in
    end_handed_on w new r k (ending_makes e) (append us (ending_parts e)) (tail_of k e) c.args.items.now.items c.from_residual.result f c.from_residual.ensures.1 b.0 b.1

-- src/adding.rt:109:39
pub add_end-copy_behind-requires : goal.add_end-copy_behind-requires
add_end-copy_behind-requires t c =
    let w = c.args.work.now in
    let r = c.args.region.now in
    let k = number_of c.args.number in
    let q = c.requires.end in
    let v = behind_ending w r c.args.end.now q.0 c.in-Behind.list c.in-Behind.from c.in-Behind.is q.1 in
    (r, v.0, v.1, v.3)

-- src/adding.rt:91:1
pub add_end-returns-in-Proper : goal.add_end-returns-in-Proper
add_end-returns-in-Proper t c = λ e us h stands named.
    let w = c.args.work.now in
    let r = c.args.region.now in
    let k = number_of c.args.number in
    let ns = c.args.items.now.items in
    let p = proper_ending w r c.args.end.now e c.in-Proper.is h in
    subst (λ (x : Ending). AddsEnd w w r k (ending_makes x) (append us (ending_parts x)) (tail_of k x) ns (Ok None)) (sym p) (grows_none w r k 0, subst (PartsStand w ns) (sym (append_nil us)) stands, named, tt, tt)

-- src/adding.rt:91:1
pub add_end-returns-in_ok-add_plan-in-Dotted : goal.add_end-returns-in_ok-add_plan-in-Dotted
add_end-returns-in_ok-add_plan-in-Dotted t c = λ e us h stands named.
    let w = c.args.work.now in
    let r = c.args.region.now in
    let k = number_of c.args.number in
    tail_added w c.add_plan.new.work r k c.args.end.now c.in-Dotted.plan c.deref.result.now c.in_ok-add_plan-in-Dotted.field-0 e us c.args.items.now.items c.in-Dotted.is c.deref.ensures h stands named c.in_ok-add_plan-in-Dotted.ensures

-- src/adding.rt:91:1
pub add_end-returns-in_ok-copy_behind-in-Behind : goal.add_end-returns-in_ok-copy_behind-in-Behind
add_end-returns-in_ok-copy_behind-in-Behind t c = λ e us h stands named.
    let w = c.args.work.now in
    let r = c.args.region.now in
    let k = number_of c.args.number in
    let v = behind_ending w r c.args.end.now e c.in-Behind.list c.in-Behind.from c.in-Behind.is h in
    let b = c.in_ok-copy_behind-in-Behind.ensures r v.0 us v.1 v.3 stands named in
    subst (λ (x : Ending). AddsEnd w w r k (ending_makes x) (append us (ending_parts x)) (tail_of k x) c.copy_behind.new.items.items (Ok c.in_ok-copy_behind-in-Behind.field-0)) (sym v.2) (grows_none w r k 0, b.0, b.1, b.2, b.3)

-- src/adding.rt:39:35
pub add_plan-add_name-requires-clause-id : goal.add_plan-add_name-requires-clause-id
add_plan-add_name-requires-clause-id t c =
    let w = c.args.work.now in
    let r = c.args.region.now in
    let k = number_of c.args.number in
    let q = c.requires.plan in
    let v = name_draft w r c.args.plan.now q.0 c.in-Name.id c.in-Name.occ c.in-Name.is q.1 in
    (v.0, v.2)

-- src/adding.rt:39:35
pub add_plan-returns-in_err-add_name-in-Name : goal.add_plan-returns-in_err-add_name-in-Name
add_plan-returns-in_err-add_name-in-Name t c = λ d h.
    let w = c.args.work.now in
    let r = c.args.region.now in
    let k = number_of c.args.number in
    let v = name_draft w r c.args.plan.now d c.in-Name.id c.in-Name.occ c.in-Name.is h in
    let b = c.in_err-add_name-in-Name.ensures v.0 v.2 in
    subst (λ (x : Draft). Adds w c.add_name.new.work r k (makes x) (tree_of k x) c.from_residual.result) (sym v.1)
    (adds_handed_on w c.add_name.new.work r k 1 (name (Inserted v.0 k) c.in-Name.occ) c.from_residual.result c.in_err-add_name-in-Name.field-0.0 c.from_residual.ensures.1 b.0 b.1)

-- src/adding.rt:40:32
pub add_plan-add_node-requires-clause-small : goal.add_plan-add_node-requires-clause-small
add_plan-add_node-requires-clause-small t c =
    let w = c.args.work.now in
    let r = c.args.region.now in
    let k = number_of c.args.number in
    let q = c.requires.plan in
    let v = atom_draft w r c.args.plan.now q.0 c.in-Atom.leaf c.in-Atom.is q.1 in
    (atom v.0 None, v.2, omega arith, omega arith)

-- src/adding.rt:40:32
pub add_plan-returns-in_err-add_node-in-Atom : goal.add_plan-returns-in_err-add_node-in-Atom
add_plan-returns-in_err-add_node-in-Atom t c = λ d h.
    let w = c.args.work.now in
    let r = c.args.region.now in
    let k = number_of c.args.number in
    let v = atom_draft w r c.args.plan.now d c.in-Atom.leaf c.in-Atom.is h in
    let b = c.in_err-add_node-in-Atom.ensures k (atom v.0 None) v.2 in
    let f = c.from_residual-in_err-add_node-in-Atom in
    subst (λ (x : Draft). Adds w c.add_node.new.work r k (makes x) (tree_of k x) f.result) (sym v.1) (adds_handed_on w c.add_node.new.work r k 1 (atom v.0 None) f.result c.in_err-add_node-in-Atom.field-0.0 f.ensures.1 b.0 b.1)

-- src/adding.rt:49:25
pub add_plan-add_all-requires : goal.add_plan-add_all-requires
add_plan-add_all-requires t c =
    let w = c.args.work.now in
    let r = c.args.region.now in
    let k = number_of c.args.number in
    let f = vector_above c.args.plan.now c.in-Vector.plans c.deref.result.now c.in-Vector.is c.deref.ensures.value in
    (omega (arith, f), (c.requires.region, subst (AllCanBeAdded w r k) (sym c.deref.ensures.value) (vector_small k w r c.args.plan.now c.in-Vector.plans c.in-Vector.is c.requires.plan)))

-- src/adding.rt:49:25
pub add_plan-returns-in_err-items-in-Vector : goal.add_plan-returns-in_err-items-in-Vector
add_plan-returns-in_err-items-in-Vector t c = λ d h.
    let w = c.args.work.now in
    let r = c.args.region.now in
    let k = number_of c.args.number in
    let v = vector_draft w r c.args.plan.now d c.in-Vector.plans c.in-Vector.is h in
    let e = c.in_err-items-in-Vector.field-0.0 in
    let f = c.from_residual-in_err-items-in-Vector in
    let b = c.in_err-items-in-Vector.ensures v.0 (subst (λ (ps : List Plan). AreDrafts w r ps v.0) (sym c.deref.ensures.value) v.2) in
    let m = err_more w c.add_all.new.work r k (all_make v.0) (1 + all_make v.0) e (omega arith) b in
    subst (λ (x : Draft). Adds w c.add_all.new.work r k (makes x) (tree_of k x) f.result) (sym v.1) (adds_handed_on w c.add_all.new.work r k (1 + all_make v.0) (vector (row_of k v.0 no_trees) None) f.result e f.ensures.1 m.0 m.1)

-- src/adding.rt:50:16
pub add_plan-add_node-requires-in-Vector-clause-region :
    goal.add_plan-add_node-requires-in-Vector-clause-region
add_plan-add_node-requires-in-Vector-clause-region t c =
    let w = c.args.work.now in
    let r = c.args.region.now in
    let k = number_of c.args.number in
    let q = c.requires.plan in
    let v = vector_draft w r c.args.plan.now q.0 c.in-Vector.plans c.in-Vector.is q.1 in
    let a = c.in_ok-items-in-Vector.ensures v.0 (subst (λ (ps : List Plan). AreDrafts w r ps v.0) (sym c.deref.ensures.value) v.2) in
    a.0.trees.regions r c.requires.region

-- src/adding.rt:50:16
pub add_plan-add_node-requires-in-Vector-clause-small :
    goal.add_plan-add_node-requires-in-Vector-clause-small
add_plan-add_node-requires-in-Vector-clause-small t c =
    let w = c.args.work.now in
    let r = c.args.region.now in
    let k = number_of c.args.number in
    let q = c.requires.plan in
    let v = vector_draft w r c.args.plan.now q.0 c.in-Vector.plans c.in-Vector.is q.1 in
    let a = c.in_ok-items-in-Vector.ensures v.0 (subst (λ (ps : List Plan). AreDrafts w r ps v.0) (sym c.deref.ensures.value) v.2) in
    let t = vector (row_of k v.0 no_trees) None in
    (t, vector_node c.add_all.new.work c.in_ok-items-in-Vector.items (row_of k v.0 no_trees) a.1, subst (λ (x : Draft). tree_size (tree_of k x) ≤ max_tree_nodes) v.1 q.2, subst (λ (x : Draft). tree_depth (tree_of k x) ≤ max_tree_depth) v.1 q.3)

-- src/adding.rt:50:16
pub add_plan-add_node-requires-in-Vector-clause-names :
    goal.add_plan-add_node-requires-in-Vector-clause-names
add_plan-add_node-requires-in-Vector-clause-names t c =
    let w = c.args.work.now in
    let r = c.args.region.now in
    let k = number_of c.args.number in
    let q = c.requires.plan in
    let v = vector_draft w r c.args.plan.now q.0 c.in-Vector.plans c.in-Vector.is q.1 in
    let a = c.in_ok-items-in-Vector.ensures v.0 (subst (λ (ps : List Plan). AreDrafts w r ps v.0) (sym c.deref.ensures.value) v.2) in
    named_parts c.add_all.new.work r c.in_ok-items-in-Vector.items.items a.2

-- src/adding.rt:50:16
pub add_plan-returns-in_err-add_node-in-Vector : goal.add_plan-returns-in_err-add_node-in-Vector
add_plan-returns-in_err-add_node-in-Vector t c = λ d h.
    let w = c.args.work.now in
    let r = c.args.region.now in
    let k = number_of c.args.number in
    let v = vector_draft w r c.args.plan.now d c.in-Vector.plans c.in-Vector.is h in
    let a = c.in_ok-items-in-Vector.ensures v.0 (subst (λ (ps : List Plan). AreDrafts w r ps v.0) (sym c.deref.ensures.value) v.2) in
    let mid = c.add_all.new.work in
    let t = vector (row_of k v.0 no_trees) None in
    let x = vector_node mid c.in_ok-items-in-Vector.items (row_of k v.0 no_trees) a.1 in
    let new = c.add_node-in-Vector.new.work in
    let e = c.in_err-add_node-in-Vector.field-0.0 in
    let f = c.from_residual-in_err-add_node-in-Vector in
    let b = adds_on w mid new r k (all_make v.0) 1 (1 + all_make v.0) t (Err e) a.0 (c.in_err-add_node-in-Vector.ensures k t x) (omega arith) in
    subst (λ (y : Draft). Adds w new r k (makes y) (tree_of k y) f.result) (sym v.1) (adds_handed_on w new r k (1 + all_make v.0) t f.result e f.ensures.1 b.0 b.1)

-- src/adding.rt:53:29
pub add_plan-add_all-requires-in-List : goal.add_plan-add_all-requires-in-List
add_plan-add_all-requires-in-List t c =
    let w = c.args.work.now in
    let r = c.args.region.now in
    let k = number_of c.args.number in
    let f = list_above c.args.plan.now c.in-List.plans c.in-List.end c.deref-in-List.result.now c.in-List.is c.deref-in-List.ensures.value in
    (omega (arith, f), (c.requires.region, subst (AllCanBeAdded w r k) (sym c.deref-in-List.ensures.value) (list_small k w r c.args.plan.now c.in-List.plans c.in-List.end c.in-List.is c.requires.plan).0))

-- src/adding.rt:53:29
pub add_plan-returns-in_err-items-in-List : goal.add_plan-returns-in_err-items-in-List
add_plan-returns-in_err-items-in-List t c = λ d h.
    let w = c.args.work.now in
    let r = c.args.region.now in
    let k = number_of c.args.number in
    let new = c.add_all-in-List.new.work in
    let e = c.in_err-items-in-List.field-0.0 in
    let f = c.from_residual-in_err-items-in-List in
    let b = row_fault w new r k c.args.plan.now c.in-List.plans c.in-List.end c.deref-in-List.result.now d e c.in-List.is c.deref-in-List.ensures.value h c.in_err-items-in-List.ensures in
    adds_handed_on w new r k (makes d) (tree_of k d) f.result e f.ensures.1 b.0 b.1

-- src/adding.rt:54:24
pub add_plan-add_end-requires : goal.add_plan-add_end-requires
add_plan-add_end-requires t c =
    let w = c.args.work.now in
    let r = c.args.region.now in
    let k = number_of c.args.number in
    let q = c.requires.plan in
    let mid = c.add_all-in-List.new.work in
    let v = c.in_ok-items-in-List.items in
    let u = row_ready w mid r k c.args.plan.now c.in-List.plans c.in-List.end c.deref-in-List.result.now v q.0 c.in-List.is c.deref-in-List.ensures.value q.1 c.in_ok-items-in-List.ensures in
    let size = list_size c.args.plan.now c.in-List.plans c.in-List.end c.in-List.is in
    let small = (list_small k w r c.args.plan.now c.in-List.plans c.in-List.end c.in-List.is q).1 in
    (omega (arith, size), (u.grows.trees.regions r c.requires.region, end_later w mid r k c.in-List.end u.grows.trees u.grows.names.keeps small))

-- src/adding.rt:54:24
pub add_plan-returns-in_err-tail-in-List : goal.add_plan-returns-in_err-tail-in-List
add_plan-returns-in_err-tail-in-List t c = λ d h.
    let w = c.args.work.now in
    let r = c.args.region.now in
    let k = number_of c.args.number in
    let mid = c.add_all-in-List.new.work in
    let v = c.in_ok-items-in-List.items in
    let u = row_ready w mid r k c.args.plan.now c.in-List.plans c.in-List.end c.deref-in-List.result.now v d c.in-List.is c.deref-in-List.ensures.value h c.in_ok-items-in-List.ensures in
    let new = c.add_end.new.work in
    let e = c.in_err-tail-in-List.field-0.0 in
    let f = c.from_residual-in_err-tail-in-List in
    let b = end_fault w mid new r k c.in-List.end v d e u c.in_err-tail-in-List.ensures in
    adds_handed_on w new r k (makes d) (tree_of k d) f.result e f.ensures.1 b.0 b.1

-- src/adding.rt:55:16
pub add_plan-add_node-requires-in-List-clause-region :
    goal.add_plan-add_node-requires-in-List-clause-region
add_plan-add_node-requires-in-List-clause-region t c =
    let w = c.args.work.now in
    let r = c.args.region.now in
    let k = number_of c.args.number in
    let q = c.requires.plan in
    let mid = c.add_all-in-List.new.work in
    let v = c.in_ok-items-in-List.items in
    let u = row_ready w mid r k c.args.plan.now c.in-List.plans c.in-List.end c.deref-in-List.result.now v q.0 c.in-List.is c.deref-in-List.ensures.value q.1 c.in_ok-items-in-List.ensures in
    let last = c.add_end.new.work in
    let ready = list_ready w mid last r k c.in-List.end v c.add_end.new.items c.in_ok-tail-in-List.tail q.0 u c.in_ok-tail-in-List.ensures in
    ready.grows.trees.regions r c.requires.region

-- src/adding.rt:55:16
pub add_plan-add_node-requires-in-List-clause-small :
    goal.add_plan-add_node-requires-in-List-clause-small
add_plan-add_node-requires-in-List-clause-small t c =
    let w = c.args.work.now in
    let r = c.args.region.now in
    let k = number_of c.args.number in
    let q = c.requires.plan in
    let mid = c.add_all-in-List.new.work in
    let v = c.in_ok-items-in-List.items in
    let u = row_ready w mid r k c.args.plan.now c.in-List.plans c.in-List.end c.deref-in-List.result.now v q.0 c.in-List.is c.deref-in-List.ensures.value q.1 c.in_ok-items-in-List.ensures in
    let last = c.add_end.new.work in
    let ready = list_ready w mid last r k c.in-List.end v c.add_end.new.items c.in_ok-tail-in-List.tail q.0 u c.in_ok-tail-in-List.ensures in
    list_can w last r k c.add_end.new.items c.in_ok-tail-in-List.tail q.0 ready q.2 q.3

-- src/adding.rt:55:16
pub add_plan-add_node-requires-in-List-clause-names :
    goal.add_plan-add_node-requires-in-List-clause-names
add_plan-add_node-requires-in-List-clause-names t c =
    let w = c.args.work.now in
    let r = c.args.region.now in
    let k = number_of c.args.number in
    let q = c.requires.plan in
    let mid = c.add_all-in-List.new.work in
    let v = c.in_ok-items-in-List.items in
    let u = row_ready w mid r k c.args.plan.now c.in-List.plans c.in-List.end c.deref-in-List.result.now v q.0 c.in-List.is c.deref-in-List.ensures.value q.1 c.in_ok-items-in-List.ensures in
    let last = c.add_end.new.work in
    let ready = list_ready w mid last r k c.in-List.end v c.add_end.new.items c.in_ok-tail-in-List.tail q.0 u c.in_ok-tail-in-List.ensures in
    ready.names

-- src/adding.rt:55:16
pub add_plan-returns-in_err-add_node-in-List : goal.add_plan-returns-in_err-add_node-in-List
add_plan-returns-in_err-add_node-in-List t c = λ d h.
    let w = c.args.work.now in
    let r = c.args.region.now in
    let k = number_of c.args.number in
    let mid = c.add_all-in-List.new.work in
    let v = c.in_ok-items-in-List.items in
    let u = row_ready w mid r k c.args.plan.now c.in-List.plans c.in-List.end c.deref-in-List.result.now v d c.in-List.is c.deref-in-List.ensures.value h c.in_ok-items-in-List.ensures in
    let last = c.add_end.new.work in
    let ready = list_ready w mid last r k c.in-List.end v c.add_end.new.items c.in_ok-tail-in-List.tail d u c.in_ok-tail-in-List.ensures in
    let new = c.add_node-in-List.new.work in
    let e = c.in_err-add_node-in-List.field-0.0 in
    let f = c.from_residual-in_err-add_node-in-List in
    let b = list_added w last new r k c.add_end.new.items c.in_ok-tail-in-List.tail d (Err e) ready (c.in_err-add_node-in-List.ensures k) in
    adds_handed_on w new r k (makes d) (tree_of k d) f.result e f.ensures.1 b.0 b.1

-- src/adding.rt:24:1
pub add_plan-returns-in-Held : goal.add_plan-returns-in-Held
add_plan-returns-in-Held t c = λ d h.
    let w = c.args.work.now in
    let r = c.args.region.now in
    let k = number_of c.args.number in
    let v = held_draft w r c.args.plan.now d c.in-Held.tree c.in-Held.is h in
    held_added w r k c.in-Held.tree v.0 d v.1 v.2 v.3

-- src/adding.rt:24:1
pub add_plan-returns-in_ok-add_name-in-Name : goal.add_plan-returns-in_ok-add_name-in-Name
add_plan-returns-in_ok-add_name-in-Name t c = λ d h.
    let w = c.args.work.now in
    let r = c.args.region.now in
    let k = number_of c.args.number in
    let v = name_draft w r c.args.plan.now d c.in-Name.id c.in-Name.occ c.in-Name.is h in
    subst (λ (x : Draft). Adds w c.add_name.new.work r k (makes x) (tree_of k x) (Ok c.in_ok-add_name-in-Name.field-0)) (sym v.1) (c.in_ok-add_name-in-Name.ensures v.0 v.2)

-- src/adding.rt:24:1
pub add_plan-returns-in_ok-add_node-in-Atom : goal.add_plan-returns-in_ok-add_node-in-Atom
add_plan-returns-in_ok-add_node-in-Atom t c = λ d h.
    let w = c.args.work.now in
    let r = c.args.region.now in
    let k = number_of c.args.number in
    let v = atom_draft w r c.args.plan.now d c.in-Atom.leaf c.in-Atom.is h in
    subst (λ (x : Draft). Adds w c.add_node.new.work r k (makes x) (tree_of k x) (Ok c.in_ok-add_node-in-Atom.field-0)) (sym v.1) (c.in_ok-add_node-in-Atom.ensures k (atom v.0 None) v.2)

-- src/adding.rt:24:1
pub add_plan-returns-in_ok-add_node-in-Vector : goal.add_plan-returns-in_ok-add_node-in-Vector
add_plan-returns-in_ok-add_node-in-Vector t c = λ d h.
    let w = c.args.work.now in
    let r = c.args.region.now in
    let k = number_of c.args.number in
    let v = vector_draft w r c.args.plan.now d c.in-Vector.plans c.in-Vector.is h in
    let a = c.in_ok-items-in-Vector.ensures v.0 (subst (λ (ps : List Plan). AreDrafts w r ps v.0) (sym c.deref.ensures.value) v.2) in
    let mid = c.add_all.new.work in
    let t = vector (row_of k v.0 no_trees) None in
    let x = vector_node mid c.in_ok-items-in-Vector.items (row_of k v.0 no_trees) a.1 in
    let new = c.add_node-in-Vector.new.work in
    let n = c.in_ok-add_node-in-Vector.field-0 in
    let b = adds_on w mid new r k (all_make v.0) 1 (1 + all_make v.0) t (Ok n) a.0 (c.in_ok-add_node-in-Vector.ensures k t x) (omega arith) in
    subst (λ (y : Draft). Adds w new r k (makes y) (tree_of k y) (Ok n)) (sym v.1) b

-- src/adding.rt:24:1
pub add_plan-returns-in_ok-add_node-in-List : goal.add_plan-returns-in_ok-add_node-in-List
add_plan-returns-in_ok-add_node-in-List t c = λ d h.
    let w = c.args.work.now in
    let r = c.args.region.now in
    let k = number_of c.args.number in
    let mid = c.add_all-in-List.new.work in
    let v = c.in_ok-items-in-List.items in
    let u = row_ready w mid r k c.args.plan.now c.in-List.plans c.in-List.end c.deref-in-List.result.now v d c.in-List.is c.deref-in-List.ensures.value h c.in_ok-items-in-List.ensures in
    let last = c.add_end.new.work in
    let ready = list_ready w mid last r k c.in-List.end v c.add_end.new.items c.in_ok-tail-in-List.tail d u c.in_ok-tail-in-List.ensures in
    list_added w last c.add_node-in-List.new.work r k c.add_end.new.items c.in_ok-tail-in-List.tail d (Ok c.in_ok-add_node-in-List.field-0) ready (c.in_ok-add_node-in-List.ensures k)
