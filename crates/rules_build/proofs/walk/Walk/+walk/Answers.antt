use Rattle.std.proofs.Common.{◌≡◌, ℕ, ◌+◌, ◌-◌, List, true, false, Option, Some, refl, sym, ap, ◌∙◌, subst, arith}
use Rattle.std.specs.Borrow.{Bor}
use Rattle.std.specs.Prelude.{IsSome, Vec, Ok}
use Rattle.std.specs.declared.alloc.Global.{Global}
use Rattle.scheme_model.specs.Identifiers.{Number}
use Rattle.scheme_model.specs.Trees.{Tree as ModelTree, name, Trees}
use Rattle.scheme_model.specs.RulesShape.{is_dots, starts_dots, leading, nowhere}
use Rattle.scheme_model.specs.Matching.{behind, ◌>>=◌}
use Rattle.scheme_model.specs.Building.{Built, alone, used_in, first_place, at_places, repeated, is_escape, build_tree, build_parts}
use Rattle.scheme_model.specs.Ident.{Ident as Identifier, same_ident}
use Rattle.syntax_tree.specs.Works.{StandsFor}
use Rattle.syntax_tree.specs.declared.rules.Binding as code_binding
use Rattle.syntax_tree.proofs.Looking.{part_there, split_one, part_within, behind_past, within_positive, list_parts_within, end_within}
use Rattle.rules_build.specs.declared.plan.Plan.{Plan}
use Rattle.rules_build.specs.declared.plan.Plan.TheVariants as plan
use Rattle.rules_build.specs.declared.plan.End.TheVariants as end
use Rattle.rules_build.specs.declared.values.Bound as code
use Rattle.rules_build.specs.Values.{AreBound, IsIndexOf}
use Rattle.rules_build.specs.Drafts.{spent, ArePlansOf}
use Rattle.rules_build.specs.Builds.{inserting, dots_where, one_row, IsRow, Fails, Plans}
use Rattle.rules_build.proofs.BuildLaws.{vanish_parts}
use Rattle.rules_build.proofs.DraftLaws.{some_left, vector_plan, list_plan}
use Rattle.rules_build.proofs.Tails.{end_proper, end_dotted, tail_within}
use Rattle.rules_build.proofs.WalkLaws.{tree_handed_on, all_handed_on, parts_start, parts_dots, parts_more, parts_fail, parts_end, once, plans_same, places_start, places_more, places_fail, places_end, kept_one, vector_fails, vector_planned, list_fails, list_planned, tail_fails, tail_planned, escape_built}
use Rattle.rules_build.proofs.WalkSteps.{atom_planned, escape_size, escape_inner, upto_same, once_is, once_fails, left_is, left_fails}
use Rattle.rules_build.proofs.walk.Walk.+walk.Goals as goal
use Rattle.rules_build.proofs.walk.Walk.+walk.Goals.{parts-then-not-dots+in_ok-part, parts-else-not-dots}

pub parts-loop-k-init : goal.parts-loop-k-init
parts-loop-k-init t c = (
  λ r ts tells h. c.dots_at-dots.ensures r ts tells h,
  λ r region k ts ms tells h are. parts_start c.args.self.now.work.now region k (dots_where c.args.escaped r) ts ms c.args.room.now c.args.plans.now.items,
)

pub parts-part-requires : goal.parts-part-requires
parts-part-requires t c = (omega arith, (c.requires.roles, (part_within c.args.self.now.work.now c.args.items.now c.args.left c.loop-k.k _ c.requires.items c.loop-k-test.true, (c.requires.bounds, c.requires.index))))

pub parts-returns-in_err-part : goal.parts-returns-in_err-part
parts-returns-in_err-part t c = λ r region k ts ms tells h are.
    let w = c.args.self.now.work.now in
    let dots = dots_where c.args.escaped r in
    let j = c.loop-k.k in
    let u = c.loop-k.invariant.1 r region k ts ms tells h are in
    let p = part_there w j c.args.items.now ts (record { number = 0 }) h c.loop-k-test.true in
    let split = split_one w j ts _ p in
    let other : is_dots dots p.part ≡ false = sym (c.loop-k.invariant.0 r ts tells h ∙ ap (starts_dots dots) split) ∙ c.if-not-dots.true in
    let lead = c.leading-times.ensures r ts tells h (c.dots_at-follows.ensures r ts tells h) in
    let e = c.in_err-part.field-0.0 in
    let a = subst (λ (n : ℕ). Fails (repeated n (build_tree (inserting k) dots p.part) (used_in same_ident p.part ms)) e) lead (c.in_err-part.ensures r region k p.part ms tells p.stands are) in
    all_handed_on w region k c.args.room.now c.part.new.room c.args.plans.now.items c.part.new.plans.items (build_parts (inserting k) dots ts ms) c.from_residual.result e c.from_residual.ensures.1
    (parts_fail w region k dots ts ms j p.part c.args.room.now c.loop-k.room c.args.plans.now.items c.loop-k.plans.items e split other u a)

pub parts-loop-k-preserved : goal.parts-loop-k-preserved
parts-loop-k-preserved t c = (
  λ r ts tells h. c.dots_at-follows.ensures r ts tells h,
  λ r region k ts ms tells h are.
      let w = c.args.self.now.work.now in
      let dots = dots_where c.args.escaped r in
      let j = c.loop-k.k in
      let u = c.loop-k.invariant.1 r region k ts ms tells h are in
      let p = part_there w j c.args.items.now ts (record { number = 0 }) h c.loop-k-test.true in
      let split = split_one w j ts _ p in
      let own = c.loop-k.invariant.0 r ts tells h ∙ ap (starts_dots dots) split in
      elim c.if-not-dots.branch [
        | parts-then-not-dots+in_ok-part x ↦
            let room = x.part.new.room in
            let new = x.part.new.plans in
            let other : is_dots dots p.part ≡ false = sym own ∙ x.if-not-dots.true in
            let lead = x.leading-times.ensures r ts tells h (c.dots_at-follows.ensures r ts tells h) in
            let f = build_tree (inserting k) dots p.part in
            let used = used_in same_ident p.part ms in
            let a = plans_same w region k c.loop-k.room room c.loop-k.plans.items new.items (repeated x.leading-times.result f used) (repeated (leading dots (behind (j + 1) ts)) f used) (Ok tt) (ap (λ (n : ℕ). repeated n f used) lead)
            (x.in_ok-part.ensures r region k p.part ms tells p.stands are) in
            let more = parts_more w region k dots ts ms j p.part c.args.room.now c.loop-k.room room c.args.plans.now.items c.loop-k.plans.items new.items tt split other u a in
            upto_same w region k dots ts ms (j + 1) c.args.room.now room c.if-not-dots.room c.args.plans.now.items new.items c.if-not-dots.plans.items x.room-is (ap (λ (v : Vec Plan Global). v.items) x.plans-is) more
        | parts-else-not-dots x ↦
            let other : is_dots dots p.part ≡ true = sym own ∙ x.if-not-dots.false in
            let more = parts_dots w region k dots ts ms j p.part c.args.room.now c.loop-k.room c.args.plans.now.items c.loop-k.plans.items split other u in
            upto_same w region k dots ts ms (j + 1) c.args.room.now c.loop-k.room c.if-not-dots.room c.args.plans.now.items c.loop-k.plans.items c.if-not-dots.plans.items x.room-is (ap (λ (v : Vec Plan Global). v.items) x.plans-is) more
      ],
)

pub parts-returns : goal.parts-returns
parts-returns t c = λ r region k ts ms tells h are.
    let w = c.args.self.now.work.now in
    let dots = dots_where c.args.escaped r in
    let j = c.loop-k.k in
    let u = c.loop-k.invariant.1 r region k ts ms tells h are in
    parts_end w region k dots ts ms j c.args.room.now c.loop-k.room c.args.plans.now.items c.loop-k.plans.items tt (behind_past w j c.args.items.now ts h c.loop-k-test.false) u

pub part-returns-in_err-plan : goal.part-returns-in_err-plan
part-returns-in_err-plan t c = λ r region k u ms tells h are.
    let w = c.args.self.now.work.now in
    let dots = dots_where c.args.escaped r in
    let f = build_tree (inserting k) dots u in
    let e = c.in_err-plan.field-0.0 in
    let a = once_fails 0 f ms e refl (c.in_err-plan.ensures r region k u ms tells h are) in
    all_handed_on w region k c.args.room.now c.tree.new.room c.args.plans.now.items c.args.plans.now.items (repeated c.args.times f (used_in same_ident u ms)) c.from_residual.result e c.from_residual.ensures.1
    (subst (λ (x : Option (Built (Trees Identifier))). Fails x e) (once w region k dots u ms c.args.times (sym c.if-times-eq0.true)) a)

pub part-returns-then-times-eq0 : goal.part-returns-then-times-eq0
part-returns-then-times-eq0 t c = λ r region k u ms tells h are.
    let w = c.args.self.now.work.now in
    let dots = dots_where c.args.escaped r in
    let f = build_tree (inserting k) dots u in
    let a = kept_one w region k c.args.room.now c.tree.new.room c.args.plans.now.items c.keep.new.plans.items (f ms) c.in_ok-plan.plan tt (c.in_ok-plan.ensures r region k u ms tells h are) (λ b g. c.in_ok-keep.ensures w region k b g) in
    plans_same w region k c.args.room.now c.tree.new.room c.args.plans.now.items c.keep.new.plans.items (repeated 0 f ms) (repeated c.args.times f (used_in same_ident u ms)) (Ok tt) (once w region k dots u ms c.args.times (sym c.if-times-eq0.true)) a

pub part-returns-in_ok-add_values-in-Some : goal.part-returns-in_ok-add_values-in-Some
part-returns-in_ok-add_values-in-Some t c = λ r region k u ms tells h are.
    let w = c.args.self.now.work.now in
    let dots = dots_where c.args.escaped r in
    let shown = c.row_under.ensures region u c.args.bounds.now ms h c.requires.index are in
    let x = subst (λ (y : Option (ℕ × Bor (List code_binding.Binding))). IsRow w region c.args.times u ms y) c.in-Some.is shown in
    let g = build_tree (inserting k) dots (name x.ident x.place) in
    let a = c.in_ok-add_values-in-Some.ensures region k dots x.ident x.place x.variable x.values (subst (StandsFor w c.args.template) x.whole h) x.is x.same x.are in
    let same : repeated 1 g (one_row x.variable x.values) ≡ repeated c.args.times (build_tree (inserting k) dots u) (used_in same_ident u ms) = λ j. repeated (sym x.once j) (build_tree (inserting k) dots (sym x.whole j)) (sym x.used j) in
    plans_same w region k c.args.room.now c.add_values.new.room c.args.plans.now.items c.add_values.new.plans.items (repeated 1 g (one_row x.variable x.values)) (repeated c.args.times (build_tree (inserting k) dots u) (used_in same_ident u ms)) (Ok tt) same a

pub part-returns-in_err-each_place-in-None : goal.part-returns-in_err-each_place-in-None
part-returns-in_err-each_place-in-None t c = λ r region k u ms tells h are.
    let w = c.args.self.now.work.now in
    let e = c.in_err-each_place-in-None.field-0.0 in
    let f = c.from_residual-in_err-each_place-in-None in
    all_handed_on w region k c.args.room.now c.each_place.new.room c.args.plans.now.items c.each_place.new.plans.items (repeated c.args.times (build_tree (inserting k) (dots_where c.args.escaped r) u) (used_in same_ident u ms)) f.result e f.ensures.1
    (c.in_err-each_place-in-None.ensures r region k u ms tells h are)

pub each_place-repeated-requires : goal.each_place-repeated-requires
each_place-repeated-requires t c =
    let w = c.args.self.now.work.now in
    let b = c.requires.bounds in
    let q = c.requires.template in
    let bound = subst (λ (bs : List code.Bound). AreBound w b.0 bs (used_in same_ident q.0 b.1)) (sym c.deref-2.ensures.value) (c.in_ok-used.ensures b.0 q.0 b.1 q.1 b.2) in
    (omega arith, (c.requires.roles, (q, ((b.0, used_in same_ident q.0 b.1, bound), subst (λ (bs : List code.Bound). IsIndexOf bs c.in_ok-places.places) (c.deref.ensures.value ∙ sym c.deref-2.ensures.value) c.in_ok-places.ensures))))

pub each_place-returns-in_err-repeated : goal.each_place-returns-in_err-repeated
each_place-returns-in_err-repeated t c = λ r region k u ms tells h are.
    let w = c.args.self.now.work.now in
    let used = used_in same_ident u ms in
    let bound = subst (λ (bs : List code.Bound). AreBound w region bs used) (sym c.deref-2.ensures.value) (c.in_ok-used.ensures region u ms h are) in
    let e = c.in_err-repeated.field-0.0 in
    let f = c.from_residual-in_err-repeated in
    all_handed_on w region k c.args.room.now c.repeated.new.room c.args.plans.now.items c.repeated.new.plans.items (repeated c.args.times (build_tree (inserting k) (dots_where c.args.escaped r) u) used) f.result e f.ensures.1
    (c.in_err-repeated.ensures r region k u used tells h bound)

pub each_place-returns : goal.each_place-returns
each_place-returns t c = λ r region k u ms tells h are.
    let w = c.args.self.now.work.now in
    let used = used_in same_ident u ms in
    let bound = subst (λ (bs : List code.Bound). AreBound w region bs used) (sym c.deref-2.ensures.value) (c.in_ok-used.ensures region u ms h are) in
    c.in_ok-repeated.ensures r region k u used tells h bound

pub repeated-returns-in_err-plan : goal.repeated-returns-in_err-plan
repeated-returns-in_err-plan t c = λ r region k u ms tells h are.
    let w = c.args.self.now.work.now in
    let f = build_tree (inserting k) (dots_where c.args.escaped r) u in
    let e = c.in_err-plan.field-0.0 in
    all_handed_on w region k c.args.room.now c.tree.new.room c.args.plans.now.items c.args.plans.now.items (repeated c.args.times f ms) c.from_residual.result e c.from_residual.ensures.1
    (once_fails c.args.times f ms e c.if-times-eq0.true (c.in_err-plan.ensures r region k u ms tells h are))

pub repeated-returns-then-times-eq0 : goal.repeated-returns-then-times-eq0
repeated-returns-then-times-eq0 t c = λ r region k u ms tells h are.
    let w = c.args.self.now.work.now in
    let f = build_tree (inserting k) (dots_where c.args.escaped r) u in
    let a = kept_one w region k c.args.room.now c.tree.new.room c.args.plans.now.items c.keep.new.plans.items (f ms) c.in_ok-plan.plan tt (c.in_ok-plan.ensures r region k u ms tells h are) (λ b g. c.in_ok-keep.ensures w region k b g) in
    plans_same w region k c.args.room.now c.tree.new.room c.args.plans.now.items c.keep.new.plans.items (f ms >>= λ b. Some (alone b)) (repeated c.args.times f ms) (Ok tt) (once_is c.args.times f ms c.if-times-eq0.true) a

pub repeated-returns-in_err-places : goal.repeated-returns-in_err-places
repeated-returns-in_err-places t c = λ r region k u ms tells h are.
    let w = c.args.self.now.work.now in
    let f = build_tree (inserting k) (dots_where c.args.escaped r) u in
    let e = c.in_err-places.field-0.0 in
    let b = c.from_residual-in_err-places in
    all_handed_on w region k c.args.room.now c.args.room.now c.args.plans.now.items c.args.plans.now.items (repeated c.args.times f ms) b.result e b.ensures.1
    (left_fails w region k c.args.times f ms e c.if-times-eq0.false (c.in_err-places.ensures w region ms are))

pub repeated-loop-place-init : goal.repeated-loop-place-init
repeated-loop-place-init t c = λ r region k u ms tells h are.
    let w = c.args.self.now.work.now in
    let f = build_tree (inserting k) (dots_where c.args.escaped r) u in
    places_start w region k (repeated (c.args.times - 1) f) c.in_ok-places.places ms c.args.room.now c.args.plans.now.items c.in_ok-here.here.items (subst (λ (bs : List code.Bound). AreBound w region bs ms) (sym c.in_ok-here.ensures) are)

pub repeated-repeated-requires : goal.repeated-repeated-requires
repeated-repeated-requires t c =
    let w = c.args.self.now.work.now in
    let b = c.requires.bounds in
    let q = c.requires.template in
    let zero : Number = record { unit = 0; form = 0; count = 0 } in
    let i = c.loop-place.invariant c.requires.roles.0 b.0 zero q.0 b.1 c.requires.roles.1 q.1 b.2 in
    let here = subst (λ (bs : List code.Bound). AreBound w b.0 bs i.later) (sym c.deref.ensures.value) i.are in
    let first = subst (λ (bs : List code.Bound). AreBound w b.0 bs (first_place i.later)) (sym c.deref-in-loop-place-2.ensures.value) (c.in_ok-first.ensures w b.0 i.later here) in
    let some = c.if-times-eq0.false in
    (omega (arith, some), (c.requires.roles, (q, ((b.0, first_place i.later, first), subst (λ (bs : List code.Bound). IsIndexOf bs c.in_ok-names.names) (c.deref-in-loop-place.ensures.value ∙ sym c.deref-in-loop-place-2.ensures.value) c.in_ok-names.ensures))))

pub repeated-returns-in_err-repeated : goal.repeated-returns-in_err-repeated
repeated-returns-in_err-repeated t c = λ r region k u ms tells h are.
    let w = c.args.self.now.work.now in
    let f = build_tree (inserting k) (dots_where c.args.escaped r) u in
    let n = c.in_ok-places.places in
    let g = repeated (c.args.times - 1) f in
    let j = c.loop-place._place in
    let i = c.loop-place.invariant r region k u ms tells h are in
    let here = subst (λ (bs : List code.Bound). AreBound w region bs i.later) (sym c.deref.ensures.value) i.are in
    let first = subst (λ (bs : List code.Bound). AreBound w region bs (first_place i.later)) (sym c.deref-in-loop-place-2.ensures.value) (c.in_ok-first.ensures w region i.later here) in
    let whole = left_is w region k c.args.times n f ms c.if-times-eq0.false (c.in_ok-places.ensures w region ms are) in
    let e = c.in_err-repeated.field-0.0 in
    let b = c.from_residual-in_err-repeated in
    let a = places_fail w region k g n ms j c.args.room.now c.loop-place.room c.args.plans.now.items c.loop-place.plans.items c.loop-place.here.items e c.loop-place-test.true i (c.in_err-repeated.ensures r region k u (first_place i.later) tells h first) in
    all_handed_on w region k c.args.room.now c.repeated.new.room c.args.plans.now.items c.repeated.new.plans.items (repeated c.args.times f ms) b.result e b.ensures.1 (subst (λ (x : Option (Built (Trees Identifier))). Fails x e) (sym whole) a)

pub repeated-loop-place-preserved : goal.repeated-loop-place-preserved
repeated-loop-place-preserved t c = λ r region k u ms tells h are.
    let w = c.args.self.now.work.now in
    let f = build_tree (inserting k) (dots_where c.args.escaped r) u in
    let n = c.in_ok-places.places in
    let g = repeated (c.args.times - 1) f in
    let j = c.loop-place._place in
    let i = c.loop-place.invariant r region k u ms tells h are in
    let here = subst (λ (bs : List code.Bound). AreBound w region bs i.later) (sym c.deref.ensures.value) i.are in
    let first = subst (λ (bs : List code.Bound). AreBound w region bs (first_place i.later)) (sym c.deref-in-loop-place-2.ensures.value) (c.in_ok-first.ensures w region i.later here) in
    let back = subst (λ (bs : List code.Bound). AreBound w region bs i.later) (sym c.deref-in-loop-place-3.ensures.value) i.are in
    places_more w region k g n ms j c.args.room.now c.loop-place.room c.repeated.new.room c.args.plans.now.items c.loop-place.plans.items c.repeated.new.plans.items c.loop-place.here.items c.in_ok-here-2.here.items tt c.loop-place-test.true i (c.in_ok-here-2.ensures w region i.later back)
    (c.in_ok-repeated.ensures r region k u (first_place i.later) tells h first)

pub repeated-returns : goal.repeated-returns
repeated-returns t c = λ r region k u ms tells h are.
    let w = c.args.self.now.work.now in
    let f = build_tree (inserting k) (dots_where c.args.escaped r) u in
    let n = c.in_ok-places.places in
    let g = repeated (c.args.times - 1) f in
    let j = c.loop-place._place in
    let i = c.loop-place.invariant r region k u ms tells h are in
    let whole = left_is w region k c.args.times n f ms c.if-times-eq0.false (c.in_ok-places.ensures w region ms are) in
    plans_same w region k c.args.room.now c.loop-place.room c.args.plans.now.items c.loop-place.plans.items (at_places g n ms) (repeated c.args.times f ms) (Ok tt) (sym whole)
    (places_end w region k g n ms j c.args.room.now c.loop-place.room c.args.plans.now.items c.loop-place.plans.items c.loop-place.here.items tt c.loop-place-test.false i)

pub tree-returns-in_err-parts-in-Vector : goal.tree-returns-in_err-parts-in-Vector
tree-returns-in_err-parts-in-Vector t c = λ r region k u ms tells h are.
    let w = c.args.self.now.work.now in
    let dots = dots_where c.args.escaped r in
    let q = c.in-Vector.ensures.look u h in
    let e = c.in_err-parts-in-Vector.field-0.0 in
    tree_handed_on w region k c.args.room.now c.parts.new.room (build_tree (inserting k) dots u ms) c.from_residual-in_err-parts-in-Vector.result e c.from_residual-in_err-parts-in-Vector.ensures.1 (subst (λ (x : ModelTree Identifier). Fails (build_tree (inserting k) dots x ms) e) (sym q.2)
    (vector_fails w region k dots q.0 q.1 ms e (c.in_err-parts-in-Vector.ensures r region k q.0 ms tells q.3 are)))

pub tree-bounds-items-1 : goal.tree-bounds-items-1
tree-bounds-items-1 t c =
    let w = c.args.self.now.work.now in
    let p = c.requires.template in
    let q = c.in-List.ensures.look p.0 p.1 in
    let r = c.requires.roles.0 in
    let dots = dots_where c.args.escaped r in
    let own : is_escape dots q.0 q.1 ≡ true = sym (c.is_escape.ensures r q.0 q.1 c.requires.roles.1 q.4 q.5) ∙ c.if-is_escape.true in
    escape_size w dots c.in-List.items.now q.0 q.1 q.4 own

pub tree-tree-requires : goal.tree-tree-requires
tree-tree-requires t c =
    let w = c.args.self.now.work.now in
    let p = c.requires.template in
    let q = c.in-List.ensures.look p.0 p.1 in
    let r = c.requires.roles.0 in
    let dots = dots_where c.args.escaped r in
    let own : is_escape dots q.0 q.1 ≡ true = sym (c.is_escape.ensures r q.0 q.1 c.requires.roles.1 q.4 q.5) ∙ c.if-is_escape.true in
    let n = escape_size w dots c.in-List.items.now q.0 q.1 q.4 own in
    let below = list_parts_within w c.args.left p.0 c.in-List.items.now q.0 q.1 q.2 p.2 q.3 q.4 in
    let deep = within_positive w c.args.template c.args.left p in
    (omega (arith, deep), (c.requires.roles, (part_within w c.in-List.items.now (c.args.left - 1) 1 _ below n, (c.requires.bounds, c.requires.index))))

pub tree-returns-in_err-tree-in-List : goal.tree-returns-in_err-tree-in-List
tree-returns-in_err-tree-in-List t c = λ r region k u ms tells h are.
    let w = c.args.self.now.work.now in
    let dots = dots_where c.args.escaped r in
    let q = c.in-List.ensures.look u h in
    let own : is_escape dots q.0 q.1 ≡ true = sym (c.is_escape.ensures r q.0 q.1 tells q.4 q.5) ∙ c.if-is_escape.true in
    let x = escape_inner w dots c.in-List.items.now q.0 q.1 (record { number = 0 }) q.4 own in
    let whole : build_tree (inserting k) nowhere x.inner ms ≡ build_tree (inserting k) dots u ms = escape_built w region k dots q.0 q.1 q.2 ms x.first x.inner own x.parts ∙ ap (λ (y : ModelTree Identifier). build_tree (inserting k) dots y ms) (sym q.3) in
    let e = c.in_err-tree-in-List.field-0.0 in
    let f = c.from_residual-in_err-tree-in-List in
    let a = c.in_err-tree-in-List.ensures r region k x.inner ms tells x.stands are in
    tree_handed_on w region k c.args.room.now c.tree.new.room (build_tree (inserting k) dots u ms) f.result e f.ensures.1 (subst (λ (y : Option (Built (ModelTree Identifier))). Fails y e) whole a)

pub tree-returns-then-is_escape : goal.tree-returns-then-is_escape
tree-returns-then-is_escape t c = λ r region k u ms tells h are.
    let w = c.args.self.now.work.now in
    let dots = dots_where c.args.escaped r in
    let q = c.in-List.ensures.look u h in
    let own : is_escape dots q.0 q.1 ≡ true = sym (c.is_escape.ensures r q.0 q.1 tells q.4 q.5) ∙ c.if-is_escape.true in
    let x = escape_inner w dots c.in-List.items.now q.0 q.1 (record { number = 0 }) q.4 own in
    let whole : build_tree (inserting k) nowhere x.inner ms ≡ build_tree (inserting k) dots u ms = escape_built w region k dots q.0 q.1 q.2 ms x.first x.inner own x.parts ∙ ap (λ (y : ModelTree Identifier). build_tree (inserting k) dots y ms) (sym q.3) in
    let a = c.in_ok-tree-in-List.ensures r region k x.inner ms tells x.stands are in
    subst (λ (y : Option (Built (ModelTree Identifier))). Plans w region k c.args.room.now c.tree.new.room y (Ok c.in_ok-tree-in-List.field-0)) whole a

pub tree-returns-in_err-parts-in-List : goal.tree-returns-in_err-parts-in-List
tree-returns-in_err-parts-in-List t c = λ r region k u ms tells h are.
    let w = c.args.self.now.work.now in
    let dots = dots_where c.args.escaped r in
    let q = c.in-List.ensures.look u h in
    let plain : is_escape dots q.0 q.1 ≡ false = sym (c.is_escape.ensures r q.0 q.1 tells q.4 q.5) ∙ c.if-is_escape.false in
    let e = c.in_err-parts-in-List.field-0.0 in
    tree_handed_on w region k c.args.room.now c.parts-in-List.new.room (build_tree (inserting k) dots u ms) c.from_residual-in_err-parts-in-List.result e c.from_residual-in_err-parts-in-List.ensures.1 (subst (λ (x : ModelTree Identifier). Fails (build_tree (inserting k) dots x ms) e) (sym q.3)
    (list_fails w region k dots q.0 q.1 q.2 ms plain e (c.in_err-parts-in-List.ensures r region k q.0 ms tells q.4 are)))

pub tree-tree-requires-in-Some : goal.tree-tree-requires-in-Some
tree-tree-requires-in-Some t c =
    let w = c.args.self.now.work.now in
    let p = c.requires.template in
    let q = c.in-List.ensures.look p.0 p.1 in
    let below = end_within w c.args.left p.0 c.in-List.end q.0 q.1 q.2 p.2 q.3 q.5 in
    let deep = within_positive w c.args.template c.args.left p in
    (omega (arith, deep), (c.requires.roles, (tail_within w c.in-List.end c.in-Some.tail (c.args.left - 1) c.in-Some.is below, (c.requires.bounds, c.requires.index))))

pub tree-returns-in_err-last-in-Some : goal.tree-returns-in_err-last-in-Some
tree-returns-in_err-last-in-Some t c = λ r region k u ms tells h are.
    let w = c.args.self.now.work.now in
    let dots = dots_where c.args.escaped r in
    let q = c.in-List.ensures.look u h in
    let plain : is_escape dots q.0 q.1 ≡ false = sym (c.is_escape.ensures r q.0 q.1 tells q.4 q.5) ∙ c.if-is_escape.false in
    let d = end_dotted w c.in-List.end q.1 c.in-Some.tail c.in-Some.is q.5 in
    let a = c.in_ok-parts-in-List.ensures r region k q.0 ms tells q.4 are in
    let e = c.in_err-last-in-Some.field-0.0 in
    tree_handed_on w region k c.args.room.now c.tree-in-Some.new.room (build_tree (inserting k) dots u ms) c.from_residual-in_err-last-in-Some.result e c.from_residual-in_err-last-in-Some.ensures.1 (subst (λ (x : ModelTree Identifier). Fails (build_tree (inserting k) dots x ms) e) (sym q.3)
    (tail_fails w region k dots q.0 q.1 q.2 ms plain d.0 a.0 e d.1 a.1 (c.in_err-last-in-Some.ensures r region k d.0 ms tells d.3 are)))

pub tree-joined-requires : goal.tree-joined-requires
tree-joined-requires t c = λ s.
    let w = c.args.self.now.work.now in
    let b = c.requires.bounds in
    let zero : Number = record { unit = 0; form = 0; count = 0 } in
    let p = c.requires.template in
    let q = c.in-List.ensures.look p.0 p.1 in
    let d = end_dotted w c.in-List.end q.1 c.in-Some.tail c.in-Some.is q.5 in
    let x = (c.in_ok-last-in-Some.ensures c.requires.roles.0 b.0 zero d.0 b.1 c.requires.roles.1 d.3 b.2).3 s in
    (b.0, x.0, x.1)

pub tree-returns-in-Name : goal.tree-returns-in-Name
tree-returns-in-Name t c = λ r region k u ms tells h are.
    let w = c.args.self.now.work.now in
    let dots = dots_where c.args.escaped r in
    let q = c.in-Name.ensures.look u h in
    subst (λ (x : ModelTree Identifier). Plans w region k c.args.room.now c.name.new.room (build_tree (inserting k) dots x ms) (Ok c.name.result)) (sym q.2)
    (c.name.ensures region k dots q.0 q.1 c.args.bounds.now ms (subst (StandsFor w c.args.template) q.2 h) q.3 c.requires.index are)

pub tree-returns-in-Atom : goal.tree-returns-in-Atom
tree-returns-in-Atom t c = λ r region k u ms tells h are.
    let w = c.args.self.now.work.now in
    let dots = dots_where c.args.escaped r in
    let q = c.in-Atom.ensures.look u h in
    atom_planned w region k dots u q.0 q.1 c.in-Atom.leaf ms c.args.room.now c.spend.result q.2 q.3 c.spend.ensures

pub tree-returns-in_ok-parts-in-Vector : goal.tree-returns-in_ok-parts-in-Vector
tree-returns-in_ok-parts-in-Vector t c = λ r region k u ms tells h are.
    let w = c.args.self.now.work.now in
    let dots = dots_where c.args.escaped r in
    let q = c.in-Vector.ensures.look u h in
    let none = c.in_ok-plans-in-Vector.plans.items in
    let new = c.parts.new.plans in
    let a = c.in_ok-parts-in-Vector.ensures r region k q.0 ms tells q.3 are in
    subst (λ (x : ModelTree Identifier). Plans w region k c.args.room.now c.spend-in-Vector.result (build_tree (inserting k) dots x ms) (Ok (plan.Vector new))) (sym q.2)
    (vector_planned w region k dots q.0 q.1 ms c.args.room.now c.parts.new.room c.spend-in-Vector.result none new.items (plan.Vector new) tt a c.spend-in-Vector.ensures (λ b g. vector_plan w region k new none b c.in_ok-plans-in-Vector.ensures.items g))

pub tree-returns-in-None : goal.tree-returns-in-None
tree-returns-in-None t c = λ r region k u ms tells h are.
    let w = c.args.self.now.work.now in
    let dots = dots_where c.args.escaped r in
    let q = c.in-List.ensures.look u h in
    let plain : is_escape dots q.0 q.1 ≡ false = sym (c.is_escape.ensures r q.0 q.1 tells q.4 q.5) ∙ c.if-is_escape.false in
    let a = c.in_ok-parts-in-List.ensures r region k q.0 ms tells q.4 are in
    let none = c.in_ok-plans-in-List.plans.items in
    let new = c.parts-in-List.new.plans in
    let last = end_proper w c.in-List.end q.1 c.in-None.is q.5 in
    subst (λ (x : ModelTree Identifier). Plans w region k c.args.room.now c.spend-in-None.result (build_tree (inserting k) dots x ms) (Ok (plan.List new end.Proper))) (sym q.3)
    (list_planned w region k dots q.0 q.1 q.2 ms plain c.args.room.now c.parts-in-List.new.room c.spend-in-None.result none new.items (plan.List new end.Proper) tt last a c.spend-in-None.ensures (λ b g. list_plan w region k new end.Proper none b c.in_ok-plans-in-List.ensures.items refl g))

pub tree-returns-in_ok-joined-in-Some : goal.tree-returns-in_ok-joined-in-Some
tree-returns-in_ok-joined-in-Some t c = λ r region k u ms tells h are.
    let w = c.args.self.now.work.now in
    let dots = dots_where c.args.escaped r in
    let q = c.in-List.ensures.look u h in
    let plain : is_escape dots q.0 q.1 ≡ false = sym (c.is_escape.ensures r q.0 q.1 tells q.4 q.5) ∙ c.if-is_escape.false in
    let d = end_dotted w c.in-List.end q.1 c.in-Some.tail c.in-Some.is q.5 in
    let a = c.in_ok-parts-in-List.ensures r region k q.0 ms tells q.4 are in
    let b = c.in_ok-last-in-Some.ensures r region k d.0 ms tells d.3 are in
    let mid = c.parts-in-List.new.room in
    let now = c.tree-in-Some.new.room in
    let new = c.parts-in-List.new.plans in
    let parts = λ (s : IsSome now). subst (λ (ps : List Plan). ArePlansOf w region k ps new.items a.0) c.in_ok-plans-in-List.ensures.items (a.3 (some_left mid now b.0.count b.2 s)) in
    let all = c.in_ok-joined-in-Some.ensures region k c.args.room.now a.0 b.0 (vanish_parts (inserting k) dots q.0 ms a.0 a.1) (b.2 ∙ ap (λ (x : Option ℕ). spent x b.0.count) a.2) parts b.3 in
    subst (λ (x : ModelTree Identifier). Plans w region k c.args.room.now c.joined.new.room (build_tree (inserting k) dots x ms) (Ok c.in_ok-joined-in-Some.field-0)) (sym q.3)
    (tail_planned w region k dots q.0 q.1 q.2 ms plain d.0 a.0 b.0 c.args.room.now c.joined.new.room c.in_ok-joined-in-Some.field-0 d.1 a.1 b.1 all)
