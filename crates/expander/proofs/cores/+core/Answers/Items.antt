-- What was set aside.
use Rattle.std.proofs.Common.{◌≡◌, ◌^◌, List, Option, Ok, Err, Vec, rules, sym, ap, ◌∙◌, subst, arith}
use Rattle.std.specs.declared.alloc.Global.{Global}
use Rattle.scheme_model.specs.declared.Occ.{Occ}
use Rattle.scheme_model.specs.Ident.{Ident as Identifier}
use Rattle.scheme_model.specs.Requirements.{Known}
use Rattle.scheme_model.specs.Cores.{Core, Part, Parts}
use Rattle.scheme_model.specs.Steps.{Step}
use Rattle.scheme_model.specs.Order.{Item}
use Rattle.scheme_model.specs.Order as model
use Rattle.scheme_model.specs.Expression.{whole, expand, lambda, parts, item_part}
use Rattle.scheme_model.specs.ScopedExpansion.{Frames}
use Rattle.core_tree.specs.Names.{AllMatch, IsBinder, IsField}
use Rattle.core_tree.specs.Cores.{CoreStands, PartStands, PartsStand as PartsOfCores}
use Rattle.core_tree.specs.declared.cores.Binder as code_binder
use Rattle.core_tree.specs.declared.cores.Core as code_core
use Rattle.core_tree.specs.declared.cores.CorePart as code_part
use Rattle.core_tree.specs.declared.cores.CorePart.TheVariants as core_parts
use Rattle.core_tree.specs.declared.cores.FieldUse as code_field
use Rattle.expander.specs.Expanded.{ClauseAtWork, KeptAtWork}
use Rattle.unit_scopes.specs.Kept.{KeptFor}
use Rattle.unit_scopes.specs.Outcomes.{IsAtWork, IsEnough, IsEnoughBelow, Spends}
use Rattle.noted_steps.specs.Standing.{CanNote}
use Rattle.expander.specs.declared.expressions.At as code_at
use Rattle.feature_requirements.specs.declared.fault.ExpandFault.TheVariants as fault
use Rattle.form_parts.specs.declared.items.Kept as code_kept
use Rattle.unit_scopes.specs.declared.scope.UnitScope.{UnitScope}
use Rattle.expander.proofs.AfterLaws.{opened_on, room_on, spends_itself, spends_on, enough_later}
use Rattle.expander.proofs.BodyRuns.{runs_nothing}
use Rattle.expander.proofs.CycleCalls.{expand_after, lambda_after, item_after}
use Rattle.expander.proofs.ItemRuns.{placed_runs, item_expression, item_expression_fails, item_value, item_value_fails, item_values, item_values_fails, item_function, item_function_fails, record_runs, macro_runs, macro_told, enough_here}
use Rattle.expander.proofs.KeptKinds.{as_expression, as_value, as_function, as_values, as_record, as_macro}
use Rattle.expander.proofs.LoopLaws.{after_itself, after_on, runs_none, runs_told, runs_failed}
use Rattle.expander.proofs.RowLaws.{parts_row, parts_of, parts_stand, match_all}
use Rattle.expander.proofs.RowRuns.{row_one_more, row_stops, runs_memory, parts_go_on, kept_goes_on, kept_at_work, item_as}
use Rattle.expander.proofs.StepLaws.{runs_err}
use Rattle.expander.proofs.cores.+core.Goals as goal
use Rattle.noted_steps.specs.Noting.{Noting, noting}
use Rattle.noted_steps.specs.Outcomes.{Runs}
use Rattle.noted_steps.specs.Kept.{CanLook}

-- ---- what was set aside, in order

pub expand_kept-returns-in_err-parts-clause-runs : goal.expand_kept-returns-in_err-parts-clause-runs
expand_kept-returns-in_err-parts-clause-runs t c = λ is turns match enough.
    let a = c.args.work.now in
    let u = c.args.units.now in
    let at = c.args.at in
    let Q : List Frames → Vec code_part.CorePart Global → Parts → Type 0 = λ layout ps. PartsOfCores a u.unit u.form.number ps.items in
    let f : Known → Frames → Step Noting Parts = λ known fs. parts (item_part (expand (noting known) turns) (noting known) at.depth fs) is in
    runs_err Q a a c.args.region.now u u at.scope c.from_residual.result fault.Memory f c.from_residual.ensures.1 (runs_nothing Q a c.args.region.now u u at.scope f)

pub expand_kept-loop-kept-init : goal.expand_kept-loop-kept-init
expand_kept-loop-kept-init t c = record {
  after = after_itself c.args.work.now c.args.region.now c.args.units.now c.args.at.scope c.requires.look;
  spends = spends_itself c.args.units.now;
  runs = λ is turns match enough.
      runs_none (λ known fs. item_part (expand (noting known) turns) (noting known) c.args.at.depth fs) (PartStands c.args.work.now c.args.units.now.unit c.args.units.now.form.number) c.args.work.now c.args.region.now c.args.units.now c.args.at.scope
      c.in_ok-parts.parts.items c.in_ok-parts.ensures.items;
}

pub expand_kept-expand_kept_item-requires : goal.expand_kept-expand_kept_item-requires
expand_kept-expand_kept_item-requires t c =
    let h = c.loop-kept.invariant in (
      first_of (omega arith, search rules, grind arith),
      (opened_on c.args.work.now c.loop-kept.work c.args.region.now h.after.work c.requires.opened, (h.after.look, (item_as (KeptAtWork c.loop-kept.work c.args.region.now c.loop-kept.units) c.loop-kept.kept-index c.args.aside.now c.kept-item.result c.kept-item.is (kept_at_work c.args.work.now c.loop-kept.work c.args.region.now c.args.units.now c.loop-kept.units c.args.aside.now c.loop-kept.kept-index c.kept-item.result h.after.work h.after.same c.requires.aside c.loop-kept-test.true), room_on (2 ^ 43) c.args.units.now c.loop-kept.units h.spends c.requires.room))),
    )

pub expand_kept-returns-in_err-part-clause-runs : goal.expand_kept-returns-in_err-part-clause-runs
expand_kept-returns-in_err-part-clause-runs t c = λ is turns match enough.
    let a = c.args.work.now in
    let b = c.loop-kept.work in
    let d = c.expand_kept_item.new.work in
    let region = c.args.region.now in
    let u = c.args.units.now in
    let w = c.loop-kept.units in
    let v = c.expand_kept_item.new.units in
    let at = c.args.at in
    let e = c.in_err-part.field-0.0 in
    let h = c.loop-kept.invariant in
    let later = enough_later at.depth u.form.budget.uses w.form.budget.uses turns h.after.same.uses enough in
    let f : Known → Frames → Item Identifier → Step Noting Part = λ known fs. item_part (expand (noting known) turns) (noting known) at.depth fs in
    runs_failed f parts_of (λ known fs. parts (f known fs) is) is (λ known fs s. parts_row (f known fs) is s) a d region u v at.scope
    (λ (layout : List Frames). AllMatch (PartStands d v.unit v.form.number)) (λ (layout : List Frames) (cs : Vec code_part.CorePart Global). PartsOfCores d v.unit v.form.number cs.items) c.from_residual-in_err-part.result e c.from_residual-in_err-part.ensures.1
    (row_stops f (KeptFor a region u.unit u.form.number) (PartStands b w.unit w.form.number) a b d region u w v at.scope c.loop-kept.parts.items c.loop-kept.kept-index c.args.aside.now is c.kept-item.result match c.loop-kept-test.true (h.runs is turns match enough)
    (λ (layout : List Frames). PartStands d v.unit v.form.number) (λ (layout : List Frames). AllMatch (PartStands d v.unit v.form.number)) e (λ form stands. c.in_err-part.ensures.runs form turns (kept_goes_on a b region u w h.after.work h.after.same c.kept-item.result form (item_as (λ (x : code_kept.Kept). KeptFor a region u.unit u.form.number x form) c.loop-kept.kept-index c.args.aside.now c.kept-item.result c.kept-item.is stands)) later))

pub expand_kept-returns-in_err-push-clause-runs : goal.expand_kept-returns-in_err-push-clause-runs
expand_kept-returns-in_err-push-clause-runs t c = λ is turns match enough.
    let a = c.args.work.now in
    let b = c.loop-kept.work in
    let d = c.expand_kept_item.new.work in
    let region = c.args.region.now in
    let u = c.args.units.now in
    let w = c.loop-kept.units in
    let v = c.expand_kept_item.new.units in
    let at = c.args.at in
    let h = c.loop-kept.invariant in
    let later = enough_later at.depth u.form.budget.uses w.form.budget.uses turns h.after.same.uses enough in
    let f : Known → Frames → Item Identifier → Step Noting Part = λ known fs. item_part (expand (noting known) turns) (noting known) at.depth fs in
    runs_failed f parts_of (λ known fs. parts (f known fs) is) is (λ known fs s. parts_row (f known fs) is s) a d region u v at.scope
    (λ (layout : List Frames). AllMatch (PartStands d v.unit v.form.number)) (λ (layout : List Frames) (cs : Vec code_part.CorePart Global). PartsOfCores d v.unit v.form.number cs.items) c.from_residual-in_err-push.result fault.Memory c.from_residual-in_err-push.ensures.1
    (row_stops f (KeptFor a region u.unit u.form.number) (PartStands b w.unit w.form.number) a b d region u w v at.scope c.loop-kept.parts.items c.loop-kept.kept-index c.args.aside.now is c.kept-item.result match c.loop-kept-test.true (h.runs is turns match enough)
    (λ (layout : List Frames). PartStands d v.unit v.form.number) (λ (layout : List Frames). AllMatch (PartStands d v.unit v.form.number)) fault.Memory
    (λ form stands. runs_memory (λ (layout : List Frames). PartStands d v.unit v.form.number) (λ (layout : List Frames). PartStands d v.unit v.form.number) b d region w v at.scope c.in_ok-part.part (λ known fs. f known fs form) (λ known fs. f known fs form)
    (c.in_ok-part.ensures.runs form turns (kept_goes_on a b region u w h.after.work h.after.same c.kept-item.result form (item_as (λ (x : code_kept.Kept). KeptFor a region u.unit u.form.number x form) c.loop-kept.kept-index c.args.aside.now c.kept-item.result c.kept-item.is stands)) later)))

pub expand_kept-loop-kept-preserved : goal.expand_kept-loop-kept-preserved
expand_kept-loop-kept-preserved t c =
    let a = c.args.work.now in
    let b = c.loop-kept.work in
    let d = c.expand_kept_item.new.work in
    let region = c.args.region.now in
    let u = c.args.units.now in
    let w = c.loop-kept.units in
    let v = c.expand_kept_item.new.units in
    let at = c.args.at in
    let h = c.loop-kept.invariant in
    let works = item_as (KeptAtWork c.loop-kept.work c.args.region.now c.loop-kept.units) c.loop-kept.kept-index c.args.aside.now c.kept-item.result c.kept-item.is (kept_at_work a b region u w c.args.aside.now c.loop-kept.kept-index c.kept-item.result h.after.work h.after.same c.requires.aside c.loop-kept-test.true) in
    let after = item_after b d region w v at c.kept-item.result c.in_ok-part.part h.after.look works c.in_ok-part.ensures.runs in
    record {
      after = after_on a b d region u w v at.scope at.scope h.after after;
      spends = spends_on u w v h.spends c.in_ok-part.ensures.locals;
      runs = λ is turns match enough.
          let later = enough_later at.depth u.form.budget.uses w.form.budget.uses turns h.after.same.uses enough in
          row_one_more (λ known fs. item_part (expand (noting known) turns) (noting known) at.depth fs) (KeptFor a region u.unit u.form.number) (PartStands b w.unit w.form.number) (PartStands d v.unit v.form.number) (parts_go_on b d region w v after.work after.same) a b d region u w v at.scope
          c.loop-kept.parts.items c.loop-kept.kept-index c.args.aside.now is c.kept-item.result match c.loop-kept-test.true (h.runs is turns match enough) c.push.new.self.items c.in_ok-part.part c.in_ok-push.ensures.items
          (λ form stands. c.in_ok-part.ensures.runs form turns (kept_goes_on a b region u w h.after.work h.after.same c.kept-item.result form (item_as (λ (x : code_kept.Kept). KeptFor a region u.unit u.form.number x form) c.loop-kept.kept-index c.args.aside.now c.kept-item.result c.kept-item.is stands)) later);
    }

pub expand_kept-returns-clause-runs : goal.expand_kept-returns-clause-runs
expand_kept-returns-clause-runs t c = λ is turns match enough.
    let a = c.args.work.now in
    let b = c.loop-kept.work in
    let region = c.args.region.now in
    let u = c.args.units.now in
    let w = c.loop-kept.units in
    let at = c.args.at in
    let f : Known → Frames → Item Identifier → Step Noting Part = λ known fs. item_part (expand (noting known) turns) (noting known) at.depth fs in
    runs_told f parts_of (λ known fs. parts (f known fs) is) is (λ known fs s. parts_row (f known fs) is s) a b c.args.region.now u w at.scope
    (PartStands b w.unit w.form.number) (λ (cs : Vec code_part.CorePart Global). PartsOfCores b w.unit w.form.number cs.items) c.loop-kept.parts.items c.loop-kept.parts c.loop-kept.kept-index
    (match_all (KeptFor a region u.unit u.form.number) c.loop-kept.kept-index c.args.aside.now is match c.loop-kept-test.false) (λ ms held. parts_stand b w.unit w.form.number c.loop-kept.parts.items ms held) (c.loop-kept.invariant.runs is turns match enough)

pub expand_kept-returns-clause-locals : goal.expand_kept-returns-clause-locals
expand_kept-returns-clause-locals t c = c.loop-kept.invariant.spends

-- ---- what was set aside, by its kind

pub expand_kept_item-expand-requires : goal.expand_kept_item-expand-requires
expand_kept_item-expand-requires t c =
    let a = c.args.work.now in
    let region = c.args.region.now in
    let u = c.args.units.now in
    let i = c.requires.kept.0 in
    let for = c.requires.kept.1 in
    let depth : c.in_place.result.depth ≡ c.args.at.depth = ap (λ (x : code_at.At). x.depth) c.in_place.ensures in (
      first_of (omega (arith, depth), omega arith, search rules, grind arith),
      (
        c.requires.opened,
        (
          subst (λ (x : code_at.At). CanLook a u x.scope) (sym c.in_place.ensures) c.requires.look,
          (
            as_expression a region u.unit u.form.number (λ x. IsAtWork a region c.in-Expression.form.tree) c.in-Expression.form i (subst (λ (x : code_kept.Kept). KeptFor a region u.unit u.form.number x i) c.in-Expression.is for) (λ m form. ((m.tree, form.1.0), form.1.1)),
            c.requires.room,
          ),
        ),
      ),
    )

pub expand_kept_item-returns-in_err-expand-in-Expression-clause-runs : goal.expand_kept_item-returns-in_err-expand-in-Expression-clause-runs
expand_kept_item-returns-in_err-expand-in-Expression-clause-runs t c = λ i turns for enough.
    let a = c.args.work.now in
    let d = c.expand.new.work in
    let region = c.args.region.now in
    let u = c.args.units.now in
    let v = c.expand.new.units in
    let at = c.args.at in
    let placed = c.in_place.result in
    let e = c.in_err-expand-in-Expression.field-0.0 in
    let Q : List Frames → code_part.CorePart → Part → Type 0 = λ layout. PartStands d v.unit v.form.number in
    let f : Item Identifier → Known → Frames → Step Noting Part = λ x known fs. item_part (expand (noting known) turns) (noting known) at.depth fs x in
    runs_err Q a d region u v at.scope c.from_residual.result e (f i) c.from_residual.ensures.1
    (as_expression a region u.unit u.form.number (λ x. Runs Q a d region u v at.scope (Err e) (f x)) c.in-Expression.form i (subst (λ (x : code_kept.Kept). KeptFor a region u.unit u.form.number x i) c.in-Expression.is for) (λ m form. item_expression_fails a d region u v at.scope turns at.depth Q m e (placed_runs (λ (layout : List Frames). CoreStands d v.unit v.form.number) a d region u v at placed m.here (c.in_place.ensures ∙ ap (λ (o : Option Occ). record at { here = o }) form.0) (Err e) (λ depth here known fs. expand (noting known) turns depth here fs (whole m.tree)) (c.in_err-expand-in-Expression.ensures.runs m.tree turns form.1.0 (subst (λ (x : code_at.At). IsEnough x.depth u.form.budget.uses turns) (sym c.in_place.ensures) enough)))))

pub expand_kept_item-returns-in_ok-expand-in-Expression-clause-runs : goal.expand_kept_item-returns-in_ok-expand-in-Expression-clause-runs
expand_kept_item-returns-in_ok-expand-in-Expression-clause-runs t c = λ i turns for enough.
    let a = c.args.work.now in
    let d = c.expand.new.work in
    let region = c.args.region.now in
    let u = c.args.units.now in
    let v = c.expand.new.units in
    let at = c.args.at in
    let placed = c.in_place.result in
    let x = c.in_ok-expand-in-Expression.field-0 in
    let P : List Frames → code_part.CorePart → Part → Type 0 = λ layout. PartStands d v.unit v.form.number in
    let f : Item Identifier → Known → Frames → Step Noting Part = λ x known fs. item_part (expand (noting known) turns) (noting known) at.depth fs x in
    as_expression a region u.unit u.form.number (λ y. Runs P a d region u v at.scope (Ok (core_parts.Expression x)) (f y)) c.in-Expression.form i (subst (λ (x : code_kept.Kept). KeptFor a region u.unit u.form.number x i) c.in-Expression.is for) (λ m form. item_expression a d region u v at.scope turns at.depth m x (placed_runs (λ (layout : List Frames). CoreStands d v.unit v.form.number) a d region u v at placed m.here (c.in_place.ensures ∙ ap (λ (o : Option Occ). record at { here = o }) form.0) (Ok x) (λ depth here known fs. expand (noting known) turns depth here fs (whole m.tree)) (c.in_ok-expand-in-Expression.ensures.runs m.tree turns form.1.0 (subst (λ (x : code_at.At). IsEnough x.depth u.form.budget.uses turns) (sym c.in_place.ensures) enough))))

pub expand_kept_item-returns-in_ok-expand-in-Expression-clause-locals : goal.expand_kept_item-returns-in_ok-expand-in-Expression-clause-locals
expand_kept_item-returns-in_ok-expand-in-Expression-clause-locals t c = c.in_ok-expand-in-Expression.ensures.locals

pub expand_kept_item-expand-requires-in-Value : goal.expand_kept_item-expand-requires-in-Value
expand_kept_item-expand-requires-in-Value t c =
    let a = c.args.work.now in
    let region = c.args.region.now in
    let u = c.args.units.now in
    let i = c.requires.kept.0 in
    let for = c.requires.kept.1 in
    let depth : c.in_place-in-Value.result.depth ≡ c.args.at.depth = ap (λ (x : code_at.At). x.depth) c.in_place-in-Value.ensures in (
      first_of (omega (arith, depth), omega arith, search rules, grind arith),
      (
        c.requires.opened,
        (
          subst (λ (x : code_at.At). CanLook a u x.scope) (sym c.in_place-in-Value.ensures) c.requires.look,
          (
            as_value a region u.unit u.form.number (λ x. IsAtWork a region c.in-Value.form.tree) c.in-Value.binder c.in-Value.form i (subst (λ (x : code_kept.Kept). KeptFor a region u.unit u.form.number x i) c.in-Value.is for) (λ b m binder form. ((m.tree, form.1.0), form.1.1)),
            c.requires.room,
          ),
        ),
      ),
    )

pub expand_kept_item-returns-in_err-value-in-Value-clause-runs : goal.expand_kept_item-returns-in_err-value-in-Value-clause-runs
expand_kept_item-returns-in_err-value-in-Value-clause-runs t c = λ i turns for enough.
    let a = c.args.work.now in
    let d = c.expand-in-Value.new.work in
    let region = c.args.region.now in
    let u = c.args.units.now in
    let v = c.expand-in-Value.new.units in
    let at = c.args.at in
    let placed = c.in_place-in-Value.result in
    let e = c.in_err-value-in-Value.field-0.0 in
    let Q : List Frames → code_part.CorePart → Part → Type 0 = λ layout. PartStands d v.unit v.form.number in
    let f : Item Identifier → Known → Frames → Step Noting Part = λ x known fs. item_part (expand (noting known) turns) (noting known) at.depth fs x in
    runs_err Q a d region u v at.scope c.from_residual-in_err-value-in-Value.result e (f i) c.from_residual-in_err-value-in-Value.ensures.1
    (as_value a region u.unit u.form.number (λ x. Runs Q a d region u v at.scope (Err e) (f x)) c.in-Value.binder c.in-Value.form i (subst (λ (x : code_kept.Kept). KeptFor a region u.unit u.form.number x i) c.in-Value.is for) (λ b m binder form. item_value_fails a d region u v at.scope turns at.depth Q b m e (placed_runs (λ (layout : List Frames). CoreStands d v.unit v.form.number) a d region u v at placed m.here (c.in_place-in-Value.ensures ∙ ap (λ (o : Option Occ). record at { here = o }) form.0) (Err e) (λ depth here known fs. expand (noting known) turns depth here fs (whole m.tree)) (c.in_err-value-in-Value.ensures.runs m.tree turns form.1.0 (subst (λ (x : code_at.At). IsEnough x.depth u.form.budget.uses turns) (sym c.in_place-in-Value.ensures) enough)))))

pub expand_kept_item-returns-in_ok-value-in-Value-clause-runs : goal.expand_kept_item-returns-in_ok-value-in-Value-clause-runs
expand_kept_item-returns-in_ok-value-in-Value-clause-runs t c = λ i turns for enough.
    let a = c.args.work.now in
    let d = c.expand-in-Value.new.work in
    let region = c.args.region.now in
    let u = c.args.units.now in
    let v = c.expand-in-Value.new.units in
    let at = c.args.at in
    let placed = c.in_place-in-Value.result in
    let x = c.in_ok-value-in-Value.value in
    let works = as_value a region u.unit u.form.number (λ x. IsAtWork a region c.in-Value.form.tree) c.in-Value.binder c.in-Value.form i (subst (λ (x : code_kept.Kept). KeptFor a region u.unit u.form.number x i) c.in-Value.is for) (λ b m binder form. ((m.tree, form.1.0), form.1.1)) in
    let after = expand_after a d region u v placed c.in-Value.form.tree x (subst (λ (x : code_at.At). CanLook a u x.scope) (sym c.in_place-in-Value.ensures) c.requires.look) works c.in_ok-value-in-Value.ensures.runs in
    let P : List Frames → code_part.CorePart → Part → Type 0 = λ layout. PartStands d v.unit v.form.number in
    let f : Item Identifier → Known → Frames → Step Noting Part = λ x known fs. item_part (expand (noting known) turns) (noting known) at.depth fs x in
    as_value a region u.unit u.form.number (λ y. Runs P a d region u v at.scope (Ok (core_parts.Define c.in-Value.binder x)) (f y)) c.in-Value.binder c.in-Value.form i (subst (λ (x : code_kept.Kept). KeptFor a region u.unit u.form.number x i) c.in-Value.is for) (λ b m binder form. item_value a d region u v at.scope turns at.depth b c.in-Value.binder m x after.work after.same binder (placed_runs (λ (layout : List Frames). CoreStands d v.unit v.form.number) a d region u v at placed m.here (c.in_place-in-Value.ensures ∙ ap (λ (o : Option Occ). record at { here = o }) form.0) (Ok x) (λ depth here known fs. expand (noting known) turns depth here fs (whole m.tree)) (c.in_ok-value-in-Value.ensures.runs m.tree turns form.1.0 (subst (λ (x : code_at.At). IsEnough x.depth u.form.budget.uses turns) (sym c.in_place-in-Value.ensures) enough))))

pub expand_kept_item-returns-in_ok-value-in-Value-clause-locals : goal.expand_kept_item-returns-in_ok-value-in-Value-clause-locals
expand_kept_item-returns-in_ok-value-in-Value-clause-locals t c = c.in_ok-value-in-Value.ensures.locals

pub expand_kept_item-expand-requires-in-Values : goal.expand_kept_item-expand-requires-in-Values
expand_kept_item-expand-requires-in-Values t c =
    let a = c.args.work.now in
    let region = c.args.region.now in
    let u = c.args.units.now in
    let i = c.requires.kept.0 in
    let for = c.requires.kept.1 in
    let depth : c.in_place-in-Values.result.depth ≡ c.args.at.depth = ap (λ (x : code_at.At). x.depth) c.in_place-in-Values.ensures in (
      first_of (omega (arith, depth), omega arith, search rules, grind arith),
      (
        c.requires.opened,
        (
          subst (λ (x : code_at.At). CanLook a u x.scope) (sym c.in_place-in-Values.ensures) c.requires.look,
          (
            as_values a region u.unit u.form.number (λ x. IsAtWork a region c.in-Values.form.tree) c.in-Values.binders c.in-Values.dotted c.in-Values.form i (subst (λ (x : code_kept.Kept). KeptFor a region u.unit u.form.number x i) c.in-Values.is for) (λ bs m binders form. ((m.tree, form.1.0), form.1.1)),
            c.requires.room,
          ),
        ),
      ),
    )

pub expand_kept_item-returns-in_err-value-in-Values-clause-runs : goal.expand_kept_item-returns-in_err-value-in-Values-clause-runs
expand_kept_item-returns-in_err-value-in-Values-clause-runs t c = λ i turns for enough.
    let a = c.args.work.now in
    let d = c.expand-in-Values.new.work in
    let region = c.args.region.now in
    let u = c.args.units.now in
    let v = c.expand-in-Values.new.units in
    let at = c.args.at in
    let placed = c.in_place-in-Values.result in
    let e = c.in_err-value-in-Values.field-0.0 in
    let Q : List Frames → code_part.CorePart → Part → Type 0 = λ layout. PartStands d v.unit v.form.number in
    let f : Item Identifier → Known → Frames → Step Noting Part = λ x known fs. item_part (expand (noting known) turns) (noting known) at.depth fs x in
    runs_err Q a d region u v at.scope c.from_residual-in_err-value-in-Values.result e (f i) c.from_residual-in_err-value-in-Values.ensures.1
    (as_values a region u.unit u.form.number (λ x. Runs Q a d region u v at.scope (Err e) (f x)) c.in-Values.binders c.in-Values.dotted c.in-Values.form i (subst (λ (x : code_kept.Kept). KeptFor a region u.unit u.form.number x i) c.in-Values.is for) (λ bs m binders form. item_values_fails a d region u v at.scope turns at.depth Q bs m e (placed_runs (λ (layout : List Frames). CoreStands d v.unit v.form.number) a d region u v at placed m.here (c.in_place-in-Values.ensures ∙ ap (λ (o : Option Occ). record at { here = o }) form.0) (Err e) (λ depth here known fs. expand (noting known) turns depth here fs (whole m.tree)) (c.in_err-value-in-Values.ensures.runs m.tree turns form.1.0 (subst (λ (x : code_at.At). IsEnough x.depth u.form.budget.uses turns) (sym c.in_place-in-Values.ensures) enough)))))

pub expand_kept_item-returns-in_ok-from_slice-in-Values-clause-runs : goal.expand_kept_item-returns-in_ok-from_slice-in-Values-clause-runs
expand_kept_item-returns-in_ok-from_slice-in-Values-clause-runs t c = λ i turns for enough.
    let a = c.args.work.now in
    let d = c.expand-in-Values.new.work in
    let region = c.args.region.now in
    let u = c.args.units.now in
    let v = c.expand-in-Values.new.units in
    let at = c.args.at in
    let placed = c.in_place-in-Values.result in
    let x = c.in_ok-value-in-Values.value in
    let works = as_values a region u.unit u.form.number (λ x. IsAtWork a region c.in-Values.form.tree) c.in-Values.binders c.in-Values.dotted c.in-Values.form i (subst (λ (x : code_kept.Kept). KeptFor a region u.unit u.form.number x i) c.in-Values.is for) (λ bs m binders form. ((m.tree, form.1.0), form.1.1)) in
    let after = expand_after a d region u v placed c.in-Values.form.tree x (subst (λ (x : code_at.At). CanLook a u x.scope) (sym c.in_place-in-Values.ensures) c.requires.look) works c.in_ok-value-in-Values.ensures.runs in
    let ys = c.in_ok-from_slice-in-Values.field-0 in
    let same = c.in_ok-from_slice-in-Values.ensures.items ∙ c.deref.ensures.value in
    let P : List Frames → code_part.CorePart → Part → Type 0 = λ layout. PartStands d v.unit v.form.number in
    let f : Item Identifier → Known → Frames → Step Noting Part = λ x known fs. item_part (expand (noting known) turns) (noting known) at.depth fs x in
    as_values a region u.unit u.form.number (λ y. Runs P a d region u v at.scope (Ok (core_parts.Values ys c.in-Values.dotted x)) (f y)) c.in-Values.binders c.in-Values.dotted c.in-Values.form i (subst (λ (x : code_kept.Kept). KeptFor a region u.unit u.form.number x i) c.in-Values.is for) (λ bs m binders form. item_values a d region u v at.scope turns at.depth bs ys c.in-Values.dotted m x after.work after.same (subst (λ (l : List code_binder.Binder). AllMatch (IsBinder a.symbols u.unit u.form.number) l bs.names) (sym same) binders.0, binders.1) (placed_runs (λ (layout : List Frames). CoreStands d v.unit v.form.number) a d region u v at placed m.here (c.in_place-in-Values.ensures ∙ ap (λ (o : Option Occ). record at { here = o }) form.0) (Ok x) (λ depth here known fs. expand (noting known) turns depth here fs (whole m.tree)) (c.in_ok-value-in-Values.ensures.runs m.tree turns form.1.0 (subst (λ (x : code_at.At). IsEnough x.depth u.form.budget.uses turns) (sym c.in_place-in-Values.ensures) enough))))

pub expand_kept_item-returns-in_ok-from_slice-in-Values-clause-locals : goal.expand_kept_item-returns-in_ok-from_slice-in-Values-clause-locals
expand_kept_item-returns-in_ok-from_slice-in-Values-clause-locals t c = c.in_ok-value-in-Values.ensures.locals

-- ---- procedures that were set aside

pub expand_kept_item-lambda-requires : goal.expand_kept_item-lambda-requires
expand_kept_item-lambda-requires t c =
    let a = c.args.work.now in
    let region = c.args.region.now in
    let u = c.args.units.now in
    let i = c.requires.kept.0 in
    let for = c.requires.kept.1 in
    let depth : c.in_place-in-Function.result.depth ≡ c.args.at.depth = ap (λ (x : code_at.At). x.depth) c.in_place-in-Function.ensures in (
      first_of (omega (arith, depth), omega arith, search rules, grind arith),
      (
        c.requires.opened,
        (
          subst (λ (x : code_at.At). CanLook a u x.scope) (sym c.in_place-in-Function.ensures) c.requires.look,
          (
            as_function a region u.unit u.form.number (λ x. ClauseAtWork a region c.in-Function.clause) c.in-Function.binder c.in-Function.here c.in-Function.clause i (subst (λ (x : code_kept.Kept). KeptFor a region u.unit u.form.number x i) c.in-Function.is for) (λ b m binder clause. (m, clause)),
            c.requires.room,
          ),
        ),
      ),
    )

pub expand_kept_item-returns-in_err-value-in-Function-clause-runs : goal.expand_kept_item-returns-in_err-value-in-Function-clause-runs
expand_kept_item-returns-in_err-value-in-Function-clause-runs t c = λ i turns for enough.
    let a = c.args.work.now in
    let d = c.lambda.new.work in
    let region = c.args.region.now in
    let u = c.args.units.now in
    let v = c.lambda.new.units in
    let at = c.args.at in
    let placed = c.in_place-in-Function.result in
    let here = c.in-Function.here in
    let e = c.in_err-value-in-Function.field-0.0 in
    let less = enough_here at.depth u.form.budget.uses turns enough in
    let Q : List Frames → code_part.CorePart → Part → Type 0 = λ layout. PartStands d v.unit v.form.number in
    let f : Item Identifier → Known → Frames → Step Noting Part = λ x known fs. item_part (expand (noting known) turns) (noting known) at.depth fs x in
    runs_err Q a d region u v at.scope c.from_residual-in_err-value-in-Function.result e (f i) c.from_residual-in_err-value-in-Function.ensures.1
    (as_function a region u.unit u.form.number (λ x. Runs Q a d region u v at.scope (Err e) (f x)) c.in-Function.binder here c.in-Function.clause i (subst (λ (x : code_kept.Kept). KeptFor a region u.unit u.form.number x i) c.in-Function.is for)
    (λ b m binder clause. item_function_fails a d region u v at.scope turns at.depth Q b here m e
    (placed_runs (λ (layout : List Frames). CoreStands d v.unit v.form.number) a d region u v at placed here c.in_place-in-Function.ensures (Err e) (λ depth o known fs. lambda (expand (noting known) turns) (noting known) depth o fs m)
    (c.in_err-value-in-Function.ensures.runs m turns clause (subst (λ (x : code_at.At). IsEnoughBelow x.depth u.form.budget.uses turns) (sym c.in_place-in-Function.ensures) less)))))

pub expand_kept_item-returns-in_ok-value-in-Function-clause-runs : goal.expand_kept_item-returns-in_ok-value-in-Function-clause-runs
expand_kept_item-returns-in_ok-value-in-Function-clause-runs t c = λ i turns for enough.
    let a = c.args.work.now in
    let d = c.lambda.new.work in
    let region = c.args.region.now in
    let u = c.args.units.now in
    let v = c.lambda.new.units in
    let at = c.args.at in
    let placed = c.in_place-in-Function.result in
    let here = c.in-Function.here in
    let x = c.in_ok-value-in-Function.value in
    let less = enough_here at.depth u.form.budget.uses turns enough in
    let P : List Frames → code_part.CorePart → Part → Type 0 = λ layout. PartStands d v.unit v.form.number in
    let f : Item Identifier → Known → Frames → Step Noting Part = λ x known fs. item_part (expand (noting known) turns) (noting known) at.depth fs x in
    as_function a region u.unit u.form.number (λ y. Runs P a d region u v at.scope (Ok (core_parts.Define c.in-Function.binder x)) (f y)) c.in-Function.binder here c.in-Function.clause i (subst (λ (x : code_kept.Kept). KeptFor a region u.unit u.form.number x i) c.in-Function.is for)
    (λ b m binder clause.
    let after = lambda_after a d region u v placed c.in-Function.clause x (subst (λ (x : code_at.At). CanLook a u x.scope) (sym c.in_place-in-Function.ensures) c.requires.look) (m, clause) c.in_ok-value-in-Function.ensures.runs in
    item_function a d region u v at.scope turns at.depth b c.in-Function.binder here m x after.work after.same binder
    (placed_runs (λ (layout : List Frames). CoreStands d v.unit v.form.number) a d region u v at placed here c.in_place-in-Function.ensures (Ok x) (λ depth o known fs. lambda (expand (noting known) turns) (noting known) depth o fs m)
    (c.in_ok-value-in-Function.ensures.runs m turns clause (subst (λ (x : code_at.At). IsEnoughBelow x.depth u.form.budget.uses turns) (sym c.in_place-in-Function.ensures) less))))

pub expand_kept_item-returns-in_ok-value-in-Function-clause-locals : goal.expand_kept_item-returns-in_ok-value-in-Function-clause-locals
expand_kept_item-returns-in_ok-value-in-Function-clause-locals t c = c.in_ok-value-in-Function.ensures.locals

pub expand_kept_item-returns-in_err-from_slice-in-Values-clause-runs : goal.expand_kept_item-returns-in_err-from_slice-in-Values-clause-runs
expand_kept_item-returns-in_err-from_slice-in-Values-clause-runs t c = λ i turns for enough.
    let a = c.args.work.now in
    let d = c.expand-in-Values.new.work in
    let region = c.args.region.now in
    let u = c.args.units.now in
    let v = c.expand-in-Values.new.units in
    let at = c.args.at in
    let placed = c.in_place-in-Values.result in
    let P : List Frames → code_core.Core → Core → Type 0 = λ layout. CoreStands d v.unit v.form.number in
    let Q : List Frames → code_part.CorePart → Part → Type 0 = λ layout. PartStands d v.unit v.form.number in
    let f : Item Identifier → Known → Frames → Step Noting Part = λ x known fs. item_part (expand (noting known) turns) (noting known) at.depth fs x in
    runs_err Q a d region u v at.scope c.from_residual-in_err-from_slice-in-Values.result fault.Memory (f i) c.from_residual-in_err-from_slice-in-Values.ensures.1
    (as_values a region u.unit u.form.number (λ x. Runs Q a d region u v at.scope (Err fault.Memory) (f x)) c.in-Values.binders c.in-Values.dotted c.in-Values.form i (subst (λ (x : code_kept.Kept). KeptFor a region u.unit u.form.number x i) c.in-Values.is for)
    (λ bs m binders form. runs_memory P Q a d region u v at.scope c.in_ok-value-in-Values.value (λ known fs. expand (noting known) turns at.depth m.here fs (whole m.tree)) (f (model.ValuesOf bs m))
    (placed_runs P a d region u v at placed m.here (c.in_place-in-Values.ensures ∙ ap (λ (o : Option Occ). record at { here = o }) form.0) (Ok c.in_ok-value-in-Values.value) (λ depth here known fs. expand (noting known) turns depth here fs (whole m.tree))
    (c.in_ok-value-in-Values.ensures.runs m.tree turns form.1.0 (subst (λ (x : code_at.At). IsEnough x.depth u.form.budget.uses turns) (sym c.in_place-in-Values.ensures) enough)))))

-- ---- records and macros that were set aside

pub expand_kept_item-returns-in_err-from_slice-in-Record-clause-runs : goal.expand_kept_item-returns-in_err-from_slice-in-Record-clause-runs
expand_kept_item-returns-in_err-from_slice-in-Record-clause-runs t c = λ i turns for enough.
    let a = c.args.work.now in
    let u = c.args.units.now in
    let at = c.args.at in
    let Q : List Frames → code_part.CorePart → Part → Type 0 = λ layout. PartStands a u.unit u.form.number in
    let f : Known → Frames → Step Noting Part = λ known fs. item_part (expand (noting known) turns) (noting known) at.depth fs i in
    runs_err Q a a c.args.region.now u u at.scope c.from_residual-in_err-from_slice-in-Record.result fault.Memory f c.from_residual-in_err-from_slice-in-Record.ensures.1 (runs_nothing Q a c.args.region.now u u at.scope f)

pub expand_kept_item-returns-in_err-from_slice-in-Record-2-clause-runs : goal.expand_kept_item-returns-in_err-from_slice-in-Record-2-clause-runs
expand_kept_item-returns-in_err-from_slice-in-Record-2-clause-runs t c = λ i turns for enough.
    let a = c.args.work.now in
    let u = c.args.units.now in
    let at = c.args.at in
    let Q : List Frames → code_part.CorePart → Part → Type 0 = λ layout. PartStands a u.unit u.form.number in
    let f : Known → Frames → Step Noting Part = λ known fs. item_part (expand (noting known) turns) (noting known) at.depth fs i in
    runs_err Q a a c.args.region.now u u at.scope c.from_residual-in_err-from_slice-in-Record-2.result fault.Memory f c.from_residual-in_err-from_slice-in-Record-2.ensures.1 (runs_nothing Q a c.args.region.now u u at.scope f)

pub expand_kept_item-returns-in_err-from_slice-in-Record-3-clause-runs : goal.expand_kept_item-returns-in_err-from_slice-in-Record-3-clause-runs
expand_kept_item-returns-in_err-from_slice-in-Record-3-clause-runs t c = λ i turns for enough.
    let a = c.args.work.now in
    let u = c.args.units.now in
    let at = c.args.at in
    let Q : List Frames → code_part.CorePart → Part → Type 0 = λ layout. PartStands a u.unit u.form.number in
    let f : Known → Frames → Step Noting Part = λ known fs. item_part (expand (noting known) turns) (noting known) at.depth fs i in
    runs_err Q a a c.args.region.now u u at.scope c.from_residual-in_err-from_slice-in-Record-3.result fault.Memory f c.from_residual-in_err-from_slice-in-Record-3.ensures.1 (runs_nothing Q a c.args.region.now u u at.scope f)

pub expand_kept_item-returns-in_err-from_slice-in-Record-4-clause-runs : goal.expand_kept_item-returns-in_err-from_slice-in-Record-4-clause-runs
expand_kept_item-returns-in_err-from_slice-in-Record-4-clause-runs t c = λ i turns for enough.
    let a = c.args.work.now in
    let u = c.args.units.now in
    let at = c.args.at in
    let Q : List Frames → code_part.CorePart → Part → Type 0 = λ layout. PartStands a u.unit u.form.number in
    let f : Known → Frames → Step Noting Part = λ known fs. item_part (expand (noting known) turns) (noting known) at.depth fs i in
    runs_err Q a a c.args.region.now u u at.scope c.from_residual-in_err-from_slice-in-Record-4.result fault.Memory f c.from_residual-in_err-from_slice-in-Record-4.ensures.1 (runs_nothing Q a c.args.region.now u u at.scope f)

pub expand_kept_item-returns-in_err-macro_def-in-Macro-clause-runs : goal.expand_kept_item-returns-in_err-macro_def-in-Macro-clause-runs
expand_kept_item-returns-in_err-macro_def-in-Macro-clause-runs t c = λ i turns for enough.
    let a = c.args.work.now in
    let u = c.args.units.now in
    let v = c.macro_def.new.units in
    let at = c.args.at in
    let Q : List Frames → code_part.CorePart → Part → Type 0 = λ layout. PartStands a v.unit v.form.number in
    let f : Known → Frames → Step Noting Part = λ known fs. item_part (expand (noting known) turns) (noting known) at.depth fs i in
    runs_err Q a a c.args.region.now u v at.scope c.from_residual-in_err-macro_def-in-Macro.result fault.Memory f c.from_residual-in_err-macro_def-in-Macro.ensures.1 (runs_nothing Q a c.args.region.now u v at.scope f)

pub expand_kept_item-returns-in_ok-from_slice-in-Record-4-clause-runs : goal.expand_kept_item-returns-in_ok-from_slice-in-Record-4-clause-runs
expand_kept_item-returns-in_ok-from_slice-in-Record-4-clause-runs t c = λ i turns for enough.
    let a = c.args.work.now in
    let region = c.args.region.now in
    let u = c.args.units.now in
    let at = c.args.at in
    let bs = c.in_ok-from_slice-in-Record.field-0 in
    let fs = c.in_ok-from_slice-in-Record-2.field-0 in
    let ms = c.in_ok-from_slice-in-Record-3.field-0 in
    let us = c.in_ok-from_slice-in-Record-4.field-0 in
    let b_same = c.in_ok-from_slice-in-Record.ensures.items ∙ c.deref-in-Record.ensures.value in
    let f_same = c.in_ok-from_slice-in-Record-2.ensures.items ∙ c.deref-in-Record-2.ensures.value in
    let m_same = c.in_ok-from_slice-in-Record-3.ensures.items ∙ c.deref-in-Record-3.ensures.value in
    let u_same = c.in_ok-from_slice-in-Record-4.ensures.items ∙ c.deref-in-Record-4.ensures.value in
    let P : List Frames → code_part.CorePart → Part → Type 0 = λ layout. PartStands a u.unit u.form.number in
    let f : Item Identifier → Known → Frames → Step Noting Part = λ x known fs. item_part (expand (noting known) turns) (noting known) at.depth fs x in
    as_record a region u.unit u.form.number (λ y. Runs P a a region u u at.scope (Ok (core_parts.Fields bs fs ms us)) (f y)) c.in-Record.binders c.in-Record.fields c.in-Record.modified c.in-Record.used i (subst (λ (x : code_kept.Kept). KeptFor a region u.unit u.form.number x i) c.in-Record.is for)
    (λ r binders fields modified used. record_runs a region u at.scope turns at.depth r bs fs ms us (subst (λ (l : List code_binder.Binder). AllMatch (IsBinder a.symbols u.unit u.form.number) l r.binders) (sym b_same) binders)
    (subst (λ (l : List code_binder.Binder). AllMatch (IsBinder a.symbols u.unit u.form.number) l r.fields) (sym f_same) fields) (m_same ∙ modified) (subst (λ (l : List code_field.FieldUse). AllMatch IsField l r.used) (sym u_same) used))

pub expand_kept_item-returns-in_ok-from_slice-in-Record-4-clause-locals : goal.expand_kept_item-returns-in_ok-from_slice-in-Record-4-clause-locals
expand_kept_item-returns-in_ok-from_slice-in-Record-4-clause-locals t c = spends_itself c.args.units.now

pub expand_kept_item-macro_def-requires : goal.expand_kept_item-macro_def-requires
expand_kept_item-macro_def-requires t c =
    let a = c.args.work.now in
    let region = c.args.region.now in
    let u = c.args.units.now in
    let i = c.requires.kept.0 in
    as_macro a region u.unit u.form.number (λ x. CanNote a u c.in-Macro.binder c.in-Macro.meaning) c.in-Macro.binder c.in-Macro.meaning i (subst (λ (x : code_kept.Kept). KeptFor a region u.unit u.form.number x i) c.in-Macro.is c.requires.kept.1)
    (λ d here binder meaning. macro_told a u c.args.at.scope c.in-Macro.binder c.in-Macro.meaning d c.requires.look binder meaning)

pub expand_kept_item-returns-in_ok-macro_def-in-Macro-clause-runs : goal.expand_kept_item-returns-in_ok-macro_def-in-Macro-clause-runs
expand_kept_item-returns-in_ok-macro_def-in-Macro-clause-runs t c = λ i turns for enough.
    let a = c.args.work.now in
    let region = c.args.region.now in
    let u = c.args.units.now in
    let v = c.macro_def.new.units in
    let at = c.args.at in
    let x = c.in_ok-macro_def-in-Macro.field-0 in
    let P : List Frames → code_part.CorePart → Part → Type 0 = λ layout. PartStands a v.unit v.form.number in
    let f : Item Identifier → Known → Frames → Step Noting Part = λ x known fs. item_part (expand (noting known) turns) (noting known) at.depth fs x in
    as_macro a region u.unit u.form.number (λ y. Runs P a a region u v at.scope (Ok (core_parts.Syntax x)) (f y)) c.in-Macro.binder c.in-Macro.meaning i (subst (λ (x : code_kept.Kept). KeptFor a region u.unit u.form.number x i) c.in-Macro.is for)
    (λ d here binder meaning. macro_runs a region u v at.scope turns at.depth c.macro_def.ensures.rest d here c.in-Macro.binder c.in-Macro.meaning x binder meaning c.in_ok-macro_def-in-Macro.ensures.def c.in_ok-macro_def-in-Macro.ensures.noted)

pub expand_kept_item-returns-in_ok-macro_def-in-Macro-clause-locals : goal.expand_kept_item-returns-in_ok-macro_def-in-Macro-clause-locals
expand_kept_item-returns-in_ok-macro_def-in-Macro-clause-locals t c = subst (λ (x : UnitScope). Spends 0 c.args.units.now x) (sym c.macro_def.ensures.rest) (spends_itself c.args.units.now)
