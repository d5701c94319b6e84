-- Expressions, alone and one after another.
use Rattle.std.proofs.Common.{◌≡◌, ◌+◌, ◌^◌, List, Ok, Err, Vec, rules, refl, sym, ap, ◌∙◌, subst, arith}
use Rattle.std.specs.declared.alloc.Global.{Global}
use Rattle.scheme_model.specs.Trees.{Tree}
use Rattle.scheme_model.specs.Ident.{Ident as Identifier}
use Rattle.scheme_model.specs.Requirements.{Known}
use Rattle.scheme_model.specs.Cores.{Core, Cores, Call, Body, Part, Parts, Expression as expression_part}
use Rattle.scheme_model.specs.Steps.{Step, ◌>>=◌, done}
use Rattle.scheme_model.specs.Expression.{whole, expand, each_of, sequence, expressions, each}
use Rattle.scheme_model.specs.ScopedExpansion.{Frames}
use Rattle.syntax_tree.specs.Works.{StandsFor}
use Rattle.syntax_tree.specs.declared.trees.nodes.Tree as number
use Rattle.core_tree.specs.Names.{AllMatch}
use Rattle.core_tree.specs.Cores.{CoreStands, CoresStand, PartStands, PartsStand as PartsOfCores}
use Rattle.core_tree.specs.declared.cores.Core as code_core
use Rattle.core_tree.specs.declared.cores.Core.TheVariants as cores
use Rattle.core_tree.specs.declared.cores.CorePart as code_part
use Rattle.core_tree.specs.declared.cores.CorePart.TheVariants as core_parts
use Rattle.expander.specs.Expanded.{AreAtWork}
use Rattle.expander.specs.declared.expressions.At as code_at
use Rattle.feature_requirements.specs.declared.fault.ExpandFault.TheVariants as fault
use Rattle.expander.proofs.AfterLaws.{opened_on, room_same, room_on, spends_same, spends_itself, spends_on, enough_later}
use Rattle.expander.proofs.BelowLaws.{below_look, below_room, below_spends, below_enough}
use Rattle.expander.proofs.BodyRuns.{runs_nothing}
use Rattle.expander.proofs.CycleCalls.{expand_after}
use Rattle.expander.proofs.ExpandLaws.{ready_after, ready_parts, ready_keyword, ready_shape, expand_fails, expand_core, expand_call, expand_form, trees_node, trees_node_fails}
use Rattle.expander.proofs.FormRuns.{sequence_runs, sequence_fails}
use Rattle.expander.proofs.LoopLaws.{after_itself, after_on, runs_none, runs_told, runs_failed}
use Rattle.expander.proofs.RowLaws.{as_part, each_row, expressions_row, cores_of, parts_of, cores_stand, parts_stand, match_all, trees_in, trees_match}
use Rattle.expander.proofs.RowRuns.{row_one_more, row_stops, runs_memory, cores_go_on, parts_go_on, tree_at_work}
use Rattle.expander.proofs.StepLaws.{runs_err, runs_fails, runs_mapped, node_none}
use Rattle.expander.proofs.cores.+core.Goals as goal
use Rattle.noted_steps.specs.Noting.{Noting, noting}
use Rattle.noted_steps.specs.Kept.{CanLook}

-- ---- an expression

pub expand-returns-in_err-here-clause-runs : goal.expand-returns-in_err-here-clause-runs
expand-returns-in_err-here-clause-runs t c = λ form turns stands enough.
    let a = c.args.work.now in
    let b = c.prepare.new.work in
    let region = c.args.region.now in
    let u = c.args.units.now in
    let w = c.prepare.new.units in
    let at = c.args.at in
    let e = c.in_err-here.field-0.0 in
    let Q : List Frames → code_core.Core → Core → Type 0 = λ layout. CoreStands b w.unit w.form.number in
    runs_err Q a b region u w at.scope c.from_residual.result e (λ known fs. expand (noting known) turns at.depth at.here fs (whole form)) c.from_residual.ensures.1
    (expand_fails a b region u w at c.args.form c.requires.form.1 form turns stands enough Q e c.in_err-here.ensures.ready)

pub expand-returns-in-Core-clause-runs : goal.expand-returns-in-Core-clause-runs
expand-returns-in-Core-clause-runs t c = λ form turns stands enough.
    expand_core c.args.work.now c.prepare.new.work c.args.region.now c.args.units.now c.prepare.new.units c.args.at c.args.form c.requires.form.1 form turns stands enough c.in_ok-here.here c.in_ok-here.ready c.in-Core.core c.in-Core.is c.in_ok-here.ensures.ready

pub expand-returns-in-Core-clause-locals : goal.expand-returns-in-Core-clause-locals
expand-returns-in-Core-clause-locals t c =
    let after = ready_after c.args.work.now c.prepare.new.work c.args.region.now c.args.units.now c.prepare.new.units c.args.at c.args.form c.requires.look c.requires.form (c.in_ok-here.here, c.in_ok-here.ready) c.in_ok-here.ensures.ready in
    spends_same c.args.units.now c.prepare.new.units c.in_ok-here.ensures.locals after.same

pub expand-below-requires : goal.expand-below-requires
expand-below-requires t c =
    let after = ready_after c.args.work.now c.prepare.new.work c.args.region.now c.args.units.now c.prepare.new.units c.args.at c.args.form c.requires.look c.requires.form (c.in_ok-here.here, c.in_ok-here.ready) c.in_ok-here.ensures.ready in
    after.look.stands.form.few_nodes

pub expand-returns-in_err-below-in-Call-clause-runs : goal.expand-returns-in_err-below-in-Call-clause-runs
expand-returns-in_err-below-in-Call-clause-runs t c = λ form turns stands enough.
    let a = c.args.work.now in
    let b = c.prepare.new.work in
    let region = c.args.region.now in
    let u = c.args.units.now in
    let w = c.prepare.new.units in
    let v = c.below.new.units in
    let at = c.args.at in
    let placed = c.in_place-at.result in
    let e = c.in_err-below-in-Call.field-0.0 in
    let Q : List Frames → code_core.Core → Core → Type 0 = λ layout. CoreStands b v.unit v.form.number in
    runs_err Q a b region u v at.scope c.from_residual-in_err-below-in-Call.result e (λ known fs. expand (noting known) turns at.depth at.here fs (whole form)) c.from_residual-in_err-below-in-Call.ensures.1
    (expand_call a b region u w at c.args.form c.requires.form.1 form turns stands enough Q b v c.in_ok-here.here placed c.in_place-at.ensures (Err e) c.in_ok-here.ready c.in-Call.parts c.in-Call.is c.in_ok-here.ensures.ready
    (λ left ts parts less. node_none Q b region w v placed 1 e (λ known fs below t1. each (λ x. expand (noting known) left below placed.here fs (whole x)) ts t1 >>= λ cs. done (Call cs)) c.in_err-below-in-Call.ensures))

pub expand-expand_all-requires : goal.expand-expand_all-requires
expand-expand_all-requires t c =
    let a = c.args.work.now in
    let b = c.prepare.new.work in
    let region = c.args.region.now in
    let u = c.args.units.now in
    let w = c.prepare.new.units in
    let v = c.below.new.units in
    let at = c.args.at in
    let placed = c.in_place-at.result in
    let below = c.in_ok-below-in-Call.below in
    let h = c.in_ok-below-in-Call.ensures in
    let after = ready_after a b region u w at c.args.form c.requires.look c.requires.form (c.in_ok-here.here, c.in_ok-here.ready) c.in_ok-here.ensures.ready in
    let deeper : at.depth ≡ below.depth + 1 = sym (ap (λ (x : code_at.At). x.depth) c.in_place-at.ensures) ∙ h.2.0 in
    let parts = ready_parts a b region u w at c.args.form c.requires.look c.requires.form c.in_ok-here.here c.in_ok-here.ready c.in-Call.parts c.in-Call.is c.in_ok-here.ensures.ready in (
      first_of (omega (arith, deeper), omega arith, search rules, grind arith),
      (opened_on a b region after.work c.requires.opened, (below_look w v placed below 1 h b (subst (λ (x : code_at.At). CanLook b w x.scope) (sym c.in_place-at.ensures) after.look), (subst (AreAtWork b region) (sym c.deref.ensures.value) parts, below_room w v placed below 1 h (2 ^ 43) (room_same (2 ^ 43) u w c.in_ok-here.ensures.locals after.same c.requires.room)))),
    )

pub expand-returns-in_err-expand_all-in-Call-clause-runs : goal.expand-returns-in_err-expand_all-in-Call-clause-runs
expand-returns-in_err-expand_all-in-Call-clause-runs t c = λ form turns stands enough.
    let a = c.args.work.now in
    let b = c.prepare.new.work in
    let d = c.expand_all.new.work in
    let region = c.args.region.now in
    let u = c.args.units.now in
    let w = c.prepare.new.units in
    let w1 = c.below.new.units in
    let v = c.expand_all.new.units in
    let at = c.args.at in
    let placed = c.in_place-at.result in
    let below = c.in_ok-below-in-Call.below in
    let h = c.in_ok-below-in-Call.ensures in
    let e = c.in_err-expand_all-in-Call.field-0.0 in
    let Q : List Frames → code_core.Core → Core → Type 0 = λ layout. CoreStands d v.unit v.form.number in
    runs_err Q a d region u v at.scope c.from_residual-in_err-expand_all-in-Call.result e (λ known fs. expand (noting known) turns at.depth at.here fs (whole form)) c.from_residual-in_err-expand_all-in-Call.ensures.1
    (expand_call a b region u w at c.args.form c.requires.form.1 form turns stands enough Q d v c.in_ok-here.here placed c.in_place-at.ensures (Err e) c.in_ok-here.ready c.in-Call.parts c.in-Call.is c.in_ok-here.ensures.ready
    (λ left ts parts less. trees_node_fails b d region w w1 v placed below 1 left h ts Q e Call
    (c.in_err-expand_all-in-Call.ensures.runs (trees_in ts) left (subst (λ (l : List number.Tree). AllMatch (StandsFor b) l (trees_in ts)) (sym c.deref.ensures.value) (trees_match b c.in-Call.parts.items ts parts)) (below_enough w w1 placed below 1 h left less))))

pub expand-returns-in_ok-expand_all-in-Call-clause-runs : goal.expand-returns-in_ok-expand_all-in-Call-clause-runs
expand-returns-in_ok-expand_all-in-Call-clause-runs t c = λ form turns stands enough.
    let a = c.args.work.now in
    let b = c.prepare.new.work in
    let d = c.expand_all.new.work in
    let region = c.args.region.now in
    let u = c.args.units.now in
    let w = c.prepare.new.units in
    let w1 = c.below.new.units in
    let v = c.expand_all.new.units in
    let at = c.args.at in
    let placed = c.in_place-at.result in
    let below = c.in_ok-below-in-Call.below in
    let h = c.in_ok-below-in-Call.ensures in
    let xs = c.in_ok-expand_all-in-Call.field-0 in
    let Q : List Frames → code_core.Core → Core → Type 0 = λ layout. CoreStands d v.unit v.form.number in
    expand_call a b region u w at c.args.form c.requires.form.1 form turns stands enough Q d v c.in_ok-here.here placed c.in_place-at.ensures (Ok (cores.Call xs)) c.in_ok-here.ready c.in-Call.parts c.in-Call.is c.in_ok-here.ensures.ready
    (λ left ts parts less. trees_node b d region w w1 v placed below 1 left h ts xs (cores.Call xs) Call (λ ms held. (xs, refl, held))
    (c.in_ok-expand_all-in-Call.ensures.runs (trees_in ts) left (subst (λ (l : List number.Tree). AllMatch (StandsFor b) l (trees_in ts)) (sym c.deref.ensures.value) (trees_match b c.in-Call.parts.items ts parts)) (below_enough w w1 placed below 1 h left less)))

pub expand-returns-in_ok-expand_all-in-Call-clause-locals : goal.expand-returns-in_ok-expand_all-in-Call-clause-locals
expand-returns-in_ok-expand_all-in-Call-clause-locals t c =
    let a = c.args.work.now in
    let b = c.prepare.new.work in
    let u = c.args.units.now in
    let w = c.prepare.new.units in
    let w1 = c.below.new.units in
    let v = c.expand_all.new.units in
    let after = ready_after a b c.args.region.now u w c.args.at c.args.form c.requires.look c.requires.form (c.in_ok-here.here, c.in_ok-here.ready) c.in_ok-here.ensures.ready in
    spends_on u w v (spends_same u w c.in_ok-here.ensures.locals after.same)
    (spends_on w w1 v (below_spends w w1 c.in_place-at.result c.in_ok-below-in-Call.below 1 c.in_ok-below-in-Call.ensures) c.in_ok-expand_all-in-Call.ensures.locals)

pub expand-expand_shape-requires : goal.expand-expand_shape-requires
expand-expand_shape-requires t c =
    let a = c.args.work.now in
    let b = c.prepare.new.work in
    let region = c.args.region.now in
    let u = c.args.units.now in
    let w = c.prepare.new.units in
    let at = c.args.at in
    let after = ready_after a b region u w at c.args.form c.requires.look c.requires.form (c.in_ok-here.here, c.in_ok-here.ready) c.in_ok-here.ensures.ready in
    let depth : c.in_place-at.result.depth ≡ at.depth = ap (λ (x : code_at.At). x.depth) c.in_place-at.ensures in
    let shape = ready_shape a b region u w at c.args.form c.requires.look c.requires.form c.in_ok-here.here c.in_ok-here.ready c.in-Shape.core c.in-Shape.shape c.in-Shape.is c.in_ok-here.ensures.ready in
    let keyword = ready_keyword a b region u w at c.args.form c.requires.look c.requires.form c.in_ok-here.here c.in_ok-here.ready c.in-Shape.core c.in-Shape.shape c.in-Shape.is c.in_ok-here.ensures.ready in (
      first_of (omega (arith, depth), omega arith, search rules, grind arith),
      (opened_on a b region after.work c.requires.opened, (subst (λ (x : code_at.At). CanLook b w x.scope) (sym c.in_place-at.ensures) after.look, (keyword, (shape, room_same (2 ^ 43) u w c.in_ok-here.ensures.locals after.same c.requires.room)))),
    )

pub expand-returns-in_err-expand_shape-in-Shape-clause-runs : goal.expand-returns-in_err-expand_shape-in-Shape-clause-runs
expand-returns-in_err-expand_shape-in-Shape-clause-runs t c = λ form turns stands enough.
    let a = c.args.work.now in
    let b = c.prepare.new.work in
    let d = c.expand_shape.new.work in
    let region = c.args.region.now in
    let u = c.args.units.now in
    let w = c.prepare.new.units in
    let v = c.expand_shape.new.units in
    let at = c.args.at in
    let e = c.in_err-expand_shape-in-Shape.field-0.0 in
    let Q : List Frames → code_core.Core → Core → Type 0 = λ layout. CoreStands d v.unit v.form.number in
    runs_err Q a d region u v at.scope c.from_residual-in_err-expand_shape-in-Shape.result e (λ known fs. expand (noting known) turns at.depth at.here fs (whole form)) c.from_residual-in_err-expand_shape-in-Shape.ensures.1
    (expand_form a b region u w at c.args.form c.requires.form.1 form turns stands enough Q d v c.in_ok-here.here c.in_place-at.result c.in_place-at.ensures (Err e) c.in_ok-here.ready c.in-Shape.core c.in-Shape.shape c.in-Shape.is c.in_ok-here.ensures.ready
    (λ k m left keyword for fits rest less. c.in_err-expand_shape-in-Shape.ensures.runs k m left keyword for fits rest less))

pub expand-returns-in_ok-expand_shape-in-Shape-clause-runs : goal.expand-returns-in_ok-expand_shape-in-Shape-clause-runs
expand-returns-in_ok-expand_shape-in-Shape-clause-runs t c = λ form turns stands enough.
    let d = c.expand_shape.new.work in
    let v = c.expand_shape.new.units in
    let x = c.in_ok-expand_shape-in-Shape.field-0 in
    let Q : List Frames → code_core.Core → Core → Type 0 = λ layout. CoreStands d v.unit v.form.number in
    expand_form c.args.work.now c.prepare.new.work c.args.region.now c.args.units.now c.prepare.new.units c.args.at c.args.form c.requires.form.1 form turns stands enough Q d v c.in_ok-here.here c.in_place-at.result c.in_place-at.ensures (Ok x)
    c.in_ok-here.ready c.in-Shape.core c.in-Shape.shape c.in-Shape.is c.in_ok-here.ensures.ready (λ k m left keyword for fits rest less. c.in_ok-expand_shape-in-Shape.ensures.runs k m left keyword for fits rest less)

pub expand-returns-in_ok-expand_shape-in-Shape-clause-locals : goal.expand-returns-in_ok-expand_shape-in-Shape-clause-locals
expand-returns-in_ok-expand_shape-in-Shape-clause-locals t c =
    let u = c.args.units.now in
    let w = c.prepare.new.units in
    let after = ready_after c.args.work.now c.prepare.new.work c.args.region.now u w c.args.at c.args.form c.requires.look c.requires.form (c.in_ok-here.here, c.in_ok-here.ready) c.in_ok-here.ensures.ready in
    spends_on u w c.expand_shape.new.units (spends_same u w c.in_ok-here.ensures.locals after.same) c.in_ok-expand_shape-in-Shape.ensures.locals

-- ---- expressions from left to right

abbrev no_tree : number.Tree
no_tree = record { number = 0 }

pub expand_all-returns-in_err-cores-clause-runs : goal.expand_all-returns-in_err-cores-clause-runs
expand_all-returns-in_err-cores-clause-runs t c = λ ts turns match enough.
    let a = c.args.work.now in
    let u = c.args.units.now in
    let at = c.args.at in
    let Q : List Frames → Vec code_core.Core Global → Cores → Type 0 = λ layout cs. CoresStand a u.unit u.form.number cs.items in
    let f : Known → Frames → Step Noting Cores = λ known fs. each_of (λ form. expand (noting known) turns at.depth at.here fs (whole form)) ts in
    runs_err Q a a c.args.region.now u u at.scope c.from_residual.result fault.Memory f c.from_residual.ensures.1 (runs_nothing Q a c.args.region.now u u at.scope f)

pub expand_all-loop-part-init : goal.expand_all-loop-part-init
expand_all-loop-part-init t c = record {
  after = after_itself c.args.work.now c.args.region.now c.args.units.now c.args.at.scope c.requires.look;
  spends = spends_itself c.args.units.now;
  runs = λ ts turns match enough.
      runs_none (λ known fs form. expand (noting known) turns c.args.at.depth c.args.at.here fs (whole form)) (CoreStands c.args.work.now c.args.units.now.unit c.args.units.now.form.number) c.args.work.now c.args.region.now c.args.units.now c.args.at.scope
      c.in_ok-cores.cores.items c.in_ok-cores.ensures.items;
}

pub expand_all-expand-requires : goal.expand_all-expand-requires
expand_all-expand-requires t c =
    let h = c.loop-part.invariant in
    let keeps = h.after.work.trees in (
      first_of (omega arith, search rules, grind arith),
      (opened_on c.args.work.now c.loop-part.work c.args.region.now h.after.work c.requires.opened, (h.after.look, (tree_at_work c.args.work.now c.loop-part.work c.args.region.now c.args.parts.now c.loop-part.part-index no_tree keeps c.requires.parts c.loop-part-test.true, room_on (2 ^ 43) c.args.units.now c.loop-part.units h.spends c.requires.room))),
    )

pub expand_all-returns-in_err-core-clause-runs : goal.expand_all-returns-in_err-core-clause-runs
expand_all-returns-in_err-core-clause-runs t c = λ ts turns match enough.
    let a = c.args.work.now in
    let b = c.loop-part.work in
    let d = c.expand.new.work in
    let region = c.args.region.now in
    let u = c.args.units.now in
    let w = c.loop-part.units in
    let v = c.expand.new.units in
    let at = c.args.at in
    let e = c.in_err-core.field-0.0 in
    let h = c.loop-part.invariant in
    let later = enough_later at.depth u.form.budget.uses w.form.budget.uses turns h.after.same.uses enough in
    let f : Known → Frames → Tree Identifier → Step Noting Core = λ known fs form. expand (noting known) turns at.depth at.here fs (whole form) in
    runs_failed f cores_of (λ known fs. each_of (f known fs) ts) ts (λ known fs s. each_row (f known fs) ts s) a d region u v at.scope
    (λ (layout : List Frames). AllMatch (CoreStands d v.unit v.form.number)) (λ (layout : List Frames) (cs : Vec code_core.Core Global). CoresStand d v.unit v.form.number cs.items) c.from_residual-in_err-core.result e c.from_residual-in_err-core.ensures.1
    (row_stops f (StandsFor a) (CoreStands b w.unit w.form.number) a b d region u w v at.scope c.loop-part.cores.items c.loop-part.part-index c.args.parts.now ts no_tree match c.loop-part-test.true (h.runs ts turns match enough)
    (λ (layout : List Frames). CoreStands d v.unit v.form.number) (λ (layout : List Frames). AllMatch (CoreStands d v.unit v.form.number)) e (λ form stands. c.in_err-core.ensures.runs form turns (h.after.work.trees.trees _ form stands) later))

pub expand_all-returns-in_err-push-clause-runs : goal.expand_all-returns-in_err-push-clause-runs
expand_all-returns-in_err-push-clause-runs t c = λ ts turns match enough.
    let a = c.args.work.now in
    let b = c.loop-part.work in
    let d = c.expand.new.work in
    let region = c.args.region.now in
    let u = c.args.units.now in
    let w = c.loop-part.units in
    let v = c.expand.new.units in
    let at = c.args.at in
    let h = c.loop-part.invariant in
    let later = enough_later at.depth u.form.budget.uses w.form.budget.uses turns h.after.same.uses enough in
    let f : Known → Frames → Tree Identifier → Step Noting Core = λ known fs form. expand (noting known) turns at.depth at.here fs (whole form) in
    runs_failed f cores_of (λ known fs. each_of (f known fs) ts) ts (λ known fs s. each_row (f known fs) ts s) a d region u v at.scope
    (λ (layout : List Frames). AllMatch (CoreStands d v.unit v.form.number)) (λ (layout : List Frames) (cs : Vec code_core.Core Global). CoresStand d v.unit v.form.number cs.items) c.from_residual-in_err-push.result fault.Memory c.from_residual-in_err-push.ensures.1
    (row_stops f (StandsFor a) (CoreStands b w.unit w.form.number) a b d region u w v at.scope c.loop-part.cores.items c.loop-part.part-index c.args.parts.now ts no_tree match c.loop-part-test.true (h.runs ts turns match enough)
    (λ (layout : List Frames). CoreStands d v.unit v.form.number) (λ (layout : List Frames). AllMatch (CoreStands d v.unit v.form.number)) fault.Memory
    (λ form stands. runs_memory (λ (layout : List Frames). CoreStands d v.unit v.form.number) (λ (layout : List Frames). CoreStands d v.unit v.form.number) b d region w v at.scope c.in_ok-core.core (λ known fs. f known fs form) (λ known fs. f known fs form)
    (c.in_ok-core.ensures.runs form turns (h.after.work.trees.trees _ form stands) later)))

pub expand_all-loop-part-preserved : goal.expand_all-loop-part-preserved
expand_all-loop-part-preserved t c =
    let a = c.args.work.now in
    let b = c.loop-part.work in
    let d = c.expand.new.work in
    let region = c.args.region.now in
    let u = c.args.units.now in
    let w = c.loop-part.units in
    let v = c.expand.new.units in
    let at = c.args.at in
    let h = c.loop-part.invariant in
    let works = tree_at_work a b region c.args.parts.now c.loop-part.part-index no_tree h.after.work.trees c.requires.parts c.loop-part-test.true in
    let after = expand_after b d region w v at _ c.in_ok-core.core h.after.look works c.in_ok-core.ensures.runs in
    record {
      after = after_on a b d region u w v at.scope at.scope h.after after;
      spends = spends_on u w v h.spends c.in_ok-core.ensures.locals;
      runs = λ ts turns match enough.
          let later = enough_later at.depth u.form.budget.uses w.form.budget.uses turns h.after.same.uses enough in
          row_one_more (λ known fs form. expand (noting known) turns at.depth at.here fs (whole form)) (StandsFor a) (CoreStands b w.unit w.form.number) (CoreStands d v.unit v.form.number) (cores_go_on b d region w v after.work after.same) a b d region u w v at.scope
          c.loop-part.cores.items c.loop-part.part-index c.args.parts.now ts no_tree match c.loop-part-test.true (h.runs ts turns match enough) c.push.new.self.items c.in_ok-core.core c.in_ok-push.ensures.items
          (λ form stands. c.in_ok-core.ensures.runs form turns (h.after.work.trees.trees _ form stands) later);
    }

pub expand_all-returns-clause-runs : goal.expand_all-returns-clause-runs
expand_all-returns-clause-runs t c = λ ts turns match enough.
    let a = c.args.work.now in
    let b = c.loop-part.work in
    let u = c.args.units.now in
    let w = c.loop-part.units in
    let at = c.args.at in
    let f : Known → Frames → Tree Identifier → Step Noting Core = λ known fs form. expand (noting known) turns at.depth at.here fs (whole form) in
    runs_told f cores_of (λ known fs. each_of (f known fs) ts) ts (λ known fs s. each_row (f known fs) ts s) a b c.args.region.now u w at.scope
    (CoreStands b w.unit w.form.number) (λ (cs : Vec code_core.Core Global). CoresStand b w.unit w.form.number cs.items) c.loop-part.cores.items c.loop-part.cores c.loop-part.part-index
    (match_all (StandsFor a) c.loop-part.part-index c.args.parts.now ts match c.loop-part-test.false) (λ ms held. cores_stand b w.unit w.form.number c.loop-part.cores.items ms held) (c.loop-part.invariant.runs ts turns match enough)

pub expand_all-returns-clause-locals : goal.expand_all-returns-clause-locals
expand_all-returns-clause-locals t c = c.loop-part.invariant.spends

-- ---- expressions one after another

pub sequence-below-requires : goal.sequence-below-requires
sequence-below-requires t c = c.requires.look.stands.form.few_nodes

pub sequence-returns-in_err-below-clause-runs : goal.sequence-returns-in_err-below-clause-runs
sequence-returns-in_err-below-clause-runs t c = λ ts turns stands enough.
    let a = c.args.work.now in
    let v = c.below.new.units in
    let at = c.args.at in
    let e = c.in_err-below.field-0.0 in
    let Q : List Frames → code_core.Core → Core → Type 0 = λ layout. CoreStands a v.unit v.form.number in
    runs_err Q a a c.args.region.now c.args.units.now v at.scope c.from_residual.result e (λ known fs. sequence (expand (noting known) turns) (noting known) at.depth at.here fs ts) c.from_residual.ensures.1
    (node_none Q a c.args.region.now c.args.units.now v at 1 e (λ known fs below t1. expressions (λ u. expand (noting known) turns below at.here fs (whole u)) ts t1 >>= λ ps. done (Body ps)) c.in_err-below.ensures)

pub sequence-returns-in_err-parts-clause-runs : goal.sequence-returns-in_err-parts-clause-runs
sequence-returns-in_err-parts-clause-runs t c = λ ts turns stands enough.
    let a = c.args.work.now in
    let u = c.args.units.now in
    let v = c.below.new.units in
    let at = c.args.at in
    let Q : List Frames → code_core.Core → Core → Type 0 = λ layout. CoreStands a v.unit v.form.number in
    let f : Known → Frames → Step Noting Core = λ known fs. sequence (expand (noting known) turns) (noting known) at.depth at.here fs ts in
    runs_err Q a a c.args.region.now u v at.scope c.from_residual-in_err-parts.result fault.Memory f c.from_residual-in_err-parts.ensures.1 (runs_nothing Q a c.args.region.now u v at.scope f)

pub sequence-loop-form-init : goal.sequence-loop-form-init
sequence-loop-form-init t c =
    let a = c.args.work.now in
    let w = c.below.new.units in
    let below = c.in_ok-below.below in
    record {
      after = after_itself a c.args.region.now w below.scope (below_look c.args.units.now w c.args.at below 1 c.in_ok-below.ensures a c.requires.look);
      spends = spends_itself w;
      runs = λ ts turns match enough. runs_none (λ known fs. as_part (λ u. expand (noting known) turns below.depth below.here fs (whole u))) (PartStands a w.unit w.form.number) a c.args.region.now w below.scope c.in_ok-parts.parts.items c.in_ok-parts.ensures.items;
    }

pub sequence-expand-requires : goal.sequence-expand-requires
sequence-expand-requires t c =
    let a = c.args.work.now in
    let u = c.args.units.now in
    let w = c.below.new.units in
    let below = c.in_ok-below.below in
    let is : c.args.at.depth ≡ below.depth + 1 = c.in_ok-below.ensures.2.0 in
    let h = c.loop-form.invariant in (
      first_of (omega (arith, is), omega arith, search rules, grind arith),
      (opened_on a c.loop-form.work c.args.region.now h.after.work c.requires.opened, (h.after.look, (tree_at_work a c.loop-form.work c.args.region.now c.args.forms.now c.loop-form.form-index no_tree h.after.work.trees c.requires.forms c.loop-form-test.true, room_on (2 ^ 43) w c.loop-form.units h.spends (below_room u w c.args.at below 1 c.in_ok-below.ensures (2 ^ 43) c.requires.room)))),
    )

pub sequence-returns-in_err-core-clause-runs : goal.sequence-returns-in_err-core-clause-runs
sequence-returns-in_err-core-clause-runs t c = λ ts turns stands enough.
    let a = c.args.work.now in
    let b = c.loop-form.work in
    let d = c.expand.new.work in
    let region = c.args.region.now in
    let u = c.args.units.now in
    let w = c.below.new.units in
    let w1 = c.loop-form.units in
    let v = c.expand.new.units in
    let at = c.args.at in
    let below = c.in_ok-below.below in
    let hb = c.in_ok-below.ensures in
    let e = c.in_err-core.field-0.0 in
    let h = c.loop-form.invariant in
    let es = trees_in ts in
    let match = trees_match a c.args.forms.now ts stands in
    let now = below_enough u w at below 1 hb turns enough in
    let later = enough_later below.depth w.form.budget.uses w1.form.budget.uses turns h.after.same.uses now in
    let g : Known → Frames → Tree Identifier → Step Noting Core = λ known fs form. expand (noting known) turns below.depth below.here fs (whole form) in
    let f : Known → Frames → Tree Identifier → Step Noting Part = λ known fs. as_part (g known fs) in
    let P : List Frames → code_core.Core → Core → Type 0 = λ layout. CoreStands d v.unit v.form.number in
    let S : List Frames → List code_part.CorePart → List Part → Type 0 = λ layout. AllMatch (PartStands d v.unit v.form.number) in
    let Z : List Frames → Vec code_part.CorePart Global → Parts → Type 0 = λ layout ps. PartsOfCores d v.unit v.form.number ps.items in
    runs_err P a d region u v at.scope c.from_residual-in_err-core.result e (λ known fs. sequence (expand (noting known) turns) (noting known) at.depth at.here fs ts) c.from_residual-in_err-core.ensures.1
    (sequence_fails a d region u w v at below hb turns ts P e
    (runs_failed f parts_of (λ known fs. expressions (g known fs) ts) es (λ known fs s. expressions_row (g known fs) ts s) a d region w v below.scope S Z (Err e) e refl
    (row_stops f (StandsFor a) (PartStands b w1.unit w1.form.number) a b d region w w1 v below.scope c.loop-form.parts.items c.loop-form.form-index c.args.forms.now es no_tree match c.loop-form-test.true (h.runs es turns match now)
    (λ (layout : List Frames). PartStands d v.unit v.form.number) S e
    (λ form stands1. runs_fails P (λ (layout : List Frames). PartStands d v.unit v.form.number) b d region w1 v below.scope (λ known fs. g known fs form) e (λ known fs m. done (expression_part m)) (c.in_err-core.ensures.runs form turns (h.after.work.trees.trees _ form stands1) later)))))

pub sequence-returns-in_err-push-clause-runs : goal.sequence-returns-in_err-push-clause-runs
sequence-returns-in_err-push-clause-runs t c = λ ts turns stands enough.
    let a = c.args.work.now in
    let b = c.loop-form.work in
    let d = c.expand.new.work in
    let region = c.args.region.now in
    let u = c.args.units.now in
    let w = c.below.new.units in
    let w1 = c.loop-form.units in
    let v = c.expand.new.units in
    let at = c.args.at in
    let below = c.in_ok-below.below in
    let hb = c.in_ok-below.ensures in
    let h = c.loop-form.invariant in
    let es = trees_in ts in
    let match = trees_match a c.args.forms.now ts stands in
    let now = below_enough u w at below 1 hb turns enough in
    let later = enough_later below.depth w.form.budget.uses w1.form.budget.uses turns h.after.same.uses now in
    let g : Known → Frames → Tree Identifier → Step Noting Core = λ known fs form. expand (noting known) turns below.depth below.here fs (whole form) in
    let f : Known → Frames → Tree Identifier → Step Noting Part = λ known fs. as_part (g known fs) in
    let P : List Frames → code_core.Core → Core → Type 0 = λ layout. CoreStands d v.unit v.form.number in
    let S : List Frames → List code_part.CorePart → List Part → Type 0 = λ layout. AllMatch (PartStands d v.unit v.form.number) in
    let Z : List Frames → Vec code_part.CorePart Global → Parts → Type 0 = λ layout ps. PartsOfCores d v.unit v.form.number ps.items in
    runs_err P a d region u v at.scope c.from_residual-in_err-push.result fault.Memory (λ known fs. sequence (expand (noting known) turns) (noting known) at.depth at.here fs ts) c.from_residual-in_err-push.ensures.1
    (sequence_fails a d region u w v at below hb turns ts P fault.Memory
    (runs_failed f parts_of (λ known fs. expressions (g known fs) ts) es (λ known fs s. expressions_row (g known fs) ts s) a d region w v below.scope S Z (Err fault.Memory) fault.Memory refl
    (row_stops f (StandsFor a) (PartStands b w1.unit w1.form.number) a b d region w w1 v below.scope c.loop-form.parts.items c.loop-form.form-index c.args.forms.now es no_tree match c.loop-form-test.true (h.runs es turns match now)
    (λ (layout : List Frames). PartStands d v.unit v.form.number) S fault.Memory
    (λ form stands1. runs_memory P (λ (layout : List Frames). PartStands d v.unit v.form.number) b d region w1 v below.scope c.in_ok-core.core (λ known fs. g known fs form) (λ known fs. f known fs form) (c.in_ok-core.ensures.runs form turns (h.after.work.trees.trees _ form stands1) later)))))

pub sequence-loop-form-preserved : goal.sequence-loop-form-preserved
sequence-loop-form-preserved t c =
    let a = c.args.work.now in
    let b = c.loop-form.work in
    let d = c.expand.new.work in
    let region = c.args.region.now in
    let w = c.below.new.units in
    let w1 = c.loop-form.units in
    let v = c.expand.new.units in
    let below = c.in_ok-below.below in
    let h = c.loop-form.invariant in
    let works = tree_at_work a b region c.args.forms.now c.loop-form.form-index no_tree h.after.work.trees c.requires.forms c.loop-form-test.true in
    let after = expand_after b d region w1 v below _ c.in_ok-core.core h.after.look works c.in_ok-core.ensures.runs in
    record {
      after = after_on a b d region w w1 v below.scope below.scope h.after after;
      spends = spends_on w w1 v h.spends c.in_ok-core.ensures.locals;
      runs = λ ts turns match enough.
          let later = enough_later below.depth w.form.budget.uses w1.form.budget.uses turns h.after.same.uses enough in
          let g : Known → Frames → Tree Identifier → Step Noting Core = λ known fs form. expand (noting known) turns below.depth below.here fs (whole form) in
          row_one_more (λ known fs. as_part (g known fs)) (StandsFor a) (PartStands b w1.unit w1.form.number) (PartStands d v.unit v.form.number) (parts_go_on b d region w1 v after.work after.same) a b d region w w1 v below.scope
          c.loop-form.parts.items c.loop-form.form-index c.args.forms.now ts no_tree match c.loop-form-test.true (h.runs ts turns match enough) c.push.new.self.items (core_parts.Expression c.in_ok-core.core) c.in_ok-push.ensures.items
          (λ form stands. runs_mapped (λ (layout : List Frames). CoreStands d v.unit v.form.number) (λ (layout : List Frames). PartStands d v.unit v.form.number) b d region w1 v below.scope (λ known fs. g known fs form) c.in_ok-core.core
          (core_parts.Expression c.in_ok-core.core) (λ m. expression_part m) (λ layout m held. (c.in_ok-core.core, refl, held)) (c.in_ok-core.ensures.runs form turns (h.after.work.trees.trees _ form stands) later));
    }

pub sequence-returns-clause-runs : goal.sequence-returns-clause-runs
sequence-returns-clause-runs t c = λ ts turns stands enough.
    let a = c.args.work.now in
    let b = c.loop-form.work in
    let region = c.args.region.now in
    let u = c.args.units.now in
    let w = c.below.new.units in
    let w1 = c.loop-form.units in
    let at = c.args.at in
    let below = c.in_ok-below.below in
    let hb = c.in_ok-below.ensures in
    let es = trees_in ts in
    let match = trees_match a c.args.forms.now ts stands in
    let now = below_enough u w at below 1 hb turns enough in
    let ps = c.loop-form.parts in
    let g : Known → Frames → Tree Identifier → Step Noting Core = λ known fs form. expand (noting known) turns below.depth below.here fs (whole form) in
    sequence_runs a b region u w w1 at below hb turns ts ps
    (runs_told (λ known fs. as_part (g known fs)) parts_of (λ known fs. expressions (g known fs) ts) es (λ known fs s. expressions_row (g known fs) ts s) a b region w w1 below.scope
    (PartStands b w1.unit w1.form.number) (λ (qs : Vec code_part.CorePart Global). PartsOfCores b w1.unit w1.form.number qs.items) ps.items ps c.loop-form.form-index
    (match_all (StandsFor a) c.loop-form.form-index c.args.forms.now es match c.loop-form-test.false) (λ ms held. parts_stand b w1.unit w1.form.number ps.items ms held) (c.loop-form.invariant.runs es turns match now))

pub sequence-returns-clause-locals : goal.sequence-returns-clause-locals
sequence-returns-clause-locals t c = spends_on c.args.units.now c.below.new.units c.loop-form.units (below_spends c.args.units.now c.below.new.units c.args.at c.in_ok-below.below 1 c.in_ok-below.ensures) c.loop-form.invariant.spends
