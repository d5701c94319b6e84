-- Assignments, and later definitions of a program, read as such.
use Rattle.std.proofs.Common.{◌≡◌, ℕ, ◌+◌, ◌^◌, ◌≤◌, List, [], ◌∷◌, Option, Ok, Err, rules, sym, ap, ◌∙◌, subst, arith}
use Rattle.std.proofs.lemmas.Option.{slice_get_within}
use Rattle.scheme_model.specs.declared.Occ.{Occ}
use Rattle.scheme_model.specs.Ident.{Ident as Identifier}
use Rattle.scheme_model.specs.Requirements.{Known}
use Rattle.scheme_model.specs.Cores.{Core, Set, Part}
use Rattle.scheme_model.specs.Steps.{Step, ◌>>=◌, done}
use Rattle.scheme_model.specs.Order.{Item, Meant, target_of}
use Rattle.scheme_model.specs.Expression.{assignment, whole, expand, lambda, set, item_part}
use Rattle.scheme_model.specs.ScopedExpansion.{Frames}
use Rattle.core_tree.specs.Cores.{CoreStands, PartStands}
use Rattle.core_tree.specs.declared.cores.Core as code_core
use Rattle.core_tree.specs.declared.cores.CorePart as code_part
use Rattle.core_tree.specs.declared.cores.CorePart.TheVariants as core_parts
use Rattle.expander.specs.Expanded.{ClauseAtWork}
use Rattle.unit_scopes.specs.Defining.{HasNumber}
use Rattle.unit_scopes.specs.Kept.{KeptFor}
use Rattle.unit_scopes.specs.Outcomes.{At, IsAtWork, IsEnoughBelow, HasRoom, Spends}
use Rattle.expander.specs.declared.expressions.At as code_at
use Rattle.feature_requirements.specs.declared.fault.ExpandFault.TheVariants as fault
use Rattle.form_parts.specs.declared.items.Kept as code_kept
use Rattle.expander.proofs.AfterLaws.{spends_on}
use Rattle.expander.proofs.BelowLaws.{below_look, below_room, below_spends, below_enough}
use Rattle.expander.proofs.CycleCalls.{expand_after, lambda_after}
use Rattle.expander.proofs.FormRuns.{assigned_runs, assigned_fails}
use Rattle.expander.proofs.AskedRuns.{noted_same, asked_runs, meant_notes, enough_noted, enough_below_noted}
use Rattle.expander.proofs.LooseLaws.{look_on}
use Rattle.expander.proofs.SetRuns.{keyword_runs, set_unbegun, set_stops, set_runs}
use Rattle.unit_scopes.proofs.OutcomeLaws.{same_on}
use Rattle.unit_scopes.specs.declared.scope.UnitScope.{UnitScope}
use Rattle.expander.proofs.ItemRuns.{placed_runs, item_assigned, item_assigned_fails, item_assigned_function, item_assigned_function_fails, enough_here}
use Rattle.expander.proofs.KeptKinds.{as_assigned, as_assigned_function}
use Rattle.expander.proofs.RowRuns.{runs_memory}
use Rattle.expander.proofs.StepLaws.{runs_err, node_none}
use Rattle.expander.proofs.cores.+core.Goals as goal
use Rattle.noted_steps.specs.Noting.{Noting, state_of, noting}
use Rattle.noted_steps.specs.Outcomes.{Runs}
use Rattle.noted_steps.specs.Kept.{CanLook}
use Rattle.noted_steps.proofs.NoteLaws.{plainly, plain_look}

-- ---- assignments

pub set-variable-requires-clause-look : goal.set-variable-requires-clause-look
set-variable-requires-clause-look t c = c.requires.look

pub set-variable-requires-clause-name : goal.set-variable-requires-clause-name
set-variable-requires-clause-name t c = c.requires.name

pub set-returns-in_err-target-clause-runs : goal.set-returns-in_err-target-clause-runs
set-returns-in_err-target-clause-runs t c = λ n tree turns name stands enough.
    let a = c.args.work.now in
    let region = c.args.region.now in
    let u = c.args.units.now in
    let u1 = c.variable.new.units in
    let at = c.args.at in
    let Q : List Frames → code_core.Core → Core → Type 0 = λ layout. CoreStands a u1.unit u1.form.number in
    let e = c.in_err-target.field-0.0 in
    runs_err Q a a region u u1 at.scope c.from_residual.result e (λ known fs. set (expand (noting known) turns) (noting known) at.depth at.here fs (n, tree)) c.from_residual.ensures.1
    (keyword_runs a region u u1 at c.args.name n name tree turns c.variable.ensures.rest c.variable.ensures.noted (CoreStands a u1.unit u1.form.number) e c.in_err-target.ensures.tested)

pub set-below-requires : goal.set-below-requires
set-below-requires t c = subst (λ (x : UnitScope). x.form.budget.nodes ≤ 200000) (sym c.variable.ensures.rest) c.requires.look.stands.form.few_nodes

pub set-returns-in_err-below-clause-runs : goal.set-returns-in_err-below-clause-runs
set-returns-in_err-below-clause-runs t c = λ n tree turns name stands enough.
    let a = c.args.work.now in
    let region = c.args.region.now in
    let u = c.args.units.now in
    let u1 = c.variable.new.units in
    let w = c.below.new.units in
    let at = c.args.at in
    let Q : List Frames → code_core.Core → Core → Type 0 = λ layout. CoreStands a w.unit w.form.number in
    let e = c.in_err-below.field-0.0 in
    runs_err Q a a region u w at.scope c.from_residual-in_err-below.result e (λ known fs. set (expand (noting known) turns) (noting known) at.depth at.here fs (n, tree)) c.from_residual-in_err-below.ensures.1
    (set_unbegun a region u u1 at c.args.name n name tree turns c.variable.ensures.rest c.variable.ensures.noted Q w e c.in_ok-target.ensures.tested c.in_err-below.ensures)

pub set-expand-requires : goal.set-expand-requires
set-expand-requires t c =
    let a = c.args.work.now in
    let u1 = c.variable.new.units in
    let w = c.below.new.units in
    let below = c.in_ok-below.below in
    let h = c.in_ok-below.ensures in
    let is : c.args.at.depth ≡ below.depth + 1 = h.2.0 in
    let look = look_on a c.args.units.now u1 c.variable.ensures.rest c.args.at.scope c.requires.look in
    let room = subst (HasRoom (2 ^ 43)) (sym c.variable.ensures.rest) c.requires.room in (
      first_of (omega (arith, is), omega arith, search rules, grind arith),
      (c.requires.opened, (below_look u1 w c.args.at below 1 h a look, (c.requires.value, below_room u1 w c.args.at below 1 h (2 ^ 43) room))),
    )

pub set-returns-in_err-value-clause-runs : goal.set-returns-in_err-value-clause-runs
set-returns-in_err-value-clause-runs t c = λ n tree turns name stands enough.
    let a = c.args.work.now in
    let d = c.expand.new.work in
    let region = c.args.region.now in
    let u = c.args.units.now in
    let u1 = c.variable.new.units in
    let w = c.below.new.units in
    let v = c.expand.new.units in
    let at = c.args.at in
    let below = c.in_ok-below.below in
    let h = c.in_ok-below.ensures in
    let Q : List Frames → code_core.Core → Core → Type 0 = λ layout. CoreStands d v.unit v.form.number in
    let now = below_enough u1 w at below 1 h turns (enough_below_noted u u1 at.depth turns c.variable.ensures.rest enough) in
    let e = c.in_err-value.field-0.0 in
    runs_err Q a d region u v at.scope c.from_residual-in_err-value.result e (λ known fs. set (expand (noting known) turns) (noting known) at.depth at.here fs (n, tree)) c.from_residual-in_err-value.ensures.1
    (set_stops a d region u u1 v at c.args.name n name tree turns c.variable.ensures.rest c.variable.ensures.noted w below h Q e c.in_ok-target.ensures.tested (c.in_err-value.ensures.runs tree turns stands now))

pub set-returns-in_err-new-clause-runs : goal.set-returns-in_err-new-clause-runs
set-returns-in_err-new-clause-runs t c = λ n tree turns name stands enough.
    let a = c.args.work.now in
    let d = c.expand.new.work in
    let region = c.args.region.now in
    let u = c.args.units.now in
    let u1 = c.variable.new.units in
    let w = c.below.new.units in
    let v = c.expand.new.units in
    let at = c.args.at in
    let below = c.in_ok-below.below in
    let h = c.in_ok-below.ensures in
    let Q : List Frames → code_core.Core → Core → Type 0 = λ layout. CoreStands d v.unit v.form.number in
    let now = below_enough u1 w at below 1 h turns (enough_below_noted u u1 at.depth turns c.variable.ensures.rest enough) in
    let g : Known → Frames → Step Noting Core = λ known fs. expand (noting known) turns below.depth below.here fs (whole tree) in
    runs_err Q a d region u v at.scope c.from_residual-in_err-new.result fault.Memory (λ known fs. set (expand (noting known) turns) (noting known) at.depth at.here fs (n, tree)) c.from_residual-in_err-new.ensures.1
    (set_stops a d region u u1 v at c.args.name n name tree turns c.variable.ensures.rest c.variable.ensures.noted w below h Q fault.Memory c.in_ok-target.ensures.tested
    (runs_memory Q Q a d region w v below.scope c.in_ok-value.value g g (c.in_ok-value.ensures.runs tree turns stands now)))

pub set-returns-clause-runs : goal.set-returns-clause-runs
set-returns-clause-runs t c = λ n tree turns name stands enough.
    let a = c.args.work.now in
    let d = c.expand.new.work in
    let region = c.args.region.now in
    let u = c.args.units.now in
    let u1 = c.variable.new.units in
    let w = c.below.new.units in
    let v = c.expand.new.units in
    let at = c.args.at in
    let below = c.in_ok-below.below in
    let h = c.in_ok-below.ensures in
    let Q : List Frames → code_core.Core → Core → Type 0 = λ layout. CoreStands d v.unit v.form.number in
    let now = below_enough u1 w at below 1 h turns (enough_below_noted u u1 at.depth turns c.variable.ensures.rest enough) in
    let look = look_on a u u1 c.variable.ensures.rest at.scope c.requires.look in
    let after = expand_after a d region w v below c.args.value c.in_ok-value.value (below_look u1 w at below 1 h a look) c.requires.value c.in_ok-value.ensures.runs in
    set_runs a d region u u1 v at c.args.name n name tree turns c.variable.ensures.rest c.variable.ensures.noted w below h c.in_ok-target.target c.in_ok-new.field-0 c.in_ok-target.ensures.tested after.work after.same c.in_ok-target.ensures.target
    (subst (λ (q : code_core.Core). Runs Q a d region w v below.scope (Ok q) (λ known fs. expand (noting known) turns below.depth below.here fs (whole tree))) (sym c.in_ok-new.ensures.ok) (c.in_ok-value.ensures.runs tree turns stands now))

pub set-returns-clause-locals : goal.set-returns-clause-locals
set-returns-clause-locals t c =
    let u1 = c.variable.new.units in
    let w = c.below.new.units in
    let v = c.expand.new.units in
    subst (λ (x : UnitScope). Spends 0 x v) c.variable.ensures.rest (spends_on u1 w v (below_spends u1 w c.args.at c.in_ok-below.below 1 c.in_ok-below.ensures) c.in_ok-value.ensures.locals)

-- ---- later definitions, read as assignments

pub assign-below-requires : goal.assign-below-requires
assign-below-requires t c = c.requires.look.stands.form.few_nodes

pub assign-target-target-requires-clause-look : goal.assign-target-target-requires-clause-look
assign-target-target-requires-clause-look t c =
    plain_look c.args.work.now c.below.new.units c.args.at.scope (subst (λ (k : ℕ). CanLook c.args.work.now c.below.new.units k) c.in_ok-below.ensures.0
    (below_look c.args.units.now c.below.new.units c.args.at c.in_ok-below.below 1 c.in_ok-below.ensures c.args.work.now c.requires.look))

pub assign-target-target-requires-clause-ident : goal.assign-target-target-requires-clause-ident
assign-target-target-requires-clause-ident t c = slice_get_within c.args.work.now.symbols.idents c.args.name.ident c.requires.name.0.name c.requires.name.1.0

pub assign-note-requires : goal.assign-note-requires
assign-note-requires t c =
    let a = c.args.work.now in
    let w = c.below.new.units in
    let l = below_look c.args.units.now w c.args.at c.in_ok-below.below 1 c.in_ok-below.ensures a c.requires.look in
    let at = subst (λ (k : ℕ). At l.layout k l.frames) c.in_ok-below.ensures.0 l.at in
    slice_get_within a.symbols.idents _ _ (c.target-target.ensures l.layout (state_of l.state) l.frames c.requires.name.0 (plainly a w l.layout l.state l.stands) at c.requires.name.1).ident

pub assign-expand-requires : goal.assign-expand-requires
assign-expand-requires t c =
    let u = c.args.units.now in
    let a = c.args.work.now in
    let w = c.below.new.units in
    let w1 = c.note.new.units in
    let below = c.in_ok-below.below in
    let h = c.in_ok-below.ensures in
    let is : c.args.at.depth ≡ below.depth + 1 = h.2.0 in (
      first_of (omega (arith, is), omega arith, search rules, grind arith),
      (c.requires.opened, (look_on a w w1 c.note.ensures.rest below.scope (below_look u w c.args.at below 1 h a c.requires.look), (c.requires.value, subst (HasRoom (2 ^ 43)) (sym c.note.ensures.rest) (below_room u w c.args.at below 1 h (2 ^ 43) c.requires.room)))),
    )

pub assign-returns-in_err-below-clause-runs : goal.assign-returns-in_err-below-clause-runs
assign-returns-in_err-below-clause-runs t c = λ n tree turns name stands enough.
    let a = c.args.work.now in
    let d = c.args.work.now in
    let region = c.args.region.now in
    let u = c.args.units.now in
    let v = c.below.new.units in
    let at = c.args.at in
    let Q : List Frames → code_core.Core → Core → Type 0 = λ layout. CoreStands d v.unit v.form.number in
    let f : Known → Frames → Step Noting Core = λ known fs. assignment (noting known) at.depth at.here fs n (λ below. expand (noting known) turns below at.here fs (whole tree)) in
    let e = c.in_err-below.field-0.0 in
    runs_err Q a d region u v at.scope c.from_residual.result e f c.from_residual.ensures.1
    (node_none Q a region u v at 1 e (λ known fs below t1. expand (noting known) turns below at.here fs (whole tree) ((noting known).ask (Meant fs n.name ∷ []) t1) >>= λ x. done (Set (target_of (noting known) fs t1 n.name n.occ) x)) c.in_err-below.ensures)

pub assign-returns-in_err-value-clause-runs : goal.assign-returns-in_err-value-clause-runs
assign-returns-in_err-value-clause-runs t c = λ n tree turns name stands enough.
    let a = c.args.work.now in
    let d = c.expand.new.work in
    let region = c.args.region.now in
    let u = c.args.units.now in
    let v = c.expand.new.units in
    let at = c.args.at in
    let Q : List Frames → code_core.Core → Core → Type 0 = λ layout. CoreStands d v.unit v.form.number in
    let f : Known → Frames → Step Noting Core = λ known fs. assignment (noting known) at.depth at.here fs n (λ below. expand (noting known) turns below at.here fs (whole tree)) in
    let w = c.below.new.units in
    let below = c.in_ok-below.below in
    let h = c.in_ok-below.ensures in
    let w1 = c.note.new.units in
    let asked : Known → Frames → Noting → Noting = λ known fs s. (noting known).ask (Meant fs n.name ∷ []) s in
    let notes = meant_notes c.args.work.now w w1 c.args.at below 1 u h c.args.name n name c.target-target.result c.target-target.ensures c.note.ensures.noted in
    let now = enough_noted w w1 below.depth turns c.note.ensures.rest (below_enough u w at below 1 h turns enough) in
    let e = c.in_err-value.field-0.0 in
    runs_err Q a d region u v at.scope c.from_residual-in_err-value.result e f c.from_residual-in_err-value.ensures.1
    (assigned_fails a d region u w v at below h c.args.name n name (λ known fs depth o t1. expand (noting known) turns depth o fs (whole tree) ((noting known).ask (Meant fs n.name ∷ []) t1)) Q e (asked_runs Q a d region w w1 v below.scope c.note.ensures.rest asked notes (Err e) (λ known fs. expand (noting known) turns below.depth below.here fs (whole tree)) (c.in_err-value.ensures.runs tree turns stands now)))

pub assign-returns-in_err-new-clause-runs : goal.assign-returns-in_err-new-clause-runs
assign-returns-in_err-new-clause-runs t c = λ n tree turns name stands enough.
    let a = c.args.work.now in
    let d = c.expand.new.work in
    let region = c.args.region.now in
    let u = c.args.units.now in
    let v = c.expand.new.units in
    let at = c.args.at in
    let Q : List Frames → code_core.Core → Core → Type 0 = λ layout. CoreStands d v.unit v.form.number in
    let f : Known → Frames → Step Noting Core = λ known fs. assignment (noting known) at.depth at.here fs n (λ below. expand (noting known) turns below at.here fs (whole tree)) in
    let w = c.below.new.units in
    let below = c.in_ok-below.below in
    let h = c.in_ok-below.ensures in
    let w1 = c.note.new.units in
    let asked : Known → Frames → Noting → Noting = λ known fs s. (noting known).ask (Meant fs n.name ∷ []) s in
    let notes = meant_notes c.args.work.now w w1 c.args.at below 1 u h c.args.name n name c.target-target.result c.target-target.ensures c.note.ensures.noted in
    let now = enough_noted w w1 below.depth turns c.note.ensures.rest (below_enough u w at below 1 h turns enough) in
    let g : Known → Frames → Step Noting Core = λ known fs. expand (noting known) turns below.depth below.here fs (whole tree) in
    runs_err Q a d region u v at.scope c.from_residual-in_err-new.result fault.Memory f c.from_residual-in_err-new.ensures.1
    (assigned_fails a d region u w v at below h c.args.name n name (λ known fs depth o t1. expand (noting known) turns depth o fs (whole tree) ((noting known).ask (Meant fs n.name ∷ []) t1)) Q fault.Memory (asked_runs Q a d region w w1 v below.scope c.note.ensures.rest asked notes (Err fault.Memory) g (runs_memory Q Q a d region w1 v below.scope c.in_ok-value.value g g (c.in_ok-value.ensures.runs tree turns stands now))))

pub assign-returns-clause-runs : goal.assign-returns-clause-runs
assign-returns-clause-runs t c = λ n tree turns name stands enough.
    let a = c.args.work.now in
    let d = c.expand.new.work in
    let region = c.args.region.now in
    let u = c.args.units.now in
    let v = c.expand.new.units in
    let at = c.args.at in
    let Q : List Frames → code_core.Core → Core → Type 0 = λ layout. CoreStands d v.unit v.form.number in
    let w = c.below.new.units in
    let below = c.in_ok-below.below in
    let h = c.in_ok-below.ensures in
    let w1 = c.note.new.units in
    let asked : Known → Frames → Noting → Noting = λ known fs s. (noting known).ask (Meant fs n.name ∷ []) s in
    let notes = meant_notes c.args.work.now w w1 c.args.at below 1 u h c.args.name n name c.target-target.result c.target-target.ensures c.note.ensures.noted in
    let now = enough_noted w w1 below.depth turns c.note.ensures.rest (below_enough u w at below 1 h turns enough) in
    let x = c.target-target.result in
    let y = c.in_ok-new.field-0 in
    let after = expand_after a d region w1 v below c.args.value c.in_ok-value.value (look_on a w w1 c.note.ensures.rest below.scope (below_look u w at below 1 h a c.requires.look)) c.requires.value c.in_ok-value.ensures.runs in
    assigned_runs a d region u w v at below h c.args.name n name (λ known fs depth o t1. expand (noting known) turns depth o fs (whole tree) ((noting known).ask (Meant fs n.name ∷ []) t1)) x y after.work (same_on w w1 v (noted_same w w1 c.note.ensures.rest) after.same) (λ ls s fs n e there is. c.target-target.ensures ls (state_of s) fs n (plainly a w ls s e) there is)
    (asked_runs Q a d region w w1 v below.scope c.note.ensures.rest asked notes (Ok y.value) (λ known fs. expand (noting known) turns below.depth below.here fs (whole tree))
    (subst (λ (q : code_core.Core). Runs Q a d region w1 v below.scope (Ok q) (λ known fs. expand (noting known) turns below.depth below.here fs (whole tree))) (sym c.in_ok-new.ensures.ok) (c.in_ok-value.ensures.runs tree turns stands now)))

pub assign-returns-clause-locals : goal.assign-returns-clause-locals
assign-returns-clause-locals t c =
    spends_on c.args.units.now c.below.new.units c.expand.new.units (below_spends c.args.units.now c.below.new.units c.args.at c.in_ok-below.below 1 c.in_ok-below.ensures)
    (subst (λ (x : UnitScope). Spends 0 x c.expand.new.units) c.note.ensures.rest c.in_ok-value.ensures.locals)

pub assign_procedure-below-requires : goal.assign_procedure-below-requires
assign_procedure-below-requires t c = c.requires.look.stands.form.few_nodes

pub assign_procedure-target-target-requires-clause-look : goal.assign_procedure-target-target-requires-clause-look
assign_procedure-target-target-requires-clause-look t c =
    plain_look c.args.work.now c.below.new.units c.args.at.scope (subst (λ (k : ℕ). CanLook c.args.work.now c.below.new.units k) c.in_ok-below.ensures.0
    (below_look c.args.units.now c.below.new.units c.args.at c.in_ok-below.below 1 c.in_ok-below.ensures c.args.work.now c.requires.look))

pub assign_procedure-target-target-requires-clause-ident : goal.assign_procedure-target-target-requires-clause-ident
assign_procedure-target-target-requires-clause-ident t c = slice_get_within c.args.work.now.symbols.idents c.args.name.ident c.requires.name.0.name c.requires.name.1.0

pub assign_procedure-note-requires : goal.assign_procedure-note-requires
assign_procedure-note-requires t c =
    let a = c.args.work.now in
    let w = c.below.new.units in
    let l = below_look c.args.units.now w c.args.at c.in_ok-below.below 1 c.in_ok-below.ensures a c.requires.look in
    let at = subst (λ (k : ℕ). At l.layout k l.frames) c.in_ok-below.ensures.0 l.at in
    slice_get_within a.symbols.idents _ _ (c.target-target.ensures l.layout (state_of l.state) l.frames c.requires.name.0 (plainly a w l.layout l.state l.stands) at c.requires.name.1).ident

pub assign_procedure-lambda-requires : goal.assign_procedure-lambda-requires
assign_procedure-lambda-requires t c =
    let u = c.args.units.now in
    let a = c.args.work.now in
    let w = c.below.new.units in
    let w1 = c.note.new.units in
    let below = c.in_ok-below.below in
    let h = c.in_ok-below.ensures in
    let is : c.args.at.depth ≡ below.depth + 1 = h.2.0 in (
      first_of (omega (arith, is), omega arith, search rules, grind arith),
      (c.requires.opened, (look_on a w w1 c.note.ensures.rest below.scope (below_look u w c.args.at below 1 h a c.requires.look), (c.requires.clause, subst (HasRoom (2 ^ 43)) (sym c.note.ensures.rest) (below_room u w c.args.at below 1 h (2 ^ 43) c.requires.room)))),
    )

pub assign_procedure-returns-in_err-below-clause-runs : goal.assign_procedure-returns-in_err-below-clause-runs
assign_procedure-returns-in_err-below-clause-runs t c = λ n m turns name clause enough.
    let a = c.args.work.now in
    let d = c.args.work.now in
    let region = c.args.region.now in
    let u = c.args.units.now in
    let v = c.below.new.units in
    let at = c.args.at in
    let Q : List Frames → code_core.Core → Core → Type 0 = λ layout. CoreStands d v.unit v.form.number in
    let f : Known → Frames → Step Noting Core = λ known fs. assignment (noting known) at.depth at.here fs n (λ below. lambda (expand (noting known) turns) (noting known) below at.here fs m) in
    let e = c.in_err-below.field-0.0 in
    runs_err Q a d region u v at.scope c.from_residual.result e f c.from_residual.ensures.1
    (node_none Q a region u v at 1 e (λ known fs below t1. lambda (expand (noting known) turns) (noting known) below at.here fs m ((noting known).ask (Meant fs n.name ∷ []) t1) >>= λ x. done (Set (target_of (noting known) fs t1 n.name n.occ) x)) c.in_err-below.ensures)

pub assign_procedure-returns-in_err-value-clause-runs : goal.assign_procedure-returns-in_err-value-clause-runs
assign_procedure-returns-in_err-value-clause-runs t c = λ n m turns name clause enough.
    let a = c.args.work.now in
    let d = c.lambda.new.work in
    let region = c.args.region.now in
    let u = c.args.units.now in
    let v = c.lambda.new.units in
    let at = c.args.at in
    let Q : List Frames → code_core.Core → Core → Type 0 = λ layout. CoreStands d v.unit v.form.number in
    let f : Known → Frames → Step Noting Core = λ known fs. assignment (noting known) at.depth at.here fs n (λ below. lambda (expand (noting known) turns) (noting known) below at.here fs m) in
    let w = c.below.new.units in
    let below = c.in_ok-below.below in
    let h = c.in_ok-below.ensures in
    let w1 = c.note.new.units in
    let asked : Known → Frames → Noting → Noting = λ known fs s. (noting known).ask (Meant fs n.name ∷ []) s in
    let notes = meant_notes c.args.work.now w w1 c.args.at below 1 u h c.args.name n name c.target-target.result c.target-target.ensures c.note.ensures.noted in
    let now = enough_here below.depth w1.form.budget.uses turns (enough_noted w w1 below.depth turns c.note.ensures.rest (below_enough u w at below 1 h turns enough)) in
    let e = c.in_err-value.field-0.0 in
    runs_err Q a d region u v at.scope c.from_residual-in_err-value.result e f c.from_residual-in_err-value.ensures.1
    (assigned_fails a d region u w v at below h c.args.name n name (λ known fs depth o t1. lambda (expand (noting known) turns) (noting known) depth o fs m ((noting known).ask (Meant fs n.name ∷ []) t1)) Q e (asked_runs Q a d region w w1 v below.scope c.note.ensures.rest asked notes (Err e) (λ known fs. lambda (expand (noting known) turns) (noting known) below.depth below.here fs m) (c.in_err-value.ensures.runs m turns clause now)))

pub assign_procedure-returns-in_err-new-clause-runs : goal.assign_procedure-returns-in_err-new-clause-runs
assign_procedure-returns-in_err-new-clause-runs t c = λ n m turns name clause enough.
    let a = c.args.work.now in
    let d = c.lambda.new.work in
    let region = c.args.region.now in
    let u = c.args.units.now in
    let v = c.lambda.new.units in
    let at = c.args.at in
    let Q : List Frames → code_core.Core → Core → Type 0 = λ layout. CoreStands d v.unit v.form.number in
    let f : Known → Frames → Step Noting Core = λ known fs. assignment (noting known) at.depth at.here fs n (λ below. lambda (expand (noting known) turns) (noting known) below at.here fs m) in
    let w = c.below.new.units in
    let below = c.in_ok-below.below in
    let h = c.in_ok-below.ensures in
    let w1 = c.note.new.units in
    let asked : Known → Frames → Noting → Noting = λ known fs s. (noting known).ask (Meant fs n.name ∷ []) s in
    let notes = meant_notes c.args.work.now w w1 c.args.at below 1 u h c.args.name n name c.target-target.result c.target-target.ensures c.note.ensures.noted in
    let now = enough_here below.depth w1.form.budget.uses turns (enough_noted w w1 below.depth turns c.note.ensures.rest (below_enough u w at below 1 h turns enough)) in
    let g : Known → Frames → Step Noting Core = λ known fs. lambda (expand (noting known) turns) (noting known) below.depth below.here fs m in
    runs_err Q a d region u v at.scope c.from_residual-in_err-new.result fault.Memory f c.from_residual-in_err-new.ensures.1
    (assigned_fails a d region u w v at below h c.args.name n name (λ known fs depth o t1. lambda (expand (noting known) turns) (noting known) depth o fs m ((noting known).ask (Meant fs n.name ∷ []) t1)) Q fault.Memory (asked_runs Q a d region w w1 v below.scope c.note.ensures.rest asked notes (Err fault.Memory) g (runs_memory Q Q a d region w1 v below.scope c.in_ok-value.value g g (c.in_ok-value.ensures.runs m turns clause now))))

pub assign_procedure-returns-clause-runs : goal.assign_procedure-returns-clause-runs
assign_procedure-returns-clause-runs t c = λ n m turns name clause enough.
    let a = c.args.work.now in
    let d = c.lambda.new.work in
    let region = c.args.region.now in
    let u = c.args.units.now in
    let v = c.lambda.new.units in
    let at = c.args.at in
    let Q : List Frames → code_core.Core → Core → Type 0 = λ layout. CoreStands d v.unit v.form.number in
    let w = c.below.new.units in
    let below = c.in_ok-below.below in
    let h = c.in_ok-below.ensures in
    let w1 = c.note.new.units in
    let asked : Known → Frames → Noting → Noting = λ known fs s. (noting known).ask (Meant fs n.name ∷ []) s in
    let notes = meant_notes c.args.work.now w w1 c.args.at below 1 u h c.args.name n name c.target-target.result c.target-target.ensures c.note.ensures.noted in
    let now = enough_here below.depth w1.form.budget.uses turns (enough_noted w w1 below.depth turns c.note.ensures.rest (below_enough u w at below 1 h turns enough)) in
    let x = c.target-target.result in
    let y = c.in_ok-new.field-0 in
    let after = lambda_after a d region w1 v below c.args.clause.now c.in_ok-value.value (look_on a w w1 c.note.ensures.rest below.scope (below_look u w at below 1 h a c.requires.look)) c.requires.clause c.in_ok-value.ensures.runs in
    assigned_runs a d region u w v at below h c.args.name n name (λ known fs depth o t1. lambda (expand (noting known) turns) (noting known) depth o fs m ((noting known).ask (Meant fs n.name ∷ []) t1)) x y after.work (same_on w w1 v (noted_same w w1 c.note.ensures.rest) after.same) (λ ls s fs n e there is. c.target-target.ensures ls (state_of s) fs n (plainly a w ls s e) there is)
    (asked_runs Q a d region w w1 v below.scope c.note.ensures.rest asked notes (Ok y.value) (λ known fs. lambda (expand (noting known) turns) (noting known) below.depth below.here fs m)
    (subst (λ (q : code_core.Core). Runs Q a d region w1 v below.scope (Ok q) (λ known fs. lambda (expand (noting known) turns) (noting known) below.depth below.here fs m)) (sym c.in_ok-new.ensures.ok) (c.in_ok-value.ensures.runs m turns clause now)))

pub assign_procedure-returns-clause-locals : goal.assign_procedure-returns-clause-locals
assign_procedure-returns-clause-locals t c =
    spends_on c.args.units.now c.below.new.units c.lambda.new.units (below_spends c.args.units.now c.below.new.units c.args.at c.in_ok-below.below 1 c.in_ok-below.ensures)
    (subst (λ (x : UnitScope). Spends 0 x c.lambda.new.units) c.note.ensures.rest c.in_ok-value.ensures.locals)

-- ---- later definitions, read as assignments

pub expand_kept_item-assign-requires : goal.expand_kept_item-assign-requires
expand_kept_item-assign-requires t c =
    let a = c.args.work.now in
    let region = c.args.region.now in
    let u = c.args.units.now in
    let i = c.requires.kept.0 in
    let for = (subst (λ (x : code_kept.Kept). KeptFor a region u.unit u.form.number x i) c.in-Assigned.is c.requires.kept.1) in
    let placed = c.in_place-in-Assigned.ensures in
    let depth : c.in_place-in-Assigned.result.depth ≡ c.args.at.depth = ap (λ (x : code_at.At). x.depth) placed in
    let name = as_assigned a region u.unit u.form.number (λ x. HasNumber a c.in-Assigned.name) c.in-Assigned.name c.in-Assigned.form i for (λ n m name form. (n, name)) in
    let value = as_assigned a region u.unit u.form.number (λ x. IsAtWork a region c.in-Assigned.form.tree) c.in-Assigned.name c.in-Assigned.form i for (λ n m name form. ((m.tree, form.1.0), form.1.1)) in (
      first_of (omega (arith, depth), omega arith, search rules, grind arith),
      (c.requires.opened, (subst (λ (x : code_at.At). CanLook a u x.scope) (sym placed) c.requires.look, (name, (value, c.requires.room)))),
    )

pub expand_kept_item-returns-in_err-value-in-Assigned-clause-runs : goal.expand_kept_item-returns-in_err-value-in-Assigned-clause-runs
expand_kept_item-returns-in_err-value-in-Assigned-clause-runs t c = λ i turns for enough.
    let a = c.args.work.now in
    let d = c.assign.new.work in
    let region = c.args.region.now in
    let u = c.args.units.now in
    let v = c.assign.new.units in
    let at = c.args.at in
    let placed = c.in_place-in-Assigned.result in
    let less = subst (λ (x : code_at.At). IsEnoughBelow x.depth u.form.budget.uses turns) (sym c.in_place-in-Assigned.ensures) (enough_here at.depth u.form.budget.uses turns enough) in
    let P : List Frames → code_core.Core → Core → Type 0 = λ layout. CoreStands d v.unit v.form.number in
    let Q : List Frames → code_part.CorePart → Part → Type 0 = λ layout. PartStands d v.unit v.form.number in
    let f : Item Identifier → Known → Frames → Step Noting Part = λ x known fs. item_part (expand (noting known) turns) (noting known) at.depth fs x in
    let e = c.in_err-value-in-Assigned.field-0.0 in
    runs_err Q a d region u v at.scope c.from_residual-in_err-value-in-Assigned.result e (f i) c.from_residual-in_err-value-in-Assigned.ensures.1
    (as_assigned a region u.unit u.form.number (λ x. Runs Q a d region u v at.scope (Err e) (f x)) c.in-Assigned.name c.in-Assigned.form i (subst (λ (x : code_kept.Kept). KeptFor a region u.unit u.form.number x i) c.in-Assigned.is for) (λ n m name form. item_assigned_fails a d region u v at.scope turns at.depth P Q n m e (placed_runs P a d region u v at placed m.here (c.in_place-in-Assigned.ensures ∙ ap (λ (o : Option Occ). record at { here = o }) form.0) (Err e) (λ depth o known fs. assignment (noting known) depth o fs n (λ below. expand (noting known) turns below o fs (whole m.tree))) (c.in_err-value-in-Assigned.ensures.runs n m.tree turns name form.1.0 less))))

pub expand_kept_item-returns-in_ok-value-in-Assigned-clause-runs : goal.expand_kept_item-returns-in_ok-value-in-Assigned-clause-runs
expand_kept_item-returns-in_ok-value-in-Assigned-clause-runs t c = λ i turns for enough.
    let a = c.args.work.now in
    let d = c.assign.new.work in
    let region = c.args.region.now in
    let u = c.args.units.now in
    let v = c.assign.new.units in
    let at = c.args.at in
    let placed = c.in_place-in-Assigned.result in
    let less = subst (λ (x : code_at.At). IsEnoughBelow x.depth u.form.budget.uses turns) (sym c.in_place-in-Assigned.ensures) (enough_here at.depth u.form.budget.uses turns enough) in
    let P : List Frames → code_core.Core → Core → Type 0 = λ layout. CoreStands d v.unit v.form.number in
    let Q : List Frames → code_part.CorePart → Part → Type 0 = λ layout. PartStands d v.unit v.form.number in
    let f : Item Identifier → Known → Frames → Step Noting Part = λ x known fs. item_part (expand (noting known) turns) (noting known) at.depth fs x in
    let x = c.in_ok-value-in-Assigned.value in
    as_assigned a region u.unit u.form.number (λ y. Runs Q a d region u v at.scope (Ok (core_parts.Expression x)) (f y)) c.in-Assigned.name c.in-Assigned.form i (subst (λ (x : code_kept.Kept). KeptFor a region u.unit u.form.number x i) c.in-Assigned.is for) (λ n m name form. item_assigned a d region u v at.scope turns at.depth n m x (placed_runs P a d region u v at placed m.here (c.in_place-in-Assigned.ensures ∙ ap (λ (o : Option Occ). record at { here = o }) form.0) (Ok x) (λ depth o known fs. assignment (noting known) depth o fs n (λ below. expand (noting known) turns below o fs (whole m.tree))) (c.in_ok-value-in-Assigned.ensures.runs n m.tree turns name form.1.0 less)))

pub expand_kept_item-returns-in_ok-value-in-Assigned-clause-locals : goal.expand_kept_item-returns-in_ok-value-in-Assigned-clause-locals
expand_kept_item-returns-in_ok-value-in-Assigned-clause-locals t c = c.in_ok-value-in-Assigned.ensures.locals

pub expand_kept_item-assign_procedure-requires : goal.expand_kept_item-assign_procedure-requires
expand_kept_item-assign_procedure-requires t c =
    let a = c.args.work.now in
    let region = c.args.region.now in
    let u = c.args.units.now in
    let i = c.requires.kept.0 in
    let for = (subst (λ (x : code_kept.Kept). KeptFor a region u.unit u.form.number x i) c.in-AssignedFunction.is c.requires.kept.1) in
    let placed = c.in_place-in-AssignedFunction.ensures in
    let depth : c.in_place-in-AssignedFunction.result.depth ≡ c.args.at.depth = ap (λ (x : code_at.At). x.depth) placed in
    let name = as_assigned_function a region u.unit u.form.number (λ x. HasNumber a c.in-AssignedFunction.name) c.in-AssignedFunction.name c.in-AssignedFunction.here c.in-AssignedFunction.clause i for (λ n m name clause. (n, name)) in
    let value = as_assigned_function a region u.unit u.form.number (λ x. ClauseAtWork a region c.in-AssignedFunction.clause) c.in-AssignedFunction.name c.in-AssignedFunction.here c.in-AssignedFunction.clause i for (λ n m name clause. (m, clause)) in (
      first_of (omega (arith, depth), omega arith, search rules, grind arith),
      (c.requires.opened, (subst (λ (x : code_at.At). CanLook a u x.scope) (sym placed) c.requires.look, (name, (value, c.requires.room)))),
    )

pub expand_kept_item-returns-in_err-value-in-AssignedFunction-clause-runs : goal.expand_kept_item-returns-in_err-value-in-AssignedFunction-clause-runs
expand_kept_item-returns-in_err-value-in-AssignedFunction-clause-runs t c = λ i turns for enough.
    let a = c.args.work.now in
    let d = c.assign_procedure.new.work in
    let region = c.args.region.now in
    let u = c.args.units.now in
    let v = c.assign_procedure.new.units in
    let at = c.args.at in
    let placed = c.in_place-in-AssignedFunction.result in
    let less = subst (λ (x : code_at.At). IsEnoughBelow x.depth u.form.budget.uses turns) (sym c.in_place-in-AssignedFunction.ensures) (enough_here at.depth u.form.budget.uses turns enough) in
    let P : List Frames → code_core.Core → Core → Type 0 = λ layout. CoreStands d v.unit v.form.number in
    let Q : List Frames → code_part.CorePart → Part → Type 0 = λ layout. PartStands d v.unit v.form.number in
    let f : Item Identifier → Known → Frames → Step Noting Part = λ x known fs. item_part (expand (noting known) turns) (noting known) at.depth fs x in
    let e = c.in_err-value-in-AssignedFunction.field-0.0 in
    runs_err Q a d region u v at.scope c.from_residual-in_err-value-in-AssignedFunction.result e (f i) c.from_residual-in_err-value-in-AssignedFunction.ensures.1
    (as_assigned_function a region u.unit u.form.number (λ x. Runs Q a d region u v at.scope (Err e) (f x)) c.in-AssignedFunction.name c.in-AssignedFunction.here c.in-AssignedFunction.clause i (subst (λ (x : code_kept.Kept). KeptFor a region u.unit u.form.number x i) c.in-AssignedFunction.is for) (λ n m name clause. item_assigned_function_fails a d region u v at.scope turns at.depth P Q n c.in-AssignedFunction.here m e (placed_runs P a d region u v at placed c.in-AssignedFunction.here c.in_place-in-AssignedFunction.ensures (Err e) (λ depth o known fs. assignment (noting known) depth o fs n (λ below. lambda (expand (noting known) turns) (noting known) below o fs m)) (c.in_err-value-in-AssignedFunction.ensures.runs n m turns name clause less))))

pub expand_kept_item-returns-in_ok-value-in-AssignedFunction-clause-runs : goal.expand_kept_item-returns-in_ok-value-in-AssignedFunction-clause-runs
expand_kept_item-returns-in_ok-value-in-AssignedFunction-clause-runs t c = λ i turns for enough.
    let a = c.args.work.now in
    let d = c.assign_procedure.new.work in
    let region = c.args.region.now in
    let u = c.args.units.now in
    let v = c.assign_procedure.new.units in
    let at = c.args.at in
    let placed = c.in_place-in-AssignedFunction.result in
    let less = subst (λ (x : code_at.At). IsEnoughBelow x.depth u.form.budget.uses turns) (sym c.in_place-in-AssignedFunction.ensures) (enough_here at.depth u.form.budget.uses turns enough) in
    let P : List Frames → code_core.Core → Core → Type 0 = λ layout. CoreStands d v.unit v.form.number in
    let Q : List Frames → code_part.CorePart → Part → Type 0 = λ layout. PartStands d v.unit v.form.number in
    let f : Item Identifier → Known → Frames → Step Noting Part = λ x known fs. item_part (expand (noting known) turns) (noting known) at.depth fs x in
    let x = c.in_ok-value-in-AssignedFunction.value in
    as_assigned_function a region u.unit u.form.number (λ y. Runs Q a d region u v at.scope (Ok (core_parts.Expression x)) (f y)) c.in-AssignedFunction.name c.in-AssignedFunction.here c.in-AssignedFunction.clause i (subst (λ (x : code_kept.Kept). KeptFor a region u.unit u.form.number x i) c.in-AssignedFunction.is for) (λ n m name clause. item_assigned_function a d region u v at.scope turns at.depth n c.in-AssignedFunction.here m x (placed_runs P a d region u v at placed c.in-AssignedFunction.here c.in_place-in-AssignedFunction.ensures (Ok x) (λ depth o known fs. assignment (noting known) depth o fs n (λ below. lambda (expand (noting known) turns) (noting known) below o fs m)) (c.in_ok-value-in-AssignedFunction.ensures.runs n m turns name clause less)))

pub expand_kept_item-returns-in_ok-value-in-AssignedFunction-clause-locals : goal.expand_kept_item-returns-in_ok-value-in-AssignedFunction-clause-locals
expand_kept_item-returns-in_ok-value-in-AssignedFunction-clause-locals t c = c.in_ok-value-in-AssignedFunction.ensures.locals
