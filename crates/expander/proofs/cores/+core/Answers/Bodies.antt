-- Bodies, clauses and procedures.
use Rattle.std.proofs.Common.{◌≡◌, ◌+◌, ◌^◌, ◌≤◌, List, length, Ok, Err, Vec, rules, refl, sym, ap, subst, arith}
use Rattle.std.specs.declared.alloc.Global.{Global}
use Rattle.scheme_model.specs.Trees.{Trees}
use Rattle.scheme_model.specs.Measures.{trees_size}
use Rattle.scheme_model.specs.Ident.{Ident as Identifier}
use Rattle.scheme_model.specs.Requirements.{Known}
use Rattle.scheme_model.specs.Shapes.{Clause}
use Rattle.scheme_model.specs.Cores.{Core, Clauses, Lambda, Binders}
use Rattle.scheme_model.specs.Steps.{Step, ◌>>=◌, done}
use Rattle.scheme_model.specs.Expression.{body, expand, procedure, clauses, lambda}
use Rattle.scheme_model.specs.ScopedExpansion.{Frames}
use Rattle.syntax_tree.specs.Looks.{PartsStand}
use Rattle.syntax_tree.specs.declared.trees.nodes.Tree as number
use Rattle.core_forms.specs.Parts.{AllMatch as AllParts, IsName}
use Rattle.core_forms.specs.declared.shape.ClauseShape.{ClauseShape}
use Rattle.core_forms.specs.declared.shape.NamePart.{NamePart}
use Rattle.core_tree.specs.Names.{AllMatch}
use Rattle.core_tree.specs.Cores.{CoreStands, ClausesStand}
use Rattle.core_tree.specs.declared.cores.Clause as code_clause
use Rattle.core_tree.specs.declared.cores.Core as code_core
use Rattle.core_tree.specs.declared.cores.Core.TheVariants as cores
use Rattle.expander.specs.Expanded.{AreKeptAtWork, BodyAtWork, ClauseAtWork, ClauseStands}
use Rattle.unit_scopes.specs.Kept.{ClauseFor, KeptFor}
use Rattle.feature_requirements.specs.declared.fault.ExpandFault.TheVariants as fault
use Rattle.form_parts.specs.declared.items.Kept as code_kept
use Rattle.unit_scopes.specs.declared.scope.UnitScope.{UnitScope}
use Rattle.expander.proofs.AfterLaws.{opened_on, room_on, spends_itself, spends_on, enough_later}
use Rattle.expander.proofs.BelowLaws.{below_look, below_room, below_spends, below_enough}
use Rattle.expander.proofs.BodyRuns.{parts_once, binds_after, body_turned, body_unbegun, body_stops, body_fails, body_runs, some_turns, scope_within, few_bound, bound_within, names_count, runs_nothing, room_bound, spends_bound, room_passed, spends_passed}
use Rattle.expander.proofs.CoreLaws.{procedure_fails, procedure_ends}
use Rattle.unit_scopes.proofs.CoreStandLaws.{clause_on}
use Rattle.expander.proofs.CycleCalls.{procedure_after, pass_after}
use Rattle.expander.proofs.FormRuns.{lambda_runs, lambda_fails}
use Rattle.expander.proofs.LoopLaws.{after_itself, after_on, runs_none, runs_told, runs_failed}
use Rattle.expander.proofs.RowLaws.{clauses_row, clauses_of, clauses_stand, match_all}
use Rattle.expander.proofs.RowRuns.{row_one_more, row_stops, runs_memory, clauses_go_on, clause_at_work, item_as}
use Rattle.expander.proofs.StepLaws.{runs_err, node_none}
use Rattle.expander.proofs.cores.+core.Goals as goal
use Rattle.noted_steps.specs.Noting.{Noting, noting}
use Rattle.noted_steps.specs.Outcomes.{Runs}

-- ---- a body

pub body-below-requires : goal.body-below-requires
body-below-requires t c = c.requires.look.stands.form.few_nodes

pub body-returns-in_err-below-clause-runs : goal.body-returns-in_err-below-clause-runs
body-returns-in_err-below-clause-runs t c = λ ts turns stands enough.
    let a = c.args.work.now in
    let u = c.args.units.now in
    let w1 = c.below.new.units in
    let at = c.args.at in
    let e = c.in_err-below.field-0.0 in
    let few = c.requires.look.stands.form.few_uses in
    let n = some_turns at.depth u.form.budget.uses turns few enough in
    let Q : List Frames → code_core.Core → Core → Type 0 = λ layout. CoreStands a w1.unit w1.form.number in
    runs_err Q a a c.args.region.now u w1 at.scope c.from_residual.result e (λ known fs. expand (noting known) turns at.depth at.here fs (body ts)) c.from_residual.ensures.1
    (body_turned a a c.args.region.now u w1 at turns n.0 ts n.1 Q (Err e) (body_unbegun a c.args.region.now u w1 at n.0 ts Q e c.in_err-below.ensures))

pub body-pass_body-requires-clause-opened : goal.body-pass_body-requires-clause-opened
body-pass_body-requires-clause-opened t c = c.requires.opened

pub body-pass_body-requires-clause-can : goal.body-pass_body-requires-clause-can
body-pass_body-requires-clause-can t c =
    let u = c.args.units.now in
    let w1 = c.below.new.units in
    let b = c.in_ok-below.below in
    record {
      look = below_look u w1 c.args.at b 1 c.in_ok-below.ensures c.args.work.now c.requires.look;
      trees = c.requires.forms.0;
      stand = c.requires.forms.1;
      named = c.requires.forms.2;
      small = c.requires.forms.3;
      room = below_room u w1 c.args.at b 1 c.in_ok-below.ensures (2 ^ 42) c.requires.room;
    }

pub body-returns-in_err-scope-clause-runs : goal.body-returns-in_err-scope-clause-runs
body-returns-in_err-scope-clause-runs t c = λ ts turns stands enough.
    let a = c.args.work.now in
    let b = c.pass_body.new.work in
    let u = c.args.units.now in
    let w1 = c.below.new.units in
    let w = c.pass_body.new.units in
    let at = c.args.at in
    let e = c.in_err-scope.field-0.0 in
    let few = c.requires.look.stands.form.few_uses in
    let n = some_turns at.depth u.form.budget.uses turns few enough in
    let f = c.requires.forms in
    let small = subst (λ (x : Trees Identifier). trees_size x ≤ 4194304) (parts_once a c.args.forms.now f.0 ts f.1 stands) f.3 in
    let Q : List Frames → code_core.Core → Core → Type 0 = λ layout. CoreStands b w.unit w.form.number in
    runs_err Q a b c.args.region.now u w at.scope c.from_residual-in_err-scope.result e (λ known fs. expand (noting known) turns at.depth at.here fs (body ts)) c.from_residual-in_err-scope.ensures.1
    (body_turned a b c.args.region.now u w at turns n.0 ts n.1 Q (Err e)
    (body_stops a b c.args.region.now u w1 w at c.in_ok-below.below n.0 ts c.in_ok-below.ensures Q e (c.in_err-scope.ensures.passed ts n.0 stands small n.2)))

pub body-expand_kept-requires : goal.body-expand_kept-requires
body-expand_kept-requires t c =
    let a = c.args.work.now in
    let b = c.pass_body.new.work in
    let region = c.args.region.now in
    let u = c.args.units.now in
    let w1 = c.below.new.units in
    let w = c.pass_body.new.units in
    let below = c.in_ok-below.below in
    let h = c.in_ok-below.ensures in
    let is : c.args.at.depth ≡ below.depth + 1 = h.2.0 in
    let pass = pass_after a b region w1 w below c.args.forms.now c.in_ok-scope.scope c.in_ok-scope.aside (below_look u w1 c.args.at below 1 h a c.requires.look) c.requires.forms c.in_ok-scope.ensures.passed in (
      first_of (omega (arith, is), omega arith, search rules, grind arith),
      (opened_on a b region pass.after.work c.requires.opened, (pass.after.look, (subst (AreKeptAtWork b region w) (sym c.deref.ensures.value) pass.kept, room_passed u w1 w (ap (λ (x : UnitScope). x.form.budget.locals) h.2.2) (ap (λ (x : UnitScope). x.form.budget.nodes) h.2.2) c.in_ok-scope.ensures.locals pass.after.same.nodes c.requires.room))),
    )

pub body-returns-in_err-expand_kept-clause-runs : goal.body-returns-in_err-expand_kept-clause-runs
body-returns-in_err-expand_kept-clause-runs t c = λ ts turns stands enough.
    let a = c.args.work.now in
    let b = c.pass_body.new.work in
    let d = c.expand_kept.new.work in
    let region = c.args.region.now in
    let u = c.args.units.now in
    let w1 = c.below.new.units in
    let w = c.pass_body.new.units in
    let v = c.expand_kept.new.units in
    let at = c.args.at in
    let below = c.in_ok-below.below in
    let h = c.in_ok-below.ensures in
    let e = c.in_err-expand_kept.field-0.0 in
    let few = c.requires.look.stands.form.few_uses in
    let n = some_turns at.depth u.form.budget.uses turns few enough in
    let f = c.requires.forms in
    let small = subst (λ (x : Trees Identifier). trees_size x ≤ 4194304) (parts_once a c.args.forms.now f.0 ts f.1 stands) f.3 in
    let pass = pass_after a b region w1 w below c.args.forms.now c.in_ok-scope.scope c.in_ok-scope.aside (below_look u w1 at below 1 h a c.requires.look) f c.in_ok-scope.ensures.passed in
    let Q : List Frames → code_core.Core → Core → Type 0 = λ layout. CoreStands d v.unit v.form.number in
    runs_err Q a d region u v at.scope c.from_residual-in_err-expand_kept.result e (λ known fs. expand (noting known) turns at.depth at.here fs (body ts)) c.from_residual-in_err-expand_kept.ensures.1
    (body_turned a d region u v at turns n.0 ts n.1 Q (Err e)
    (body_fails a b d region u w1 w v at below n.0 ts h c.in_ok-scope.scope c.in_ok-scope.aside (c.in_ok-scope.ensures.passed ts n.0 stands small n.2) Q e
    (λ is match. c.in_err-expand_kept.ensures.runs is n.0 (subst (λ (l : List code_kept.Kept). AllMatch (KeptFor b region w.unit w.form.number) l is) (sym c.deref.ensures.value) match)
    (enough_later below.depth w1.form.budget.uses w.form.budget.uses n.0 pass.after.same.uses (below_enough u w1 at below 1 h n.0 n.3)))))

pub body-returns-clause-runs : goal.body-returns-clause-runs
body-returns-clause-runs t c = λ ts turns stands enough.
    let a = c.args.work.now in
    let b = c.pass_body.new.work in
    let d = c.expand_kept.new.work in
    let region = c.args.region.now in
    let u = c.args.units.now in
    let w1 = c.below.new.units in
    let w = c.pass_body.new.units in
    let v = c.expand_kept.new.units in
    let at = c.args.at in
    let below = c.in_ok-below.below in
    let h = c.in_ok-below.ensures in
    let ps = c.in_ok-expand_kept.field-0 in
    let few = c.requires.look.stands.form.few_uses in
    let n = some_turns at.depth u.form.budget.uses turns few enough in
    let f = c.requires.forms in
    let small = subst (λ (x : Trees Identifier). trees_size x ≤ 4194304) (parts_once a c.args.forms.now f.0 ts f.1 stands) f.3 in
    let pass = pass_after a b region w1 w below c.args.forms.now c.in_ok-scope.scope c.in_ok-scope.aside (below_look u w1 at below 1 h a c.requires.look) f c.in_ok-scope.ensures.passed in
    body_turned a d region u v at turns n.0 ts n.1 (λ (layout : List Frames). CoreStands d v.unit v.form.number) (Ok (cores.Body ps))
    (body_runs a b d region u w1 w v at below n.0 ts h c.in_ok-scope.scope c.in_ok-scope.aside (c.in_ok-scope.ensures.passed ts n.0 stands small n.2) ps
    (λ is match. c.in_ok-expand_kept.ensures.runs is n.0 (subst (λ (l : List code_kept.Kept). AllMatch (KeptFor b region w.unit w.form.number) l is) (sym c.deref.ensures.value) match)
    (enough_later below.depth w1.form.budget.uses w.form.budget.uses n.0 pass.after.same.uses (below_enough u w1 at below 1 h n.0 n.3))))

pub body-returns-clause-locals : goal.body-returns-clause-locals
body-returns-clause-locals t c =
    let a = c.args.work.now in
    let b = c.pass_body.new.work in
    let u = c.args.units.now in
    let w1 = c.below.new.units in
    let w = c.pass_body.new.units in
    let below = c.in_ok-below.below in
    let h = c.in_ok-below.ensures in
    let pass = pass_after a b c.args.region.now w1 w below c.args.forms.now c.in_ok-scope.scope c.in_ok-scope.aside (below_look u w1 c.args.at below 1 h a c.requires.look) c.requires.forms c.in_ok-scope.ensures.passed in
    spends_passed u w1 w c.expand_kept.new.units (ap (λ (x : UnitScope). x.form.budget.locals) h.2.2) (ap (λ (x : UnitScope). x.form.budget.nodes) h.2.2) c.in_ok-scope.ensures.locals pass.after.same.nodes c.in_ok-expand_kept.ensures.locals

-- ---- a clause

pub procedure-bind_names-requires-clause-scope : goal.procedure-bind_names-requires-clause-scope
procedure-bind_names-requires-clause-scope t c = scope_within c.args.work.now c.args.units.now c.args.at.scope c.requires.look

pub procedure-bind_names-requires-clause-room : goal.procedure-bind_names-requires-clause-room
procedure-bind_names-requires-clause-room t c =
    let a = c.args.work.now in
    let for = c.requires.clause.1 in
    let names = subst (λ (l : List NamePart). AllParts (IsName a) l c.requires.clause.0.formals.names) (sym c.deref.ensures.value) for.0.formals.names in
    let few : length c.deref.result.now ≤ 4194304 = omega (arith, names_count (IsName a) c.deref.result.now c.requires.clause.0.formals.names names, for.2.0) in
    few_bound c.args.units.now (length c.deref.result.now) c.requires.look.stands.form.few_nodes few c.requires.room

pub procedure-returns-in_err-scope-clause-runs : goal.procedure-returns-in_err-scope-clause-runs
procedure-returns-in_err-scope-clause-runs t c = λ m turns for enough.
    let a = c.args.work.now in
    let v = c.bind_names.new.self in
    let at = c.args.at in
    let Q : List Frames → code_clause.Clause → Binders × Core → Type 0 = λ layout. ClauseStands a v.unit v.form.number in
    let f : Known → Frames → Step Noting (Binders × Core) = λ known fs. procedure (expand (noting known) turns) (noting known) at.depth at.here fs m in
    runs_err Q a a c.args.region.now c.args.units.now v at.scope c.from_residual.result fault.Memory f c.from_residual.ensures.1 (runs_nothing Q a c.args.region.now c.args.units.now v at.scope f)

pub procedure-body-requires : goal.procedure-body-requires
procedure-body-requires t c =
    let a = c.args.work.now in
    let region = c.args.region.now in
    let u = c.args.units.now in
    let w = c.bind_names.new.self in
    let m = c.requires.clause.0 in
    let for = c.requires.clause.1 in
    let xs = c.deref.result.now in
    let names = subst (λ (l : List NamePart). AllParts (IsName a) l m.formals.names) (sym c.deref.ensures.value) for.0.formals.names in
    let few : length xs ≤ 4194304 = omega (arith, names_count (IsName a) xs m.formals.names names, for.2.0) in
    let h = c.in_ok-scope.ensures in
    let after = binds_after a region u w c.args.at.scope xs m.formals.names c.in_ok-scope.scope c.in_ok-scope.binders.items c.told_apart.ensures.idents c.sound.ensures names (bound_within u (length xs) few c.requires.room) h c.requires.look in (
      first_of (omega arith, search rules, grind arith),
      (c.requires.opened, (after.look, (subst (BodyAtWork a region) (sym c.deref-2.ensures.value) (m.body, for.0.body, for.1, for.2.1), room_bound u w (length xs) (ap (λ (x : UnitScope). x.form.budget.locals) h.after) after.same.nodes few c.requires.room))),
    )

pub procedure-returns-in_err-body-clause-runs : goal.procedure-returns-in_err-body-clause-runs
procedure-returns-in_err-body-clause-runs t c = λ m turns for enough.
    let a = c.args.work.now in
    let d = c.body.new.work in
    let region = c.args.region.now in
    let u = c.args.units.now in
    let w = c.bind_names.new.self in
    let v = c.body.new.units in
    let at = c.args.at in
    let xs = c.deref.result.now in
    let names = subst (λ (l : List NamePart). AllParts (IsName a) l m.formals.names) (sym c.deref.ensures.value) for.0.formals.names in
    let few : length xs ≤ 4194304 = omega (arith, names_count (IsName a) xs m.formals.names names, for.2.0) in
    let room = bound_within u (length xs) few c.requires.room in
    let h = c.in_ok-scope.ensures in
    let after = binds_after a region u w at.scope xs m.formals.names c.in_ok-scope.scope c.in_ok-scope.binders.items c.told_apart.ensures.idents c.sound.ensures names room h c.requires.look in
    let e = c.in_err-body.field-0.0 in
    let Q : List Frames → code_clause.Clause → Binders × Core → Type 0 = λ layout. ClauseStands d v.unit v.form.number in
    let runs = c.in_err-body.ensures.runs m.body turns (subst (λ (l : List number.Tree). PartsStand a l m.body) (sym c.deref-2.ensures.value) for.0.body) (enough_later at.depth u.form.budget.uses w.form.budget.uses turns after.same.uses enough) in
    runs_err Q a d region u v at.scope c.from_residual-in_err-body.result e (λ known fs. procedure (expand (noting known) turns) (noting known) at.depth at.here fs m) c.from_residual-in_err-body.ensures.1
    (λ known ls s fs knows stands there. procedure_fails known turns at.depth at.here a d region u w v ls s at.scope fs xs c.args.clause.now.formals.dotted m c.in_ok-scope.scope c.in_ok-scope.binders knows c.told_apart.ensures.idents c.sound.ensures names for.0.formals.rest room stands there h Q e runs)

pub procedure-returns-in_err-new-clause-runs : goal.procedure-returns-in_err-new-clause-runs
procedure-returns-in_err-new-clause-runs t c = λ m turns for enough.
    let a = c.args.work.now in
    let d = c.body.new.work in
    let region = c.args.region.now in
    let u = c.args.units.now in
    let w = c.bind_names.new.self in
    let v = c.body.new.units in
    let at = c.args.at in
    let xs = c.deref.result.now in
    let names = subst (λ (l : List NamePart). AllParts (IsName a) l m.formals.names) (sym c.deref.ensures.value) for.0.formals.names in
    let few : length xs ≤ 4194304 = omega (arith, names_count (IsName a) xs m.formals.names names, for.2.0) in
    let room = bound_within u (length xs) few c.requires.room in
    let h = c.in_ok-scope.ensures in
    let after = binds_after a region u w at.scope xs m.formals.names c.in_ok-scope.scope c.in_ok-scope.binders.items c.told_apart.ensures.idents c.sound.ensures names room h c.requires.look in
    let P : List Frames → code_core.Core → Core → Type 0 = λ layout. CoreStands d v.unit v.form.number in
    let Q : List Frames → code_clause.Clause → Binders × Core → Type 0 = λ layout. ClauseStands d v.unit v.form.number in
    let f : Known → Frames → Step Noting Core = λ known fs. expand (noting known) turns at.depth at.here fs (body m.body) in
    let runs = c.in_ok-body.ensures.runs m.body turns (subst (λ (l : List number.Tree). PartsStand a l m.body) (sym c.deref-2.ensures.value) for.0.body) (enough_later at.depth u.form.budget.uses w.form.budget.uses turns after.same.uses enough) in
    runs_err Q a d region u v at.scope c.from_residual-in_err-new.result fault.Memory (λ known fs. procedure (expand (noting known) turns) (noting known) at.depth at.here fs m) c.from_residual-in_err-new.ensures.1
    (λ known ls s fs knows stands there. procedure_fails known turns at.depth at.here a d region u w v ls s at.scope fs xs c.args.clause.now.formals.dotted m c.in_ok-scope.scope c.in_ok-scope.binders knows c.told_apart.ensures.idents c.sound.ensures names for.0.formals.rest room stands there h Q fault.Memory
    (runs_memory P P a d region w v c.in_ok-scope.scope c.in_ok-body.body f f runs))

pub procedure-returns-clause-runs : goal.procedure-returns-clause-runs
procedure-returns-clause-runs t c = λ m turns for enough.
    let a = c.args.work.now in
    let d = c.body.new.work in
    let region = c.args.region.now in
    let u = c.args.units.now in
    let w = c.bind_names.new.self in
    let v = c.body.new.units in
    let at = c.args.at in
    let xs = c.deref.result.now in
    let names = subst (λ (l : List NamePart). AllParts (IsName a) l m.formals.names) (sym c.deref.ensures.value) for.0.formals.names in
    let few : length xs ≤ 4194304 = omega (arith, names_count (IsName a) xs m.formals.names names, for.2.0) in
    let room = bound_within u (length xs) few c.requires.room in
    let h = c.in_ok-scope.ensures in
    let after = binds_after a region u w at.scope xs m.formals.names c.in_ok-scope.scope c.in_ok-scope.binders.items c.told_apart.ensures.idents c.sound.ensures names room h c.requires.look in
    let runs = c.in_ok-body.ensures.runs m.body turns (subst (λ (l : List number.Tree). PartsStand a l m.body) (sym c.deref-2.ensures.value) for.0.body) (enough_later at.depth u.form.budget.uses w.form.budget.uses turns after.same.uses enough) in
    let y = c.in_ok-new.field-0 in
    let boxed = subst (λ (x : code_core.Core). Runs (λ (layout : List Frames). CoreStands d v.unit v.form.number) a d region w v c.in_ok-scope.scope (Ok x) (λ known fs. expand (noting known) turns at.depth at.here fs (body m.body))) (sym c.in_ok-new.ensures.ok) runs in
    λ known ls s fs knows stands there. procedure_ends known turns at.depth at.here a d region u w v ls s at.scope fs xs c.args.clause.now.formals.dotted m c.in_ok-scope.scope c.in_ok-scope.binders knows c.told_apart.ensures.idents c.sound.ensures names for.0.formals.rest room stands there h
    (code_clause.roll-Clause (record { binders = c.in_ok-scope.binders; dotted = c.args.clause.now.formals.dotted; body = y })) y refl boxed

pub procedure-returns-clause-locals : goal.procedure-returns-clause-locals
procedure-returns-clause-locals t c =
    let a = c.args.work.now in
    let u = c.args.units.now in
    let w = c.bind_names.new.self in
    let m = c.requires.clause.0 in
    let for = c.requires.clause.1 in
    let xs = c.deref.result.now in
    let names = subst (λ (l : List NamePart). AllParts (IsName a) l m.formals.names) (sym c.deref.ensures.value) for.0.formals.names in
    let few : length xs ≤ 4194304 = omega (arith, names_count (IsName a) xs m.formals.names names, for.2.0) in
    let h = c.in_ok-scope.ensures in
    let same : w.form.budget.nodes ≡ u.form.budget.nodes = ap (λ (x : UnitScope). x.form.budget.nodes) h.after in
    spends_bound u w c.body.new.units (length xs) (ap (λ (x : UnitScope). x.form.budget.locals) h.after) (omega (arith, same)) few c.in_ok-body.ensures.locals

-- ---- clauses in a row

pub procedures-returns-in_err-all-clause-runs : goal.procedures-returns-in_err-all-clause-runs
procedures-returns-in_err-all-clause-runs t c = λ cs turns match enough.
    let a = c.args.work.now in
    let u = c.args.units.now in
    let at = c.args.at in
    let Q : List Frames → Vec code_clause.Clause Global → Clauses → Type 0 = λ layout xs. ClausesStand a u.unit u.form.number xs.items in
    let f : Known → Frames → Step Noting Clauses = λ known fs. clauses (expand (noting known) turns) (noting known) at.depth at.here fs cs in
    runs_err Q a a c.args.region.now u u at.scope c.from_residual.result fault.Memory f c.from_residual.ensures.1 (runs_nothing Q a c.args.region.now u u at.scope f)

pub procedures-loop-clause-init : goal.procedures-loop-clause-init
procedures-loop-clause-init t c = record {
  after = after_itself c.args.work.now c.args.region.now c.args.units.now c.args.at.scope c.requires.look;
  spends = spends_itself c.args.units.now;
  runs = λ cs turns match enough.
      runs_none (λ known fs. procedure (expand (noting known) turns) (noting known) c.args.at.depth c.args.at.here fs) (ClauseStands c.args.work.now c.args.units.now.unit c.args.units.now.form.number) c.args.work.now c.args.region.now c.args.units.now c.args.at.scope
      c.in_ok-all.all.items c.in_ok-all.ensures.items;
}

pub procedures-procedure-requires : goal.procedures-procedure-requires
procedures-procedure-requires t c =
    let h = c.loop-clause.invariant in (
      first_of (omega arith, search rules, grind arith),
      (opened_on c.args.work.now c.loop-clause.work c.args.region.now h.after.work c.requires.opened, (h.after.look, (item_as (ClauseAtWork c.loop-clause.work c.args.region.now) c.loop-clause.clause-index c.args.shapes.now c.clause-item.result c.clause-item.is (clause_at_work c.args.work.now c.loop-clause.work c.args.region.now c.args.shapes.now c.loop-clause.clause-index c.clause-item.result h.after.work c.requires.clauses c.loop-clause-test.true), room_on (2 ^ 43) c.args.units.now c.loop-clause.units h.spends c.requires.room))),
    )

pub procedures-returns-in_err-next-clause-runs : goal.procedures-returns-in_err-next-clause-runs
procedures-returns-in_err-next-clause-runs t c = λ cs turns match enough.
    let a = c.args.work.now in
    let b = c.loop-clause.work in
    let d = c.procedure.new.work in
    let region = c.args.region.now in
    let u = c.args.units.now in
    let w = c.loop-clause.units in
    let v = c.procedure.new.units in
    let at = c.args.at in
    let e = c.in_err-next.field-0.0 in
    let h = c.loop-clause.invariant in
    let later = enough_later at.depth u.form.budget.uses w.form.budget.uses turns h.after.same.uses enough in
    let f : Known → Frames → Clause Identifier → Step Noting (Binders × Core) = λ known fs. procedure (expand (noting known) turns) (noting known) at.depth at.here fs in
    runs_failed f clauses_of (λ known fs. clauses (expand (noting known) turns) (noting known) at.depth at.here fs cs) cs (λ known fs s. clauses_row (expand (noting known) turns) (noting known) at.depth at.here fs cs s) a d region u v at.scope
    (λ (layout : List Frames). AllMatch (ClauseStands d v.unit v.form.number)) (λ (layout : List Frames) (xs : Vec code_clause.Clause Global). ClausesStand d v.unit v.form.number xs.items) c.from_residual-in_err-next.result e c.from_residual-in_err-next.ensures.1
    (row_stops f (ClauseFor a region) (ClauseStands b w.unit w.form.number) a b d region u w v at.scope c.loop-clause.all.items c.loop-clause.clause-index c.args.shapes.now cs c.clause-item.result match c.loop-clause-test.true (h.runs cs turns match enough)
    (λ (layout : List Frames). ClauseStands d v.unit v.form.number) (λ (layout : List Frames). AllMatch (ClauseStands d v.unit v.form.number)) e (λ form stands. c.in_err-next.ensures.runs form turns (clause_on a b h.after.work.trees h.after.work.names 0 0 region c.clause-item.result form (item_as (λ (x : ClauseShape). ClauseFor a region x form) c.loop-clause.clause-index c.args.shapes.now c.clause-item.result c.clause-item.is stands)) later))

pub procedures-returns-in_err-push-clause-runs : goal.procedures-returns-in_err-push-clause-runs
procedures-returns-in_err-push-clause-runs t c = λ cs turns match enough.
    let a = c.args.work.now in
    let b = c.loop-clause.work in
    let d = c.procedure.new.work in
    let region = c.args.region.now in
    let u = c.args.units.now in
    let w = c.loop-clause.units in
    let v = c.procedure.new.units in
    let at = c.args.at in
    let h = c.loop-clause.invariant in
    let later = enough_later at.depth u.form.budget.uses w.form.budget.uses turns h.after.same.uses enough in
    let f : Known → Frames → Clause Identifier → Step Noting (Binders × Core) = λ known fs. procedure (expand (noting known) turns) (noting known) at.depth at.here fs in
    runs_failed f clauses_of (λ known fs. clauses (expand (noting known) turns) (noting known) at.depth at.here fs cs) cs (λ known fs s. clauses_row (expand (noting known) turns) (noting known) at.depth at.here fs cs s) a d region u v at.scope
    (λ (layout : List Frames). AllMatch (ClauseStands d v.unit v.form.number)) (λ (layout : List Frames) (xs : Vec code_clause.Clause Global). ClausesStand d v.unit v.form.number xs.items) c.from_residual-in_err-push.result fault.Memory c.from_residual-in_err-push.ensures.1
    (row_stops f (ClauseFor a region) (ClauseStands b w.unit w.form.number) a b d region u w v at.scope c.loop-clause.all.items c.loop-clause.clause-index c.args.shapes.now cs c.clause-item.result match c.loop-clause-test.true (h.runs cs turns match enough)
    (λ (layout : List Frames). ClauseStands d v.unit v.form.number) (λ (layout : List Frames). AllMatch (ClauseStands d v.unit v.form.number)) fault.Memory
    (λ form stands. runs_memory (λ (layout : List Frames). ClauseStands d v.unit v.form.number) (λ (layout : List Frames). ClauseStands d v.unit v.form.number) b d region w v at.scope c.in_ok-next.next (λ known fs. f known fs form) (λ known fs. f known fs form)
    (c.in_ok-next.ensures.runs form turns (clause_on a b h.after.work.trees h.after.work.names 0 0 region c.clause-item.result form (item_as (λ (x : ClauseShape). ClauseFor a region x form) c.loop-clause.clause-index c.args.shapes.now c.clause-item.result c.clause-item.is stands)) later)))

pub procedures-loop-clause-preserved : goal.procedures-loop-clause-preserved
procedures-loop-clause-preserved t c =
    let a = c.args.work.now in
    let b = c.loop-clause.work in
    let d = c.procedure.new.work in
    let region = c.args.region.now in
    let u = c.args.units.now in
    let w = c.loop-clause.units in
    let v = c.procedure.new.units in
    let at = c.args.at in
    let h = c.loop-clause.invariant in
    let works = item_as (ClauseAtWork c.loop-clause.work c.args.region.now) c.loop-clause.clause-index c.args.shapes.now c.clause-item.result c.clause-item.is (clause_at_work a b region c.args.shapes.now c.loop-clause.clause-index c.clause-item.result h.after.work c.requires.clauses c.loop-clause-test.true) in
    let after = procedure_after b d region w v at c.clause-item.result c.in_ok-next.next h.after.look works c.in_ok-next.ensures.runs in
    record {
      after = after_on a b d region u w v at.scope at.scope h.after after;
      spends = spends_on u w v h.spends c.in_ok-next.ensures.locals;
      runs = λ cs turns match enough.
          let later = enough_later at.depth u.form.budget.uses w.form.budget.uses turns h.after.same.uses enough in
          row_one_more (λ known fs. procedure (expand (noting known) turns) (noting known) at.depth at.here fs) (ClauseFor a region) (ClauseStands b w.unit w.form.number) (ClauseStands d v.unit v.form.number) (clauses_go_on b d region w v after.work after.same) a b d region u w v at.scope
          c.loop-clause.all.items c.loop-clause.clause-index c.args.shapes.now cs c.clause-item.result match c.loop-clause-test.true (h.runs cs turns match enough) c.push.new.self.items c.in_ok-next.next c.in_ok-push.ensures.items
          (λ form stands. c.in_ok-next.ensures.runs form turns (clause_on a b h.after.work.trees h.after.work.names 0 0 region c.clause-item.result form (item_as (λ (x : ClauseShape). ClauseFor a region x form) c.loop-clause.clause-index c.args.shapes.now c.clause-item.result c.clause-item.is stands)) later);
    }

pub procedures-returns-clause-runs : goal.procedures-returns-clause-runs
procedures-returns-clause-runs t c = λ cs turns match enough.
    let a = c.args.work.now in
    let b = c.loop-clause.work in
    let region = c.args.region.now in
    let u = c.args.units.now in
    let w = c.loop-clause.units in
    let at = c.args.at in
    let f : Known → Frames → Clause Identifier → Step Noting (Binders × Core) = λ known fs. procedure (expand (noting known) turns) (noting known) at.depth at.here fs in
    runs_told f clauses_of (λ known fs. clauses (expand (noting known) turns) (noting known) at.depth at.here fs cs) cs (λ known fs s. clauses_row (expand (noting known) turns) (noting known) at.depth at.here fs cs s) a b c.args.region.now u w at.scope
    (ClauseStands b w.unit w.form.number) (λ (xs : Vec code_clause.Clause Global). ClausesStand b w.unit w.form.number xs.items) c.loop-clause.all.items c.loop-clause.all c.loop-clause.clause-index
    (match_all (ClauseFor a region) c.loop-clause.clause-index c.args.shapes.now cs match c.loop-clause-test.false) (λ ms held. clauses_stand b w.unit w.form.number c.loop-clause.all.items ms held) (c.loop-clause.invariant.runs cs turns match enough)

pub procedures-returns-clause-locals : goal.procedures-returns-clause-locals
procedures-returns-clause-locals t c = c.loop-clause.invariant.spends

-- ---- a procedure

pub lambda-below-requires : goal.lambda-below-requires
lambda-below-requires t c = c.requires.look.stands.form.few_nodes

pub lambda-returns-in_err-below-clause-runs : goal.lambda-returns-in_err-below-clause-runs
lambda-returns-in_err-below-clause-runs t c = λ m turns for enough.
    let a = c.args.work.now in
    let v = c.below.new.units in
    let at = c.args.at in
    let e = c.in_err-below.field-0.0 in
    let Q : List Frames → code_core.Core → Core → Type 0 = λ layout. CoreStands a v.unit v.form.number in
    runs_err Q a a c.args.region.now c.args.units.now v at.scope c.from_residual.result e (λ known fs. lambda (expand (noting known) turns) (noting known) at.depth at.here fs m) c.from_residual.ensures.1
    (node_none Q a c.args.region.now c.args.units.now v at 1 e (λ known fs below t1. procedure (expand (noting known) turns) (noting known) below at.here fs m t1 >>= λ q. done (Lambda q.0 q.1)) c.in_err-below.ensures)

pub lambda-procedure-requires : goal.lambda-procedure-requires
lambda-procedure-requires t c =
    let u = c.args.units.now in
    let w = c.below.new.units in
    let below = c.in_ok-below.below in
    let h = c.in_ok-below.ensures in
    let is : c.args.at.depth ≡ below.depth + 1 = h.2.0 in (
      first_of (omega (arith, is), omega arith, search rules, grind arith),
      (c.requires.opened, (below_look u w c.args.at below 1 h c.args.work.now c.requires.look, (c.requires.clause, below_room u w c.args.at below 1 h (2 ^ 43) c.requires.room))),
    )

pub lambda-returns-in_err-procedure-clause-runs : goal.lambda-returns-in_err-procedure-clause-runs
lambda-returns-in_err-procedure-clause-runs t c = λ m turns for enough.
    let a = c.args.work.now in
    let d = c.procedure.new.work in
    let region = c.args.region.now in
    let u = c.args.units.now in
    let w = c.below.new.units in
    let v = c.procedure.new.units in
    let at = c.args.at in
    let below = c.in_ok-below.below in
    let h = c.in_ok-below.ensures in
    let e = c.in_err-procedure.field-0.0 in
    let Q : List Frames → code_core.Core → Core → Type 0 = λ layout. CoreStands d v.unit v.form.number in
    runs_err Q a d region u v at.scope c.from_residual-in_err-procedure.result e (λ known fs. lambda (expand (noting known) turns) (noting known) at.depth at.here fs m) c.from_residual-in_err-procedure.ensures.1
    (lambda_fails a d region u w v at below h turns m Q e (c.in_err-procedure.ensures.runs m turns for (below_enough u w at below 1 h turns enough)))

pub lambda-returns-clause-runs : goal.lambda-returns-clause-runs
lambda-returns-clause-runs t c = λ m turns for enough.
    let u = c.args.units.now in
    let w = c.below.new.units in
    let at = c.args.at in
    let below = c.in_ok-below.below in
    let h = c.in_ok-below.ensures in
    lambda_runs c.args.work.now c.procedure.new.work c.args.region.now u w c.procedure.new.units at below h turns m c.in_ok-procedure.field-0 (c.in_ok-procedure.ensures.runs m turns for (below_enough u w at below 1 h turns enough))

pub lambda-returns-clause-locals : goal.lambda-returns-clause-locals
lambda-returns-clause-locals t c = spends_on c.args.units.now c.below.new.units c.procedure.new.units (below_spends c.args.units.now c.below.new.units c.args.at c.in_ok-below.below 1 c.in_ok-below.ensures) c.in_ok-procedure.ensures.locals
