-- Local macros.
use Rattle.std.proofs.Common.{◌≡◌, ◌+◌, ◌≤◌, List, length, Bool, Ok, rules, sym, ap, ◌∙◌, subst, arith}
use Rattle.scheme_model.specs.Ident.{Ident as Identifier}
use Rattle.scheme_model.specs.Requirements.{Known}
use Rattle.scheme_model.specs.Shapes.{LocalMacros}
use Rattle.scheme_model.specs.Cores.{Core}
use Rattle.scheme_model.specs.Steps.{Step}
use Rattle.scheme_model.specs.Expression.{body, expand}
use Rattle.scheme_model.specs.ScopedExpansion.{Frames}
use Rattle.core_forms.specs.Parts.{AllMatch as AllParts, IsName}
use Rattle.core_forms.specs.declared.shape.NamePart.{NamePart}
use Rattle.core_tree.specs.Cores.{CoreStands}
use Rattle.core_tree.specs.declared.cores.Binder as code_binder
use Rattle.core_tree.specs.declared.cores.Core as code_core
use Rattle.expander.specs.Bodies.{AreLocalMacros, CanKeep, HaveNumbers}
use Rattle.expander.specs.Expanded.{macros_step}
use Rattle.feature_requirements.specs.declared.fault.ExpandFault.TheVariants as fault
use Rattle.unit_scopes.specs.declared.scope.UnitScope.{UnitScope}
use Rattle.expander.proofs.AfterLaws.{enough_deeper}
use Rattle.expander.proofs.BodyRuns.{scope_within, few_bound, bound_within, runs_nothing, room_bound, spends_bound}
use Rattle.expander.proofs.LocalRuns.{RulesAt, KeepsRun, rules_look, tested_look, local_untested, local_unbegun, begun_rules_look, local_heads, local_unkept, kept_there, local_body_fails, local_body_goes, macros_few, binders_count}
use Rattle.expander.proofs.LooseLaws.{look_on}
use Rattle.expander.proofs.RowRuns.{runs_memory}
use Rattle.expander.proofs.ShapeParts.{macros_named}
use Rattle.expander.proofs.StepLaws.{runs_err}
use Rattle.expander.proofs.cores.+core.Goals as goal
use Rattle.expander.proofs.cores.+core.Goals.{local_macros-then-recursive, local_macros-else-recursive}
use Rattle.noted_steps.specs.Noting.{Noting, noting}
use Rattle.noted_steps.specs.Outcomes.{Runs}

-- ---- local macros

pub local_macros-returns-in_err-names_of-clause-runs : goal.local_macros-returns-in_err-names_of-clause-runs
local_macros-returns-in_err-names_of-clause-runs t c = λ m turns are stand enough.
    let a = c.args.work.now in
    let u = c.args.units.now in
    let at = c.args.at in
    let Q : List Frames → code_core.Core → Core → Type 0 = λ layout. CoreStands a u.unit u.form.number in
    let f : Known → Frames → Step Noting Core = λ known fs. macros_step c.args.recursive (expand (noting known) turns) (noting known) at.depth at.here fs m in
    runs_err Q a a c.args.region.now u u at.scope c.from_residual.result fault.Memory f c.from_residual.ensures.1 (runs_nothing Q a c.args.region.now u u at.scope f)

pub local_macros-bind_names-requires-clause-scope : goal.local_macros-bind_names-requires-clause-scope
local_macros-bind_names-requires-clause-scope t c = scope_within c.args.work.now c.args.units.now c.args.at.scope c.requires.look

pub local_macros-bind_names-requires-clause-room : goal.local_macros-bind_names-requires-clause-room
local_macros-bind_names-requires-clause-room t c =
    let few = macros_few c.args.work.now c.args.macros.now c.deref.result.now c.requires.macros (c.deref.ensures.value ∙ c.in_ok-names_of.ensures) in
    few_bound c.args.units.now (length c.deref.result.now) c.requires.look.stands.form.few_nodes few c.requires.room

pub local_macros-returns-in_err-scope-clause-runs : goal.local_macros-returns-in_err-scope-clause-runs
local_macros-returns-in_err-scope-clause-runs t c = λ m turns are stand enough.
    let a = c.args.work.now in
    let v = c.bind_names.new.self in
    let at = c.args.at in
    let Q : List Frames → code_core.Core → Core → Type 0 = λ layout. CoreStands a v.unit v.form.number in
    let f : Known → Frames → Step Noting Core = λ known fs. macros_step c.args.recursive (expand (noting known) turns) (noting known) at.depth at.here fs m in
    runs_err Q a a c.args.region.now c.args.units.now v at.scope c.from_residual-in_err-scope.result fault.Memory f c.from_residual-in_err-scope.ensures.1 (runs_nothing Q a c.args.region.now c.args.units.now v at.scope f)

pub local_macros-test_all_rules-requires-clause-look : goal.local_macros-test_all_rules-requires-clause-look
local_macros-test_all_rules-requires-clause-look t c =
    let a = c.args.work.now in
    let region = c.args.region.now in
    let u = c.args.units.now in
    let w1 = c.bind_names.new.self in
    let at = c.args.at in
    let xs = c.deref.result.now in
    let inner = c.in_ok-scope.scope in
    let rules_at = c.if-recursive.rules_at in
    let bs = c.in_ok-scope.binders.items in
    let apart = c.told_apart.ensures.idents in
    let sound = c.sound.ensures in
    let h = c.in_ok-scope.ensures in
    let named = c.deref.ensures.value ∙ c.in_ok-names_of.ensures in
    let few = macros_few a c.args.macros.now xs c.requires.macros named in
    let room = bound_within u (length xs) few c.requires.room in
    let place : RulesAt c.args.recursive rules_at inner at.scope = elim c.if-recursive.branch [
      | local_macros-then-recursive w ↦ subst (λ (b : Bool). RulesAt b rules_at inner at.scope) (sym w.if-recursive.true) w.rules_at-is
      | local_macros-else-recursive w ↦ subst (λ (b : Bool). RulesAt b rules_at inner at.scope) (sym w.if-recursive.false) w.rules_at-is
    ] in
    let m : LocalMacros Identifier = record { names = c.requires.macros.0; rules = c.requires.macros.1; body = c.requires.forms.0 } in
    let are = c.requires.macros.2 in
    let names = subst (λ (l : List NamePart). AllParts (IsName a) l m.names) (sym named) (macros_named a c.args.macros.now m.names m.rules are) in
    rules_look a region u w1 at c.args.recursive m c.args.macros.now xs inner rules_at bs apart sound names room h place are c.requires.look

pub local_macros-test_all_rules-requires-clause-rules : goal.local_macros-test_all_rules-requires-clause-rules
local_macros-test_all_rules-requires-clause-rules t c = (c.requires.macros.0, c.requires.macros.1, c.requires.macros.2)

pub local_macros-returns-in_err-test_all_rules-clause-runs : goal.local_macros-returns-in_err-test_all_rules-clause-runs
local_macros-returns-in_err-test_all_rules-clause-runs t c = λ m turns are stand enough.
    let a = c.args.work.now in
    let region = c.args.region.now in
    let u = c.args.units.now in
    let w1 = c.bind_names.new.self in
    let at = c.args.at in
    let xs = c.deref.result.now in
    let inner = c.in_ok-scope.scope in
    let rules_at = c.if-recursive.rules_at in
    let bs = c.in_ok-scope.binders.items in
    let apart = c.told_apart.ensures.idents in
    let sound = c.sound.ensures in
    let h = c.in_ok-scope.ensures in
    let named = c.deref.ensures.value ∙ c.in_ok-names_of.ensures in
    let few = macros_few a c.args.macros.now xs c.requires.macros named in
    let room = bound_within u (length xs) few c.requires.room in
    let place : RulesAt c.args.recursive rules_at inner at.scope = elim c.if-recursive.branch [
      | local_macros-then-recursive w ↦ subst (λ (b : Bool). RulesAt b rules_at inner at.scope) (sym w.if-recursive.true) w.rules_at-is
      | local_macros-else-recursive w ↦ subst (λ (b : Bool). RulesAt b rules_at inner at.scope) (sym w.if-recursive.false) w.rules_at-is
    ] in
    let names = subst (λ (l : List NamePart). AllParts (IsName a) l m.names) (sym named) (macros_named a c.args.macros.now m.names m.rules are) in
    let d = c.args.work.now in
    let v = c.test_all_rules.new.units in
    let Q : List Frames → code_core.Core → Core → Type 0 = λ layout. CoreStands d v.unit v.form.number in
    let f : Known → Frames → Step Noting Core = λ known fs. macros_step c.args.recursive (expand (noting known) turns) (noting known) at.depth at.here fs m in
    runs_err Q a d region u v at.scope c.from_residual-in_err-test_all_rules.result c.in_err-test_all_rules.field-0.0 f c.from_residual-in_err-test_all_rules.ensures.1
    (local_untested a region u w1 at c.args.recursive m c.args.macros.now xs inner rules_at bs apart sound names room h place are Q turns v c.in_err-test_all_rules.field-0.0 c.in_err-test_all_rules.ensures.tested)

pub local_macros-below-requires : goal.local_macros-below-requires
local_macros-below-requires t c =
    let a = c.args.work.now in
    let region = c.args.region.now in
    let u = c.args.units.now in
    let w1 = c.bind_names.new.self in
    let at = c.args.at in
    let xs = c.deref.result.now in
    let inner = c.in_ok-scope.scope in
    let rules_at = c.if-recursive.rules_at in
    let bs = c.in_ok-scope.binders.items in
    let apart = c.told_apart.ensures.idents in
    let sound = c.sound.ensures in
    let h = c.in_ok-scope.ensures in
    let named = c.deref.ensures.value ∙ c.in_ok-names_of.ensures in
    let few = macros_few a c.args.macros.now xs c.requires.macros named in
    let room = bound_within u (length xs) few c.requires.room in
    let place : RulesAt c.args.recursive rules_at inner at.scope = elim c.if-recursive.branch [
      | local_macros-then-recursive w ↦ subst (λ (b : Bool). RulesAt b rules_at inner at.scope) (sym w.if-recursive.true) w.rules_at-is
      | local_macros-else-recursive w ↦ subst (λ (b : Bool). RulesAt b rules_at inner at.scope) (sym w.if-recursive.false) w.rules_at-is
    ] in
    let m : LocalMacros Identifier = record { names = c.requires.macros.0; rules = c.requires.macros.1; body = c.requires.forms.0 } in
    let are = c.requires.macros.2 in
    let names = subst (λ (l : List NamePart). AllParts (IsName a) l m.names) (sym named) (macros_named a c.args.macros.now m.names m.rules are) in
    (tested_look a region u w1 at c.args.recursive m c.args.macros.now xs inner rules_at bs apart sound names room h place are c.test_all_rules.new.units tt c.in_ok-test_all_rules.ensures.tested c.requires.look).stands.form.few_nodes

pub local_macros-returns-in_err-below-clause-runs : goal.local_macros-returns-in_err-below-clause-runs
local_macros-returns-in_err-below-clause-runs t c = λ m turns are stand enough.
    let a = c.args.work.now in
    let region = c.args.region.now in
    let u = c.args.units.now in
    let w1 = c.bind_names.new.self in
    let at = c.args.at in
    let xs = c.deref.result.now in
    let inner = c.in_ok-scope.scope in
    let rules_at = c.if-recursive.rules_at in
    let bs = c.in_ok-scope.binders.items in
    let apart = c.told_apart.ensures.idents in
    let sound = c.sound.ensures in
    let h = c.in_ok-scope.ensures in
    let named = c.deref.ensures.value ∙ c.in_ok-names_of.ensures in
    let few = macros_few a c.args.macros.now xs c.requires.macros named in
    let room = bound_within u (length xs) few c.requires.room in
    let place : RulesAt c.args.recursive rules_at inner at.scope = elim c.if-recursive.branch [
      | local_macros-then-recursive w ↦ subst (λ (b : Bool). RulesAt b rules_at inner at.scope) (sym w.if-recursive.true) w.rules_at-is
      | local_macros-else-recursive w ↦ subst (λ (b : Bool). RulesAt b rules_at inner at.scope) (sym w.if-recursive.false) w.rules_at-is
    ] in
    let names = subst (λ (l : List NamePart). AllParts (IsName a) l m.names) (sym named) (macros_named a c.args.macros.now m.names m.rules are) in
    let d = c.args.work.now in
    let v = c.below.new.units in
    let Q : List Frames → code_core.Core → Core → Type 0 = λ layout. CoreStands d v.unit v.form.number in
    let f : Known → Frames → Step Noting Core = λ known fs. macros_step c.args.recursive (expand (noting known) turns) (noting known) at.depth at.here fs m in
    runs_err Q a d region u v at.scope c.from_residual-in_err-below.result c.in_err-below.field-0.0 f c.from_residual-in_err-below.ensures.1
    (local_unbegun a region u w1 at c.args.recursive m c.args.macros.now xs inner rules_at bs apart sound names room h place are c.test_all_rules.new.units tt c.in_ok-test_all_rules.ensures.tested v Q turns c.in_err-below.field-0.0 c.in_err-below.ensures)

pub local_macros-keep_all-requires-clause-look : goal.local_macros-keep_all-requires-clause-look
local_macros-keep_all-requires-clause-look t c =
    let a = c.args.work.now in
    let region = c.args.region.now in
    let u = c.args.units.now in
    let w1 = c.bind_names.new.self in
    let at = c.args.at in
    let xs = c.deref.result.now in
    let inner = c.in_ok-scope.scope in
    let rules_at = c.if-recursive.rules_at in
    let bs = c.in_ok-scope.binders.items in
    let apart = c.told_apart.ensures.idents in
    let sound = c.sound.ensures in
    let h = c.in_ok-scope.ensures in
    let named = c.deref.ensures.value ∙ c.in_ok-names_of.ensures in
    let few = macros_few a c.args.macros.now xs c.requires.macros named in
    let room = bound_within u (length xs) few c.requires.room in
    let place : RulesAt c.args.recursive rules_at inner at.scope = elim c.if-recursive.branch [
      | local_macros-then-recursive w ↦ subst (λ (b : Bool). RulesAt b rules_at inner at.scope) (sym w.if-recursive.true) w.rules_at-is
      | local_macros-else-recursive w ↦ subst (λ (b : Bool). RulesAt b rules_at inner at.scope) (sym w.if-recursive.false) w.rules_at-is
    ] in
    let m : LocalMacros Identifier = record { names = c.requires.macros.0; rules = c.requires.macros.1; body = c.requires.forms.0 } in
    let are = c.requires.macros.2 in
    let names = subst (λ (l : List NamePart). AllParts (IsName a) l m.names) (sym named) (macros_named a c.args.macros.now m.names m.rules are) in
    let w2 = c.below.new.units in
    let below = c.in_ok-below.below in
    let b = c.in_ok-below.ensures in
    begun_rules_look a region u w1 at c.args.recursive m c.args.macros.now xs inner rules_at bs apart sound names room h place are c.test_all_rules.new.units tt c.in_ok-test_all_rules.ensures.tested w2 below b c.requires.look

pub local_macros-keep_all-requires-clause-opened : goal.local_macros-keep_all-requires-clause-opened
local_macros-keep_all-requires-clause-opened t c = (c.args.region.now, c.requires.opened)

pub local_macros-keep_all-requires-clause-rules : goal.local_macros-keep_all-requires-clause-rules
local_macros-keep_all-requires-clause-rules t c =
    let a = c.args.work.now in
    let region = c.args.region.now in
    let u = c.args.units.now in
    let w1 = c.bind_names.new.self in
    let at = c.args.at in
    let xs = c.deref.result.now in
    let inner = c.in_ok-scope.scope in
    let rules_at = c.if-recursive.rules_at in
    let bs = c.in_ok-scope.binders.items in
    let apart = c.told_apart.ensures.idents in
    let sound = c.sound.ensures in
    let h = c.in_ok-scope.ensures in
    let named = c.deref.ensures.value ∙ c.in_ok-names_of.ensures in
    let few = macros_few a c.args.macros.now xs c.requires.macros named in
    let room = bound_within u (length xs) few c.requires.room in
    let place : RulesAt c.args.recursive rules_at inner at.scope = elim c.if-recursive.branch [
      | local_macros-then-recursive w ↦ subst (λ (b : Bool). RulesAt b rules_at inner at.scope) (sym w.if-recursive.true) w.rules_at-is
      | local_macros-else-recursive w ↦ subst (λ (b : Bool). RulesAt b rules_at inner at.scope) (sym w.if-recursive.false) w.rules_at-is
    ] in
    let m : LocalMacros Identifier = record { names = c.requires.macros.0; rules = c.requires.macros.1; body = c.requires.forms.0 } in
    let are = c.requires.macros.2 in
    let names = subst (λ (l : List NamePart). AllParts (IsName a) l m.names) (sym named) (macros_named a c.args.macros.now m.names m.rules are) in
    local_heads a region u w1 at c.args.recursive m c.args.macros.now xs inner rules_at bs apart sound names room h place are c.test_all_rules.new.units tt c.in_ok-test_all_rules.ensures.tested c.requires.look

pub local_macros-keep_all-requires-clause-binders : goal.local_macros-keep_all-requires-clause-binders
local_macros-keep_all-requires-clause-binders t c =
    let a = c.args.work.now in
    let region = c.args.region.now in
    let u = c.args.units.now in
    let w1 = c.bind_names.new.self in
    let at = c.args.at in
    let xs = c.deref.result.now in
    let inner = c.in_ok-scope.scope in
    let rules_at = c.if-recursive.rules_at in
    let bs = c.in_ok-scope.binders.items in
    let apart = c.told_apart.ensures.idents in
    let sound = c.sound.ensures in
    let h = c.in_ok-scope.ensures in
    let named = c.deref.ensures.value ∙ c.in_ok-names_of.ensures in
    let few = macros_few a c.args.macros.now xs c.requires.macros named in
    let room = bound_within u (length xs) few c.requires.room in
    let place : RulesAt c.args.recursive rules_at inner at.scope = elim c.if-recursive.branch [
      | local_macros-then-recursive w ↦ subst (λ (b : Bool). RulesAt b rules_at inner at.scope) (sym w.if-recursive.true) w.rules_at-is
      | local_macros-else-recursive w ↦ subst (λ (b : Bool). RulesAt b rules_at inner at.scope) (sym w.if-recursive.false) w.rules_at-is
    ] in
    binders_count a c.args.macros.now xs bs u.form.budget.locals c.requires.macros named h.bound c.deref-2.result.now c.deref-2.ensures.value

pub local_macros-returns-in_err-keep_all-clause-runs : goal.local_macros-returns-in_err-keep_all-clause-runs
local_macros-returns-in_err-keep_all-clause-runs t c = λ m turns are stand enough.
    let a = c.args.work.now in
    let region = c.args.region.now in
    let u = c.args.units.now in
    let w1 = c.bind_names.new.self in
    let at = c.args.at in
    let xs = c.deref.result.now in
    let inner = c.in_ok-scope.scope in
    let rules_at = c.if-recursive.rules_at in
    let bs = c.in_ok-scope.binders.items in
    let apart = c.told_apart.ensures.idents in
    let sound = c.sound.ensures in
    let h = c.in_ok-scope.ensures in
    let named = c.deref.ensures.value ∙ c.in_ok-names_of.ensures in
    let few = macros_few a c.args.macros.now xs c.requires.macros named in
    let room = bound_within u (length xs) few c.requires.room in
    let place : RulesAt c.args.recursive rules_at inner at.scope = elim c.if-recursive.branch [
      | local_macros-then-recursive w ↦ subst (λ (b : Bool). RulesAt b rules_at inner at.scope) (sym w.if-recursive.true) w.rules_at-is
      | local_macros-else-recursive w ↦ subst (λ (b : Bool). RulesAt b rules_at inner at.scope) (sym w.if-recursive.false) w.rules_at-is
    ] in
    let names = subst (λ (l : List NamePart). AllParts (IsName a) l m.names) (sym named) (macros_named a c.args.macros.now m.names m.rules are) in
    let w2 = c.below.new.units in
    let below = c.in_ok-below.below in
    let b = c.in_ok-below.ensures in
    let d = c.args.work.now in
    let v = c.keep_all.new.units in
    let Q : List Frames → code_core.Core → Core → Type 0 = λ layout. CoreStands d v.unit v.form.number in
    let f : Known → Frames → Step Noting Core = λ known fs. macros_step c.args.recursive (expand (noting known) turns) (noting known) at.depth at.here fs m in
    runs_err Q a d region u v at.scope c.from_residual-in_err-keep_all.result c.in_err-keep_all.field-0.0 f c.from_residual-in_err-keep_all.ensures.1
    (local_unkept a region u w1 at c.args.recursive m c.args.macros.now xs inner rules_at bs apart sound names room h place are c.test_all_rules.new.units tt c.in_ok-test_all_rules.ensures.tested w2 below b Q turns v c.in_err-keep_all.field-0.0 (λ known r ls s fs ns ts vs rs stands there macros numbers read. c.in_err-keep_all.ensures.kept known r ls s fs ns ts vs rs stands there macros (subst (λ (l : List code_binder.Binder). HaveNumbers s l vs) (sym c.deref-2.ensures.value) numbers) read))

pub local_macros-local_defs-requires : goal.local_macros-local_defs-requires
local_macros-local_defs-requires t c =
    let a = c.args.work.now in
    let region = c.args.region.now in
    let u = c.args.units.now in
    let w1 = c.bind_names.new.self in
    let at = c.args.at in
    let xs = c.deref.result.now in
    let inner = c.in_ok-scope.scope in
    let rules_at = c.if-recursive.rules_at in
    let bs = c.in_ok-scope.binders.items in
    let apart = c.told_apart.ensures.idents in
    let sound = c.sound.ensures in
    let h = c.in_ok-scope.ensures in
    let named = c.deref.ensures.value ∙ c.in_ok-names_of.ensures in
    let few = macros_few a c.args.macros.now xs c.requires.macros named in
    let room = bound_within u (length xs) few c.requires.room in
    let place : RulesAt c.args.recursive rules_at inner at.scope = elim c.if-recursive.branch [
      | local_macros-then-recursive w ↦ subst (λ (b : Bool). RulesAt b rules_at inner at.scope) (sym w.if-recursive.true) w.rules_at-is
      | local_macros-else-recursive w ↦ subst (λ (b : Bool). RulesAt b rules_at inner at.scope) (sym w.if-recursive.false) w.rules_at-is
    ] in
    let m : LocalMacros Identifier = record { names = c.requires.macros.0; rules = c.requires.macros.1; body = c.requires.forms.0 } in
    let are = c.requires.macros.2 in
    let names = subst (λ (l : List NamePart). AllParts (IsName a) l m.names) (sym named) (macros_named a c.args.macros.now m.names m.rules are) in
    let w2 = c.below.new.units in
    let below = c.in_ok-below.below in
    let b = c.in_ok-below.ensures in
    let w3 = c.keep_all.new.units in
    let keeps : KeepsRun a region u w1 at c.args.recursive m c.args.macros.now xs inner rules_at bs apart sound names room h place are w2 w3 (Ok tt) = λ known r ls s fs ns ts vs rs stands there macros numbers read. c.in_ok-keep_all.ensures.kept known r ls s fs ns ts vs rs stands there macros (subst (λ (l : List code_binder.Binder). HaveNumbers s l vs) (sym c.deref-2.ensures.value) numbers) read in
    let kept = kept_there a region u w1 at c.args.recursive m c.args.macros.now xs inner rules_at bs apart sound names room h place are c.test_all_rules.new.units tt c.in_ok-test_all_rules.ensures.tested w2 below b w3 tt keeps c.requires.look in
    subst (CanKeep a w3) (sym c.deref-3.ensures.value) kept.keep

pub local_macros-returns-in_err-macros-clause-runs : goal.local_macros-returns-in_err-macros-clause-runs
local_macros-returns-in_err-macros-clause-runs t c = λ m turns are stand enough.
    let a = c.args.work.now in
    let region = c.args.region.now in
    let u = c.args.units.now in
    let w1 = c.bind_names.new.self in
    let at = c.args.at in
    let xs = c.deref.result.now in
    let inner = c.in_ok-scope.scope in
    let rules_at = c.if-recursive.rules_at in
    let bs = c.in_ok-scope.binders.items in
    let apart = c.told_apart.ensures.idents in
    let sound = c.sound.ensures in
    let h = c.in_ok-scope.ensures in
    let named = c.deref.ensures.value ∙ c.in_ok-names_of.ensures in
    let few = macros_few a c.args.macros.now xs c.requires.macros named in
    let room = bound_within u (length xs) few c.requires.room in
    let place : RulesAt c.args.recursive rules_at inner at.scope = elim c.if-recursive.branch [
      | local_macros-then-recursive w ↦ subst (λ (b : Bool). RulesAt b rules_at inner at.scope) (sym w.if-recursive.true) w.rules_at-is
      | local_macros-else-recursive w ↦ subst (λ (b : Bool). RulesAt b rules_at inner at.scope) (sym w.if-recursive.false) w.rules_at-is
    ] in
    let names = subst (λ (l : List NamePart). AllParts (IsName a) l m.names) (sym named) (macros_named a c.args.macros.now m.names m.rules are) in
    let d = c.args.work.now in
    let v = c.local_defs.new.units in
    let Q : List Frames → code_core.Core → Core → Type 0 = λ layout. CoreStands d v.unit v.form.number in
    let f : Known → Frames → Step Noting Core = λ known fs. macros_step c.args.recursive (expand (noting known) turns) (noting known) at.depth at.here fs m in
    runs_err Q a d region u v at.scope c.from_residual-in_err-macros.result fault.Memory f c.from_residual-in_err-macros.ensures.1
    (runs_nothing Q a region u v at.scope f)

pub local_macros-body-requires : goal.local_macros-body-requires
local_macros-body-requires t c =
    let a = c.args.work.now in
    let region = c.args.region.now in
    let u = c.args.units.now in
    let w1 = c.bind_names.new.self in
    let at = c.args.at in
    let xs = c.deref.result.now in
    let inner = c.in_ok-scope.scope in
    let rules_at = c.if-recursive.rules_at in
    let bs = c.in_ok-scope.binders.items in
    let apart = c.told_apart.ensures.idents in
    let sound = c.sound.ensures in
    let h = c.in_ok-scope.ensures in
    let named = c.deref.ensures.value ∙ c.in_ok-names_of.ensures in
    let few = macros_few a c.args.macros.now xs c.requires.macros named in
    let room = bound_within u (length xs) few c.requires.room in
    let place : RulesAt c.args.recursive rules_at inner at.scope = elim c.if-recursive.branch [
      | local_macros-then-recursive w ↦ subst (λ (b : Bool). RulesAt b rules_at inner at.scope) (sym w.if-recursive.true) w.rules_at-is
      | local_macros-else-recursive w ↦ subst (λ (b : Bool). RulesAt b rules_at inner at.scope) (sym w.if-recursive.false) w.rules_at-is
    ] in
    let m : LocalMacros Identifier = record { names = c.requires.macros.0; rules = c.requires.macros.1; body = c.requires.forms.0 } in
    let are = c.requires.macros.2 in
    let names = subst (λ (l : List NamePart). AllParts (IsName a) l m.names) (sym named) (macros_named a c.args.macros.now m.names m.rules are) in
    let w2 = c.below.new.units in
    let below = c.in_ok-below.below in
    let b = c.in_ok-below.ensures in
    let w3 = c.keep_all.new.units in
    let w4 = c.local_defs.new.units in
    let noted = c.local_defs.ensures.rest in
    let keeps : KeepsRun a region u w1 at c.args.recursive m c.args.macros.now xs inner rules_at bs apart sound names room h place are w2 w3 (Ok tt) = λ known r ls s fs ns ts vs rs stands there macros numbers read. c.in_ok-keep_all.ensures.kept known r ls s fs ns ts vs rs stands there macros (subst (λ (l : List code_binder.Binder). HaveNumbers s l vs) (sym c.deref-2.ensures.value) numbers) read in
    let kept = kept_there a region u w1 at c.args.recursive m c.args.macros.now xs inner rules_at bs apart sound names room h place are c.test_all_rules.new.units tt c.in_ok-test_all_rules.ensures.tested w2 below b w3 tt keeps c.requires.look in
    let locals : w4.form.budget.locals ≡ u.form.budget.locals + length xs = ap (λ (x : UnitScope). x.form.budget.locals) noted ∙ c.in_ok-keep_all.ensures.counts.0 ∙ (ap (λ (x : UnitScope). x.form.budget.locals) b.2.2 ∙ (ap (λ (x : UnitScope). x.form.budget.locals) c.test_all_rules.ensures.rest ∙ ap (λ (x : UnitScope). x.form.budget.locals) h.after)) in
    let uses : w4.form.budget.uses ≡ u.form.budget.uses = ap (λ (x : UnitScope). x.form.budget.uses) noted ∙ c.in_ok-keep_all.ensures.counts.1 ∙ (ap (λ (x : UnitScope). x.form.budget.uses) b.2.2 ∙ (ap (λ (x : UnitScope). x.form.budget.uses) c.test_all_rules.ensures.rest ∙ ap (λ (x : UnitScope). x.form.budget.uses) h.after)) in
    let w2_nodes : w2.form.budget.nodes ≡ c.test_all_rules.new.units.form.budget.nodes + 1 = ap (λ (x : UnitScope). x.form.budget.nodes) b.2.2 in
    let w1_nodes : c.test_all_rules.new.units.form.budget.nodes ≡ u.form.budget.nodes = ap (λ (x : UnitScope). x.form.budget.nodes) c.test_all_rules.ensures.rest ∙ ap (λ (x : UnitScope). x.form.budget.nodes) h.after in
    let more = kept.same.nodes in
    let w4_nodes : w4.form.budget.nodes ≡ w3.form.budget.nodes = ap (λ (x : UnitScope). x.form.budget.nodes) noted in
    let nodes : u.form.budget.nodes ≤ w4.form.budget.nodes = omega (arith, more, w4_nodes, w2_nodes, w1_nodes) in
    let is : at.depth ≡ below.depth + 1 = b.2.0 in (
      first_of (omega (arith, is), omega arith, search rules, grind arith),
      (c.requires.opened, (look_on a w3 w4 noted inner kept.look, (c.requires.forms, room_bound u w4 (length xs) locals nodes few c.requires.room))),
    )

pub local_macros-returns-in_err-body-clause-runs : goal.local_macros-returns-in_err-body-clause-runs
local_macros-returns-in_err-body-clause-runs t c = λ m turns are stand enough.
    let a = c.args.work.now in
    let region = c.args.region.now in
    let u = c.args.units.now in
    let w1 = c.bind_names.new.self in
    let at = c.args.at in
    let xs = c.deref.result.now in
    let inner = c.in_ok-scope.scope in
    let rules_at = c.if-recursive.rules_at in
    let bs = c.in_ok-scope.binders.items in
    let apart = c.told_apart.ensures.idents in
    let sound = c.sound.ensures in
    let h = c.in_ok-scope.ensures in
    let named = c.deref.ensures.value ∙ c.in_ok-names_of.ensures in
    let few = macros_few a c.args.macros.now xs c.requires.macros named in
    let room = bound_within u (length xs) few c.requires.room in
    let place : RulesAt c.args.recursive rules_at inner at.scope = elim c.if-recursive.branch [
      | local_macros-then-recursive w ↦ subst (λ (b : Bool). RulesAt b rules_at inner at.scope) (sym w.if-recursive.true) w.rules_at-is
      | local_macros-else-recursive w ↦ subst (λ (b : Bool). RulesAt b rules_at inner at.scope) (sym w.if-recursive.false) w.rules_at-is
    ] in
    let names = subst (λ (l : List NamePart). AllParts (IsName a) l m.names) (sym named) (macros_named a c.args.macros.now m.names m.rules are) in
    let w2 = c.below.new.units in
    let below = c.in_ok-below.below in
    let b = c.in_ok-below.ensures in
    let w3 = c.keep_all.new.units in
    let w4 = c.local_defs.new.units in
    let noted = c.local_defs.ensures.rest in
    let keeps : KeepsRun a region u w1 at c.args.recursive m c.args.macros.now xs inner rules_at bs apart sound names room h place are w2 w3 (Ok tt) = λ known r ls s fs ns ts vs rs stands there macros numbers read. c.in_ok-keep_all.ensures.kept known r ls s fs ns ts vs rs stands there macros (subst (λ (l : List code_binder.Binder). HaveNumbers s l vs) (sym c.deref-2.ensures.value) numbers) read in
    let locals : w4.form.budget.locals ≡ u.form.budget.locals + length xs = ap (λ (x : UnitScope). x.form.budget.locals) noted ∙ c.in_ok-keep_all.ensures.counts.0 ∙ (ap (λ (x : UnitScope). x.form.budget.locals) b.2.2 ∙ (ap (λ (x : UnitScope). x.form.budget.locals) c.test_all_rules.ensures.rest ∙ ap (λ (x : UnitScope). x.form.budget.locals) h.after)) in
    let uses : w4.form.budget.uses ≡ u.form.budget.uses = ap (λ (x : UnitScope). x.form.budget.uses) noted ∙ c.in_ok-keep_all.ensures.counts.1 ∙ (ap (λ (x : UnitScope). x.form.budget.uses) b.2.2 ∙ (ap (λ (x : UnitScope). x.form.budget.uses) c.test_all_rules.ensures.rest ∙ ap (λ (x : UnitScope). x.form.budget.uses) h.after)) in
    let w2_nodes : w2.form.budget.nodes ≡ c.test_all_rules.new.units.form.budget.nodes + 1 = ap (λ (x : UnitScope). x.form.budget.nodes) b.2.2 in
    let w1_nodes : c.test_all_rules.new.units.form.budget.nodes ≡ u.form.budget.nodes = ap (λ (x : UnitScope). x.form.budget.nodes) c.test_all_rules.ensures.rest ∙ ap (λ (x : UnitScope). x.form.budget.nodes) h.after in
    let is : at.depth ≡ below.depth + 1 = b.2.0 in
    let now = enough_deeper at.depth below.depth u.form.budget.uses w4.form.budget.uses turns is (omega (arith, uses)) enough in
    let d = c.body.new.work in
    let v = c.body.new.units in
    let Q : List Frames → code_core.Core → Core → Type 0 = λ layout. CoreStands d v.unit v.form.number in
    let f : Known → Frames → Step Noting Core = λ known fs. macros_step c.args.recursive (expand (noting known) turns) (noting known) at.depth at.here fs m in
    runs_err Q a d region u v at.scope c.from_residual-in_err-body.result c.in_err-body.field-0.0 f c.from_residual-in_err-body.ensures.1
    (local_body_fails a region u w1 at c.args.recursive m c.args.macros.now xs inner rules_at bs apart sound names room h place are c.test_all_rules.new.units tt c.in_ok-test_all_rules.ensures.tested w2 below b w3 tt keeps w4 noted (λ known ls s vs ns stands macros. c.in_ok-macros.ensures.noted known ls s vs ns stands (subst (λ (l : List code_binder.Binder). AreLocalMacros a s l vs ns) (sym c.deref-3.ensures.value) macros)) d v turns Q c.in_err-body.field-0.0 (c.in_err-body.ensures.runs m.body turns stand now))

pub local_macros-returns-in_err-new-clause-runs : goal.local_macros-returns-in_err-new-clause-runs
local_macros-returns-in_err-new-clause-runs t c = λ m turns are stand enough.
    let a = c.args.work.now in
    let region = c.args.region.now in
    let u = c.args.units.now in
    let w1 = c.bind_names.new.self in
    let at = c.args.at in
    let xs = c.deref.result.now in
    let inner = c.in_ok-scope.scope in
    let rules_at = c.if-recursive.rules_at in
    let bs = c.in_ok-scope.binders.items in
    let apart = c.told_apart.ensures.idents in
    let sound = c.sound.ensures in
    let h = c.in_ok-scope.ensures in
    let named = c.deref.ensures.value ∙ c.in_ok-names_of.ensures in
    let few = macros_few a c.args.macros.now xs c.requires.macros named in
    let room = bound_within u (length xs) few c.requires.room in
    let place : RulesAt c.args.recursive rules_at inner at.scope = elim c.if-recursive.branch [
      | local_macros-then-recursive w ↦ subst (λ (b : Bool). RulesAt b rules_at inner at.scope) (sym w.if-recursive.true) w.rules_at-is
      | local_macros-else-recursive w ↦ subst (λ (b : Bool). RulesAt b rules_at inner at.scope) (sym w.if-recursive.false) w.rules_at-is
    ] in
    let names = subst (λ (l : List NamePart). AllParts (IsName a) l m.names) (sym named) (macros_named a c.args.macros.now m.names m.rules are) in
    let w2 = c.below.new.units in
    let below = c.in_ok-below.below in
    let b = c.in_ok-below.ensures in
    let w3 = c.keep_all.new.units in
    let w4 = c.local_defs.new.units in
    let noted = c.local_defs.ensures.rest in
    let keeps : KeepsRun a region u w1 at c.args.recursive m c.args.macros.now xs inner rules_at bs apart sound names room h place are w2 w3 (Ok tt) = λ known r ls s fs ns ts vs rs stands there macros numbers read. c.in_ok-keep_all.ensures.kept known r ls s fs ns ts vs rs stands there macros (subst (λ (l : List code_binder.Binder). HaveNumbers s l vs) (sym c.deref-2.ensures.value) numbers) read in
    let locals : w4.form.budget.locals ≡ u.form.budget.locals + length xs = ap (λ (x : UnitScope). x.form.budget.locals) noted ∙ c.in_ok-keep_all.ensures.counts.0 ∙ (ap (λ (x : UnitScope). x.form.budget.locals) b.2.2 ∙ (ap (λ (x : UnitScope). x.form.budget.locals) c.test_all_rules.ensures.rest ∙ ap (λ (x : UnitScope). x.form.budget.locals) h.after)) in
    let uses : w4.form.budget.uses ≡ u.form.budget.uses = ap (λ (x : UnitScope). x.form.budget.uses) noted ∙ c.in_ok-keep_all.ensures.counts.1 ∙ (ap (λ (x : UnitScope). x.form.budget.uses) b.2.2 ∙ (ap (λ (x : UnitScope). x.form.budget.uses) c.test_all_rules.ensures.rest ∙ ap (λ (x : UnitScope). x.form.budget.uses) h.after)) in
    let w2_nodes : w2.form.budget.nodes ≡ c.test_all_rules.new.units.form.budget.nodes + 1 = ap (λ (x : UnitScope). x.form.budget.nodes) b.2.2 in
    let w1_nodes : c.test_all_rules.new.units.form.budget.nodes ≡ u.form.budget.nodes = ap (λ (x : UnitScope). x.form.budget.nodes) c.test_all_rules.ensures.rest ∙ ap (λ (x : UnitScope). x.form.budget.nodes) h.after in
    let is : at.depth ≡ below.depth + 1 = b.2.0 in
    let now = enough_deeper at.depth below.depth u.form.budget.uses w4.form.budget.uses turns is (omega (arith, uses)) enough in
    let d = c.body.new.work in
    let v = c.body.new.units in
    let Q : List Frames → code_core.Core → Core → Type 0 = λ layout. CoreStands d v.unit v.form.number in
    let f : Known → Frames → Step Noting Core = λ known fs. macros_step c.args.recursive (expand (noting known) turns) (noting known) at.depth at.here fs m in
    runs_err Q a d region u v at.scope c.from_residual-in_err-new.result fault.Memory f c.from_residual-in_err-new.ensures.1
    (local_body_fails a region u w1 at c.args.recursive m c.args.macros.now xs inner rules_at bs apart sound names room h place are c.test_all_rules.new.units tt c.in_ok-test_all_rules.ensures.tested w2 below b w3 tt keeps w4 noted (λ known ls s vs ns stands macros. c.in_ok-macros.ensures.noted known ls s vs ns stands (subst (λ (l : List code_binder.Binder). AreLocalMacros a s l vs ns) (sym c.deref-3.ensures.value) macros)) d v turns Q fault.Memory (runs_memory Q Q a d region w4 v inner c.in_ok-body.body (λ known fs. expand (noting known) turns below.depth below.here fs (body m.body)) (λ known fs. expand (noting known) turns below.depth below.here fs (body m.body)) (c.in_ok-body.ensures.runs m.body turns stand now)))

pub local_macros-returns-clause-runs : goal.local_macros-returns-clause-runs
local_macros-returns-clause-runs t c = λ m turns are stand enough.
    let a = c.args.work.now in
    let region = c.args.region.now in
    let u = c.args.units.now in
    let w1 = c.bind_names.new.self in
    let at = c.args.at in
    let xs = c.deref.result.now in
    let inner = c.in_ok-scope.scope in
    let rules_at = c.if-recursive.rules_at in
    let bs = c.in_ok-scope.binders.items in
    let apart = c.told_apart.ensures.idents in
    let sound = c.sound.ensures in
    let h = c.in_ok-scope.ensures in
    let named = c.deref.ensures.value ∙ c.in_ok-names_of.ensures in
    let few = macros_few a c.args.macros.now xs c.requires.macros named in
    let room = bound_within u (length xs) few c.requires.room in
    let place : RulesAt c.args.recursive rules_at inner at.scope = elim c.if-recursive.branch [
      | local_macros-then-recursive w ↦ subst (λ (b : Bool). RulesAt b rules_at inner at.scope) (sym w.if-recursive.true) w.rules_at-is
      | local_macros-else-recursive w ↦ subst (λ (b : Bool). RulesAt b rules_at inner at.scope) (sym w.if-recursive.false) w.rules_at-is
    ] in
    let names = subst (λ (l : List NamePart). AllParts (IsName a) l m.names) (sym named) (macros_named a c.args.macros.now m.names m.rules are) in
    let w2 = c.below.new.units in
    let below = c.in_ok-below.below in
    let b = c.in_ok-below.ensures in
    let w3 = c.keep_all.new.units in
    let w4 = c.local_defs.new.units in
    let noted = c.local_defs.ensures.rest in
    let keeps : KeepsRun a region u w1 at c.args.recursive m c.args.macros.now xs inner rules_at bs apart sound names room h place are w2 w3 (Ok tt) = λ known r ls s fs ns ts vs rs stands there macros numbers read. c.in_ok-keep_all.ensures.kept known r ls s fs ns ts vs rs stands there macros (subst (λ (l : List code_binder.Binder). HaveNumbers s l vs) (sym c.deref-2.ensures.value) numbers) read in
    let locals : w4.form.budget.locals ≡ u.form.budget.locals + length xs = ap (λ (x : UnitScope). x.form.budget.locals) noted ∙ c.in_ok-keep_all.ensures.counts.0 ∙ (ap (λ (x : UnitScope). x.form.budget.locals) b.2.2 ∙ (ap (λ (x : UnitScope). x.form.budget.locals) c.test_all_rules.ensures.rest ∙ ap (λ (x : UnitScope). x.form.budget.locals) h.after)) in
    let uses : w4.form.budget.uses ≡ u.form.budget.uses = ap (λ (x : UnitScope). x.form.budget.uses) noted ∙ c.in_ok-keep_all.ensures.counts.1 ∙ (ap (λ (x : UnitScope). x.form.budget.uses) b.2.2 ∙ (ap (λ (x : UnitScope). x.form.budget.uses) c.test_all_rules.ensures.rest ∙ ap (λ (x : UnitScope). x.form.budget.uses) h.after)) in
    let w2_nodes : w2.form.budget.nodes ≡ c.test_all_rules.new.units.form.budget.nodes + 1 = ap (λ (x : UnitScope). x.form.budget.nodes) b.2.2 in
    let w1_nodes : c.test_all_rules.new.units.form.budget.nodes ≡ u.form.budget.nodes = ap (λ (x : UnitScope). x.form.budget.nodes) c.test_all_rules.ensures.rest ∙ ap (λ (x : UnitScope). x.form.budget.nodes) h.after in
    let is : at.depth ≡ below.depth + 1 = b.2.0 in
    let now = enough_deeper at.depth below.depth u.form.budget.uses w4.form.budget.uses turns is (omega (arith, uses)) enough in
    let d = c.body.new.work in
    let v = c.body.new.units in
    let Q : List Frames → code_core.Core → Core → Type 0 = λ layout. CoreStands d v.unit v.form.number in
    let f : Known → Frames → Step Noting Core = λ known fs. macros_step c.args.recursive (expand (noting known) turns) (noting known) at.depth at.here fs m in
    local_body_goes a region u w1 at c.args.recursive m c.args.macros.now xs inner rules_at bs apart sound names room h place are c.test_all_rules.new.units tt c.in_ok-test_all_rules.ensures.tested w2 below b w3 tt keeps w4 noted (λ known ls s vs ns stands macros. c.in_ok-macros.ensures.noted known ls s vs ns stands (subst (λ (l : List code_binder.Binder). AreLocalMacros a s l vs ns) (sym c.deref-3.ensures.value) macros)) d v turns c.in_ok-macros.macros c.in_ok-new.field-0 (λ known ls s vs ns stands macros. c.in_ok-macros.ensures.defs known ls s vs ns stands (subst (λ (l : List code_binder.Binder). AreLocalMacros a s l vs ns) (sym c.deref-3.ensures.value) macros))
    (subst (λ (q : code_core.Core). Runs Q a d region w4 v inner (Ok q) (λ known fs. expand (noting known) turns below.depth below.here fs (body m.body))) (sym c.in_ok-new.ensures.ok) (c.in_ok-body.ensures.runs m.body turns stand now))

pub local_macros-returns-clause-locals : goal.local_macros-returns-clause-locals
local_macros-returns-clause-locals t c =
    let a = c.args.work.now in
    let region = c.args.region.now in
    let u = c.args.units.now in
    let w1 = c.bind_names.new.self in
    let at = c.args.at in
    let xs = c.deref.result.now in
    let inner = c.in_ok-scope.scope in
    let rules_at = c.if-recursive.rules_at in
    let bs = c.in_ok-scope.binders.items in
    let apart = c.told_apart.ensures.idents in
    let sound = c.sound.ensures in
    let h = c.in_ok-scope.ensures in
    let named = c.deref.ensures.value ∙ c.in_ok-names_of.ensures in
    let few = macros_few a c.args.macros.now xs c.requires.macros named in
    let room = bound_within u (length xs) few c.requires.room in
    let place : RulesAt c.args.recursive rules_at inner at.scope = elim c.if-recursive.branch [
      | local_macros-then-recursive w ↦ subst (λ (b : Bool). RulesAt b rules_at inner at.scope) (sym w.if-recursive.true) w.rules_at-is
      | local_macros-else-recursive w ↦ subst (λ (b : Bool). RulesAt b rules_at inner at.scope) (sym w.if-recursive.false) w.rules_at-is
    ] in
    let m : LocalMacros Identifier = record { names = c.requires.macros.0; rules = c.requires.macros.1; body = c.requires.forms.0 } in
    let are = c.requires.macros.2 in
    let names = subst (λ (l : List NamePart). AllParts (IsName a) l m.names) (sym named) (macros_named a c.args.macros.now m.names m.rules are) in
    let w2 = c.below.new.units in
    let below = c.in_ok-below.below in
    let b = c.in_ok-below.ensures in
    let w3 = c.keep_all.new.units in
    let w4 = c.local_defs.new.units in
    let noted = c.local_defs.ensures.rest in
    let keeps : KeepsRun a region u w1 at c.args.recursive m c.args.macros.now xs inner rules_at bs apart sound names room h place are w2 w3 (Ok tt) = λ known r ls s fs ns ts vs rs stands there macros numbers read. c.in_ok-keep_all.ensures.kept known r ls s fs ns ts vs rs stands there macros (subst (λ (l : List code_binder.Binder). HaveNumbers s l vs) (sym c.deref-2.ensures.value) numbers) read in
    let kept = kept_there a region u w1 at c.args.recursive m c.args.macros.now xs inner rules_at bs apart sound names room h place are c.test_all_rules.new.units tt c.in_ok-test_all_rules.ensures.tested w2 below b w3 tt keeps c.requires.look in
    let locals : w4.form.budget.locals ≡ u.form.budget.locals + length xs = ap (λ (x : UnitScope). x.form.budget.locals) noted ∙ c.in_ok-keep_all.ensures.counts.0 ∙ (ap (λ (x : UnitScope). x.form.budget.locals) b.2.2 ∙ (ap (λ (x : UnitScope). x.form.budget.locals) c.test_all_rules.ensures.rest ∙ ap (λ (x : UnitScope). x.form.budget.locals) h.after)) in
    let uses : w4.form.budget.uses ≡ u.form.budget.uses = ap (λ (x : UnitScope). x.form.budget.uses) noted ∙ c.in_ok-keep_all.ensures.counts.1 ∙ (ap (λ (x : UnitScope). x.form.budget.uses) b.2.2 ∙ (ap (λ (x : UnitScope). x.form.budget.uses) c.test_all_rules.ensures.rest ∙ ap (λ (x : UnitScope). x.form.budget.uses) h.after)) in
    let w2_nodes : w2.form.budget.nodes ≡ c.test_all_rules.new.units.form.budget.nodes + 1 = ap (λ (x : UnitScope). x.form.budget.nodes) b.2.2 in
    let w1_nodes : c.test_all_rules.new.units.form.budget.nodes ≡ u.form.budget.nodes = ap (λ (x : UnitScope). x.form.budget.nodes) c.test_all_rules.ensures.rest ∙ ap (λ (x : UnitScope). x.form.budget.nodes) h.after in
    let more = kept.same.nodes in
    let w4_nodes : w4.form.budget.nodes ≡ w3.form.budget.nodes = ap (λ (x : UnitScope). x.form.budget.nodes) noted in
    let nodes : u.form.budget.nodes ≤ w4.form.budget.nodes = omega (arith, more, w4_nodes, w2_nodes, w1_nodes) in
    spends_bound u w4 c.body.new.units (length xs) locals nodes few c.in_ok-body.ensures.locals
