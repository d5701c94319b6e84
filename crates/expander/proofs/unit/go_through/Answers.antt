use Rattle.std.proofs.Common.{◌<◌, ◌^◌, [], false, sym, subst, arith}
use Rattle.scheme_model.specs.Measures.{tree_size}
use Rattle.scheme_model.specs.Program.{enough_turns}
use Rattle.scheme_model.specs.UnitExpansion.{one_form}
use Rattle.unit_scopes.specs.Kept.{NotesFor, left_with}
use Rattle.expander.specs.Passed.{CanPass}
use Rattle.expander.specs.UnitNotes.{set_noting}
use Rattle.unit_scopes.specs.declared.asked.Asked.{Asked}
use Rattle.feature_requirements.specs.declared.fault.ExpandFault.TheVariants as fault
use Rattle.form_parts.specs.declared.items.Pending as code_pending
use Rattle.form_parts.specs.declared.items.Spot.{Spot}
use Rattle.unit_scopes.specs.declared.scope.UnitScope.{UnitScope}
use Rattle.unit_scopes.proofs.CallLaws.{all_known}
use Rattle.expander.proofs.DeclareLaws.{asking, asked_stands, one_pending, at_root, can_pass, left_small, left_enough, sets, few_more, sets_lost, sets_fails, sets_none, sets_handed}
use Rattle.expander.proofs.unit.go_through.Goals as goal

-- the unit's own scope
abbrev root_of : UnitScope → Spot
root_of u = record { scope = u.root; in_body = false }

pub pass-passed-requires-clause-can : goal.pass-passed-requires-clause-can
pass-passed-requires-clause-can c =
    let u = c.args.units.now in let w = c.args.work.now in let region = c.args.region.now in let a = c.replace-asked.new.dest in
    let form = c.requires.form in
    let small : tree_size form.0.0 < 2 ^ 32 = omega (arith, c.size-size.ensures form.0.0 form.0.1) in
    let todo : code_pending.Pending = record { todo = c.in_ok-forms_at.field-0; aside = c.new.result; uses = c.new-2.result } in
    subst (λ (x : Asked). CanPass w region (asking u a) (root_of u) 0 todo x) (sym c.replace-asked.ensures.value)
    (can_pass w region u a todo c.args.form c.in_ok-forms_at.ensures (c.new.ensures.items, c.new-2.ensures.items) form small c.requires.space c.requires.can)

-- before the form was gone through
pub returns-in_err-forms_at-clause-sets : goal.returns-in_err-forms_at-clause-sets
returns-in_err-forms_at-clause-sets c = λ known ls s notes t knows stands asked for.
    let u = c.args.units.now in let w = c.args.work.now in let region = c.args.region.now in
    sets_handed w w region u u ls c.from_residual.result fault.Memory (set_noting known t notes s) c.from_residual.ensures.1 (sets_none w region u ls s stands)

-- the fault of the pass
pub returns-in_err-passed-clause-sets : goal.returns-in_err-passed-clause-sets
returns-in_err-passed-clause-sets c = λ known ls s notes t knows stands asked for.
    let u = c.args.units.now in let w = c.args.work.now in let region = c.args.region.now in let a = c.replace-asked.new.dest in
    let new = c.pass-passed.new.work in let v = c.pass-passed.new.units in let b = c.pass-passed.new.asked in let e = c.in_err-passed.field-0.0 in
    let small : tree_size t < 2 ^ 32 = omega (arith, c.size-size.ensures t for) in
    let todo : code_pending.Pending = record { todo = c.in_ok-forms_at.field-0; aside = c.new.result; uses = c.new-2.result } in
    let pending = one_pending w region u.unit u.form.number todo c.args.form t notes c.in_ok-forms_at.ensures (c.new.ensures.items, c.new-2.ensures.items) for c.requires.form.1 in
    let noted = subst (λ (x : Asked). NotesFor w ls x notes) (sym c.replace-asked.ensures.value) asked in
    let passed = c.in_err-passed.ensures known ls s [] (one_form t notes) enough_turns knows (asked_stands w u a ls s stands) (at_root w u a ls s stands) pending noted (left_enough (tree_size t) u.form.budget.uses small) in
    sets_handed w new region u (asking v b) ls c.from_residual-in_err-passed.result e (set_noting known t notes s) c.from_residual-in_err-passed.ensures.1
    (sets_fails w new region u v a b ls (root_of u) (left_with (one_form t notes).todo u.form.budget.uses) c.pass-passed.new.pending (set_noting known t notes s) e passed)

-- no memory for what was set aside
pub returns-in_err-items-clause-sets : goal.returns-in_err-items-clause-sets
returns-in_err-items-clause-sets c = λ known ls s notes t knows stands asked for.
    let u = c.args.units.now in let w = c.args.work.now in let region = c.args.region.now in let a = c.replace-asked.new.dest in
    let new = c.pass-passed.new.work in let v = c.pass-passed.new.units in let b = c.pass-passed.new.asked in
    let small : tree_size t < 2 ^ 32 = omega (arith, c.size-size.ensures t for) in
    let todo : code_pending.Pending = record { todo = c.in_ok-forms_at.field-0; aside = c.new.result; uses = c.new-2.result } in
    let pending = one_pending w region u.unit u.form.number todo c.args.form t notes c.in_ok-forms_at.ensures (c.new.ensures.items, c.new-2.ensures.items) for c.requires.form.1 in
    let noted = subst (λ (x : Asked). NotesFor w ls x notes) (sym c.replace-asked.ensures.value) asked in
    let passed = c.in_ok-passed.ensures known ls s [] (one_form t notes) enough_turns knows (asked_stands w u a ls s stands) (at_root w u a ls s stands) pending noted (left_enough (tree_size t) u.form.budget.uses small) in
    sets_handed w new region u (asking v b) ls c.from_residual-in_err-items.result fault.Memory (set_noting known t notes s) c.from_residual-in_err-items.ensures.1
    (sets_lost w new region u v a b ls (root_of u) (left_with (one_form t notes).todo u.form.budget.uses) c.pass-passed.new.pending (set_noting known t notes s) passed)

-- what was set aside
pub returns-clause-sets : goal.returns-clause-sets
returns-clause-sets c = λ known ls s notes t knows stands asked for.
    let u = c.args.units.now in let w = c.args.work.now in let region = c.args.region.now in let a = c.replace-asked.new.dest in
    let new = c.pass-passed.new.work in let v = c.pass-passed.new.units in let b = c.pass-passed.new.asked in
    let small : tree_size t < 2 ^ 32 = omega (arith, c.size-size.ensures t for) in
    let todo : code_pending.Pending = record { todo = c.in_ok-forms_at.field-0; aside = c.new.result; uses = c.new-2.result } in
    let pending = one_pending w region u.unit u.form.number todo c.args.form t notes c.in_ok-forms_at.ensures (c.new.ensures.items, c.new-2.ensures.items) for c.requires.form.1 in
    let noted = subst (λ (x : Asked). NotesFor w ls x notes) (sym c.replace-asked.ensures.value) asked in
    let passed = c.in_ok-passed.ensures known ls s [] (one_form t notes) enough_turns knows (asked_stands w u a ls s stands) (at_root w u a ls s stands) pending noted (left_enough (tree_size t) u.form.budget.uses small) in
    sets w new region u v a b ls (root_of u) (left_with (one_form t notes).todo u.form.budget.uses) c.pass-passed.new.pending (set_noting known t notes s) c.in_ok-items.items c.in_ok-items.ensures passed

pub returns-clause-locals : goal.returns-clause-locals
returns-clause-locals c =
    let u = c.args.units.now in let w = c.args.work.now in let region = c.args.region.now in let a = c.replace-asked.new.dest in
    let new = c.pass-passed.new.work in let v = c.pass-passed.new.units in let b = c.pass-passed.new.asked in
    let can = c.requires.can in let k = all_known u.libraries in let t = c.requires.form.0.0 in let for = c.requires.form.0.1 in
    let small : tree_size t < 2 ^ 32 = omega (arith, c.size-size.ensures t for) in
    let todo : code_pending.Pending = record { todo = c.in_ok-forms_at.field-0; aside = c.new.result; uses = c.new-2.result } in
    let pending = one_pending w region u.unit u.form.number todo c.args.form t can.notes c.in_ok-forms_at.ensures (c.new.ensures.items, c.new-2.ensures.items) for c.requires.form.1 in
    let noted = subst (λ (x : Asked). NotesFor w can.layout x can.notes) (sym c.replace-asked.ensures.value) can.asked in
    let passed = c.in_ok-passed.ensures k.0 can.layout can.state [] (one_form t can.notes) enough_turns k.1 (asked_stands w u a can.layout can.state can.stands) (at_root w u a can.layout can.state can.stands) pending noted (left_enough (tree_size t) u.form.budget.uses small) in
    few_more w new region u v a b can.layout (root_of u) (left_with (one_form t can.notes).todo u.form.budget.uses) c.pass-passed.new.pending (set_noting k.0 t can.notes can.state) (left_small (tree_size t) u.form.budget.uses small) passed
