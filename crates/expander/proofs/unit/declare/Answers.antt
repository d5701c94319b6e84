use Rattle.std.proofs.Common.{◌+◌, ◌≤◌, ◌^◌, [], length, false, true, None, sym, subst}
use Rattle.std.specs.Prelude.{OnOk}
use Rattle.scheme_model.specs.Program.{enough_turns}
use Rattle.scheme_model.specs.Ident.{Ident as Identifier}
use Rattle.scheme_model.specs.Order.{Pass}
use Rattle.scheme_model.specs.UnitExpansion.{one_form}
use Rattle.scheme_model.specs.ScopedExpansion.{FramedIdent, ScopedState}
use Rattle.unit_scopes.specs.Kept.{NotesFor}
use Rattle.unit_scopes.specs.Outcomes.{HasRoom}
use Rattle.unit_scopes.specs.Units.{Sets, set_aside}
use Rattle.feature_requirements.specs.declared.fault.ExpandFault.TheVariants as fault
use Rattle.unit_scopes.specs.declared.scope.UnitScope.{UnitScope}
use Rattle.unit_scopes.proofs.CallLaws.{all_known, sets_adds, sets_counts, sets_full}
use Rattle.noted_steps.proofs.PlainSides.{run_same, run_exact}
use Rattle.expander.specs.UnitNotes.{HasNoted, part_begun, set_noting}
use Rattle.expander.proofs.AskedRuns.{noted_knows}
use Rattle.expander.proofs.PartLaws.{notes_counted, plain_part, sets_from, sets_gone, ended_sets, noted_ends, not_ended, sets_handed_on}
use Rattle.expander.proofs.unit.declare.Goals as goal

pub go_through-left-requires-clause-can : goal.go_through-left-requires-clause-can
go_through-left-requires-clause-can c =
    let u = c.args.units.now in let w = c.args.work.now in let can = c.requires.can in let same = c.begin_notes.ensures.rest in
    record {
      layout = can.layout;
      state = plain_part (can.state.uses can.state.form) can.state;
      notes = can.notes;
      stands = c.begin_notes.ensures.begun w can.layout can.state false 0 (λ n. None) [] can.stands (λ h. absurd cc) (λ h. absurd cc) (λ h. absurd cc);
      asked = subst (λ (x : UnitScope). NotesFor w can.layout x.asked can.notes) (sym same) can.asked;
    }

pub go_through-left-requires-clause-space : goal.go_through-left-requires-clause-space
go_through-left-requires-clause-space c = subst (HasRoom (2 ^ 43 + 2 ^ 40)) (sym c.begin_notes.ensures.rest) c.requires.space

-- what was set aside, unless notes were lost
pub returns-in_err-end_notes-clause-sets : goal.returns-in_err-end_notes-clause-sets
returns-in_err-end_notes-clause-sets c = λ known ls s notes t knows stands asked for.
    let u = c.args.units.now in let u1 = c.begin_notes.new.units in let v = c.go_through-left.new.units in let w = c.args.work.now in let new = c.go_through-left.new.work in let region = c.args.region.now in let same = c.begin_notes.ensures.rest in
    let begun = c.begin_notes.ensures.begun w ls s false 0 (λ n. None) [] stands (λ h. absurd cc) (λ h. absurd cc) (λ h. absurd cc) in
    let asked1 = subst (λ (x : UnitScope). NotesFor w ls x.asked notes) (sym same) asked in
    let h = c.go_through-left.ensures.sets known ls (plain_part (s.uses s.form) s) notes t (noted_knows u u1 known same knows) begun asked1 for in
    sets_handed_on w new region u v ls c.from_residual.result fault.Memory (set_aside known t notes s) c.from_residual.ensures.1
    (sets_gone w new region u u1 v same ls c.go_through-left.result (set_noting known t notes (plain_part (s.uses s.form) s)) h)

pub returns-clause-sets : goal.returns-clause-sets
returns-clause-sets c = λ known ls s notes t knows stands asked for.
    let u = c.args.units.now in let u1 = c.begin_notes.new.units in let v = c.go_through-left.new.units in let w = c.args.work.now in let new = c.go_through-left.new.work in let region = c.args.region.now in let same = c.begin_notes.ensures.rest in
    let begun = c.begin_notes.ensures.begun w ls s false 0 (λ n. None) [] stands (λ h. absurd cc) (λ h. absurd cc) (λ h. absurd cc) in
    let asked1 = subst (λ (x : UnitScope). NotesFor w ls x.asked notes) (sym same) asked in
    let h = c.go_through-left.ensures.sets known ls (plain_part (s.uses s.form) s) notes t (noted_knows u u1 known same knows) begun asked1 for in
    subst (λ (p : Pass Identifier FramedIdent × ScopedState). Sets w new region u v ls c.go_through-left.result p) (sym (run_same known enough_turns (one_form t notes) (plain_part (s.uses s.form) s)))
    (sets_from w new region u u1 v same ls c.go_through-left.result (set_noting known t notes (plain_part (s.uses s.form) s)) h)

pub returns-in_err-end_notes-clause-noted : goal.returns-in_err-end_notes-clause-noted
returns-in_err-end_notes-clause-noted c = λ known ls s notes t editions ms knows stands asked for can.
    not_ended c.from_residual.result (HasNoted c.go_through-left.new.work c.go_through-left.new.units.macros c.go_through-left.new.units.form.trace (set_noting known t notes (part_begun (s.uses s.form) notes editions ms s)).1) c.from_residual.ensures.1

pub returns-clause-noted : goal.returns-clause-noted
returns-clause-noted c = λ known ls s notes t editions ms knows stands asked for can.
    let u = c.args.units.now in let u1 = c.begin_notes.new.units in let v = c.go_through-left.new.units in let w = c.args.work.now in let new = c.go_through-left.new.work in let region = c.args.region.now in let same = c.begin_notes.ensures.rest in
    let start = part_begun (s.uses s.form) notes editions ms s in
    let begun = c.begin_notes.ensures.begun w ls s true (length notes) editions ms stands (λ h. can.tells) (λ h. notes_counted w ls u.asked notes asked) (λ h. can.notes) in
    let asked1 = subst (λ (x : UnitScope). NotesFor w ls x.asked notes) (sym same) asked in
    let p = set_noting known t notes start in
    let h = c.go_through-left.ensures.sets known ls start notes t (noted_knows u u1 known same knows) begun asked1 for in
    ended_sets w new region u1 v ls (HasNoted new v.macros v.form.trace p.1) c.go_through-left.result p h (λ st.
    let exact = run_exact known enough_turns (one_form t notes) start in
    noted_ends new v ls p.1 st exact (c.in_ok-end_notes.ensures.notes new ls p.1 st exact) (c.in_ok-end_notes.ensures.order new ls p.1 st exact))

pub returns-clause-locals : goal.returns-clause-locals
returns-clause-locals c =
    let v = c.go_through-left.new.units in
    subst (λ (x : UnitScope). OnOk c.go_through-left.result (v.form.budget.locals ≤ x.form.budget.locals + 2 ^ 40)) c.begin_notes.ensures.rest c.go_through-left.ensures.locals

-- the other clauses follow from what was set aside
pub returns-in_err-end_notes-clause-work : goal.returns-in_err-end_notes-clause-work
returns-in_err-end_notes-clause-work c =
    let u = c.args.units.now in let can = c.requires.can in let k = all_known u.libraries in let form = c.requires.form in
    sets_adds c.args.work.now c.go_through-left.new.work c.args.region.now u c.go_through-left.new.units can.layout c.from_residual.result (set_aside k.0 form.0.0 can.notes can.state)
    (returns-in_err-end_notes-clause-sets c k.0 can.layout can.state can.notes form.0.0 k.1 can.stands can.asked form.0.1)

pub returns-clause-work : goal.returns-clause-work
returns-clause-work c =
    let u = c.args.units.now in let can = c.requires.can in let k = all_known u.libraries in let form = c.requires.form in
    sets_adds c.args.work.now c.go_through-left.new.work c.args.region.now u c.go_through-left.new.units can.layout c.go_through-left.result (set_aside k.0 form.0.0 can.notes can.state)
    (returns-clause-sets c k.0 can.layout can.state can.notes form.0.0 k.1 can.stands can.asked form.0.1)

pub returns-clause-counts : goal.returns-clause-counts
returns-clause-counts c =
    let u = c.args.units.now in let can = c.requires.can in let k = all_known u.libraries in let form = c.requires.form in
    sets_counts c.args.work.now c.go_through-left.new.work c.args.region.now u c.go_through-left.new.units can.layout c.go_through-left.result (set_aside k.0 form.0.0 can.notes can.state)
    (returns-clause-sets c k.0 can.layout can.state can.notes form.0.0 k.1 can.stands can.asked form.0.1)

pub returns-clause-full : goal.returns-clause-full
returns-clause-full c =
    let u = c.args.units.now in let can = c.requires.can in let k = all_known u.libraries in let form = c.requires.form in
    sets_full c.args.work.now c.go_through-left.new.work c.args.region.now u c.go_through-left.new.units can.layout c.go_through-left.result (set_aside k.0 form.0.0 can.notes can.state)
    (returns-clause-sets c k.0 can.layout can.state can.notes form.0.0 k.1 can.stands can.asked form.0.1)
