use Rattle.std.proofs.Common.{[], length, false, true, None, refl, sym, ap, ◌∙◌, subst}
use Rattle.scheme_model.specs.ScopedExpansion.{ScopedState}
use Rattle.core_tree.specs.Names.{AllMatch}
use Rattle.core_tree.specs.declared.traces.Trace.{Trace}
use Rattle.unit_scopes.specs.Kept.{WaitsFor}
use Rattle.unit_scopes.specs.State.{Stands}
use Rattle.unit_scopes.specs.Stepped.{turned}
use Rattle.unit_scopes.specs.Units.{uses_met}
use Rattle.unit_scopes.specs.declared.scope.UnitScope.{UnitScope}
use Rattle.unit_scopes.proofs.CallLaws.{can_set, turned_to, met_rests}
use Rattle.noted_steps.specs.Standing.{with_notes}
use Rattle.noted_steps.proofs.NoteLaws.{plainly}
use Rattle.expander.specs.UnitNotes.{HasNoted, met_noting, part_begun}
use Rattle.expander.proofs.DeclareLaws.{waits_turned}
use Rattle.expander.proofs.PartLaws.{notes_counted, plain_part, noted_ends, note_turned, uses_plain, uses_exact, meets_behind, form_alone}
use Rattle.expander.proofs.unit.meet_uses.Goals as goal

pub meet_all-requires-clause-look : goal.meet_all-requires-clause-look
meet_all-requires-clause-look c =
    let work = c.args.work.now in
    let can = can_set work c.args.units.now c.turn.new.units c.args.number c.args.budget c.args.trace.now c.turn.ensures c.requires.stands in
    record { layout = can.layout; state = plain_part (can.state.uses can.state.form) can.state; frames = []; stands = c.begin_notes.ensures.begun work can.layout can.state false 0 (λ n. None) [] can.stands (λ h. absurd cc) (λ h. absurd cc) (λ h. absurd cc); at = can.stands.root }

pub meet_all-requires-clause-waits : goal.meet_all-requires-clause-waits
meet_all-requires-clause-waits c =
    let work = c.args.work.now in
    let w = c.requires.waits in (
      w.0,
      subst (λ (x : UnitScope). AllMatch (WaitsFor work x.unit x.form.number) c.args.uses.now w.0) (sym c.begin_notes.ensures.rest)
          (waits_turned work c.args.units.now c.turn.new.units c.args.number c.args.budget c.args.trace.now c.args.uses.now w.0 c.turn.ensures w.1),
    )

pub returns-clause-met : goal.returns-clause-met
returns-clause-met c = λ known ls s notes us stands counts waits.
    let work = c.args.work.now in
    let u = c.args.units.now in
    let u1 = c.turn.new.units in
    let u2 = c.begin_notes.new.units in
    let v = c.meet_all.new.units in
    let n = c.args.number in
    let b = c.args.budget in
    let tr = c.args.trace.now in
    let ns = v.form.trace.notes in
    let e = turned_to work u u1 n b tr ls s notes c.turn.ensures stands counts in
    let begun = c.begin_notes.ensures.begun work ls (turned n s) false 0 (λ x. None) [] e (λ h. absurd cc) (λ h. absurd cc) (λ h. absurd cc) in
    let waits1 = subst (λ (x : UnitScope). AllMatch (WaitsFor work x.unit x.form.number) c.args.uses.now us) (sym c.begin_notes.ensures.rest) (waits_turned work u u1 n b tr c.args.uses.now us c.turn.ensures waits) in
    let start = plain_part (s.uses n) (turned n s) in
    let noted = c.in_ok-meet_all.ensures.met known ls start [] us begun e.root waits1 in
    let met = subst (λ (t : ScopedState). Stands work v ls t) (uses_plain known [] us start) (plainly work v ls (met_noting known us start) noted) in
    met_rests work u (with_notes u1 ns) v (record v { form = record v.form { trace = c.swap.new.x } }) n b (record tr { notes = ns }) c.swap.new.y c.swap.new.x ls notes (uses_met known n us s)
    (ap (λ (x : UnitScope). with_notes x ns) c.turn.ensures) (meets_behind u1 u2 v c.begin_notes.ensures.rest c.in_ok-meet_all.ensures.rest) refl c.swap.ensures.y_after stands.notes met

pub returns-clause-noted : goal.returns-clause-noted
returns-clause-noted c = λ known ls s notes us editions ms stands counts waits can.
    let work = c.args.work.now in
    let u = c.args.units.now in
    let u1 = c.turn.new.units in
    let v = c.meet_all.new.units in
    let n = c.args.number in
    let b = c.args.budget in
    let tr = c.args.trace.now in
    let e = turned_to work u u1 n b tr ls s notes c.turn.ensures stands counts in
    let can1 = note_turned work u u1 n b tr (s.uses n) editions ms (turned n s) c.turn.ensures can in
    let begun = c.begin_notes.ensures.begun work ls (turned n s) true (length notes) editions ms e (λ h. can1.tells)
    (λ h. ap (λ (x : UnitScope). length x.asked.notes.items) c.turn.ensures ∙ notes_counted work ls u.asked notes stands.notes) (λ h. can1.notes) in
    let waits1 = subst (λ (x : UnitScope). AllMatch (WaitsFor work x.unit x.form.number) c.args.uses.now us) (sym c.begin_notes.ensures.rest) (waits_turned work u u1 n b tr c.args.uses.now us c.turn.ensures waits) in
    let start = part_begun (s.uses n) notes editions ms (turned n s) in
    let met = c.in_ok-meet_all.ensures.met known ls start [] us begun e.root waits1 in
    subst (λ (x : Trace). HasNoted work v.macros x (met_noting known us start)) (sym c.swap.ensures.y_after)
    (noted_ends work v ls (met_noting known us start) met (uses_exact known [] us start) (c.in_ok-end_notes.ensures.notes work ls (met_noting known us start) met (uses_exact known [] us start)) (c.in_ok-end_notes.ensures.order work ls (met_noting known us start) met (uses_exact known [] us start)))

pub returns-clause-scope : goal.returns-clause-scope
returns-clause-scope c =
    let v = c.meet_all.new.units in
    form_alone c.args.units.now c.turn.new.units v c.args.number c.args.budget c.args.trace.now (record v.form { trace = c.swap.new.x }) c.turn.ensures (meets_behind c.turn.new.units c.begin_notes.new.units v c.begin_notes.ensures.rest c.in_ok-meet_all.ensures.rest)
