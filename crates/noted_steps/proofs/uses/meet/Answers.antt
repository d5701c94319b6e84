use Rattle.std.proofs.Common.{List, map, refl, sym, subst}
use Rattle.scheme_model.specs.Order.{Meant, meet_waiting}
use Rattle.core_forms.specs.Parts.{IsName}
use Rattle.core_forms.specs.declared.shape.NamePart.{NamePart}
use Rattle.core_tree.specs.Names.{AllMatch}
use Rattle.unit_scopes.specs.Kept.{WaitsFor}
use Rattle.unit_scopes.specs.Searched.{searched}
use Rattle.unit_scopes.specs.declared.scope.UnitScope.{UnitScope}
use Rattle.noted_steps.specs.Noting.{noting, state_of}
use Rattle.noted_steps.proofs.CountingStands.{stands_after}
use Rattle.noted_steps.proofs.NoteLaws.{plainly, plain_look, looks_on}
use Rattle.noted_steps.proofs.UsesMet.{meets_so}
use Rattle.noted_steps.proofs.uses.meet.Goals as goal

pub note_names-requires-clause-look : goal.note_names-requires-clause-look
note_names-requires-clause-look c = plain_look c.args.work.now c.args.units.now c.args.scope c.requires.look

pub note_names-requires-clause-names : goal.note_names-requires-clause-names
note_names-requires-clause-names c =
    let w = c.requires.waits in
    (w.0.literals, subst (λ (xs : List NamePart). AllMatch (IsName c.args.work.now) xs w.0.literals) (sym c.as_slice.ensures.value) w.1.literals)

pub meet-requires-clause-look : goal.meet-requires-clause-look
meet-requires-clause-look c = looks_on c.args.work.now c.args.units.now c.note_names.new.units c.args.scope c.note_names.ensures.rest (plain_look c.args.work.now c.args.units.now c.args.scope c.requires.look)

pub meet-requires-clause-waits : goal.meet-requires-clause-waits
meet-requires-clause-waits c =
    let w = c.requires.waits in
    (w.0, subst (λ (x : UnitScope). WaitsFor c.args.work.now x.unit x.form.number c.args.used.now w.0) (sym c.note_names.ensures.rest) w.1)

pub returns-clause-met : goal.returns-clause-met
returns-clause-met c = λ known ls s fs w e at waits.
    let work = c.args.work.now in
    let v = c.note_names.new.units in
    let names = subst (λ (xs : List NamePart). AllMatch (IsName work) xs w.literals) (sym c.as_slice.ensures.value) waits.literals in
    let noted = c.note_names.ensures.noted known ls s fs w.literals e at names in
    let t = (noting known).ask (map (λ n. Meant fs n.name) w.literals) s in
    let there = subst (λ (x : UnitScope). WaitsFor work x.unit x.form.number c.args.used.now w) (sym c.note_names.ensures.rest) waits in
    let same = c.in_ok-meet.ensures.rest in
    stands_after work v c.meet.new.self ls ls t (meet_waiting (searched known) fs w (state_of t)) noted (c.in_ok-meet.ensures.met known ls (state_of t) fs w (plainly work v ls t noted) at there)
    (record { notes = λ j. (same j).form.trace.notes; macros = λ j. (same j).macros; table = refl; rules = refl }) refl refl

pub returns-clause-rest : goal.returns-clause-rest
returns-clause-rest c = meets_so c.args.units.now c.note_names.new.units c.meet.new.self c.note_names.ensures.rest c.in_ok-meet.ensures.rest
