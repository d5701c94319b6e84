use Rattle.std.proofs.Common.{refl}
use Rattle.scheme_model.specs.Declarations.{behind_head}
use Rattle.scheme_model.specs.IncludedUnits.{library_listing}
use Rattle.datum_reader.specs.Views.{datum_of}
use Rattle.included_forms.specs.Steps.{from}
use Rattle.included_forms.proofs.Planned.{plans_bad}
use Rattle.included_forms.proofs.PlanLaws.{atom_library, other_library}
use Rattle.included_forms.proofs.plans.library.Goals as goal

pub returns-in-List : goal.returns-in-List
returns-in-List c = λ t has k. c.list_library.ensures t has k

pub returns-in-Name : goal.returns-in-Name
returns-in-Name c = λ t has k.
    let o = c.args.origin in
    let d = datum_of c.args.datum.now in
    plans_bad t o.document c.args.steps.now.items c.bad.result (record { origin = o; datum = c.args.datum }) (library_listing t has (from o d) (behind_head d)) c.bad.ensures (atom_library t has o d _ c.in-Name.ensures.2 refl)

pub returns-in-Implied : goal.returns-in-Implied
returns-in-Implied c = λ t has k.
    let o = c.args.origin in
    let d = datum_of c.args.datum.now in
    plans_bad t o.document c.args.steps.now.items c.bad-in-Implied.result (record { origin = o; datum = c.args.datum }) (library_listing t has (from o d) (behind_head d)) c.bad-in-Implied.ensures (atom_library t has o d _ c.in-Implied.ensures.1 refl)

pub returns-in-Numeral : goal.returns-in-Numeral
returns-in-Numeral c = λ t has k.
    let o = c.args.origin in
    let d = datum_of c.args.datum.now in
    plans_bad t o.document c.args.steps.now.items c.bad-in-Numeral.result (record { origin = o; datum = c.args.datum }) (library_listing t has (from o d) (behind_head d)) c.bad-in-Numeral.ensures (atom_library t has o d _ c.in-Numeral.ensures.1 refl)

pub returns-in-Other : goal.returns-in-Other
returns-in-Other c = λ t has k.
    let o = c.args.origin in
    let d = datum_of c.args.datum.now in
    plans_bad t o.document c.args.steps.now.items c.bad-in-Other.result (record { origin = o; datum = c.args.datum }) (library_listing t has (from o d) (behind_head d)) c.bad-in-Other.ensures (other_library t has o d c.in-Other.ensures)
