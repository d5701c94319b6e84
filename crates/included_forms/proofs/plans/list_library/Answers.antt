use Rattle.std.proofs.Common.{◌∷◌, [], sym, ap}
use Rattle.scheme_model.specs.Data.{part, row}
use Rattle.scheme_model.specs.Declarations.{behind_head}
use Rattle.scheme_model.specs.Included.{Listing}
use Rattle.scheme_model.specs.IncludedUnits.{library_listing}
use Rattle.datum_reader.specs.Views.{datum_of, data_of}
use Rattle.datum_reader.specs.Looks.{end_with}
use Rattle.included_forms.specs.Steps.{from}
use Rattle.included_forms.proofs.Planned.{plans_bad, plans_same}
use Rattle.included_forms.proofs.PlanLaws.{empty_library, single_library, named_library}
use Rattle.included_forms.proofs.plans.list_library.Goals as goal

pub returns-in-Empty : goal.returns-in-Empty
returns-in-Empty c = λ t has k.
    let o = c.args.origin in
    let d = datum_of c.args.datum.now in
    plans_bad t o.document c.args.steps.now.items c.bad.result (record { origin = o; datum = c.args.datum }) (library_listing t has (from o d) (behind_head d)) c.bad.ensures (empty_library t has o d c.args.parts.now c.args.dotted c.requires c.in-Empty.ensures)

pub returns-in-Empty-row_of : goal.returns-in-Empty-row_of
returns-in-Empty-row_of c = λ t has k.
    let o = c.args.origin in
    let d = datum_of c.args.datum.now in
    plans_bad t o.document c.args.steps.now.items c.bad-in-Empty-row_of.result (record { origin = o; datum = c.args.datum }) (library_listing t has (from o d) (behind_head d)) c.bad-in-Empty-row_of.ensures
    (single_library t has o d c.args.parts.now c.args.dotted c.requires c.in-Parts.field-0.now c.in-Parts.behind.now c.in-Parts.ensures c.in-Empty-row_of.ensures)

pub returns-in-Parts-row_of : goal.returns-in-Parts-row_of
returns-in-Parts-row_of c = λ t has k.
    let o = c.args.origin in
    let d = datum_of c.args.datum.now in
    let l = c.requires in
    let n = c.in-Parts-row_of.name.now in
    let rest = c.in-Parts-row_of.rest.now in
    plans_same t o.document c.args.steps.now.items c.named.new.steps.items c.named.result (library_listing t has (from o d) (part (datum_of n) (row (data_of rest) (end_with l.0))) ∷ []) (library_listing t has (from o d) (behind_head d) ∷ [])
    (ap (λ (x : Listing). x ∷ []) (named_library t has o d c.args.parts.now c.args.dotted l c.in-Parts.field-0.now n c.in-Parts.behind.now rest c.in-Parts.ensures c.in-Parts-row_of.ensures)) (c.named.ensures t has k l.0 (sym l.2))
