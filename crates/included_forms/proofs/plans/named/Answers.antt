use Rattle.std.proofs.Common.{ℕ, ◌∷◌, [], ap, subst}
use Rattle.scheme_model.specs.declared.Occ.{Occ}
use Rattle.scheme_model.specs.Data.{part, row}
use Rattle.scheme_model.specs.ExpansionFaults.{BadForm}
use Rattle.scheme_model.specs.Requirements.{library_name_of}
use Rattle.scheme_model.specs.Declarations.{symbol_tree}
use Rattle.scheme_model.specs.Included.{Listing, declarations}
use Rattle.scheme_model.specs.IncludedUnits.{library_listing}
use Rattle.datum_reader.specs.Views.{datum_of, data_of}
use Rattle.datum_reader.specs.Looks.{end_with}
use Rattle.datum_reader.specs.declared.shape_fault.ShapeFault.{ShapeFault}
use Rattle.known_libraries.specs.PartsRead.{Fails}
use Rattle.included_forms.specs.Steps.{from}
use Rattle.included_forms.proofs.Planned.{plans_bad, plans_same}
use Rattle.included_forms.proofs.PlanLaws.{library_there, nameless}
use Rattle.included_forms.proofs.plans.named.Goals as goal

-- tokens by their numbers alone
abbrev alone : ℕ → Occ
alone n = record { unit = 0; form = 0; token = n }

pub returns-in-Ok : goal.returns-in-Ok
returns-in-Ok c = λ t has k end e.
    let o = c.args.origin in
    let d = datum_of c.args.datum.now in
    let n = datum_of c.args.name.now in
    let r = row (data_of c.args.rest.now) (end_with end) in
    let p = c.in-Ok.ensures alone in
    plans_same t o.document c.args.steps.now.items c.declarations.new.steps.items c.declarations.result (declarations t has (from o d) d r ∷ []) (library_listing t has (from o d) (part n r) ∷ [])
    (ap (λ (l : Listing). l ∷ []) (library_there t has o d n r p.0 p.1)) (c.declarations.ensures t has k d end e)

pub returns-in-Err-BadForm : goal.returns-in-Err-BadForm
returns-in-Err-BadForm c = λ t has k end e.
    let o = c.args.origin in
    let d = datum_of c.args.datum.now in
    let n = datum_of c.args.name.now in
    let r = row (data_of c.args.rest.now) (end_with end) in
    plans_bad t o.document c.args.steps.now.items c.bad.result (record { origin = o; datum = c.args.datum }) (library_listing t has (from o d) (part n r)) c.bad.ensures
    (nameless t has o d n r BadForm (subst (λ (f : ShapeFault). Fails f (library_name_of (λ s. s) (symbol_tree n))) c.in-Err-BadForm.field-0-is (c.in-Err-BadForm.ensures alone)))
