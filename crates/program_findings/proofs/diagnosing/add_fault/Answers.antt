-- The finding stands where the fault does.
use Rattle.std.proofs.Common.{◌≡◌, ◌++◌, ◌∷◌, [], ◌∙◌, Option, Some, length, ap, sym, subst}
use Rattle.scheme_model.specs.declared.Occ.{Occ}
use Rattle.scheme_model.specs.Declarations.{forms_hold}
use Rattle.scheme_model.specs.Diagnostics.{bytes_of, or_start}
use Rattle.unit_sources.specs.UnitsRead.{forms_of}
use Rattle.core_tree.specs.declared.traces.FormFault.{FormFault}
use Rattle.core_tree.specs.Traces.{IsFault}
use Rattle.read_documents.specs.Places.{spans_of}
use Rattle.read_documents.proofs.DiagnosedLaws.{fault_is_found}
use Rattle.read_documents.specs.declared.findings.Finding.{Finding}
use Rattle.read_documents.proofs.FoundLaws.{found_at}
use Rattle.program_findings.proofs.diagnosing.add_fault.Goals as goal

pub returns-clause-inside : goal.returns-clause-inside
returns-clause-inside c = λ found.
    found_at (length c.args.places.documents.now) c.args.findings.now.items c.push.new.self.items c.in_ok-finding.finding c.at_or_form-spot.result c.in_ok-push.ensures.items (ap (λ (f : Finding). f.at) c.in_ok-finding.ensures)
    (c.at_or_form-spot.ensures.inside c.requires.documents) found

pub name_of-name-requires : goal.name_of-name-requires
name_of-name-requires c = λ name is. c.requires.named c.in-Some.fault name c.in-Some.is is

pub returns-clause-fault : goal.returns-clause-fault
returns-clause-fault c = λ rs us names fault e are kept has is.
    let both : Some fault ≡ Some c.in-Some.fault = sym has ∙ c.in-Some.is in
    let same : fault ≡ c.in-Some.fault = cc in
    let here : IsFault names c.in-Some.fault e = subst (λ (x : FormFault). IsFault names x e) same is in
    let one = fault_is_found (bytes_of (spans_of rs) us) (forms_hold c.args.unit (forms_of c.args.sources.now)) c.args.unit c.args.number names c.in-Some.fault e here c.at_or_form-spot.result c.name_of-name.result.now
    (c.at_or_form-spot.ensures.exact rs us are ∙ ap (λ (o : Option Occ). bytes_of (spans_of rs) us (or_start c.args.unit c.args.number o)) c.fault_occ-occ.ensures) (c.name_of-name.ensures names e kept here) c.in_ok-finding.finding c.in_ok-finding.ensures in
    c.in_ok-push.ensures.items ∙ ap (λ (f : Finding). c.args.findings.now.items ++ f ∷ []) one
