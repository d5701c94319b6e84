-- The finding stands in a document.
use Rattle.std.proofs.Common.{◌≡◌, List, [], ◌∷◌, ◌++◌, length, sym, ap, ◌∙◌, subst}
use Rattle.scheme_model.specs.Diagnostics.{document_of, whole_fault}
use Rattle.scheme_model.specs.Program.{whole_code}
use Rattle.read_documents.specs.declared.heads.WholeFault.{WholeFault}
use Rattle.read_documents.specs.declared.findings.Finding.{Finding}
use Rattle.read_documents.specs.Diagnosed.{IsWhole}
use Rattle.read_documents.specs.Findings.{Adds}
use Rattle.read_documents.specs.Places.{AreFoundIn, spans_of}
use Rattle.read_documents.proofs.FoundLaws.{found_none, found_more}
use Rattle.unit_results.proofs.UnitsTurns.{blank_formed}
use Rattle.program_findings.proofs.WholeLaws.{whole_found, whole_of}
use Rattle.unit_results.proofs.results.broken.Goals as goal

pub returns-clause-findings : goal.returns-clause-findings
returns-clause-findings c =
    let count = length c.args.places.documents.now in
    let f = c.in_ok-finding.finding in
    subst (λ (fs : List Finding). AreFoundIn count fs) (sym (c.in_ok-push.ensures.items ∙ ap (λ (fs : List Finding). fs ++ f ∷ []) c.new-findings.ensures.items)) (found_more count [] f (found_none count) c.in_ok-finding.ensures.inside)

pub returns-clause-formed : goal.returns-clause-formed
returns-clause-formed c = λ work. blank_formed work c.args.unit c.in_ok-blank_forms.field-0 c.in_ok-blank_forms.ensures.blank

pub returns-clause-finds : goal.returns-clause-finds
returns-clause-finds c = λ rs p r f places at broken fault.
    let one = c.in_ok-finding.finding in
    let adds = c.in_ok-finding.ensures.exact rs p.units r f places at (subst (λ (w : WholeFault). IsWhole w f) (sym fault) (whole_of f)) in
    let is : c.push.new.self.items ≡ one ∷ [] = c.in_ok-push.ensures.items ∙ ap (λ (fs : List Finding). fs ++ one ∷ []) c.new-findings.ensures.items in
    whole_found rs p r f c.push.new.self.items broken (subst (λ (fs : List Finding). Adds [] fs (whole_fault (spans_of rs) (document_of p.units) r.unit f ∷ []) ((whole_code f, 0) ∷ [])) (sym is) adds)
