-- What is kept is the one finding.
use Rattle.std.proofs.Common.{◌≡◌, ℕ, List, ◌∷◌, [], Option, ap, sym, ◌∙◌, subst}
use Rattle.std.specs.BTreeMap.{insert_entry}
use Rattle.read_documents.specs.Diagnosed.{TellsStop}
use Rattle.scheme_model.specs.DiagnosticTexts.{worded}
use Rattle.read_documents.specs.declared.documents.Unread.{Unread}
use Rattle.read_documents.proofs.KeptLaws.{left_cmp}
use Rattle.program_findings.proofs.diagnosing.tell_stop.Goals as goal

pub returns : goal.returns
returns c =
    let f = c.in-Some.fault in
    let code : c.from-code.result ≡ f.number = c.from-code.ensures in
    let text : c.in_ok-message.field-0 ≡ worded f.number [] = c.in_ok-message.ensures ∙ ap (λ n. worded n []) code in
    let key : ℕ × ℕ × List ℕ = (f.span.start, c.from-code.result, c.in_ok-message.field-0) in
    let one : c.insert.new.self.entries ≡ (key, f.span.end) ∷ [] = c.in_ok-insert.ensures.entries ∙ ap (λ (es : List ((ℕ × ℕ × List ℕ) × ℕ)). insert_entry left_cmp es key f.span.end) c.new-only.ensures.empty in
    subst (λ (o : Option Unread). TellsStop o c.args.findings.now c.insert.new.self) (sym c.in-Some.is) (one ∙ (λ i. ((f.span.start, code i, text i), f.span.end) ∷ []))
