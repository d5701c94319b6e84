use Rattle.std.proofs.Common.{◌≡◌, ◌++◌, List, [], ◌∷◌, ap, sym, subst, slice_set, length, ◌<◌, arith, refl}
use Rattle.std.proofs.lemmas.Option.{slice_get_read}
use Rattle.scheme_model.specs.Diagnostics.{Diagnostic}
use Rattle.read_documents.specs.Findings.{AreKept, diagnostic, told, told_at}
use Rattle.read_documents.proofs.KeptLaws.{kept_one}
use Rattle.program_findings.proofs.sorted_findings.add_one.Goals as goal

pub returns-in_ok-insert-clause-kept : goal.returns-in_ok-insert-clause-kept
returns-in_ok-insert-clause-kept c = λ ds h.
    let all = c.args.all.now.items in
    let d : Diagnostic = diagnostic c.in-Some.field-0 c.args.finding.code c.args.finding.message in
    let one : told c.args.finding ≡ d ∷ [] = ap (λ at. told_at at c.args.finding.code c.args.finding.message) c.in-Some.is in
    let within = c.requires c.in-Some.field-0 c.in-Some.is in
    let here : c.in-Some.field-0.document < length all = omega arith in
    let at = slice_get_read all (length all) c.in-Some.field-0.document c.index_mut.result.now refl here c.index_mut.ensures.value in
    subst (λ (x : List Diagnostic). AreKept (ds ++ x) (slice_set all c.in-Some.field-0.document c.insert.new.self)) (sym one)
    (kept_one ds all d c.index_mut.result.now c.insert.new.self at c.in_ok-insert.ensures.entries h)
