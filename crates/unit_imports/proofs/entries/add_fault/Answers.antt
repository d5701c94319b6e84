use Rattle.std.proofs.Common.{◌∷◌, [], ◌++◌, ◌∙◌, length, ap, sym, subst, arith}
use Rattle.scheme_model.specs.Diagnostics.{bytes_of, bytes_or}
use Rattle.scheme_model.specs.Entries as model
use Rattle.core_tree.specs.Units.{import_code}
use Rattle.import_sets.specs.declared.fault.ImportFault.{ImportFault}
use Rattle.read_documents.specs.Findings.{all_told, errors_in}
use Rattle.read_documents.specs.Places.{bytes_at, spans_of}
use Rattle.unit_imports.specs.SetsGiven.{IsSetFault}
use Rattle.read_documents.specs.declared.findings.At.{At}
use Rattle.read_documents.proofs.FoundLaws.{at_in}
use Rattle.unit_imports.proofs.GivenLaws.{bad_set_told, clash_fault_told, missing_told, seen_at}
use Rattle.unit_imports.proofs.entries.add_fault.Goals as goal

pub returns-in-NotThere-clause-told : goal.returns-in-NotThere-clause-told
returns-in-NotThere-clause-told c = λ f is reads us places.
    missing_told (all_told c.args.findings.now.items) _ c.place_or-at.result c.in-NotThere.name _ (bytes_of (spans_of reads) us) (seen_at c.args.set.document c.args.set.spec.now.span) f
    (subst (λ (g : ImportFault). IsSetFault g f) c.in-NotThere.is is)
    (c.place_or-at.ensures.exact reads us places ∙ ap (λ (a : At). bytes_or (bytes_of (spans_of reads) us) (bytes_at a) c.in-NotThere.name.occ) c.at-whole.ensures) c.as_str-name.ensures c.in_ok-add_found-in-NotThere.ensures.told

pub returns-in-Clash-clause-told : goal.returns-in-Clash-clause-told
returns-in-Clash-clause-told c = λ f is reads us places.
    clash_fault_told (all_told c.args.findings.now.items) _ c.args.set.document c.args.set.spec.now.span c.at-whole.result c.in-Clash.name _ (bytes_of (spans_of reads) us) f
    (subst (λ (g : ImportFault). IsSetFault g f) c.in-Clash.is is) c.at-whole.ensures c.as_str.ensures c.in_ok-add_found-in-Clash.ensures.told

pub returns-in-BadSet-clause-told : goal.returns-in-BadSet-clause-told
returns-in-BadSet-clause-told c = λ f is reads us places.
    bad_set_told (all_told c.args.findings.now.items) _ c.args.set.document c.args.set.spec.now.span c.at-whole.result (bytes_of (spans_of reads) us) f
    (subst (λ (g : ImportFault). IsSetFault g f) c.in-BadSet.is is) c.at-whole.ensures c.in_ok-add_found-in-BadSet.ensures.told

pub returns-in-NotThere-clause-inside : goal.returns-in-NotThere-clause-inside
returns-in-NotThere-clause-inside c = λ found. c.in_ok-add_found-in-NotThere.ensures.inside (length c.args.places.documents.now) (at_in (length c.args.places.documents.now) c.place_or-at.result c.place_or-at.ensures.inside) found

pub returns-in-Clash-clause-inside : goal.returns-in-Clash-clause-inside
returns-in-Clash-clause-inside c = λ found.
    c.in_ok-add_found-in-Clash.ensures.inside (length c.args.places.documents.now)
    (at_in (length c.args.places.documents.now) c.at-whole.result (let e = ap (λ (a : At). a.document) c.at-whole.ensures in omega arith)) found

pub returns-in-BadSet-clause-inside : goal.returns-in-BadSet-clause-inside
returns-in-BadSet-clause-inside c = λ found.
    c.in_ok-add_found-in-BadSet.ensures.inside (length c.args.places.documents.now)
    (at_in (length c.args.places.documents.now) c.at-whole.result (let e = ap (λ (a : At). a.document) c.at-whole.ensures in omega arith)) found

pub returns-in-NotThere-clause-errors : goal.returns-in-NotThere-clause-errors
returns-in-NotThere-clause-errors c = λ f is.
    c.in_ok-add_found-in-NotThere.ensures.errors
    ∙ ap (λ (g : model.ImportFault). errors_in c.args.findings.now.items ++ (import_code g, c.args.set.form) ∷ []) (sym (subst (λ (g : ImportFault). IsSetFault g f) c.in-NotThere.is is))

pub returns-in-Clash-clause-errors : goal.returns-in-Clash-clause-errors
returns-in-Clash-clause-errors c = λ f is.
    c.in_ok-add_found-in-Clash.ensures.errors
    ∙ ap (λ (g : model.ImportFault). errors_in c.args.findings.now.items ++ (import_code g, c.args.set.form) ∷ []) (sym (subst (λ (g : ImportFault). IsSetFault g f) c.in-Clash.is is))

pub returns-in-BadSet-clause-errors : goal.returns-in-BadSet-clause-errors
returns-in-BadSet-clause-errors c = λ f is.
    c.in_ok-add_found-in-BadSet.ensures.errors
    ∙ ap (λ (g : model.ImportFault). errors_in c.args.findings.now.items ++ (import_code g, c.args.set.form) ∷ []) (sym (subst (λ (g : ImportFault). IsSetFault g f) c.in-BadSet.is is))
