-- What the forms define and name is among the names, to which those of imports and exports are added.
use Rattle.std.proofs.Common.{◌≡◌, ℕ, List, [], map, refl, sym, ap, ◌∙◌, subst}
use Rattle.std.proofs.lemmas.List.{length-map}
use Rattle.std.specs.Prelude.{◌&&◌, reverse}
use Rattle.scheme_model.specs.Declarations.{forms_hold}
use Rattle.scheme_model.specs.Diagnostics.{bytes_of, export_diagnostics, form_diagnostics, hiding_diagnostics, is_empty, lost_diagnostics}
use Rattle.scheme_model.specs.Program.{Prepared, export_all, forms_at_work, names_of_unit, with_refused}
use Rattle.syntax_tree.specs.declared.units.Entry.{Entry}
use Rattle.core_tree.specs.Units.{AreDefinitions, definitions_from, defined_by, export_errors, form_errors}
use Rattle.core_tree.specs.declared.cores.Binder.{Binder}
use Rattle.unit_sources.specs.declared.units.ImportSpec.{ImportSpec}
use Rattle.unit_sources.specs.UnitsRead.{forms_of}
use Rattle.read_documents.specs.UnitSources.{IsSpec}
use Rattle.core_tree.specs.Names.{AllMatch}
use Rattle.unit_scopes.proofs.ImportLaws.{same_trees}
use Rattle.expansion_laws.proofs.PartsStay.{forms_on}
use Rattle.unit_imports.proofs.DefinedLaws.{referred}
use Rattle.unit_imports.specs.Defined.{AreKnown, FindsNames}
use Rattle.unit_imports.specs.EntriesMeant.{HaveMeaning}
use Rattle.read_documents.specs.Findings.{Adds, all_told}
use Rattle.read_documents.specs.Places.{spans_of}
use Rattle.unit_imports.specs.SetsGiven.{ImportsAs}
use Rattle.unit_results.specs.UnitsFound.{no_import_diagnostics}
use Rattle.read_documents.specs.declared.findings.Finding.{Finding}
use Rattle.unit_results.proofs.CameKept.{came_of, finds_kept}
use Rattle.unit_results.proofs.NamesKept.{definitions_kept}
use Rattle.unit_imports.proofs.MeaningLaws.{entries_kept, mean_kept, names_itself}
use Rattle.unit_results.proofs.FormsKnown.{formed_known, formed_in, known_kept}
use Rattle.unit_results.proofs.FoundParts.{all_found, none_lost}
use Rattle.unit_results.proofs.results.finished.Goals as goal

pub names_of-requires-clause-known : goal.names_of-requires-clause-known
names_of-requires-clause-known c =
    let names = c.args.work.now.symbols in
    let is : c.as_slice-2.result.now ≡ definitions_from 0 (map referred c.args.forms.now) = c.as_slice-2.ensures.value ∙ c.in_ok-defined.ensures in
    subst (λ (bs : List (ℕ × Binder)). AreKnown names bs) (sym is) (formed_known c.args.work.now c.args.unit (map referred c.args.forms.now) c.requires.forms)

pub add_faults-requires-clause-forms : goal.add_faults-requires-clause-forms
add_faults-requires-clause-forms c =
    let now = c.names_used.new.work.symbols in
    formed_in c.args.work.now c.args.unit (map referred c.args.forms.now) now c.in_ok-used.ensures.names c.requires.forms

pub add_hiding-requires-clause-known : goal.add_hiding-requires-clause-known
add_hiding-requires-clause-known c =
    let old = c.args.work.now.symbols in
    let now = c.names_used.new.work.symbols in
    let is : c.as_slice-8.result.now ≡ definitions_from 0 (map referred c.args.forms.now) = c.as_slice-8.ensures.value ∙ c.in_ok-defined.ensures in
    known_kept old now c.in_ok-used.ensures.names c.as_slice-8.result.now (subst (λ (bs : List (ℕ × Binder)). AreKnown old bs) (sym is) (formed_known c.args.work.now c.args.unit (map referred c.args.forms.now) c.requires.forms))

pub add_unbound_if-requires-clause-forms : goal.add_unbound_if-requires-clause-forms
add_unbound_if-requires-clause-forms c =
    let now = c.names_used.new.work.symbols in
    formed_in c.args.work.now c.args.unit (map referred c.args.forms.now) now c.in_ok-used.ensures.names c.requires.forms

pub returns-in_err-defined-clause-names : goal.returns-in_err-defined-clause-names
returns-in_err-defined-clause-names c = names_itself c.args.work.now.symbols

pub returns-in_err-names-clause-names : goal.returns-in_err-names-clause-names
returns-in_err-names-clause-names c = names_itself c.args.work.now.symbols

pub returns-clause-findings : goal.returns-clause-findings
returns-clause-findings c =
    c.in_ok-add_no_import.ensures.inside (c.in_ok-add_unbound_if.ensures.inside (c.in_ok-add_hiding.ensures.inside (c.in_ok-add_faults.ensures.inside (c.in_ok-exports.ensures.findings (c.in_ok-add_lost.ensures.inside c.requires.findings)))))

pub returns-clause-exports : goal.returns-clause-exports
returns-clause-exports c =
    let old = c.args.work.now.symbols in
    let now = c.names_used.new.work.symbols in
    c.in_ok-exports.ensures.entries now (subst (λ (es : List Entry). HaveMeaning now es) (sym c.as_slice-6.ensures.value) (mean_kept old now c.in_ok-used.ensures.names c.in_ok-names.names.items c.in_ok-names.ensures.means))

pub returns-clause-came : goal.returns-clause-came
returns-clause-came c = λ spelled us q p imports fs own source libraries are many stand told.
    let old = c.args.work.now in
    let new = c.names_used.new.work in
    let unit = c.args.unit in
    let keeps = c.in_ok-used.ensures.names in
    let trees = same_trees old new c.names_used.ensures.trees keeps in
    let find = names_of_unit q.table unit imports.0 in
    let is : c.as_slice-2.result.now ≡ definitions_from 0 (map referred c.args.forms.now) = c.as_slice-2.ensures.value ∙ c.in_ok-defined.ensures in
    let finds = c.in_ok-names.ensures.finds q.table (subst (λ (bs : List (ℕ × Binder)). AreDefinitions old.symbols (reverse bs) (defined_by unit q.table)) (sym is) told) imports.0 are in
    let names = c.in_ok-names.names.items in
    let used = c.in_ok-used.ensures.exact spelled us q.units libraries p.specs (source.imports refl) find (subst (λ (es : List Entry). FindsNames old.symbols es find) (sym c.as_slice-3.ensures.value) finds) p.exports source.exports source.single in
    let exports = c.in_ok-exports.ensures.exact new.symbols find (subst (λ (es : List Entry). FindsNames new.symbols es find) (sym c.as_slice-6.ensures.value) (finds_kept old.symbols new.symbols keeps names find finds)) p.exports source.exports in
    came_of us q p imports fs new _ unit own (entries_kept old.symbols new.symbols keeps c.args.given.joined.entries.items imports.0 are) (forms_on old new trees keeps unit (map referred c.args.forms.now) (with_refused p.number 0 (forms_at_work p) fs) 0 stand) (length-map c.args.forms.now referred ∙ many)
    (definitions_kept old.symbols new.symbols keeps (reverse (definitions_from 0 (map referred c.args.forms.now))) (defined_by unit q.table) told) used exports (c.in_ok-seconds.ensures spelled p.specs (subst (λ (ss : List ImportSpec). AllMatch (IsSpec spelled) ss p.specs) (sym c.as_slice-4.ensures) (source.imports refl)))

pub returns-clause-finds : goal.returns-clause-finds
returns-clause-finds c = λ spelled q p imports fs own source are stand told reads ends r places at unit_is sets lost.
    let old = c.args.work.now in
    let new = c.names_used.new.work in
    let unit = c.args.unit in
    let keeps = c.in_ok-used.ensures.names in
    let trees = same_trees old new c.names_used.ensures.trees keeps in
    let bytes = bytes_of (spans_of reads) ends in
    let find = names_of_unit q.table unit imports.0 in
    let all = with_refused p.number 0 (forms_at_work p) fs in
    let f0 = c.args.given.findings.items in
    let fl = c.add_lost.new.findings.items in
    let f1 = c.exports_given.new.findings.items in
    let f2 = c.add_faults.new.findings.items in
    let f3 = c.add_hiding.new.findings.items in
    let f4 = c.add_unbound_if.new.findings.items in
    let f5 = c.add_no_import.new.findings.items in
    let is : c.as_slice-2.result.now ≡ definitions_from 0 (map referred c.args.forms.now) = c.as_slice-2.ensures.value ∙ c.in_ok-defined.ensures in
    let is_too : c.as_slice-8.result.now ≡ definitions_from 0 (map referred c.args.forms.now) = c.as_slice-8.ensures.value ∙ c.in_ok-defined.ensures in
    let names = c.in_ok-names.names.items in
    let finds = c.in_ok-names.ensures.finds q.table (subst (λ (bs : List (ℕ × Binder)). AreDefinitions old.symbols (reverse bs) (defined_by unit q.table)) (sym is) told) imports.0 are in
    let named = subst (λ (es : List Entry). FindsNames old.symbols es find) (sym c.as_slice-6.ensures.value) finds in
    let xfaults = (export_all find [] p.exports).faults in
    let strings : Adds f0 fl (lost_diagnostics p.placed.source.lost) [] = c.in_ok-add_lost.ensures.exact p.placed.source.lost (c.as_slice-5.ensures ∙ source.lost) lost in
    let exports : Adds fl f1 (export_diagnostics bytes unit xfaults) (export_errors xfaults) =
    record { told = c.in_ok-exports.ensures.told old.symbols find named p.exports source.exports reads ends places; errors = c.in_ok-exports.ensures.errors old.symbols find named p.exports source.exports } in
    let faults : Adds f1 f2 (form_diagnostics bytes (forms_hold unit p.forms) unit all) (form_errors all) =
    subst (λ gs. Adds f1 f2 (form_diagnostics bytes (forms_hold unit gs) unit all) (form_errors all)) (ap forms_of c.as_slice-7.ensures ∙ sym source.forms) (c.in_ok-add_faults.ensures.exact reads ends old all places keeps stand) in
    let hiding = c.in_ok-add_hiding.ensures.exact reads ends q.table imports.0 places
    (subst (λ (bs : List (ℕ × Binder)). AreDefinitions new.symbols (reverse bs) (defined_by unit q.table)) (sym is_too) (definitions_kept old.symbols new.symbols keeps (reverse (definitions_from 0 (map referred c.args.forms.now))) (defined_by unit q.table) told))
    (entries_kept old.symbols new.symbols keeps c.args.given.joined.entries.items imports.0 are) old all stand in
    let unbound = c.in_ok-add_unbound_if.ensures.exact reads ends old unit all places keeps stand in
    let none = c.in_ok-add_no_import.ensures.exact spelled reads ends r places at (subst (λ (x : Prepared). ImportsAs spelled c.args.source.now x) (sym unit_is) (record { kind = source.kind; forms = source.forms; specs = source.imports refl })) in
    let good : c.none_placed-sets_are_good.result ≡ is_empty (all_told f0) = c.none_placed-sets_are_good.ensures ∙ ap (λ (xs : List Finding). is_empty (all_told xs)) c.as_slice.ensures.value in
    let whole = none_lost c.as_slice-9.result.now p.placed.source.lost (c.as_slice-9.ensures ∙ source.lost) in
    all_found reads ends q p imports fs f0 fl f1 f2 f3 f4 f5 c.are_told-are_found.result sets strings
    (subst (λ n. Adds fl f1 (export_diagnostics bytes n (export_all (names_of_unit q.table n imports.0) [] p.exports).faults) (export_errors (export_all (names_of_unit q.table n imports.0) [] p.exports).faults)) (sym own) exports)
    (subst (λ n. Adds f1 f2 (form_diagnostics bytes (forms_hold n p.forms) n all) (form_errors all)) (sym own) faults) (subst (λ n. Adds f2 f3 (hiding_diagnostics bytes n all imports.0 q.table) []) (sym own) hiding)
    (c.are_told-are_found.ensures ∙ (λ j. good j && whole j)) unbound (subst (λ (x : Prepared). Adds f4 f5 (no_import_diagnostics (spans_of reads) x) []) unit_is none)
