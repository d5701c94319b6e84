-- The unit is begun with what it is given, and its forms are told over names that stay.
use Rattle.std.proofs.Common.{◌≡◌, ℕ, List, [], length, map, Option, Some, refl, sym, ap, ◌∙◌, subst}
use Rattle.std.specs.Prelude.{reverse}
use Rattle.std.proofs.lemmas.List.{length-map}
use Rattle.scheme_model.specs.Declarations.{UnitForm as ModelForm}
use Rattle.scheme_model.specs.Program.{forms_at_work, unit_entries, unit_result, with_entries, with_refused}
use Rattle.scheme_model.specs.ScopedProgram.{scoped_start_of}
use Rattle.scheme_model.specs.UnitExpansion.{Formed}
use Rattle.syntax_tree.specs.Names.{KeepsNames}
use Rattle.syntax_tree.specs.declared.units.Entry.{Entry}
use Rattle.core_tree.specs.Names.{AllMatch}
use Rattle.core_tree.specs.Units.{FormsStand, AreDefinitions, definitions_from, defined_by}
use Rattle.core_tree.specs.declared.cores.Binder.{Binder}
use Rattle.core_tree.specs.declared.units.UnitForm as core
use Rattle.unit_sources.specs.UnitsRead.{form_of, forms_of}
use Rattle.unit_sources.specs.declared.units.UnitForm.{UnitForm}
use Rattle.unit_scopes.specs.Opened.{AreNumbered}
use Rattle.unit_scopes.specs.State.{is_program}
use Rattle.unit_scopes.specs.declared.scope.Imported.{Imported}
use Rattle.unit_scopes.proofs.ImportLaws.{same_trees}
use Rattle.unit_scopes.proofs.OutcomeLaws.{grows_on, trees_on}
use Rattle.standard_scopes.specs.Begun.{IsImport}
use Rattle.program_leaves.specs.Formed.{IsFormed}
use Rattle.program_expansion.specs.AtWork.{worked_forms}
use Rattle.program_expansion.specs.UnitResults.{expanded_after, with_unit}
use Rattle.form_expansion.specs.Forms.{AreFormed, Unfolds}
use Rattle.unit_results.specs.Came.{CameTo}
use Rattle.unit_results.specs.UnitsFound.{in_the_end}
use Rattle.unit_imports.specs.Whole.{with_forms}
use Rattle.unit_imports.specs.declared.expanded.Expanded.{Expanded}
use Rattle.unit_imports.proofs.DefinedLaws.{referred}
use Rattle.read_documents.specs.Places.{AreFoundIn}
use Rattle.read_documents.specs.UnitFindings.{IsFoundOf}
use Rattle.read_documents.specs.WereRead.{WereRead}
use Rattle.standard_scopes.proofs.Growing.{grows_named, grows_twice}
use Rattle.form_expansion.proofs.BenchLaws.{bench_in}
use Rattle.program_expansion.proofs.ImportedNames.{are_numbered}
use Rattle.unit_results.proofs.CameKept.{libraries_kept}
use Rattle.unit_imports.proofs.MeaningLaws.{entries_kept, mean_kept, names_on}
use Rattle.program_expansion.proofs.TurnsForget.{may_forget}
use Rattle.program_expansion.proofs.UnitCame.{goes_begun, none_expands, its_forms, some_expands, stands_at}
use Rattle.program_expansion.proofs.UnitLaws.{imports_given, unit_begun}
use Rattle.program_expansion.proofs.WorkedForms.{worked_is, worked_read}
use Rattle.program_expansion.proofs.UnitNumbers.{own_numbers, searched_numbers, with_own}
use Rattle.unit_results.proofs.UnitsTurns.{all_mean, formed_on, of_some}
use Rattle.program_expansion.proofs.expanding.expand_unit.Goals as goal

pub begin_unit-requires-clause-numbered : goal.begin_unit-requires-clause-numbered
begin_unit-requires-clause-numbered g c =
    let names = c.imported.new.work.symbols in
    subst (λ (xs : List Imported). AreNumbered names xs) (sym c.as_slice-2.ensures.value) (are_numbered names c.in_ok-imports.imports.items c.as_slice.result.now c.in_ok-imports.ensures.imports)

pub expand_forms-requires-clause-begun : goal.expand_forms-requires-clause-begun
expand_forms-requires-clause-begun g c =
    let b = c.args.bench.now in
    let w = c.imported.new.work in
    let xs = c.as_slice-2.result.now in
    let es = c.args.given.joined.entries.items in
    let all : AllMatch (IsImport w.symbols) xs es = subst (λ (ys : List Entry). AllMatch (IsImport w.symbols) xs ys) c.as_slice.ensures.value
    (subst (λ (ys : List Imported). AllMatch (IsImport w.symbols) ys c.as_slice.result.now) (sym c.as_slice-2.ensures.value) c.in_ok-imports.ensures.imports) in
    let given = imports_given b.work.symbols w.symbols c.in_ok-imports.ensures.names xs es all c.requires.entries c.requires.once in
    unit_begun b (record { work = c.begin_unit.new.work; region = b.region; scope = c.begin_unit.new.self }) w c.args.unit (is_program c.args.source.now.kind) xs given.0 c.requires.bench c.in_ok-imports.ensures.trees c.in_ok-imports.ensures.names
    c.told_apart.ensures.idents c.told_apart.ensures.symbols given.1 refl c.in_ok-begin_unit.ensures.trees c.in_ok-begin_unit.ensures.names c.in_ok-begin_unit.ensures.rests c.in_ok-begin_unit.ensures.fresh c.in_ok-begin_unit.ensures.own

pub expand_forms-requires-clause-read : goal.expand_forms-requires-clause-read
expand_forms-requires-clause-read g c = subst (λ (fs : List UnitForm). WereRead (forms_of fs)) (sym c.at_work.ensures) (worked_read c.args.source.now c.requires.read)

pub finished-requires-clause-exports : goal.finished-requires-clause-exports
finished-requires-clause-exports g c =
    let old = c.args.bench.now.work.symbols in
    let now = c.expand_forms.new.bench.work.symbols in
    let keeps : KeepsNames old now = names_on old c.imported.new.work.symbols now c.in_ok-imports.ensures.names (names_on c.imported.new.work.symbols c.begin_unit.new.work.symbols now c.in_ok-begin_unit.ensures.names c.in_ok-expanded.ensures.stays.names) in
    all_mean old now keeps c.args.libraries.expanded.now c.requires.exports

pub finished-requires-clause-entries : goal.finished-requires-clause-entries
finished-requires-clause-entries g c =
    let old = c.args.bench.now.work.symbols in
    let now = c.expand_forms.new.bench.work.symbols in
    let keeps : KeepsNames old now = names_on old c.imported.new.work.symbols now c.in_ok-imports.ensures.names (names_on c.imported.new.work.symbols c.begin_unit.new.work.symbols now c.in_ok-begin_unit.ensures.names c.in_ok-expanded.ensures.stays.names) in
    mean_kept old now keeps c.args.given.joined.entries.items c.requires.entries

pub returns-in-None-clause-names : goal.returns-in-None-clause-names
returns-in-None-clause-names g c =
    let old = c.args.bench.now.work.symbols in
    let now = c.expand_forms.new.bench.work.symbols in
    names_on old c.imported.new.work.symbols now c.in_ok-imports.ensures.names (names_on c.imported.new.work.symbols c.begin_unit.new.work.symbols now c.in_ok-begin_unit.ensures.names c.in_ok-expanded.ensures.stays.names)

pub returns-in-None-clause-others : goal.returns-in-None-clause-others
returns-in-None-clause-others g c = λ v ne new. c.in_ok-expanded.ensures.stays.others v (c.in_ok-begin_unit.ensures.others v ne new)

pub returns-in_ok-rest-in-Some-clause-names : goal.returns-in_ok-rest-in-Some-clause-names
returns-in_ok-rest-in-Some-clause-names g c =
    let old = c.args.bench.now.work.symbols in
    let now = c.expand_forms.new.bench.work.symbols in
    names_on old now c.finished.new.work.symbols (names_on old c.imported.new.work.symbols now c.in_ok-imports.ensures.names (names_on c.imported.new.work.symbols c.begin_unit.new.work.symbols now c.in_ok-begin_unit.ensures.names c.in_ok-expanded.ensures.stays.names))
    c.in_ok-rest-in-Some.ensures.names

pub returns-in_ok-rest-in-Some-clause-others : goal.returns-in_ok-rest-in-Some-clause-others
returns-in_ok-rest-in-Some-clause-others g c = λ v ne new. c.in_ok-expanded.ensures.stays.others v (c.in_ok-begin_unit.ensures.others v ne new)

pub returns-in_ok-rest-in-Some-clause-bench : goal.returns-in_ok-rest-in-Some-clause-bench
returns-in_ok-rest-in-Some-clause-bench g c =
    bench_in c.expand_forms.new.bench c.finished.new.work c.in_ok-rest-in-Some.ensures.trees c.in_ok-rest-in-Some.ensures.names c.told_apart-in-Some.ensures.idents c.told_apart-in-Some.ensures.symbols c.in_ok-expanded.ensures.bench

pub all_forms-requires : goal.all_forms-requires
all_forms-requires g c =
    of_some (λ (cs : List core.UnitForm). length cs ≡ length c.at_work.result.now) c.in_ok-expanded.expanded c.in_ok-expanded.ensures.count c.in-Some.forms c.in-Some.is ∙ ap (λ (fs : List UnitForm). length fs) c.at_work.ensures

pub finished-requires-clause-forms : goal.finished-requires-clause-forms
finished-requires-clause-forms g c =
    let these : map referred c.as_slice-in-Some-2.result.now ≡ c.in_ok-forms-in-Some.forms = ap (λ fs. map referred fs) c.as_slice-in-Some-2.ensures.value ∙ c.in_ok-referred-in-Some.ensures ∙ c.as_slice-in-Some.ensures in
    subst (λ (fs : List core.UnitForm). AreFormed c.expand_forms.new.bench.work c.args.unit fs) (sym these)
    (c.in_ok-forms-in-Some.ensures.formed c.expand_forms.new.bench.work (of_some (AreFormed c.expand_forms.new.bench.work c.args.unit) c.in_ok-expanded.expanded c.in_ok-expanded.ensures.formed c.in-Some.forms c.in-Some.is))

pub returns-in-None-clause-trees : goal.returns-in-None-clause-trees
returns-in-None-clause-trees g c =
    let a = c.args.bench.now.work in
    let b = c.imported.new.work in
    let d = c.begin_unit.new.work in
    trees_on a d c.expand_forms.new.bench.work
    (trees_on a b d (same_trees a b c.in_ok-imports.ensures.trees c.in_ok-imports.ensures.names) (same_trees b d c.in_ok-begin_unit.ensures.trees c.in_ok-begin_unit.ensures.names)) c.in_ok-expanded.ensures.stays.trees

pub returns-in_ok-rest-in-Some-clause-trees : goal.returns-in_ok-rest-in-Some-clause-trees
returns-in_ok-rest-in-Some-clause-trees g c =
    let a = c.args.bench.now.work in
    let b = c.imported.new.work in
    let d = c.begin_unit.new.work in
    let e = c.expand_forms.new.bench.work in
    let f = c.finished.new.work in
    trees_on a e f
    (trees_on a d e (trees_on a b d (same_trees a b c.in_ok-imports.ensures.trees c.in_ok-imports.ensures.names) (same_trees b d c.in_ok-begin_unit.ensures.trees c.in_ok-begin_unit.ensures.names)) c.in_ok-expanded.ensures.stays.trees)
    (same_trees e f c.in_ok-rest-in-Some.ensures.trees c.in_ok-rest-in-Some.ensures.names)

pub returns-in_ok-rest-in-Some-clause-formed : goal.returns-in_ok-rest-in-Some-clause-formed
returns-in_ok-rest-in-Some-clause-formed g c =
    let e = c.expand_forms.new.bench.work in
    let f = c.finished.new.work in
    let unit = c.args.unit in
    let are = c.in_ok-forms-in-Some.ensures.formed e (of_some (AreFormed e unit) c.in_ok-expanded.expanded c.in_ok-expanded.ensures.formed c.in-Some.forms c.in-Some.is) in
    subst (λ (x : Expanded). IsFormed f unit x.forms) (sym c.with.ensures)
    (formed_on e f (same_trees e f c.in_ok-rest-in-Some.ensures.trees c.in_ok-rest-in-Some.ensures.names) c.in_ok-rest-in-Some.ensures.names unit c.in_ok-forms-in-Some.forms (are.formed, are.stand))

pub returns-in_ok-rest-in-Some-clause-findings : goal.returns-in_ok-rest-in-Some-clause-findings
returns-in_ok-rest-in-Some-clause-findings g c =
    subst (λ (x : Expanded). AreFoundIn (length c.args.places.documents.now) x.findings.items) (sym c.with.ensures) c.in_ok-rest-in-Some.ensures.findings

-- ---- what the definition has of the unit

pub returns-in-None-clause-expands : goal.returns-in-None-clause-expands
returns-in-None-clause-expands g c = λ spelled all known gp p knows goes turn own source libraries are.
    let imports = unit_entries all gp.results p in
    let b = c.args.bench.now in
    let w = c.imported.new.work in
    let xs = c.as_slice-2.result.now in
    let es = c.args.given.joined.entries.items in
    let matched : AllMatch (IsImport w.symbols) xs es = subst (λ (ys : List Entry). AllMatch (IsImport w.symbols) xs ys) c.as_slice.ensures.value
    (subst (λ (ys : List Imported). AllMatch (IsImport w.symbols) ys c.as_slice.result.now) (sym c.as_slice-2.ensures.value) c.in_ok-imports.ensures.imports) in
    let begins =
    goes_begun b (record { work = c.begin_unit.new.work; region = b.region; scope = c.begin_unit.new.self }) w c.args.unit c.args.source.now.kind xs es p gp imports.0 goes own source.kind c.in_ok-imports.ensures.trees
    c.in_ok-imports.ensures.names c.told_apart.ensures.idents c.told_apart.ensures.symbols matched are c.requires.once c.in_ok-begin_unit.ensures.rests c.in_ok-begin_unit.ensures.fresh c.in_ok-begin_unit.ensures.own in
    let start = scoped_start_of p gp (with_entries p.number imports.0 gp.entry) in
    let begun = scoped_start_of p goes.outside (with_entries p.number imports.0 goes.outside.entry) in
    let may = may_forget all known p goes.outside gp turn goes.is in
    let unfolds = c.in_ok-expanded.ensures.unfolds known begins.layout start begun p (c.in_ok-begin_unit.ensures.knows known knows) begins.stands may own begins.fresh own
    (worked_is p c.args.source.now source.kind source.forms ∙ ap (λ (fs : List UnitForm). forms_of fs) (sym c.at_work.ensures)) in
    none_expands all known c.expand_forms.new.bench gp p imports c.args.steps.now c.expand_forms.new.steps
    (subst (λ (cs : Option (List core.UnitForm)). Unfolds c.expand_forms.new.bench known p start cs) c.in-None.is unfolds)
    (c.in_ok-expanded.ensures.steps known begins.layout start begun p (c.in_ok-begin_unit.ensures.knows known knows) begins.stands may own begins.fresh own
    (worked_is p c.args.source.now source.kind source.forms ∙ ap (λ (fs : List UnitForm). forms_of fs) (sym c.at_work.ensures)))

pub returns-in_ok-rest-in-Some-clause-expands : goal.returns-in_ok-rest-in-Some-clause-expands
returns-in_ok-rest-in-Some-clause-expands g c = λ spelled all known gp p knows goes turn own source libraries are.
    let imports = unit_entries all gp.results p in
    let b = c.args.bench.now in
    let w = c.imported.new.work in
    let xs = c.as_slice-2.result.now in
    let es = c.args.given.joined.entries.items in
    let matched : AllMatch (IsImport w.symbols) xs es = subst (λ (ys : List Entry). AllMatch (IsImport w.symbols) xs ys) c.as_slice.ensures.value
    (subst (λ (ys : List Imported). AllMatch (IsImport w.symbols) ys c.as_slice.result.now) (sym c.as_slice-2.ensures.value) c.in_ok-imports.ensures.imports) in
    let begins =
    goes_begun b (record { work = c.begin_unit.new.work; region = b.region; scope = c.begin_unit.new.self }) w c.args.unit c.args.source.now.kind xs es p gp imports.0 goes own source.kind c.in_ok-imports.ensures.trees
    c.in_ok-imports.ensures.names c.told_apart.ensures.idents c.told_apart.ensures.symbols matched are c.requires.once c.in_ok-begin_unit.ensures.rests c.in_ok-begin_unit.ensures.fresh c.in_ok-begin_unit.ensures.own in
    let start = scoped_start_of p gp (with_entries p.number imports.0 gp.entry) in
    let begun = scoped_start_of p goes.outside (with_entries p.number imports.0 goes.outside.entry) in
    let may = may_forget all known p goes.outside gp turn goes.is in
    let unfolds = c.in_ok-expanded.ensures.unfolds known begins.layout start begun p (c.in_ok-begin_unit.ensures.knows known knows) begins.stands may own begins.fresh own
    (worked_is p c.args.source.now source.kind source.forms ∙ ap (λ (fs : List UnitForm). forms_of fs) (sym c.at_work.ensures)) in
    let mid = c.expand_forms.new.bench in
    let d = c.begin_unit.new.work in
    let forms = c.in-Some.forms in
    let f = its_forms all known mid gp p imports forms (subst (λ (cs : Option (List core.UnitForm)). Unfolds mid known p start cs) c.in-Some.is unfolds) in
    let names = names_on b.work.symbols w.symbols mid.work.symbols c.in_ok-imports.ensures.names (names_on w.symbols d.symbols mid.work.symbols c.in_ok-begin_unit.ensures.names c.in_ok-expanded.ensures.stays.names) in
    let all_forms = c.in_ok-forms-in-Some.forms in
    let read = worked_is p c.args.source.now source.kind source.forms in
    let many : length all_forms ≡ length p.forms =
    c.in_ok-forms-in-Some.ensures.count ∙ (sym (length-map c.args.source.now.forms form_of) ∙ ap (λ (fs : List ModelForm). length fs) (sym source.forms)) in
    let gone = expanded_after known gp p imports.0 in
    let these : map referred c.as_slice-in-Some-2.result.now ≡ c.in_ok-forms-in-Some.forms = ap (λ fs. map referred fs) c.as_slice-in-Some-2.ensures.value ∙ c.in_ok-referred-in-Some.ensures ∙ c.as_slice-in-Some.ensures in
    let slice = c.as_slice-in-Some-2.result.now in
    let came = c.in_ok-rest-in-Some.ensures.came spelled all (with_unit gp gone.1) p imports f.formed own source (libraries_kept b.work.symbols mid.work.symbols names c.args.libraries spelled all gp.results libraries)
    (entries_kept b.work.symbols mid.work.symbols names es imports.0 are) (sym (length-map slice referred) ∙ (ap (λ (fs : List core.UnitForm). length fs) these ∙ many))
    (subst (λ (fs : List core.UnitForm). FormsStand mid.work c.args.unit 0 fs (with_refused p.number 0 (forms_at_work p) f.formed)) (sym these) (with_own mid.work c.args.unit p (forms_of (worked_forms c.args.source.now)) all_forms f.formed own read
    (c.in_ok-forms-in-Some.ensures.stand mid.work f.formed (subst (λ (n : ℕ). FormsStand mid.work n 0 forms f.formed) own f.stand)
    (own_numbers c.args.unit p (forms_of (worked_forms c.args.source.now)) f.formed own read (searched_numbers known p start f.formed f.is)))))
    (subst (λ (fs : List core.UnitForm). AreDefinitions mid.work.symbols (reverse (definitions_from 0 fs)) (defined_by c.args.unit gone.1.table)) (sym these) (subst (λ (bs : List (ℕ × Binder)). AreDefinitions mid.work.symbols (reverse bs) (defined_by c.args.unit gone.1.table)) (sym c.in_ok-forms-in-Some.ensures.definitions)
    (subst (λ (n : ℕ). AreDefinitions mid.work.symbols (reverse (definitions_from 0 forms)) (defined_by n gone.1.table)) own f.definitions))) in
    let whole : with_forms c.in_ok-rest-in-Some.rest (map referred slice) ≡ c.with.result = ap (with_forms c.in_ok-rest-in-Some.rest) these ∙ sym c.with.ensures in
    some_expands all known mid gp p imports (record mid { work = c.finished.new.work }) c.with.result forms
    (stands_at mid c.finished.new.work gone.1 c.in_ok-rest-in-Some.ensures.trees c.in_ok-rest-in-Some.ensures.names c.told_apart-in-Some.ensures.idents c.told_apart-in-Some.ensures.symbols unfolds.stands) f
    (subst (λ (x : Expanded). CameTo all (with_unit gp gone.1) c.finished.new.work x (unit_result p imports gone.1.table (Some f.formed))) whole came)
    c.args.steps.now c.expand_forms.new.steps
    (c.in_ok-expanded.ensures.steps known begins.layout start begun p (c.in_ok-begin_unit.ensures.knows known knows) begins.stands may own begins.fresh own
    (worked_is p c.args.source.now source.kind source.forms ∙ ap (λ (fs : List UnitForm). forms_of fs) (sym c.at_work.ensures)))

pub returns-in_ok-rest-in-Some-clause-finds : goal.returns-in_ok-rest-in-Some-clause-finds
returns-in_ok-rest-in-Some-clause-finds g c = λ spelled all known gp p knows goes turn own source are reads ends r places at unit_is sets lost.
    let imports = unit_entries all gp.results p in
    let b = c.args.bench.now in
    let w = c.imported.new.work in
    let xs = c.as_slice-2.result.now in
    let es = c.args.given.joined.entries.items in
    let matched : AllMatch (IsImport w.symbols) xs es = subst (λ (ys : List Entry). AllMatch (IsImport w.symbols) xs ys) c.as_slice.ensures.value
    (subst (λ (ys : List Imported). AllMatch (IsImport w.symbols) ys c.as_slice.result.now) (sym c.as_slice-2.ensures.value) c.in_ok-imports.ensures.imports) in
    let begins =
    goes_begun b (record { work = c.begin_unit.new.work; region = b.region; scope = c.begin_unit.new.self }) w c.args.unit c.args.source.now.kind xs es p gp imports.0 goes own source.kind c.in_ok-imports.ensures.trees
    c.in_ok-imports.ensures.names c.told_apart.ensures.idents c.told_apart.ensures.symbols matched are c.requires.once c.in_ok-begin_unit.ensures.rests c.in_ok-begin_unit.ensures.fresh c.in_ok-begin_unit.ensures.own in
    let start = scoped_start_of p gp (with_entries p.number imports.0 gp.entry) in
    let begun = scoped_start_of p goes.outside (with_entries p.number imports.0 goes.outside.entry) in
    let may = may_forget all known p goes.outside gp turn goes.is in
    let unfolds = c.in_ok-expanded.ensures.unfolds known begins.layout start begun p (c.in_ok-begin_unit.ensures.knows known knows) begins.stands may own begins.fresh own
    (worked_is p c.args.source.now source.kind source.forms ∙ ap (λ (fs : List UnitForm). forms_of fs) (sym c.at_work.ensures)) in
    let mid = c.expand_forms.new.bench in
    let d = c.begin_unit.new.work in
    let forms = c.in-Some.forms in
    let f = its_forms all known mid gp p imports forms (subst (λ (cs : Option (List core.UnitForm)). Unfolds mid known p start cs) c.in-Some.is unfolds) in
    let names = names_on b.work.symbols w.symbols mid.work.symbols c.in_ok-imports.ensures.names (names_on w.symbols d.symbols mid.work.symbols c.in_ok-begin_unit.ensures.names c.in_ok-expanded.ensures.stays.names) in
    let gone = expanded_after known gp p imports.0 in
    let came = c.in_ok-rest-in-Some.rest in
    let read = worked_is p c.args.source.now source.kind source.forms in
    let these : map referred c.as_slice-in-Some-2.result.now ≡ c.in_ok-forms-in-Some.forms = ap (λ fs. map referred fs) c.as_slice-in-Some-2.ensures.value ∙ c.in_ok-referred-in-Some.ensures ∙ c.as_slice-in-Some.ensures in
    let found = c.in_ok-rest-in-Some.ensures.finds spelled (with_unit gp gone.1) p imports f.formed own source (entries_kept b.work.symbols mid.work.symbols names es imports.0 are)
    (subst (λ (fs : List core.UnitForm). FormsStand mid.work c.args.unit 0 fs (with_refused p.number 0 (forms_at_work p) f.formed)) (sym these) (with_own mid.work c.args.unit p (forms_of (worked_forms c.args.source.now)) c.in_ok-forms-in-Some.forms f.formed own read
    (c.in_ok-forms-in-Some.ensures.stand mid.work f.formed (subst (λ (n : ℕ). FormsStand mid.work n 0 forms f.formed) own f.stand)
    (own_numbers c.args.unit p (forms_of (worked_forms c.args.source.now)) f.formed own read (searched_numbers known p start f.formed f.is)))))
    (subst (λ (fs : List core.UnitForm). AreDefinitions mid.work.symbols (reverse (definitions_from 0 fs)) (defined_by c.args.unit gone.1.table)) (sym these) (subst (λ (bs : List (ℕ × Binder)). AreDefinitions mid.work.symbols (reverse bs) (defined_by c.args.unit gone.1.table)) (sym c.in_ok-forms-in-Some.ensures.definitions)
    (subst (λ (n : ℕ). AreDefinitions mid.work.symbols (reverse (definitions_from 0 forms)) (defined_by n gone.1.table)) own f.definitions))) reads ends r places at unit_is sets lost in
    subst (λ (x : Expanded). IsFoundOf reads (in_the_end ends (with_unit gp gone.1)) (unit_result p imports gone.1.table gone.0) x.findings.items) (sym c.with.ensures)
    (subst (λ (o : Option (List Formed)). IsFoundOf reads (in_the_end ends (with_unit gp gone.1)) (unit_result p imports gone.1.table o) came.findings.items) (sym f.is) found)

pub returns-in-None-clause-libraries : goal.returns-in-None-clause-libraries
returns-in-None-clause-libraries g c = λ known knows. c.in_ok-expanded.ensures.stays.libraries known (c.in_ok-begin_unit.ensures.knows known knows)

pub returns-in_ok-rest-in-Some-clause-libraries : goal.returns-in_ok-rest-in-Some-clause-libraries
returns-in_ok-rest-in-Some-clause-libraries g c = λ known knows. c.in_ok-expanded.ensures.stays.libraries known (c.in_ok-begin_unit.ensures.knows known knows)

-- ---- what the work keeps, whatever is answered

pub returns-in_err-imports-clause-grows : goal.returns-in_err-imports-clause-grows
returns-in_err-imports-clause-grows g c =
    let b = c.args.bench.now in grows_named b.work c.imported.new.work b.region c.imported.ensures.trees c.imported.ensures.names

pub returns-in_err-begin_unit-clause-grows : goal.returns-in_err-begin_unit-clause-grows
returns-in_err-begin_unit-clause-grows g c =
    let b = c.args.bench.now in
    grows_twice b.work c.imported.new.work c.begin_unit.new.work b.region c.imported.ensures.trees c.imported.ensures.names c.begin_unit.ensures.trees c.begin_unit.ensures.names

pub returns-in_err-expanded-clause-grows : goal.returns-in_err-expanded-clause-grows
returns-in_err-expanded-clause-grows g c =
    let b = c.args.bench.now in
    grows_on b.work c.begin_unit.new.work c.expand_forms.new.bench.work b.region
    (grows_twice b.work c.imported.new.work c.begin_unit.new.work b.region c.imported.ensures.trees c.imported.ensures.names c.begin_unit.ensures.trees c.begin_unit.ensures.names) c.expand_forms.ensures.grows

pub returns-in-None-clause-grows : goal.returns-in-None-clause-grows
returns-in-None-clause-grows g c =
    let b = c.args.bench.now in
    grows_on b.work c.begin_unit.new.work c.expand_forms.new.bench.work b.region
    (grows_twice b.work c.imported.new.work c.begin_unit.new.work b.region c.imported.ensures.trees c.imported.ensures.names c.begin_unit.ensures.trees c.begin_unit.ensures.names) c.expand_forms.ensures.grows

pub returns-in_err-forms-in-Some-clause-grows : goal.returns-in_err-forms-in-Some-clause-grows
returns-in_err-forms-in-Some-clause-grows g c =
    let b = c.args.bench.now in
    grows_on b.work c.begin_unit.new.work c.expand_forms.new.bench.work b.region
    (grows_twice b.work c.imported.new.work c.begin_unit.new.work b.region c.imported.ensures.trees c.imported.ensures.names c.begin_unit.ensures.trees c.begin_unit.ensures.names) c.expand_forms.ensures.grows

pub returns-in_err-referred-in-Some-clause-grows : goal.returns-in_err-referred-in-Some-clause-grows
returns-in_err-referred-in-Some-clause-grows g c =
    let b = c.args.bench.now in
    grows_on b.work c.begin_unit.new.work c.expand_forms.new.bench.work b.region
    (grows_twice b.work c.imported.new.work c.begin_unit.new.work b.region c.imported.ensures.trees c.imported.ensures.names c.begin_unit.ensures.trees c.begin_unit.ensures.names) c.expand_forms.ensures.grows

pub returns-in_err-rest-in-Some-clause-grows : goal.returns-in_err-rest-in-Some-clause-grows
returns-in_err-rest-in-Some-clause-grows g c =
    let b = c.args.bench.now in let w = c.expand_forms.new.bench.work in
    grows_on b.work w c.finished.new.work b.region
    (grows_on b.work c.begin_unit.new.work w b.region
    (grows_twice b.work c.imported.new.work c.begin_unit.new.work b.region c.imported.ensures.trees c.imported.ensures.names c.begin_unit.ensures.trees c.begin_unit.ensures.names) c.expand_forms.ensures.grows)
    (grows_named w c.finished.new.work b.region c.finished.ensures.trees c.finished.ensures.names)

pub returns-in_ok-rest-in-Some-clause-grows : goal.returns-in_ok-rest-in-Some-clause-grows
returns-in_ok-rest-in-Some-clause-grows g c =
    let b = c.args.bench.now in let w = c.expand_forms.new.bench.work in
    grows_on b.work w c.finished.new.work b.region
    (grows_on b.work c.begin_unit.new.work w b.region
    (grows_twice b.work c.imported.new.work c.begin_unit.new.work b.region c.imported.ensures.trees c.imported.ensures.names c.begin_unit.ensures.trees c.begin_unit.ensures.names) c.expand_forms.ensures.grows)
    (grows_named w c.finished.new.work b.region c.finished.ensures.trees c.finished.ensures.names)

pub returns-in-None-clause-region : goal.returns-in-None-clause-region
returns-in-None-clause-region g c = c.in_ok-expanded.ensures.stays.region

pub returns-in_ok-rest-in-Some-clause-region : goal.returns-in_ok-rest-in-Some-clause-region
returns-in_ok-rest-in-Some-clause-region g c = c.in_ok-expanded.ensures.stays.region
