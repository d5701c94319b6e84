use Rattle.std.proofs.Common.{List, [], ◌++◌, ◌∙◌, sym, ap}
use Rattle.std.specs.List.{zip}
use Rattle.scheme_model.specs.Declarations.{UnitForm}
use Rattle.scheme_model.specs.Diagnostics.{document_of, bytes_of}
use Rattle.scheme_model.specs.Program.{import_all, specs_from}
use Rattle.core_tree.specs.Units.{set_errors, set_forms}
use Rattle.read_documents.specs.Findings.{all_told, errors_in}
use Rattle.read_documents.specs.Places.{spans_of}
use Rattle.unit_imports.proofs.GivenLaws.{base_errors, base_stands, base_told, sets_errors, sets_stand, sets_told}
use Rattle.unit_imports.proofs.entries.gathered.Goals as goal

pub returns-then-imports_nothing-clause-exact : goal.returns-then-imports_nothing-clause-exact
returns-then-imports_nothing-clause-exact c = λ spelled all rs libs p im.
    base_stands c.base_given.new.symbols c.in_ok-base_given.field-0.groups.items all rs p spelled c.args.source.now im c.imports_nothing.result c.imports_nothing.ensures c.if-imports_nothing.true c.in_ok-base_given.ensures.exact

pub returns-then-imports_nothing-clause-told : goal.returns-then-imports_nothing-clause-told
returns-then-imports_nothing-clause-told c = λ spelled all rs libs p im reads us places.
    base_told (bytes_of (spans_of reads) us) (document_of us) (all_told c.args.findings.now.items) all rs p spelled c.args.source.now im c.imports_nothing.result c.imports_nothing.ensures c.if-imports_nothing.true

pub returns-clause-exact : goal.returns-clause-exact
returns-clause-exact c = λ spelled all rs libs p im.
    sets_stand c.sets_given.new.symbols c.in_ok-sets_given.field-0.groups.items all rs p spelled c.args.source.now im c.imports_nothing.result c.imports_nothing.ensures c.if-imports_nothing.false
    (c.in_ok-sets_given.ensures.exact spelled all rs libs p.specs im.specs)

pub returns-clause-told : goal.returns-clause-told
returns-clause-told c = λ spelled all rs libs p im reads us places.
    sets_told (bytes_of (spans_of reads) us) (document_of us) (all_told c.args.findings.now.items) (all_told c.sets_given.new.findings.items) all rs p spelled c.args.source.now im c.imports_nothing.result c.imports_nothing.ensures
    c.if-imports_nothing.false (c.in_ok-sets_given.ensures.told spelled all rs libs p.specs im.specs reads us places)

pub returns-then-imports_nothing-clause-errors : goal.returns-then-imports_nothing-clause-errors
returns-then-imports_nothing-clause-errors c = λ spelled all rs libs p im forms specs.
    base_errors (errors_in c.args.findings.now.items) all rs p spelled c.args.source.now im c.imports_nothing.result c.imports_nothing.ensures c.if-imports_nothing.true (set_forms p.number 0 p.forms)

pub returns-clause-errors : goal.returns-clause-errors
returns-clause-errors c = λ spelled all rs libs p im forms specs.
    sets_errors (errors_in c.args.findings.now.items) (errors_in c.sets_given.new.findings.items) all rs p spelled c.args.source.now im c.imports_nothing.result c.imports_nothing.ensures c.if-imports_nothing.false (set_forms p.number 0 p.forms)
    (c.in_ok-sets_given.ensures.errors spelled all rs libs p.specs im.specs p.number (specs ∙ ap (specs_from p.number 0) forms) ∙ ap (λ (fs : List UnitForm). errors_in c.args.findings.now.items ++ set_errors (zip (set_forms p.number 0 fs) (import_all all rs [] p.specs).1)) (sym forms))
