use Rattle.std.proofs.Common.{List, ◌++◌, sym, ap, ◌∙◌, subst}
use Rattle.std.specs.List.{zip}
use Rattle.scheme_model.specs.Program.{unit_entries}
use Rattle.core_tree.specs.Units.{set_errors, set_forms}
use Rattle.syntax_tree.specs.Meant.{AreEntries}
use Rattle.syntax_tree.specs.declared.units.Entry.{Entry}
use Rattle.scheme_model.specs.Diagnostics.{document_of, bytes_of, set_diagnostics}
use Rattle.read_documents.specs.Findings.{all_told, errors_in}
use Rattle.read_documents.specs.Places.{spans_of}
use Rattle.read_documents.specs.declared.findings.Finding.{Finding}
use Rattle.unit_imports.proofs.entries.given_to.Goals as goal

pub returns-clause-exact : goal.returns-clause-exact
returns-clause-exact c = λ spelled all rs libs p im.
    subst (λ (es : List Entry). AreEntries c.gathered.new.symbols es (unit_entries all rs p).0) (sym c.in_ok-of.ensures.entries) (c.in_ok-gathering.ensures.exact spelled all rs libs p im)

pub returns-clause-told : goal.returns-clause-told
returns-clause-told c = λ spelled all rs libs p im reads us places.
    c.in_ok-gathering.ensures.told spelled all rs libs p im reads us places
    ∙ ap (λ (fs : List Finding). all_told fs ++ set_diagnostics (bytes_of (spans_of reads) us) (document_of us) p.specs (unit_entries all rs p).1) c.new-findings.ensures.items

pub returns-clause-errors : goal.returns-clause-errors
returns-clause-errors c = λ spelled all rs libs p im forms specs.
    c.in_ok-gathering.ensures.errors spelled all rs libs p im forms specs ∙ ap (λ (fs : List Finding). errors_in fs ++ set_errors (zip (set_forms p.number 0 p.forms) (unit_entries all rs p).1)) c.new-findings.ensures.items
