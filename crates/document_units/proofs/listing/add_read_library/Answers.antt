-- The forms of a library were read with it, and one that is bad has none.
use Rattle.std.proofs.Common.{◌≡◌, ℕ, List, length, Some, None, sym, ap, ◌∙◌, subst, arith}
use Rattle.std.specs.Option.{option_map}
use Rattle.scheme_model.specs.Included.{all_texts}
use Rattle.scheme_tokens.specs.LibraryNames.{library_text}
use Rattle.core_tree.specs.Units.{kind_as}
use Rattle.included_forms.proofs.ServeLaws.{serve}
use Rattle.unit_sources.specs.UnitsRead.{forms_of}
use Rattle.unit_sources.specs.declared.units.UnitForm.{UnitForm}
use Rattle.unit_sources.specs.declared.units.UnitSource.{UnitSource}
use Rattle.datum_reader.specs.Views.{datum_of}
use Rattle.read_documents.specs.DataRead.{data_at}
use Rattle.read_documents.specs.WereRead.{WereRead}
use Rattle.document_units.specs.UnitsListed.{IsReadFor}
use Rattle.document_units.proofs.KnownSteps.{library_named}
use Rattle.document_units.proofs.ReadForms.{were_read}
use Rattle.document_units.proofs.StandardNamed.{same_forms}
use Rattle.document_units.proofs.AddedUnits.{library, library_forms, library_for, library_blank}
use Rattle.document_units.proofs.listing.add_read_library.Goals as goal

pub overflow_cast-number : goal.overflow_cast-number
overflow_cast-number c = omega (arith, c.requires.units.few, c.requires.units.sources, c.args.units.now.sources.ok)

pub add-requires-clause-read : goal.add-requires-clause-read
add-requires-clause-read c =
    let o = c.requires.can.sources in
    let r = c.requires.can.reader in
    let s = c.in-Ok.source in
    let read = c.in-Ok.ensures o (all_texts o) r.documents r.table (serve o r.usable) in
    subst (λ (fs : List UnitForm). WereRead (forms_of fs)) (sym (ap (λ (x : UnitSource). x.forms) c.in_ok-source-in-Ok.ensures ∙ same_forms s))
    (were_read (forms_of s.forms) (library_forms o r.read c.args.document c.len-number.result (datum_of c.args.datum.now) s c.requires.read read))

pub returns-in_ok-add-in-Ok-clause-added : goal.returns-in_ok-add-in-Ok-clause-added
returns-in_ok-add-in-Ok-clause-added c = λ o r there.
    let d = datum_of c.args.datum.now in
    let n = c.len-number.result in
    let s = c.in-Ok.source in
    let given = c.in_ok-source-in-Ok.source in
    let called = c.in_ok-name.name in
    let ds = data_at o.documents c.args.document in
    let u = library o r.read c.args.document n d in
    let place : n ≡ length c.args.units.now.sources.items = omega (arith, c.args.units.now.sources.ok.0) in
    let name = c.in_ok-name.ensures ∙ ap (option_map library_text) (sym (library_named d (sym c.requires.library))) in
    let h = c.in-Ok.ensures o (all_texts o) r.documents r.table (serve o r.usable) in
    let read : IsReadFor ds n u called given None =
    subst (λ (x : UnitSource). IsReadFor ds n u called x None) (sym c.in_ok-source-in-Ok.ensures) (library_for o r.read c.args.document n d s called c.requires.read there h name) in
    c.in_ok-add-in-Ok.ensures.added o.documents u (subst (λ (k : ℕ). IsReadFor ds k u called given None) place read)

pub returns-in_ok-add-in-Err-clause-added : goal.returns-in_ok-add-in-Err-clause-added
returns-in_ok-add-in-Err-clause-added c = λ o r there.
    let d = datum_of c.args.datum.now in
    let n = c.len-number.result in
    let s = c.unread-blank.result in
    let w = c.in_ok-whole-in-Err.field-0 in
    let called = c.in_ok-name.name in
    let ds = data_at o.documents c.args.document in
    let u = library o r.read c.args.document n d in
    let place : n ≡ length c.args.units.now.sources.items = omega (arith, c.args.units.now.sources.ok.0) in
    let name = c.in_ok-name.ensures ∙ ap (option_map library_text) (sym (library_named d (sym c.requires.library))) in
    let h = c.in-Err.ensures o (all_texts o) r.documents r.table (serve o r.usable) in
    let read : IsReadFor ds n u called s (Some w) =
    library_blank o r.read c.args.document n d s called c.in-Err.fault w there h c.in_ok-whole-in-Err.ensures (ap kind_as c.unread-blank.ensures.kind) c.unread-blank.ensures.blank
    (c.unread-blank.ensures.span ∙ c.first_token.ensures) name in
    c.in_ok-add-in-Err.ensures.added o.documents u (subst (λ (k : ℕ). IsReadFor ds k u called s (Some w)) place read)
