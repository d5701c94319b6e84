-- The forms of a program were read with the data.
use Rattle.std.proofs.Common.{◌≡◌, ℕ, List, ◌∷◌, length, false, Some, None, refl, sym, ap, ◌∙◌, subst, arith}
use Rattle.scheme_model.specs.Data.{Datum}
use Rattle.scheme_model.specs.Included.{all_texts}
use Rattle.scheme_model.specs.IncludedUnits.{UnitSource as Source}
use Rattle.scheme_model.specs.IncludedUnits.{program_in}
use Rattle.scheme_model.specs.Includes.{program_data}
use Rattle.core_tree.specs.Units.{kind_as}
use Rattle.included_forms.proofs.ServeLaws.{serve}
use Rattle.unit_sources.specs.UnitsRead.{forms_of}
use Rattle.datum_reader.specs.Views.{data_of}
use Rattle.read_documents.specs.DataRead.{AllRead, data_at}
use Rattle.document_units.specs.Listing.{IsOneOf}
use Rattle.document_units.specs.UnitsListed.{AddsRead, IsReadFor}
use Rattle.document_units.proofs.ReadForms.{all_read, program_data_read, were_read}
use Rattle.document_units.proofs.AddedUnits.{program, program_forms, program_for, program_blank, begun}
use Rattle.document_units.proofs.UnitStarts.{program_there}
use Rattle.document_units.proofs.listing.add_read_program.Goals as goal

pub overflow_cast-number : goal.overflow_cast-number
overflow_cast-number c = omega (arith, c.requires.units.few, c.requires.units.sources, c.args.units.now.sources.ok)

pub add-requires-clause-read : goal.add-requires-clause-read
add-requires-clause-read c =
    let o = c.requires.can.sources in
    let r = c.requires.can.reader in
    let p = begun c.args.span (program_data (data_of c.args.items.now)) c.requires.program in
    let all : AllRead (p.first ∷ p.rest) = subst AllRead p.have (program_data_read (data_of c.args.items.now) (all_read c.args.items.now c.requires.read)) in
    were_read (forms_of c.in-Ok.source.forms)
    (program_forms o r.read c.args.document c.len-number.result p.first p.rest c.in-Ok.source all
    (c.in-Ok.ensures o (all_texts o) r.documents r.table (serve o r.usable) p.first p.rest p.have p.token (program o r.read c.args.document c.len-number.result p.first p.rest) refl))

pub returns-in_ok-add-in-Ok-clause-added : goal.returns-in_ok-add-in-Ok-clause-added
returns-in_ok-add-in-Ok-clause-added c = λ o r here.
    let n = c.len-number.result in
    let s = c.in-Ok.source in
    let ds = data_at o.documents c.args.document in
    let es = program_data (data_of c.args.items.now) in
    let p = begun c.args.span es c.requires.program in
    let u = program o r.read c.args.document n p.first p.rest in
    let place : n ≡ length c.args.units.now.sources.items = omega (arith, c.args.units.now.sources.ok.0) in
    let all : AllRead (p.first ∷ p.rest) = subst AllRead p.have (program_data_read (data_of c.args.items.now) (all_read c.args.items.now c.requires.read)) in
    let there : IsOneOf ds p.first = subst (λ (xs : List Datum). IsOneOf xs p.first) (sym here) (program_there (data_of c.args.items.now) p.first p.rest p.have) in
    let read : IsReadFor ds n u None s None = program_for o r.read c.args.document n p.first p.rest s all there (c.in-Ok.ensures o (all_texts o) r.documents r.table (serve o r.usable) p.first p.rest p.have p.token u refl) in
    subst (λ (us : List Source). AddsRead o.documents c.args.document us c.args.units.now c.add.new.units) (ap (program_in (all_texts o) c.args.document false) (sym p.have))
    (c.in_ok-add-in-Ok.ensures.added o.documents u (subst (λ (k : ℕ). IsReadFor ds k u None s None) place read))

pub returns-in_ok-add-in-Err-clause-added : goal.returns-in_ok-add-in-Err-clause-added
returns-in_ok-add-in-Err-clause-added c = λ o r here.
    let n = c.len-number.result in
    let s = c.unread-blank.result in
    let w = c.in_ok-whole-in-Err.field-0 in
    let ds = data_at o.documents c.args.document in
    let es = program_data (data_of c.args.items.now) in
    let p = begun c.args.span es c.requires.program in
    let u = program o r.read c.args.document n p.first p.rest in
    let place : n ≡ length c.args.units.now.sources.items = omega (arith, c.args.units.now.sources.ok.0) in
    let there : IsOneOf ds p.first = subst (λ (xs : List Datum). IsOneOf xs p.first) (sym here) (program_there (data_of c.args.items.now) p.first p.rest p.have) in
    let read : IsReadFor ds n u None s (Some w) =
    program_blank o r.read c.args.document n p.first p.rest s c.in-Err.fault w there (c.in-Err.ensures o (all_texts o) r.documents r.table (serve o r.usable) p.first p.rest p.have p.token u refl) c.in_ok-whole-in-Err.ensures
    (ap kind_as c.unread-blank.ensures.kind) c.unread-blank.ensures.blank (c.unread-blank.ensures.span ∙ p.token) in
    subst (λ (us : List Source). AddsRead o.documents c.args.document us c.args.units.now c.add-in-Err.new.units) (ap (program_in (all_texts o) c.args.document false) (sym p.have))
    (c.in_ok-add-in-Err.ensures.added o.documents u (subst (λ (k : ℕ). IsReadFor ds k u None s (Some w)) place read))
