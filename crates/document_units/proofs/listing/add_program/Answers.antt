-- A document without a program adds nothing; on a circle a program is nothing but itself, and that of a part has its data.
use Rattle.std.proofs.Common.{◌≡◌, List, [], ◌∷◌, length, true, false, sym, ap, ◌∙◌, subst}
use Rattle.scheme_model.specs.Data.{Datum, place_of}
use Rattle.scheme_model.specs.Included.{all_texts}
use Rattle.scheme_model.specs.IncludedUnits.{UnitSource, unless_circular, program_in, part_of}
use Rattle.scheme_model.specs.Includes.{naming, program_data}
use Rattle.core_tree.specs.Units.{kind_as}
use Rattle.datum_reader.specs.Views.{datum_of, data_of}
use Rattle.unit_sources.specs.UnitsRead.{forms_of}
use Rattle.read_documents.specs.DataRead.{AllRead}
use Rattle.document_units.specs.Listing.{IsOneOf}
use Rattle.document_units.specs.UnitsListed.{AddsRead}
use Rattle.document_units.proofs.ListedUnits.{nothing_added}
use Rattle.document_units.proofs.ReadForms.{all_read, program_data_read, were_read}
use Rattle.document_units.proofs.UnitStarts.{program_there}
use Rattle.document_units.proofs.AddedUnits.{program, program_circle, part_forms, part_for, one_program, one_part, no_program, none_there, first_there, begins_with, no_part}
use Rattle.document_units.proofs.listing.add_program.Goals as goal

pub returns-in_default-clause-added : goal.returns-in_default-clause-added
returns-in_default-clause-added c = λ o r at.
    let es = program_data (data_of c.args.items.now) in
    let none : es ≡ [] = none_there es c.in_default.ensures in
    subst (λ (us : List UnitSource). AddsRead o.documents c.args.document us c.args.units.now c.args.units.now) (no_program o r.read c.args.document 0 c.args.part.on_circle c.args.part.is_part es none)
    (nothing_added o.documents c.args.document c.args.units.now)

pub add_read_program-requires-clause-program : goal.add_read_program-requires-clause-program
add_read_program-requires-clause-program c =
    let es = program_data (data_of c.args.items.now) in
    let p = first_there es (datum_of c.in-Some.first.now) c.in-Some.ensures in
    begins_with c.first_token-span.result es (datum_of c.in-Some.first.now) p.0 p.1 c.first_token-span.ensures

pub add-requires-then-part-2-clause-read : goal.add-requires-then-part-2-clause-read
add-requires-then-part-2-clause-read c =
    let o = c.requires.can.sources in
    let es = program_data (data_of c.args.items.now) in
    let d = datum_of c.in-Some.first.now in
    let p = first_there es d c.in-Some.ensures in
    let all : AllRead (d ∷ p.0) = subst AllRead p.1 (program_data_read (data_of c.args.items.now) (all_read c.args.items.now c.requires.read)) in
    were_read (forms_of c.in_ok-source.source.forms) (part_forms o c.requires.can.reader.read c.args.document 0 d p.0 c.in_ok-source.source all (c.in_ok-source.ensures d p.0 p.1 c.first_token-span.ensures 0))

pub returns-then-part-clause-added : goal.returns-then-part-clause-added
returns-then-part-clause-added c = λ o r at.
    let es = program_data (data_of c.args.items.now) in
    let d = datum_of c.in-Some.first.now in
    let p = first_there es d c.in-Some.ensures in
    let n = length c.args.units.now.sources.items in
    let s = c.unread-blank.result in
    let there = subst (λ (xs : List Datum). IsOneOf xs d) (sym at.here) (program_there (data_of c.args.items.now) d p.0 p.1) in
    let circular = c.if-part.true in
    let apart = no_part (naming o.documents) c.args.document c.args.part.on_circle c.args.part.is_part at.part.circle at.part.part circular in
    subst (λ (us : List UnitSource). AddsRead o.documents c.args.document us c.args.units.now c.add.new.units) (one_program o r.read c.args.document n true c.args.part.on_circle c.args.part.is_part es d p.0 circular apart p.1)
    (c.in_ok-add.ensures.added o.documents (unless_circular true (program o r.read c.args.document n d p.0))
    (program_circle o r.read c.args.document n d p.0 s there (ap kind_as c.unread-blank.ensures.kind) c.unread-blank.ensures.blank (c.unread-blank.ensures.span ∙ c.first_token-span.ensures)))

pub returns-then-part-2-clause-added : goal.returns-then-part-2-clause-added
returns-then-part-2-clause-added c = λ o r at.
    let es = program_data (data_of c.args.items.now) in
    let d = datum_of c.in-Some.first.now in
    let p = first_there es d c.in-Some.ensures in
    let n = length c.args.units.now.sources.items in
    let s = c.in_ok-source.source in
    let all : AllRead (d ∷ p.0) = subst AllRead p.1 (program_data_read (data_of c.args.items.now) (all_read c.args.items.now c.requires.read)) in
    let there = subst (λ (xs : List Datum). IsOneOf xs d) (sym at.here) (program_there (data_of c.args.items.now) d p.0 p.1) in
    subst (λ (us : List UnitSource). AddsRead o.documents c.args.document us c.args.units.now c.add-then-part-2.new.units) (one_part o r.read c.args.document n c.args.part.on_circle c.args.part.is_part es d p.0 c.if-part.false c.if-part-2.true p.1)
    (c.in_ok-add-2.ensures.added o.documents (part_of (place_of d) (d ∷ p.0)) (part_for o r.read c.args.document n d p.0 s all there (c.in_ok-source.ensures d p.0 p.1 c.first_token-span.ensures n)))

pub returns-clause-added : goal.returns-clause-added
returns-clause-added c = λ o r at.
    let es = program_data (data_of c.args.items.now) in
    let d = datum_of c.in-Some.first.now in
    let p = first_there es d c.in-Some.ensures in
    let read = c.in_ok-add_read_program.ensures.added o r at.here in
    let one = ap (program_in (all_texts o) c.args.document false) p.1 ∙ one_program o r.read c.args.document 0 false c.args.part.on_circle c.args.part.is_part es d p.0 c.if-part.false c.if-part-2.false p.1 in
    subst (λ (us : List UnitSource). AddsRead o.documents c.args.document us c.args.units.now c.add_read_program.new.units) one read
