-- A datum that is no library adds nothing; on a circle a library has its name alone.
use Rattle.std.proofs.Common.{List, length, [], ◌∷◌, true, false, sym, ap, ◌∙◌, subst}
use Rattle.std.specs.Option.{option_map}
use Rattle.scheme_model.specs.Included.{all_texts}
use Rattle.scheme_model.specs.IncludedUnits.{UnitSource, unless_circular}
use Rattle.scheme_tokens.specs.LibraryNames.{library_text}
use Rattle.core_tree.specs.Units.{kind_as}
use Rattle.datum_reader.specs.Views.{datum_of}
use Rattle.document_units.specs.UnitsListed.{AddsRead}
use Rattle.document_units.proofs.KnownSteps.{library_named}
use Rattle.document_units.proofs.ListedUnits.{nothing_added}
use Rattle.document_units.proofs.ListedDocuments.{given, one_library, no_library}
use Rattle.document_units.proofs.AddedUnits.{library, library_circle}
use Rattle.document_units.proofs.listing.add_library.Goals as goal

pub returns-then-not-is_headed-clause-added : goal.returns-then-not-is_headed-clause-added
returns-then-not-is_headed-clause-added c = λ o r there.
    subst (λ (us : List UnitSource). AddsRead o.documents c.args.document us c.args.units.now c.args.units.now)
    (no_library (all_texts o) o.known c.args.document c.args.circular (datum_of c.args.datum.now) (sym c.if-not-is_headed.true ∙ c.is_headed.ensures)) (nothing_added o.documents c.args.document c.args.units.now)

pub returns-then-circular-clause-added : goal.returns-then-circular-clause-added
returns-then-circular-clause-added c = λ o r there.
    let d = datum_of c.args.datum.now in
    let n = length c.args.units.now.sources.items in
    let s = c.unread-blank.result in
    let called = c.in_ok-name.name in
    let is = sym c.if-not-is_headed.false ∙ c.is_headed.ensures in
    let name = c.in_ok-name.ensures ∙ ap (option_map library_text) (sym (library_named d is)) in
    let read = library_circle o r.read c.args.document n d s called there (ap kind_as c.unread-blank.ensures.kind) c.unread-blank.ensures.blank (c.unread-blank.ensures.span ∙ c.first_token.ensures) name in
    subst (λ (us : List UnitSource). AddsRead o.documents c.args.document us c.args.units.now c.add.new.units)
    (one_library (all_texts o) o.known c.args.document true d is ∙ ap (λ b. given (all_texts o) o.known c.args.document b (d ∷ [])) (sym c.if-circular.true))
    (c.in_ok-add.ensures.added o.documents (unless_circular true (library o r.read c.args.document n d)) read)

pub returns-clause-added : goal.returns-clause-added
returns-clause-added c = λ o r there.
    let d = datum_of c.args.datum.now in
    let is = sym c.if-not-is_headed.false ∙ c.is_headed.ensures in
    subst (λ (us : List UnitSource). AddsRead o.documents c.args.document us c.args.units.now c.add_read_library.new.units)
    (one_library (all_texts o) o.known c.args.document false d is ∙ ap (λ b. given (all_texts o) o.known c.args.document b (d ∷ [])) (sym c.if-circular.false))
    (c.in_ok-add_read_library.ensures.added o r there)
