-- The documents' names come behind the standard ones.
use Rattle.std.proofs.Common.{ℕ, List, ◌++◌, map, take, sym, ap, ◌∙◌, append-nil}
use Rattle.std.proofs.lemmas.List.{take_all}
use Rattle.scheme_model.specs.Requirements.{LibraryName}
use Rattle.scheme_model.specs.StandardLibraries.{StandardLibrary, standard_libraries}
use Rattle.scheme_tokens.specs.LibraryNames.{library_text}
use Rattle.base_library.specs.Texts.{name_text}
use Rattle.datum_reader.specs.declared.datum.Datum.{Datum}
use Rattle.read_documents.specs.declared.documents.Document.{Document}
use Rattle.document_units.proofs.KnownSteps.{names_at, texts_of, documents_more, names_given}
use Rattle.document_units.proofs.known.known.Goals as goal

abbrev standard : List (List ℕ)
standard = map (λ (s : StandardLibrary). name_text s.name) standard_libraries

pub loop-document-init : goal.loop-document-init
loop-document-init c = c.in_ok-names.ensures ∙ sym (append-nil standard)

pub loop-document-preserved : goal.loop-document-preserved
loop-document-preserved c =
    c.in_ok-add_names.ensures ∙ ap (λ (ts : List (List ℕ)). ts ++ names_at c.as_slice.result.now) c.loop-document.invariant
    ∙ ap (λ (ds : List Datum). (standard ++ texts_of (take c.loop-document.document-index c.args.documents.now)) ++ names_at ds) c.as_slice.ensures
    ∙ documents_more c.args.documents.now c.loop-document.document-index c.document-item.result standard c.loop-document-test.true c.document-item.is

pub returns : goal.returns
returns c = λ ds have.
    c.loop-document.invariant
    ∙ ap (λ (cs : List Document). standard ++ texts_of cs) (take_all c.loop-document.document-index c.args.documents.now c.loop-document-test.false)
    ∙ ap (λ (ns : List LibraryName). standard ++ map library_text ns) (names_given ds c.args.documents.now have)
