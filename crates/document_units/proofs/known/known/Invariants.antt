use Rattle.std.proofs.Common.{◌≡◌, ◌++◌, map, take}
use Rattle.scheme_model.specs.StandardLibraries.{StandardLibrary, standard_libraries}
use Rattle.base_library.specs.Texts.{name_text}
use Rattle.document_units.proofs.KnownSteps.{texts_of}
use Rattle.document_units.proofs.known.known.Given as goal

abbrev pub invariant-loop-document : goal.invariant-loop-document
invariant-loop-document l = l.names ≡ map (λ (s : StandardLibrary). name_text s.name) standard_libraries ++ texts_of (take l.document-index l.documents)
