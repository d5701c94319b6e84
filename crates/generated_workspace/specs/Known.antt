-- What is known of diagnostics by what was published (LSP 3.17, publishDiagnostics): of each document the list that was published last.
use Rattle.std.specs.Prelude.{◌≡◌, ℕ, List, if◌then◌else◌}
use Rattle.std.specs.Str.{bytes_eq}
use Rattle.ls_base.specs.declared.answers.Diagnostic.{Diagnostic}
use Rattle.ls_base.specs.declared.encoding.Encoding.{Encoding}
use Rattle.document_store.specs.Texts.{Texts}
use Rattle.program_answers.specs.Updates.{AreListsOfTexts, Lists, listed_in}
use Rattle.program_answers.specs.declared.publications.Published.{Published}

-- the diagnostics of each document, by its uri
abbrev pub Known : Type 0
Known = List ℕ → List Diagnostic

-- what is known once one more list is published
abbrev pub with_published : Known → Published → Known
with_published known p uri = if bytes_eq p.uri uri then p.list else known uri

-- it is what the documents of these texts have; one that isn't open has none
abbrev pub IsKnownOf : Encoding → Texts → Known → Type 0
IsKnownOf encoding texts known = (lists : Lists) → AreListsOfTexts encoding texts lists → (uri : List ℕ) → known uri ≡ listed_in lists uri
