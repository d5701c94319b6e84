-- Texts as documents, of which each string means one.
use Rattle.std.specs.Prelude.{ℕ, suc, List, [], ◌∷◌, Option, Some, None, if◌then◌else◌}
use Rattle.scheme_model.specs.Includes.{Document}
use Rattle.datum_reader.specs.Views.{data_of}
use Rattle.included_documents.specs.Meant.{meant}
use Rattle.text_parts.specs.declared.texts.TextRead.{TextRead}

-- a text as a document among others with these uris
abbrev pub document_of : List (List ℕ) → ℕ → TextRead → Document
document_of uris n t = record { read = if t.reads then Some (data_of t.data.now) else None; meant = meant uris n }

abbrev pub documents_from : List (List ℕ) → ℕ → List TextRead → List Document
documents_from uris n [] = []
documents_from uris n (t ∷ ts) = document_of uris n t ∷ documents_from uris (suc n) ts

-- texts as the documents with these uris
abbrev pub documents_in : List (List ℕ) → List TextRead → List Document
documents_in uris ts = documents_from uris 0 ts
