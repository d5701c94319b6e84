-- How the store keeps its texts.
use Rattle.std.specs.Prelude.{List, map, string_bytes}
use Rattle.std.specs.Coded.{Coded, coded×, coded_ℕ, coded_ℤ, coded_list}
use Rattle.std.specs.FinMap.{from_entries, code}
use Rattle.std.specs.declared.string.String.{String}
use Rattle.std.specs.declared.alloc.Global.{Global}
use Rattle.document_store.specs.declared.kept.Kept.{Kept}
use Rattle.document_store.specs.Texts.{Document, Texts}

abbrev pub coded_texts : Coded Texts
coded_texts = code (coded_list coded_ℕ) (coded× coded_ℤ (coded_list coded_ℕ))

-- a document that is kept
abbrev pub document : Kept → Document
document kept = (kept.version, kept.text)

-- the documents by their uris
abbrev pub texts_of : List (String Global × Kept) → Texts
texts_of entries = from_entries (map (λ e. (string_bytes e.0, document e.1)) entries)
