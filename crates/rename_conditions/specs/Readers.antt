-- What renames take of the rules of tokens, data and URLs (R7RS 7.1.1, 7.1.2): how a text reads, which texts are one identifier, and which
-- document a string means.
use Rattle.std.specs.Prelude.{◌≡◌, ℕ, List, [], map, Option, Some, None}
use Rattle.std.specs.Str.{chars, IsUtf8}
use Rattle.scheme_model.specs.Data.{Datum}
use Rattle.scheme_model.specs.Diagnostics.{Span}
use Rattle.scheme_model.specs.Kinds.{Token}
use Rattle.scheme_tokens.specs.Lexical.{IsIdentifier}
use Rattle.datum_reader.specs.Texts.{IsReading, TextReads}
use Rattle.included_documents.specs.Meant.{meant}
use Rattle.text_edits.specs.NewNames.{span_of}

-- a text as it reads: its data, and the bytes of its tokens
pub record Reading : Type 0 where
  pub items : List Datum
  pub spans : List Span

abbrev pub data_in : Option Reading → Option (List Datum)
data_in None = None
data_in (Some r) = Some r.items

abbrev pub spans_in : Option Reading → List Span
spans_in None = []
spans_in (Some r) = r.spans

-- how each text reads, where it does, the symbol of each text that is one identifier, and which document each string means in one of
-- documents with these uris
pub record Reader : Type 0 where
  pub read : List ℕ → Option Reading
  pub symbol : List ℕ → Option (List ℕ)
  pub meant : (uris : List (List ℕ)) → (document : ℕ) → List ℕ → Option ℕ

-- ---- by the rules

abbrev pub ReadsAs : List ℕ → Option Reading → Type 0
ReadsAs text None = (ds : List Datum) → ¬ IsReading (chars text) ds
ReadsAs text (Some r) = (ts : List Token) × TextReads (chars text) ts None × (r.spans ≡ map span_of ts) × IsReading (chars text) r.items

abbrev pub IsSymbolOf : List ℕ → Option (List ℕ) → Type 0
IsSymbolOf text None = (name : List ℕ) → IsUtf8 name → ¬ IsIdentifier (chars name) (chars text)
IsSymbolOf text (Some name) = IsUtf8 name × IsIdentifier (chars name) (chars text)

pub record IsReader (r : Reader) : Type 0 where
  pub reads : (text : List ℕ) → ReadsAs text (r.read text)
  pub names : (text : List ℕ) → IsSymbolOf text (r.symbol text)
  pub means : (uris : List (List ℕ)) (document : ℕ) (string : List ℕ) → r.meant uris document string ≡ meant uris document string
