-- Places of the open documents, at positions of an encoding (LSP 3.17, Range).
use Rattle.std.specs.Prelude.{◌≡◌, ℕ, ◌-◌, min, List, length, slice_get, Option, Some, None}
use Rattle.ls_base.specs.Positions.{position_of}
use Rattle.ls_base.specs.declared.encoding.Encoding.{Encoding}
use Rattle.ls_base.specs.declared.places.Place as told
use Rattle.scheme_model.specs.Diagnostics.{Bytes, Span}
use Rattle.scheme_model.specs.Program.{UnitResult, result_at}
use Rattle.document_store.specs.Texts.{Document}
use Rattle.read_documents.specs.declared.findings.At.{At}
use Rattle.read_documents.specs.declared.places.PlacedError.{PlacedError}
use Rattle.read_documents.specs.Places.{bytes_at, form_or_start}

-- bytes of a document at its positions
abbrev pub IsPlace : Encoding → List (List ℕ × Document) → Bytes → told.Place → Type 0
IsPlace encoding ds b p = (d : List ℕ × Document) × (slice_get ds b.document ≡ Some d) × (p.uri ≡ d.0)
    × (p.range.start ≡ position_of encoding d.1.1 b.span.start) × (p.range.end ≡ position_of encoding d.1.1 b.span.end)

-- some bytes of one of the documents
abbrev pub IsIn : Encoding → List (List ℕ × Document) → told.Place → Type 0
IsIn encoding ds p = (b : Bytes) × IsPlace encoding ds b p

-- the bytes of a form's first token; of the unit's where it has no such form; of the last unit's where there is no such unit
abbrev pub form_bytes : List (List Span) → List UnitResult → (unit form : ℕ) → Bytes
form_bytes spans us unit form = form_or_start spans us (result_at us (min (length us - 1) unit)) (min (length us - 1) unit) form

-- an Error at its place with its code, where there is one
abbrev pub IsErrorAt : Encoding → List (List ℕ × Document) → Option (At × ℕ) → Option PlacedError → Type 0
IsErrorAt encoding ds None None = Unit {0}
IsErrorAt encoding ds None (Some p) = ⊥
IsErrorAt encoding ds (Some e) None = ⊥
IsErrorAt encoding ds (Some e) (Some p) = IsPlace encoding ds (bytes_at e.0) p.place × (p.code ≡ e.1)
