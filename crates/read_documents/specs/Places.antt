-- The places of units and of their tokens, as the code keeps them.
use Rattle.std.specs.Prelude.{◌≡◌, ℕ, zero, suc, ◌<◌, nat_lt, if◌then◌else◌, List, [], ◌∷◌, map, length, slice_get, Option, Some, None}
use Rattle.scheme_model.specs.Data.{place_of}
use Rattle.scheme_model.specs.Declarations.{unit_or}
use Rattle.scheme_model.specs.Program.{UnitResult}
use Rattle.scheme_model.specs.Diagnostics.{Span, Bytes, bytes_of, unit_start}
use Rattle.read_documents.specs.Readings.{Read, spans_in, span_seen}
use Rattle.scheme_model.specs.Sites.{names_in_forms}
use Rattle.read_documents.specs.declared.documents.Document as code_document
use Rattle.read_documents.specs.declared.findings.At as code_at
use Rattle.read_documents.specs.declared.findings.Finding.{Finding}
use Rattle.read_documents.specs.declared.heads.Head.{Head}
use Rattle.read_documents.specs.declared.places.Places as code
use Rattle.read_documents.specs.Changed.{Changes}
use Rattle.core_tree.specs.Units.{ranges_from}
use Rattle.read_documents.specs.declared.documents.Document.{Document}

abbrev pub bytes_at : code_at.At → Bytes
bytes_at a = record { document = a.document; span = span_seen a.span }

abbrev pub spans_of : List Read → List (List Span)
spans_of rs = map spans_in rs

abbrev pub start_of : List (List Span) → Option UnitResult → Bytes
start_of spans None = record { document = 0; span = record { start = 0; end = 0 } }
start_of spans (Some r) = unit_start spans r.unit

-- each unit's document is one of so many
abbrev pub AreHeadsIn : ℕ → List Head → Type 0
AreHeadsIn count hs = (n : ℕ) (h : Head) → slice_get hs n ≡ Some h → h.document < count

-- a unit keeps its document, its kind, its first tokens and its identifiers
pub record SameHead (h g : Head) : Type 0 where
  pub document : g.document ≡ h.document
  pub kind : g.kind ≡ h.kind
  pub span : g.span ≡ h.span
  pub firsts : g.firsts ≡ h.firsts
  pub homes : g.homes ≡ h.homes
  pub names : g.names ≡ h.names
  pub ranges : g.ranges ≡ h.ranges

abbrev pub HeadsStay : List Head → List Head → Type 0
HeadsStay old new = Changes (λ n. SameHead) old new

-- units keep their libraries' names and what they import
abbrev pub NamesKept : List Head → List Head → Type 0
NamesKept old new = Changes (λ n h g. (g.name ≡ h.name) × (g.imports ≡ h.imports)) old new

-- bytes of one of so many documents, where there are any
abbrev pub IsAtIn : ℕ → Option code_at.At → Type 0
IsAtIn count at = (a : code_at.At) → at ≡ Some a → a.document < count

-- what is found stands in so many documents
abbrev pub AreFoundIn : ℕ → List Finding → Type 0
AreFoundIn count fs = (n : ℕ) (f : Finding) (a : code_at.At) → slice_get fs n ≡ Some f → f.at ≡ Some a → a.document < count

-- a number at a place, and 0 where there is none
abbrev pub number_at : List ℕ → ℕ → ℕ
number_at [] n = 0
number_at (x ∷ xs) zero = x
number_at (x ∷ xs) (suc n) = number_at xs n

-- a unit at a place, and this one where there is none
abbrev pub unit_at : List ℕ → ℕ → (unit : ℕ) → ℕ
unit_at [] n unit = unit
unit_at (x ∷ xs) zero unit = x
unit_at (x ∷ xs) (suc n) unit = unit_at xs n unit

-- a form's first token, or the unit's where it has no such form
abbrev pub form_or_start : List (List Span) → List UnitResult → Option UnitResult → (unit form : ℕ) → Bytes
form_or_start spans us None unit form = start_of spans None
form_or_start spans us (Some r) unit form =
    if nat_lt form (length r.unit.forms) then bytes_of spans us (record { unit = unit; form = form; token = 0 }) else start_of spans (Some r)

-- each unit's document is there
abbrev pub CanPlace : code.Places → Type 0
CanPlace p = (n : ℕ) (h : Head) → slice_get p.heads.now n ≡ Some h → h.document < length p.documents.now

-- the unit at a place: its document, its first token, and the first tokens, the homes' units and the identifiers of its forms
pub record IsHead (rs : List Read) (place : ℕ) (h : Head) (r : UnitResult) : Type 0 where
  pub number : r.unit.number ≡ place
  pub document : h.document ≡ r.unit.placed.document
  pub span : span_seen h.span ≡ (unit_start (spans_of rs) r.unit).span
  pub firsts : h.firsts.items ≡ map (λ f. (place_of f.datum).first) r.unit.forms
  pub homes : h.homes.items ≡ map (λ f. unit_or place f.home) r.unit.forms
  pub names : h.names.items ≡ names_in_forms r.unit.number 0 r.unit.forms
  pub ranges : h.ranges.items ≡ ranges_from place 0 r.unit.forms

abbrev pub AreHeads : List Read → ℕ → List Head → List UnitResult → Type 0
AreHeads rs n [] [] = Unit {0}
AreHeads rs n [] (r ∷ us) = ⊥
AreHeads rs n (h ∷ hs) [] = ⊥
AreHeads rs n (h ∷ hs) (r ∷ us) = IsHead rs n h r × AreHeads rs (suc n) hs us

pub record ArePlaces (p : code.Places) (rs : List Read) (us : List UnitResult) : Type 0 where
  pub heads : AreHeads rs 0 p.heads.now us
  pub spans : map (λ (d : code_document.Document). map span_seen d.spans.items) p.documents.now ≡ spans_of rs

-- the documents' tokens are those of their readings
abbrev pub HaveTokens : List Document → List Read → Type 0
HaveTokens cs rs = map (λ (c : Document). map span_seen c.spans.items) cs ≡ spans_of rs
