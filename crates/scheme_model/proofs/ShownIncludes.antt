-- Programs of texts that include others in the notation of rows: forms and strings by the bytes where they stand.
use Rattle.std.specs.Prelude.{ℕ, zero, suc, ◌==◌, nat_le, List, [], ◌∷◌, map, filter, Bool, ◌&&◌, Option, Some, None, Result, Ok, Err, if◌then◌else◌}
use Rattle.std.specs.List.{list_any}
use Rattle.std.specs.Str.{bytes_eq}
use Rattle.scheme_model.specs.declared.Home.{Home}
use Rattle.scheme_model.specs.declared.Occ.{Occ}
use Rattle.scheme_model.specs.Data.{Datum, Place, place_of}
use Rattle.scheme_model.specs.Trees.{placed_by}
use Rattle.scheme_model.specs.Declarations.{UnitForm, home_of, UnitKind, IsLibrary, IsProgram, IsPart}
use Rattle.scheme_model.specs.Includes.{Document, max_units}
use Rattle.scheme_model.specs.Included.{LostString}
use Rattle.scheme_model.specs.IncludedUnits.{EarlyFault, OnCircle, BadAt, TooManyTokens, Placed, units_within}
use Rattle.scheme_model.specs.Program.{known_in, program_of, forms_or_none}
use Rattle.scheme_model.specs.Diagnostics.{Span, Diagnostic, diagnostics_of}
use Rattle.scheme_model.specs.Session.{Query}
use Rattle.scheme_model.specs.Answers.{Answer}
use Rattle.scheme_model.proofs.Shown.{ArrowRow, PartRow, arrows_between, class_in, answered}

-- a document and bytes in it
pub record BytesRow : Type 0 where
  pub document : ℕ
  pub start : ℕ
  pub end : ℕ

pub record HomeRow : Type 0 where
  pub bytes : BytesRow
  pub declared : Bool
  pub occ : Occ

pub data KindRow : Type 0 where
  ALibrary : KindRow
  AProgram : KindRow
  APart : KindRow

pub record ListedRow : Type 0 where
  pub document : ℕ
  pub kind : KindRow
  pub fault : Option (ℕ × Option BytesRow)
  pub forms : List HomeRow
  pub lost : List BytesRow

abbrev bytes_in : ℕ → Place → BytesRow
bytes_in document p = record { document = document; start = p.start; end = p.end }

-- the document of the unit with a number
abbrev document_in : List Placed → ℕ → ℕ
document_in [] n = 0
document_in (u ∷ us) zero = u.document
document_in (u ∷ us) (suc n) = document_in us n

abbrev form_row : List Placed → Home → UnitForm → HomeRow
form_row us h f = record { bytes = bytes_in (document_in us h.unit) (place_of f.datum); declared = f.declared; occ = placed_by h (place_of f.datum).first }

abbrev form_rows : List Placed → (unit form : ℕ) → List UnitForm → List HomeRow
form_rows us unit form [] = []
form_rows us unit form (f ∷ fs) = form_row us (home_of unit form f) f ∷ form_rows us unit (suc form) fs

abbrev kind_row : UnitKind → KindRow
kind_row IsLibrary = ALibrary
kind_row IsProgram = AProgram
kind_row IsPart = APart

abbrev fault_row : Result (List UnitForm) EarlyFault → Option (ℕ × Option BytesRow)
fault_row (Ok fs) = None
fault_row (Err OnCircle) = Some (68, None)
fault_row (Err (BadAt h)) = Some (61, Some (bytes_in h.document (place_of h.datum)))
fault_row (Err TooManyTokens) = Some (66, None)

abbrev lost_row : LostString → BytesRow
lost_row l = bytes_in l.document l.string.place

abbrev listed_row : List Placed → (unit : ℕ) → Placed → ListedRow
listed_row us n u = record {
  document = u.document;
  kind = kind_row u.source.kind;
  fault = if nat_le max_units n then Some (67, None) else fault_row u.source.forms;
  forms = form_rows us n 0 (forms_or_none u.source.forms);
  lost = map lost_row u.source.lost;
}

abbrev rows_from : List Placed → (unit : ℕ) → List Placed → List ListedRow
rows_from all n [] = []
rows_from all n (u ∷ us) = listed_row all n u ∷ rows_from all (suc n) us

-- strings with what they mean, each in a document
abbrev meant_by : List (ℕ × List ℕ × ℕ) → ℕ → List ℕ → Option ℕ
meant_by [] n s = None
meant_by (m ∷ ms) n s = if (m.0 == n) && bytes_eq m.1 s then Some m.2 else meant_by ms n s

abbrev pub documents_from : List (ℕ × List ℕ × ℕ) → ℕ → List (Option (List Datum)) → List Document
documents_from ms n [] = []
documents_from ms n (d ∷ ds) = record { read = d; meant = meant_by ms n } ∷ documents_from ms (suc n) ds

abbrev listed_within : (limit : ℕ) → List Document → List Placed
listed_within limit ds = units_within limit (known_in ds) ds

abbrev rows_of : List Placed → List ListedRow
rows_of us = rows_from us 0 us

abbrev pub listed_rows : (limit : ℕ) → List (ℕ × List ℕ × ℕ) → List (Option (List Datum)) → List ListedRow
listed_rows limit ms ds = rows_of (listed_within limit (documents_from ms 0 ds))

-- ---- whole programs

abbrev is_early : Diagnostic → Bool
is_early d = list_any (λ c. c == d.code) (61 ∷ 66 ∷ 67 ∷ 68 ∷ 105 ∷ [])

-- the diagnostics that are told before names are looked at
abbrev pub told_early : List (List Span) → List (ℕ × List ℕ × ℕ) → List (Option (List Datum)) → List Diagnostic
told_early spans ms ds = filter is_early (diagnostics_of spans (program_of (documents_from ms 0 ds)))

abbrev pub told_diagnostics : List (List Span) → List (ℕ × List ℕ × ℕ) → List (Option (List Datum)) → List Diagnostic
told_diagnostics spans ms ds = diagnostics_of spans (program_of (documents_from ms 0 ds))

abbrev pub told_arrows : List (List Span) → List (ℕ × List ℕ × ℕ) → List (Option (List Datum)) → List ArrowRow
told_arrows spans ms ds = arrows_between spans (documents_from ms 0 ds)

abbrev pub told_class : List (List Span) → List (ℕ × List ℕ × ℕ) → List (Option (List Datum)) → Occ → List PartRow
told_class spans ms ds o = class_in spans (documents_from ms 0 ds) o

abbrev pub told_answer : List (List Span) → List (ℕ × List ℕ × ℕ) → List (Option (List Datum)) → (document offset : ℕ) → Query → Answer
told_answer spans ms ds document offset query = answered spans (documents_from ms 0 ds) document offset query
