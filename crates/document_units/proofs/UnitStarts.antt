-- Units begin at the tokens with the numbers of their first ones.
use Rattle.std.proofs.Common.{◌≡◌, ℕ, zero, suc, Bool, true, false, cond, List, [], ◌∷◌, filter, chars, slice_get, Some, sym, ap, ◌∙◌, subst, inl, inr}
use Rattle.std.specs.Prelude.{not}
use Rattle.scheme_model.specs.Data.{Place, Datum, place_of}
use Rattle.scheme_model.specs.Declarations.{is_library}
use Rattle.scheme_model.specs.Includes as model
use Rattle.scheme_model.specs.IncludedUnits.{UnitSource}
use Rattle.scheme_model.specs.Diagnostics.{Span, span_at, spans_at}
use Rattle.datum_reader.specs.FirstTokens.{first_token}
use Rattle.datum_reader.specs.Views.{datum_of, data_of}
use Rattle.datum_reader.specs.declared.datum.Datum as code
use Rattle.read_documents.specs.DataRead.{data_at}
use Rattle.document_units.specs.Listing.{IsOneOf, Begins}
use Rattle.read_documents.specs.Readings.{Read, Reads, Stops, IsReadAs, AreReadAs, data_in, documents_from, documents_in, spans_in, span_seen}
use Rattle.document_store.specs.Texts.{Document}
use Rattle.read_documents.specs.Places.{spans_of}
use Rattle.read_documents.proofs.TokenPlaces.{AreAtTokens, data_at_tokens}
use Rattle.ls_base.specs.declared.places.Span as code_span

-- ---- one of some data

pub one_at : (ds : List code.Datum) (k : ℕ) (d : code.Datum) → slice_get ds k ≡ Some d → IsOneOf (data_of ds) (datum_of d)
one_at [] k d h = absurd cc
one_at (e ∷ ds) zero d h = let same : e ≡ d = cc in inl (ap datum_of same)
one_at (e ∷ ds) (suc k) d h = inr (one_at ds k d h)

-- the first that is kept
first_kept : (keep : Datum → Bool) (ds : List Datum) (d : Datum) (rest : List Datum) → filter keep ds ≡ d ∷ rest → IsOneOf ds d
first_kept keep [] d rest h = absurd cc
first_kept keep (e ∷ ds) d rest h = go (first_kept keep ds d rest) (keep e) h
  where
    go : (filter keep ds ≡ d ∷ rest → IsOneOf ds d) → (b : Bool) → cond b (e ∷ filter keep ds) (filter keep ds) ≡ d ∷ rest → IsOneOf (e ∷ ds) d
    go later true k = let same : e ≡ d = cc in inl same
    go later false k = inr (later k)

-- the first datum of a program
pub program_there : (ds : List Datum) (d : Datum) (rest : List Datum) → model.program_data ds ≡ d ∷ rest → IsOneOf ds d
program_there ds d rest h = first_kept (λ (e : Datum). not (is_library e)) ds d rest h

-- ---- tokens of texts

module _ (spans : List Span) where
  token_of : (ds : List Datum) (d : Datum) → IsOneOf ds d → AreAtTokens spans ds → span_seen (first_token d) ≡ span_at spans (place_of d).first
  token_of [] d there at = absurd there
  token_of (e ∷ ds) d (inl same) at = subst (λ (x : Datum). span_seen (first_token x) ≡ span_at spans (place_of x).first) same at.0
  token_of (e ∷ ds) d (inr there) at = token_of ds d there at.1

  starts : (ds : List Datum) (u : UnitSource) (span : code_span.Span) → Begins ds u span → AreAtTokens spans ds → span_seen span ≡ span_at spans u.start.first
  starts ds u span b at = ap span_seen b.token ∙ token_of ds b.datum b.there at ∙ ap (λ (p : Place). span_at spans p.first) b.start

read_at : (text : List ℕ) (r : Read) → IsReadAs text r → AreAtTokens (spans_in r) (model.or_none (data_in r))
read_at text (Reads uri ds spans) h = subst (λ (ss : List Span). AreAtTokens ss ds) (sym h.2) (data_at_tokens (chars text) h.0 ds h.1 h.3)
read_at text (Stops uri f) h = tt

document_read : (means : ℕ → List ℕ → _) (n : ℕ) (ds : List (List ℕ × Document)) (rs : List Read) → AreReadAs ds rs → (m : ℕ) → AreAtTokens (spans_at (spans_of rs) m) (data_at (documents_from means n rs) m)
document_read means n [] [] read m = tt
document_read means n [] (r ∷ rs) read m = absurd read
document_read means n (d ∷ ds) [] read m = tt
document_read means n (d ∷ ds) (r ∷ rs) read zero = read_at d.1.1 r read.0
document_read means n (d ∷ ds) (r ∷ rs) read (suc m) = document_read means (suc n) ds rs read.1 m

-- a unit begins at the token with the number of its first one
pub unit_starts : (ds : List (List ℕ × Document)) (rs : List Read) → AreReadAs ds rs → (m : ℕ) (u : UnitSource) (span : code_span.Span) → Begins (data_at (documents_in rs) m) u span →
    span_seen span ≡ span_at (spans_at (spans_of rs) m) u.start.first
unit_starts ds rs read m u span b = starts (spans_at (spans_of rs) m) (data_at (documents_in rs) m) u span b (document_read _ 0 ds rs read m)
