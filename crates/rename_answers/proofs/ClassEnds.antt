-- The edits of the identifiers of a document, told at positions, are for the bytes that they were made for.
use Rattle.std.proofs.Common.{◌≡◌, ◌≤◌, ◌+◌, ℕ, zero, suc, List, [], ◌∷◌, map, length, Option, Some, None, refl, sym, ap, ◌∙◌, subst, slice_get, arith}
use Rattle.std.specs.Str.{chars, IsUtf8}
use Rattle.ls_base.specs.Limits.{max_text}
use Rattle.ls_base.specs.Positions.{offset_of}
use Rattle.ls_base.specs.declared.answers.TextEdit.{TextEdit}
use Rattle.ls_base.specs.declared.encoding.Encoding.{Encoding}
use Rattle.scheme_model.specs.declared.Occ.{Occ}
use Rattle.scheme_model.specs.Data.{Datum}
use Rattle.scheme_model.specs.Diagnostics.{Span}
use Rattle.scheme_model.specs.Kinds.{Token}
use Rattle.scheme_model.specs.Includes.{Document}
use Rattle.scheme_tokens.proofs.Fronts.{byte_count-chars}
use Rattle.datum_reader.specs.Texts.{IsReading, token_seen}
use Rattle.datum_reader.specs.WellFormed.{WasRead}
use Rattle.datum_reader.proofs.ReadParts.{datum_was_read}
use Rattle.included_documents.specs.Meant.{meant}
use Rattle.read_documents.specs.Readings.{Read, Reads, Stops, IsReadAs, data_in, documents_from, documents_in, program_in, spans_in, span_of, uri_of}
use Rattle.document_units.proofs.RisingParts.{Inner, read_rises}
use Rattle.program_laws.specs.Turns.{Each}
use Rattle.text_edits.specs.Edits.{Edit}
use Rattle.text_edits.specs.Members.{identifiers_of, name_at}
use Rattle.text_edits.specs.NewNames.{edits_of}
use Rattle.text_edits.specs.Views.{edit_told}
use Rattle.text_edits.proofs.NameLaws.{same_tokens, tokens_named}
use Rattle.text_edits.proofs.ReadLaws.{tokens_of}
use Rattle.rename_answers.proofs.NameEnds.{EditsBack, edits_back}
use Rattle.rename_answers.proofs.NamedTokens.{names_identifiers}

-- a document by how it is read
document_there : (means : ℕ → List ℕ → Option ℕ) (n k : ℕ) (rs : List Read) (r : Read) → slice_get rs k ≡ Some r → slice_get (documents_from means n rs) k ≡ Some (record { read = data_in r; meant = means (n + k) })
document_there means n k [] r h = absurd cc
document_there means n zero (q ∷ rs) r h =
    let same : q ≡ r = cc in
    let here : n ≡ n + 0 = omega arith in
    λ j. Some (record { read = data_in (same j); meant = means (here j) })
document_there means n (suc k) (q ∷ rs) r h =
    let here : suc n + k ≡ n + suc k = omega arith in
    document_there means (suc n) k rs r h ∙ ap (λ i. Some (record { read = data_in r; meant = means i })) here

-- the data of a text rise
data_rise : (text : List ℕ) (all ds : List Datum) (i : ℕ) → length text ≤ max_text → IsUtf8 text → IsReading (chars text) all → ((n : ℕ) → slice_get all (i + n) ≡ slice_get ds n) → Each Inner ds
data_rise text all [] i fits utf8 r there = tt
data_rise text all (d ∷ ds) i fits utf8 r there =
    let here : slice_get all i ≡ Some d = let z : i ≡ i + 0 = omega arith in ap (slice_get all) z ∙ there 0 in
    let was = datum_was_read (chars text) all i d (omega (arith, byte_count-chars text utf8, fits)) r here in
    (read_rises d was, data_rise text all ds (suc i) fits utf8 r (λ n. let z : suc i + n ≡ i + suc n = omega arith in ap (slice_get all) z ∙ there (suc n)))

-- an edit told and read again
abbrev read_again : Encoding → List ℕ → TextEdit → Edit
read_again e text t = record { start = offset_of e text t.range.start; end = offset_of e text t.range.end; text = t.new_text }

module _ (e : Encoding) (text : List ℕ) where
  pub told_back : (new : ℕ → Option (List ℕ)) (es : List Edit) → EditsBack e text new es → map (read_again e text) (map (edit_told e text) es) ≡ es
  told_back new [] h = refl
  told_back new (x ∷ xs) h = let rest = told_back new xs h.1 in λ j. record { start = h.0.0 j; end = h.0.1 j; text = x.text } ∷ rest j

  -- those of the document with this number
  pub class_back : (k : ℕ) (rs : List Read) (name : Occ → Option (List ℕ)) (r : Read) → length text ≤ max_text → IsUtf8 text → slice_get rs k ≡ Some r → IsReadAs text r →
      EditsBack e text (name_at name (identifiers_of k (program_in rs).units)) (edits_of (name_at name (identifiers_of k (program_in rs).units)) text (spans_in r))
  class_back k rs name (Stops uri f) fits utf8 there is = tt
  class_back k rs name (Reads uri items spans) fits utf8 there is =
      let new : ℕ → Option (List ℕ) = name_at name (identifiers_of k (program_in rs).units) in
      let reading : IsReading (chars text) items = is.3 in
      let document = document_there (meant (map uri_of rs)) 0 k rs (Reads uri items spans) there in
      let named = names_identifiers (documents_in rs) k (record { read = Some items; meant = meant (map uri_of rs) (0 + k) }) name document (data_rise text items items 0 fits utf8 reading (λ n. ap (slice_get items) (omega arith))) in
      let told = tokens_of (chars text) items reading in
      let back = edits_back e text new told.0 told.1 (tokens_named new (chars text) items reading named) in
      let same = same_tokens (chars text) is.0 told.0 told.1 is.1 in
      subst (λ (ss : List Span). EditsBack e text new (edits_of new text ss)) (sym (is.2 ∙ ap (map span_of) same)) back
