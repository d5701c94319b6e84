-- Units that include texts, and their forms that go on, in the notation of rows.
use Rattle.std.specs.Prelude.{ℕ, List, [], ◌∷◌, map, Option}
use Rattle.scheme_model.specs.Data.{Datum}
use Rattle.scheme_model.specs.Includes.{Document}
use Rattle.scheme_model.proofs.ShownIncludes.{documents_from}
use Rattle.carried_forms.specs.Paired.{UnitPair, unit_pairs}
use Rattle.carried_forms.specs.Worked.{OpenDocument, unit_texts}

-- documents with their uris, and what strings mean in them: each in a document, and the document that it means
pub record Texts : Type 0 where
  pub uris : List (List ℕ)
  pub meant : List (ℕ × List ℕ × ℕ)
  pub read : List (Option (List Datum))

abbrev opened_as : List (List ℕ) → List Document → List OpenDocument
opened_as [] ds = []
opened_as (uri ∷ uris) [] = []
opened_as (uri ∷ uris) (d ∷ ds) = record { uri = uri; data_in = d } ∷ opened_as uris ds

abbrev opened : Texts → List OpenDocument
opened t = opened_as t.uris (documents_from t.meant 0 t.read)

abbrev pub pair_rows : (before after : Texts) → List (ℕ × ℕ × List (ℕ × ℕ))
pair_rows before after = map (λ (p : UnitPair). (p.before, p.after, p.forms)) (unit_pairs (unit_texts (opened before)) (unit_texts (opened after)))
