-- The edits as they are told, and the edited texts, are those of the definition.
use Rattle.std.proofs.Common.{◌≡◌, ℕ, zero, suc, ◌+◌, List, [], ◌∷◌, ◌++◌, map, filter, refl, sym, ap, ◌∙◌, subst, arith}
use Rattle.ls_base.specs.declared.answers.DocEdits as told
use Rattle.ls_base.specs.declared.encoding.Encoding.{Encoding}
use Rattle.scheme_model.specs.declared.Occ.{Occ}
use Rattle.document_store.specs.Texts.{Document}
use Rattle.read_documents.specs.Readings.{Read, Reads, Stops, AreReadAs}
use Rattle.program_answers.specs.ToldAnswers.{document_at, text_of}
use Rattle.text_edits.specs.Edits.{Edit, edited}
use Rattle.text_edits.specs.Members.{class_edits}
use Rattle.text_edits.specs.Views.{edit_told}
use Rattle.class_edits.specs.DocumentEdits as code
use Rattle.rename_conditions.specs.Opened.{Opened, DocEdits, edits_from, edits_in, edited_in, all_edited, told_edits}
use Rattle.rename_answers.specs.ReadDocuments.{reading_of, read_as}
use Rattle.rename_answers.specs.ToldRenames.{document_told, texts_of}

module _ (e : Encoding) (all : List (List ℕ × Document)) (w : Opened) (o : Occ) (stem : List ℕ) where
  -- one document more
  one_told : (n : ℕ) (d : List ℕ × Document) (es : List Edit) (rest : List DocEdits) (others : List told.DocEdits) → document_at all n ≡ d → others ≡ map (document_told e all) (told_edits rest) →
      code.told_of d.0 (map (edit_told e d.1.1) es) ++ others ≡ map (document_told e all) (told_edits (record { document = n; edits = es } ∷ rest))
  one_told n d [] rest others at same = same
  one_told n d (x ∷ es) rest others at same = λ j. record { uri = (sym at j).0; edits = map (edit_told e (sym at j).1.1) (x ∷ es) } ∷ same j

  told_from : (n : ℕ) (ds : List (List ℕ × Document)) (rs : List Read) → AreReadAs ds rs → ((k : ℕ) → document_at all (n + k) ≡ document_at ds k) →
      code.told e ds (code.edits_from w.links w.program.units stem o n ds rs) ≡ map (document_told e all) (told_edits (edits_from w o stem n (texts_of ds) (map reading_of rs)))
  told_from n [] [] h at = refl
  told_from n [] (r ∷ rs) h at = absurd h
  told_from n (d ∷ ds) [] h at = absurd h
  told_from n (d ∷ ds) (Reads uri ys spans ∷ rs) h at =
      let here : document_at all n ≡ d = let q : n ≡ n + 0 = omega arith in ap (document_at all) q ∙ at 0 in
      let next : (k : ℕ) → document_at all (suc n + k) ≡ document_at ds k = λ k. let q : suc n + k ≡ n + suc k = omega arith in ap (document_at all) q ∙ at (suc k) in
      one_told n d (class_edits w.links w.program.units stem o n d.1.1 spans) (edits_from w o stem (suc n) (texts_of ds) (map reading_of rs))
      (code.told e ds (code.edits_from w.links w.program.units stem o (suc n) ds rs)) here (told_from (suc n) ds rs h.1 next)
  told_from n (d ∷ ds) (Stops uri f ∷ rs) h at =
      let here : document_at all n ≡ d = let q : n ≡ n + 0 = omega arith in ap (document_at all) q ∙ at 0 in
      let next : (k : ℕ) → document_at all (suc n + k) ≡ document_at ds k = λ k. let q : suc n + k ≡ n + suc k = omega arith in ap (document_at all) q ∙ at (suc k) in
      one_told n d (class_edits w.links w.program.units stem o n d.1.1 []) (edits_from w o stem (suc n) (texts_of ds) (map reading_of rs))
      (code.told e ds (code.edits_from w.links w.program.units stem o (suc n) ds rs)) here (told_from (suc n) ds rs h.1 next)

-- the edits are told so
pub told_same : (e : Encoding) (ds : List (List ℕ × Document)) (rs : List Read) (o : Occ) (stem : List ℕ) → AreReadAs ds rs →
    code.told e ds (code.edits_of_class ds rs stem o) ≡ map (document_told e ds) (told_edits (edits_in (read_as ds rs) o stem))
told_same e ds rs o stem h = told_from e ds (read_as ds rs) o stem 0 ds rs h (λ k. let q : 0 + k ≡ k = omega arith in ap (document_at ds) q)

edited_from : (w : Opened) (o : Occ) (stem : List ℕ) (n : ℕ) (ds : List (List ℕ × Document)) (rs : List Read) → AreReadAs ds rs →
    code.all_edited ds (code.edits_from w.links w.program.units stem o n ds rs) ≡ all_edited (edits_from w o stem n (texts_of ds) (map reading_of rs)) (texts_of ds)
edited_from w o stem n [] [] h = refl
edited_from w o stem n [] (r ∷ rs) h = absurd h
edited_from w o stem n (d ∷ ds) [] h = absurd h
edited_from w o stem n (d ∷ ds) (Reads uri ys spans ∷ rs) h = ap (λ ts. edited (class_edits w.links w.program.units stem o n d.1.1 spans) d.1.1 ∷ ts) (edited_from w o stem (suc n) ds rs h.1)
edited_from w o stem n (d ∷ ds) (Stops uri f ∷ rs) h = ap (λ ts. edited (class_edits w.links w.program.units stem o n d.1.1 []) d.1.1 ∷ ts) (edited_from w o stem (suc n) ds rs h.1)

-- the edited texts are these
pub edited_same : (ds : List (List ℕ × Document)) (rs : List Read) (o : Occ) (stem : List ℕ) → AreReadAs ds rs → code.all_edited ds (code.edits_of_class ds rs stem o) ≡ edited_in (read_as ds rs) o stem
edited_same ds rs o stem h = edited_from (read_as ds rs) o stem 0 ds rs h
